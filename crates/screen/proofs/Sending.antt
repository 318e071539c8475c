-- Transfers in a slot, one after the other.
use Rattle.std.proofs.Common.{◌≡◌, ℕ, ◌+◌, ◌*◌, ◌<◌, List, [], ◌++◌, map, length, get_or, set, take, drop, sym, refl, ◌∙◌, subst, arith, length-append}
use Rattle.ssd1329.specs.declared.transfer.Transfer.{Transfer}
use Rattle.ssd1329.specs.declared.transfer.Transfer.TheVariants.{Data}
use Rattle.link.specs.declared.links.Link.{Ghosts}
use Rattle.link.specs.Links.{LinkMeaning}
use Rattle.marks.specs.Marks.{Cleared}
use Rattle.marks.specs.Blocks.{Block, Shaped, Part}
use Rattle.marks.specs.Sending.{sent_all, Blocking}
use Rattle.marks.proofs.Sends.{sent_none, sent_then}
use Rattle.marks.proofs.Sweep.{blocking_more}
use Rattle.screen.specs.declared.slots.Slot.{Slot}
use Rattle.screen.specs.Slots.{Sends}

-- nothing is sent
pub sends_none : {L : Type 0} (k : Ghosts L) (s : Slot L k) → Sends k s [] s
sends_none k s = record { same_link = refl; sent = sent_none (k.means s.link.now); spent = omega arith }

-- first ts, then us
pub sends_then : {L : Type 0} (k : Ghosts L) (s t u : Slot L k) (ts us : List Transfer) → Sends k s ts t → Sends k t us u → Sends k s (ts ++ us) u
sends_then k s t u ts us a b = record {
  same_link = b.same_link ∙ a.same_link;
  sent = sent_then (k.means s.link.now) (k.means t.link.now) (k.means u.link.now) ts us a.sent b.sent;
  spent = omega (arith, length-append ts us, a.spent, b.spent);
}

-- a line of a block more: its bytes are sent, its marks are cleared
pub line_more : (o n n' : LinkMeaning) (canvas ws vs : List ℕ) (b : Block) (i line v : ℕ) → b.line + i ≡ line → Blocking o canvas ws b.line b.from b.size n vs i
    → n' ≡ sent_all n (map Data (take b.size (drop (line * 64 + b.from) canvas))) → Shaped b → length canvas ≡ 8192 → line < 128 → line < length vs
    → Part (get_or ws line 0) b.from b.size → Cleared (get_or vs line 0) b.from b.size v → Blocking o canvas ws b.line b.from b.size n' (set vs line v) (i + 1)
line_more o n n' canvas ws vs b i line v on h sends shape long low inside part clear =
    let back : line ≡ b.line + i = sym on in
    let P : ℕ → Type 0 = λ j. Blocking o canvas ws b.line b.from b.size n' (set vs j v) (i + 1) in
    subst P on (blocking_more o n n' canvas ws vs b.line b.from b.size i v h
    (subst (λ j. n' ≡ sent_all n (map Data (take b.size (drop (j * 64 + b.from) canvas)))) back sends)
    shape.wide shape.within long
    (subst (λ j. j < 128) back low)
    (subst (λ j. j < length vs) back inside)
    (subst (λ j. Part (get_or ws j 0) b.from b.size) back part)
    (subst (λ j. Cleared (get_or vs j 0) b.from b.size v) back clear))
