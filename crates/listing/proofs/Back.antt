-- A listing reads back as its records; so it lists no other, and is bad nowhere.
use Rattle.std.proofs.Common.{◌≡◌, ℕ, zero, suc, ◌+◌, ◌-◌, ◌*◌, ◌/◌, ◌%◌, ◌<◌, ◌≤◌, true, List, [], ◌∷◌, ◌++◌, length, take, drop, None, Option, sym, refl, ap, ◌∙◌, arith, length-append, length-take}
use Rattle.std.proofs.lemmas.List.{append_assoc, append_cancel_left, take-append-drop, take_at, take_all}
use Rattle.std.proofs.lemmas.Bool.Decides.{nat_tests}
use Rattle.std.proofs.lemmas.Bool.{and_parts}
use Rattle.ssd1329.specs.declared.transfer.Transfer.TheVariants.{Command, Data}
use Rattle.listing.specs.declared.record.Record.{Record}
use Rattle.listing.specs.declared.record.Record.TheVariants.{Open, Sent, Close}
use Rattle.listing.specs.Listing.{hex, line, wide, text, allowed, slot_then, fits, slot_after, Lists, Begins, BadAt, Writable}
use Rattle.listing.specs.ReadBack.{unhex, first, lines, listed}
use Rattle.listing.specs.Laws.{Laws}
use Rattle.listing.proofs.OneLine.{line_long, wide_pos, allowed_writable}

-- digits read back

unhex_hex : (d : ℕ) → d < 16 → unhex (hex d) ≡ d
unhex_hex d h = grind (arith, nat_tests)

octet_back : (b : ℕ) → b < 256 → 16 * unhex (hex (b / 16)) + unhex (hex (b % 16)) ≡ b
octet_back b h =
    let x = unhex_hex (b / 16) (omega arith) in
    let y = unhex_hex (b % 16) (omega arith) in
    omega arith

grant_back : (n : ℕ) → n < 10000 → 1000 * (48 + n / 1000 % 10 - 48) + 100 * (48 + n / 100 % 10 - 48) + 10 * (48 + n / 10 % 10 - 48) + (48 + n % 10 - 48) ≡ n
grant_back n h =
    let ones : n ≡ 10 * (n / 10) + n % 10 = omega arith in
    let tens : n / 10 ≡ 10 * (n / 100) + n / 10 % 10 = omega arith in
    let hundreds : n / 100 ≡ 10 * (n / 1000) + n / 100 % 10 = omega arith in
    let thousands : n / 1000 ≡ n / 1000 % 10 = omega arith in
    omega arith

-- a line shows its record
pub first_line : (r : Record) (rest : List ℕ) → Writable r → first (line r ++ rest) ≡ r
first_line (Open n) s h = ap (λ n. Open n) (grant_back n h)
first_line (Sent (Command b)) s h = ap (λ n. Sent (Command n)) (octet_back b h)
first_line (Sent (Data b)) s h = ap (λ n. Sent (Data n)) (octet_back b h)
first_line Close s h = refl

step_lines : (n : ℕ) (r : Record) (s : List ℕ) → Writable r → lines (suc n) (line r ++ s) ≡ r ∷ lines n s
unfolding lines
step_lines n (Open k) s h = ap (λ r. r ∷ lines n s) (first_line (Open k) s h)
step_lines n (Sent (Command b)) s h = ap (λ r. r ∷ lines n s) (first_line (Sent (Command b)) s h)
step_lines n (Sent (Data b)) s h = ap (λ r. r ∷ lines n s) (first_line (Sent (Data b)) s h)
step_lines n Close s h = refl

no_lines : (n : ℕ) → lines n [] ≡ []
unfolding lines
no_lines zero = refl
no_lines (suc n) = refl

lines_text : (n : ℕ) (rs : List Record) (s : Option ℕ) → fits s rs ≡ true → length (text rs) ≤ n → lines n (text rs) ≡ rs
unfolding text fits
lines_text n [] s e h = no_lines n
lines_text zero (r ∷ rs) s e h = absurd (omega (arith, length-append (line r) (text rs), line_long r, wide_pos r))
lines_text (suc n) (r ∷ rs) s e h =
    let less : length (text rs) ≤ n = omega (arith, length-append (line r) (text rs), line_long r, wide_pos r) in
    let f = and_parts _ _ e in
    step_lines n r (text rs) (allowed_writable s r f.0) ∙ ap (λ l. r ∷ l) (lines_text n rs (slot_then s r) f.1 less)

pub reads_back : (s : List ℕ) (rs : List Record) → Lists s rs → listed s ≡ rs
unfolding listed
reads_back s rs l = ap (λ x. lines (length x) x) l.spelled ∙ lines_text (length (text rs)) rs None l.lawful (omega arith)

pub unique : (s : List ℕ) (rs qs : List Record) → Lists s rs → Lists s qs → rs ≡ qs
unique s rs qs l m = sym (reads_back s rs l) ∙ reads_back s qs m

same_line : (r q : Record) (a b : List ℕ) → Writable r → Writable q → line r ++ a ≡ line q ++ b → r ≡ q
same_line r q a b h k e = sym (first_line r a h) ∙ ap first e ∙ first_line q b k

-- a line that was read is written back
pub line_back : (s : List ℕ) (r : Record) → Begins s r → line r ++ drop (wide r) s ≡ s
line_back s r b = ap (λ x. x ++ drop (wide r) s) (sym b) ∙ take-append-drop (wide r) s

-- two lines that stand in one place are one
pub only_line : (s : List ℕ) (r q : Record) → Writable r → Writable q → Begins s r → Begins s q → r ≡ q
only_line s r q h k b c = same_line r q (drop (wide r) s) (drop (wide q) s) h k (line_back s r b ∙ sym (line_back s q c))

-- over one text, no listing goes further than where another is stuck
no_further : (rs qs : List Record) (s : Option ℕ) (rest more : List ℕ)
    → fits s rs ≡ true → fits s qs ≡ true → text rs ++ rest ≡ text qs ++ more
    → ((r : Record) (x : List ℕ) → allowed (slot_after s rs) r ≡ true → rest ≡ line r ++ x → ⊥)
    → length (text qs) ≤ length (text rs)
unfolding text fits slot_after
no_further rs [] s rest more f g e stuck = omega arith
no_further [] (q ∷ qs) s rest more f g e stuck =
    absurd (stuck q (text qs ++ more) (and_parts _ _ g).0 (e ∙ append_assoc (line q) (text qs) more))
no_further (r ∷ rs) (q ∷ qs) s rest more f g e stuck =
    let l = and_parts _ _ f in
    let m = and_parts _ _ g in
    let whole : line r ++ (text rs ++ rest) ≡ line q ++ (text qs ++ more) = sym (append_assoc (line r) (text rs) rest) ∙ e ∙ append_assoc (line q) (text qs) more in
    let same : r ≡ q = same_line r q _ _ (allowed_writable s r l.0) (allowed_writable s q m.0) whole in
    let left : text rs ++ rest ≡ text qs ++ more = append_cancel_left (line r) _ _ (whole ∙ ap (λ x. line x ++ (text qs ++ more)) (sym same)) in
    let c = no_further rs qs (slot_then s r) rest more l.1 (ap (λ x. fits (slot_then s x) qs) same ∙ m.1) left stuck in
    omega (arith, length-append (line r) (text rs), length-append (line q) (text qs), ap (λ x. length (line x)) same)

line_begins : (r : Record) (s x : List ℕ) → s ≡ line r ++ x → Begins s r
line_begins r s x e = ap (take (wide r)) e ∙ take_at (line r) x (wide r) (line_long r)

-- how long a front is
front_long : (s : List ℕ) (q : ℕ) (rs : List Record) → q ≤ length s → Lists (take q s) rs → q ≡ length (text rs)
front_long s q rs h l = let e = ap length l.spelled in omega (arith, length-take q s)

whole_text : (s : List ℕ) (q : ℕ) (rs : List Record) → Lists (take q s) rs → s ≡ text rs ++ drop q s
whole_text s q rs l = sym (take-append-drop q s) ∙ ap (λ x. x ++ drop q s) l.spelled

-- where no line that may follow stands, the text is bad
pub bad_here : (s : List ℕ) (p : ℕ) (rs : List Record) → p < length s → Lists (take p s) rs
    → ((r : Record) → allowed (slot_after None rs) r ≡ true → Begins (drop p s) r → ⊥) → BadAt s p
bad_here s p rs more front stuck = record {
  more = more;
  records = rs;
  front = front;
  longest = λ q qs h l.
      let far = no_further rs qs None (drop p s) (drop q s) front.lawful l.lawful
      (sym (whole_text s p rs front) ∙ whole_text s q qs l)
      (λ r x f e. stuck r f (line_begins r (drop p s) x e)) in
      let within : p ≤ length s = omega arith in
      omega (arith, front_long s p rs within front, front_long s q qs h l);
}

one_place : (s : List ℕ) (p q : ℕ) → BadAt s p → BadAt s q → p ≡ q
one_place s p q b c =
    let pm : p ≤ length s = (let m = b.more in omega arith) in
    let qm : q ≤ length s = (let m = c.more in omega arith) in
    omega (arith, b.longest q c.records qm c.front, c.longest p b.records pm b.front)

pub not_both : (s : List ℕ) (p : ℕ) (rs : List Record) → BadAt s p → Lists s rs → ⊥
not_both s p rs b l =
    let all : Lists (take (length s) s) rs = rw (take_all (length s) s (omega arith)) l in
    let far = b.longest (length s) rs (omega arith) all in
    let m = b.more in omega arith

pub laws : Laws
laws = record {
  unique = unique;
  one_place = one_place;
  not_both = not_both;
  reads_back = reads_back;
  writes_back = λ s rs l. ap text (reads_back s rs l) ∙ sym l.spelled;
  record_reads_back = first_line;
  line_writes_back = line_back;
}
