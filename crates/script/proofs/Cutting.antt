-- A text parted at its first mark.
use Rattle.std.proofs.Common.{◌≡◌, ℕ, ◌+◌, ◌<◌, ◌≤◌, Bool, true, false, cond, not, suc, eqb, List, [], ◌∷◌, length, take, drop, Some, None, sym, refl, ap, ◌∙◌, arith}
use Rattle.std.proofs.lemmas.Bool.Decides.{nat_tests}
use Rattle.std.proofs.lemmas.List.{take_rest}
use Rattle.std.specs.List.{position, position_or_len}
use Rattle.script.specs.Parts.{longer, parts}

-- Whether a byte is the mark or not, it makes or lengthens a part.
some_part : (t : Bool) (b : ℕ) (ps qs : List (List ℕ)) → (p : List ℕ) × (rs : List (List ℕ)) × (cond t ([] ∷ ps) (longer b qs) ≡ p ∷ rs)
some_part true b ps qs = ([], ps, refl)
some_part false b ps [] = (b ∷ [], [], refl)
some_part false b ps (q ∷ qs) = (b ∷ q, qs, refl)

-- So there is a first part.
pub some_parts : (mark : ℕ) (text : List ℕ) → (p : List ℕ) × (ps : List (List ℕ)) × (parts mark text ≡ p ∷ ps)
unfolding parts
some_parts mark [] = ([], [], refl)
some_parts mark (b ∷ bs) = some_part (eqb b mark) b (parts mark bs) (parts mark bs)

-- how many bytes stand before the first mark
abbrev before : ℕ → List ℕ → ℕ
before mark text = position_or_len (λ b. eqb b mark) text

-- A byte in front of a part is one more before the mark.
one_more : (mark b n : ℕ) (bs : List ℕ) (ps : List (List ℕ)) → ps ≡ take n bs ∷ parts mark (drop (n + 1) bs)
    → longer b ps ≡ take (1 + n) (b ∷ bs) ∷ parts mark (drop (1 + n + 1) (b ∷ bs))
one_more mark b n bs ps e =
    let next : 1 + n ≡ suc n = omega arith in
    let past : 1 + n + 1 ≡ suc (n + 1) = omega arith in
    ap (longer b) e ∙ sym (ap (λ j. take j (b ∷ bs) ∷ parts mark (drop (1 + n + 1) (b ∷ bs))) next
    ∙ ap (λ j. (b ∷ take n bs) ∷ parts mark (drop j (b ∷ bs))) past)

-- A part ends at the mark: at once, or after a byte more,
ends_by : (t : Bool) (mark b : ℕ) (bs : List ℕ)
    → (before mark bs < length bs → parts mark bs ≡ take (before mark bs) bs ∷ parts mark (drop (before mark bs + 1) bs))
    → cond (not t) (1 + before mark bs) 0 < length (b ∷ bs)
    → cond t ([] ∷ parts mark bs) (longer b (parts mark bs))
    ≡ take (cond (not t) (1 + before mark bs) 0) (b ∷ bs) ∷ parts mark (drop (cond (not t) (1 + before mark bs) 0 + 1) (b ∷ bs))
ends_by true mark b bs h l = refl
ends_by false mark b bs h l = one_more mark b (before mark bs) bs (parts mark bs) (h (omega arith))

part_ends : (mark : ℕ) (text : List ℕ) → before mark text < length text
    → parts mark text ≡ take (before mark text) text ∷ parts mark (drop (before mark text + 1) text)
unfolding parts
part_ends mark [] l = absurd (omega arith)
part_ends mark (b ∷ bs) l = ends_by (eqb b mark) mark b bs (part_ends mark bs) l

pub parted_at : (mark k : ℕ) (text : List ℕ) → Some k ≡ position (λ b. eqb b mark) text
    → (k < length text) × (parts mark text ≡ take k text ∷ parts mark (drop (k + 1) text))
parted_at mark k text e =
    let within : before mark text < length text = grind (arith, nat_tests) in
    let same : k ≡ before mark text = grind (arith, nat_tests) in
    rw same (within, part_ends mark text within)

-- or with the text.
whole_by : (t : Bool) (mark b : ℕ) (bs : List ℕ) → (length bs ≤ before mark bs → parts mark bs ≡ bs ∷ [])
    → length (b ∷ bs) ≤ cond (not t) (1 + before mark bs) 0 → cond t ([] ∷ parts mark bs) (longer b (parts mark bs)) ≡ (b ∷ bs) ∷ []
whole_by true mark b bs h l = absurd (omega arith)
whole_by false mark b bs h l = ap (longer b) (h (omega arith))

part_whole : (mark : ℕ) (text : List ℕ) → length text ≤ before mark text → parts mark text ≡ text ∷ []
unfolding parts
part_whole mark [] l = refl
part_whole mark (b ∷ bs) l = whole_by (eqb b mark) mark b bs (part_whole mark bs) l

pub unparted : (mark : ℕ) (text : List ℕ) → None ≡ position (λ b. eqb b mark) text → parts mark text ≡ text ∷ []
unparted mark text e = part_whole mark text (grind (arith, nat_tests))

-- what a cut needs
pub ruleset cuts = (parted_at, unparted, take_rest)
