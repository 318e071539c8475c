-- Numbers read digit by digit.
use Rattle.std.proofs.Common.{◌≡◌, ℕ, ◌+◌, ◌-◌, ◌*◌, ◌^◌, ◌<◌, ◌≤◌, true, false, ◌&&◌, eqb, ltb, List, [], ◌∷◌, length, get_or, take, drop, Some, None, Option, sym, refl, ap, ◌∙◌, arith}
use Rattle.std.proofs.lemmas.Bool.Decides.{nat_tests}
use Rattle.std.proofs.lemmas.List.{at_drop_more, at_drop_all}
use Rattle.std.proofs.lemmas.Bool.{false≢true}
use Rattle.std.specs.Cmp.Lexicographic.{pointwise}
use Rattle.script.specs.Numbers.{passing, is_digit, number_on, fitting, unsigned, positive, negative, signed}

-- A number never falls as it goes on.
grows : (n m : ℕ) (cs : List ℕ) → number_on n cs ≡ Some m → n ≤ m
unfolding number_on
grows n m [] e = let same : n ≡ m = cc in omega arith
grows n m (c ∷ cs) e =
    let on : number_on (10 * n + (c - 48)) cs ≡ Some m = grind (arith, nat_tests) in
    omega (arith, grows (10 * n + (c - 48)) m cs on)

-- What is only ever too large fits in no case.
none_fits : (o : Option ℕ) → ((m : ℕ) → o ≡ Some m → 2 ^ 32 ≤ m) → fitting o ≡ None
none_fits None large = refl
none_fits (Some m) large = let l = large m refl in grind (arith, nat_tests)

-- One digit more, that fits: the number goes on with those after it.
digit_on : (n c : ℕ) (cs : List ℕ) → (is_digit c && ltb (10 * n + (c - 48)) (2 ^ 32)) ≡ true
    → number_on n (c ∷ cs) ≡ number_on (10 * n + (c - 48)) cs
unfolding number_on
digit_on n c cs e = grind (arith, nat_tests)

pub number_goes_on : (cs : List ℕ) (i n m : ℕ) → i < length cs
    → Some m ≡ passing (is_digit (get_or cs i 0) && ltb (10 * n + (get_or cs i 0 - 48)) (2 ^ 32)) (10 * n + (get_or cs i 0 - 48))
    → number_on n (drop i cs) ≡ number_on m (drop (i + 1) cs)
number_goes_on cs i n m l e =
    let d = get_or cs i 0 in
    let goes : (is_digit d && ltb (10 * n + (d - 48)) (2 ^ 32)) ≡ true = grind (arith, nat_tests) in
    let is : 10 * n + (d - 48) ≡ m = grind (arith, nat_tests) in
    at_drop_more (number_on n) cs i 0 l ∙ digit_on n d (drop (i + 1) cs) goes ∙ ap (λ k. number_on k (drop (i + 1) cs)) is

-- A byte that is no digit, or a digit that makes the number too large: nothing after it mends that.
digit_stops : (n c : ℕ) (cs : List ℕ) → (is_digit c && ltb (10 * n + (c - 48)) (2 ^ 32)) ≡ false → fitting (number_on n (c ∷ cs)) ≡ None
unfolding number_on
digit_stops n c cs e =
    let next = 10 * n + (c - 48) in
    let large : 2 ^ 32 ≤ next → fitting (number_on next cs) ≡ None = λ l. none_fits (number_on next cs) (λ m h. omega (arith, grows next m cs h)) in
    grind (arith, nat_tests)

pub number_stops : (cs : List ℕ) (i n : ℕ) → i < length cs
    → None ≡ passing (is_digit (get_or cs i 0) && ltb (10 * n + (get_or cs i 0 - 48)) (2 ^ 32)) (10 * n + (get_or cs i 0 - 48))
    → fitting (number_on n (drop i cs)) ≡ None
number_stops cs i n l e =
    let d = get_or cs i 0 in
    let stops : (is_digit d && ltb (10 * n + (d - 48)) (2 ^ 32)) ≡ false = grind (arith, nat_tests) in
    ap fitting (at_drop_more (number_on n) cs i 0 l) ∙ digit_stops n d (drop (i + 1) cs) stops

-- Where no byte is left, the number is read.
pub number_ends : (cs : List ℕ) (i n : ℕ) → length cs ≤ i → n < 2 ^ 32 → fitting (number_on n (drop i cs)) ≡ Some n
unfolding number_on
number_ends cs i n l small =
    let fits : fitting (Some n) ≡ Some n = grind (arith, nat_tests) in
    ap fitting (at_drop_all (number_on n) cs i l) ∙ fits

-- A field without a byte is no number.
pub unsigned_none : (cs : List ℕ) → length cs ≡ 0 → unsigned cs ≡ None
unfolding unsigned
unsigned_none [] e = refl
unsigned_none (c ∷ cs) e = absurd (omega arith)

-- Any other is the number that goes on from 0.
pub unsigned_some : (cs : List ℕ) → 0 < length cs → unsigned cs ≡ fitting (number_on 0 cs)
unfolding unsigned
unsigned_some [] l = absurd (omega arith)
unsigned_some (c ∷ cs) l = refl

-- With a minus in front the digits after it are read.
pub signed_minus : (cs : List ℕ) → pointwise eqb (take 1 cs) (45 ∷ []) ≡ true → signed cs ≡ negative (unsigned (drop 1 cs))
unfolding signed
signed_minus [] e = absurd (false≢true e)
signed_minus (c ∷ cs) e = let minus : eqb c 45 ≡ true = grind (arith, nat_tests) in rw minus refl

-- Without one the whole field is.
pub signed_plain : (cs : List ℕ) → pointwise eqb (take 1 cs) (45 ∷ []) ≡ false → signed cs ≡ positive (unsigned cs)
unfolding signed
signed_plain [] e = ap positive (sym (unsigned_none [] refl))
signed_plain (c ∷ cs) e = let other : eqb c 45 ≡ false = grind (arith, nat_tests) in rw other refl

-- what each turn of reading a number needs, and what its sign does
pub ruleset digits = (unsigned_none, unsigned_some, number_goes_on, number_stops, number_ends)

pub ruleset signs = (signed_minus, signed_plain)
