-- Parts that lie wholly inside a picture.
use Rattle.std.proofs.Common.{◌≡◌, ℕ, ◌+◌, ◌<◌, ◌≤◌, None, arith}
use Rattle.std.proofs.lemmas.Bool.Decides.{nat_tests}
use Rattle.picture.specs.Pictures.{PictureMeaning}
use Rattle.picture.specs.Parts.{seen, crop_refusal}

-- a part that is not empty and wholly inside
pub record Within (p : PictureMeaning) (a b w h : ℕ) : Type 0 where
  pub wide : 1 ≤ w
  pub high : 1 ≤ h
  pub across : a + w ≤ p.width
  pub down : b + h ≤ p.height

-- The tests of a crop say just that.
pub accepted_within : (p : PictureMeaning) (a b w h : ℕ) → crop_refusal p a b w h ≡ None → Within p a b w h
accepted_within p a b w h e =
    record { wide = grind (arith, nat_tests); high = grind (arith, nat_tests); across = grind (arith, nat_tests); down = grind (arith, nat_tests) }

pub within_accepted : (p : PictureMeaning) (a b w h : ℕ) → Within p a b w h → crop_refusal p a b w h ≡ None
within_accepted p a b w h i = grind (arith, nat_tests)

-- At a place that a picture has, its own dot is seen.
pub seen_inside : (p : PictureMeaning) (x y : ℕ) → x < p.width → y < p.height → seen p x y ≡ p.dot x y
seen_inside p x y i j = grind (arith, nat_tests)
