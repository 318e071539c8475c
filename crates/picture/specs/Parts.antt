-- Pictures made of other pictures: a part of one, and its inverse. Assumes nothing.
use Rattle.std.specs.Prelude.{ℕ, ◌+◌, ◌-◌, Bool, cond, ◌&&◌, Some, None, Option, nat_le}
use Rattle.refusal.specs.declared.refusals.Refusal.{Refusal}
use Rattle.refusal.specs.declared.refusals.Refusal.TheVariants.{CropOutside}
use Rattle.picture.specs.Pictures.{PictureMeaning, inside}

-- a picture's dot, and clear where the picture has no such place
abbrev pub seen : PictureMeaning → ℕ → ℕ → Option ℕ
seen p x y = cond (inside p x y) (p.dot x y) None

-- a part of a picture: w by h places from (a, b) on.
-- It goes by `seen` so that it is a picture for all numbers. One that is cropped lies wholly inside its
-- picture, and there each dot is the picture's own (`Cropped` of Kinds).
abbrev pub part : PictureMeaning → ℕ → ℕ → ℕ → ℕ → PictureMeaning
part p a b w h = record { width = w; height = h; dot = λ x y. seen p (a + x) (b + y) }

-- a part that is not empty and wholly inside
abbrev pub fits : PictureMeaning → ℕ → ℕ → ℕ → ℕ → Bool
fits p a b w h = nat_le 1 w && (nat_le 1 h && (nat_le (a + w) p.width && nat_le (b + h) p.height))

-- why a crop is refused, if it is
abbrev pub crop_refusal : PictureMeaning → ℕ → ℕ → ℕ → ℕ → Option Refusal
crop_refusal p a b w h = cond (fits p a b w h) None (Some CropOutside)

-- 15 less the gray; what is clear stays clear
abbrev pub inverted : Option ℕ → Option ℕ
inverted (Some gray) = Some (15 - gray)
inverted None = None

abbrev pub inverse : PictureMeaning → PictureMeaning
inverse p = record { width = p.width; height = p.height; dot = λ x y. inverted (p.dot x y) }
