-- Laws of pictures made of pictures.
use Rattle.std.specs.Prelude.{◌≡◌, ℕ, ◌+◌, None}
use Rattle.picture.specs.Pictures.{PictureMeaning, dot_answer, Lawful}
use Rattle.picture.specs.Parts.{part, crop_refusal, inverse}

-- two pictures that cannot be told apart by asking
pub record Alike (p q : PictureMeaning) : Type 0 where
  pub wide : p.width ≡ q.width
  pub high : p.height ≡ q.height
  pub dots : (x y : ℕ) → dot_answer p x y ≡ dot_answer q x y

-- the inverse of an inverse is as the picture
abbrev pub InverseTwice : Type 0
InverseTwice = (p : PictureMeaning) → Lawful p → Alike (inverse (inverse p)) p

-- one crop, accepted, that is as q
pub record OneCrop (p : PictureMeaning) (a b c d w h : ℕ) (q : PictureMeaning) : Type 0 where
  pub accepted : crop_refusal p (a + c) (b + d) w h ≡ None
  pub alike : Alike q (part p (a + c) (b + d) w h)

-- a crop of a crop is a crop of the picture
abbrev pub CropOfCrop : Type 0
CropOfCrop = (p : PictureMeaning) (a b v k c d w h : ℕ)
    → crop_refusal p a b v k ≡ None → crop_refusal (part p a b v k) c d w h ≡ None
    → OneCrop p a b c d w h (part (part p a b v k) c d w h)

-- refused alike, and made alike
pub record SameCrop (p : PictureMeaning) (a b w h : ℕ) : Type 0 where
  pub refused : crop_refusal (inverse p) a b w h ≡ crop_refusal p a b w h
  pub alike : Alike (part (inverse p) a b w h) (inverse (part p a b w h))

-- a crop of an inverse is the inverse of a crop
abbrev pub CropOfInverse : Type 0
CropOfInverse = (p : PictureMeaning) (a b w h : ℕ) → SameCrop p a b w h
