-- What each kind of picture means, by its fields, and what the making of one answers.
use Rattle.std.specs.Prelude.{◌≡◌, ℕ, ◌+◌, ◌<◌, length, Some, None, Ok, Err, Option, Result}
use Rattle.refusal.specs.declared.refusals.Refusal.{Refusal}
use Rattle.refusal.specs.declared.refusals.HandedBack.{HandedBack}
use Rattle.picture.specs.declared.bytes.Bytes.{Ghosts as BytesGhosts}
use Rattle.picture.specs.declared.pictures.Picture.{Ghosts as PictureGhosts}
use Rattle.picture.specs.declared.kinds.BitPicture.{BitPicture}
use Rattle.picture.specs.declared.kinds.GrayPicture.{GrayPicture}
use Rattle.picture.specs.declared.kinds.Crop.{Crop}
use Rattle.picture.specs.declared.kinds.Inverse.{Inverse}
use Rattle.either.specs.declared.Either.{Either}
use Rattle.either.specs.declared.Either.TheVariants.{Left, Right}
use Rattle.picture.specs.Pictures.{PictureMeaning}
use Rattle.picture.specs.Packed.{bit_picture, bit_refusal, gray_picture, gray_refusal}
use Rattle.picture.specs.Parts.{part, crop_refusal, inverse}

abbrev pub bits_mean : {B : Type 0} → BytesGhosts B → BitPicture B → PictureMeaning
bits_mean k p = bit_picture (k.list p.bytes) p.layout.size.width p.layout.size.height p.gray

abbrev pub grays_mean : {B : Type 0} → BytesGhosts B → GrayPicture B → PictureMeaning
grays_mean k p = gray_picture (k.list p.bytes) p.layout.size.width p.layout.size.height

abbrev pub crop_means : {P : Type 0} → PictureGhosts P → Crop P → PictureMeaning
crop_means k c = part (k.means c.inner) c.left c.top c.size.width c.size.height

abbrev pub inverse_means : {P : Type 0} → PictureGhosts P → Inverse P → PictureMeaning
inverse_means k i = inverse (k.means i.inner)

-- one of two kinds means what it holds
abbrev pub either_means : {P Q : Type 0} → PictureGhosts P → PictureGhosts Q → Either P Q → PictureMeaning
either_means k l (Left p) = k.means p
either_means k l (Right q) = l.means q

-- made, since nothing refuses it
pub record Accepted {P : Type 0} (refusal : Option Refusal) (Meant : P → Type 0) (p : P) : Type 0 where
  pub free : refusal ≡ None
  pub right : Meant p

-- refused, and what was given handed back
pub record Returned {G : Type 0} (refusal : Option Refusal) (given : G) (e : HandedBack G) : Type 0 where
  pub why : refusal ≡ Some e.refusal
  pub back : e.value ≡ given

-- what a making answers: where there is no refusal, something that is `Meant`; else the refusal, with what was given
abbrev pub Made : {P G : Type 0} → Option Refusal → (P → Type 0) → G → Result P (HandedBack G) → Type 0
Made refusal Meant given (Ok p) = Accepted refusal Meant p
Made refusal Meant given (Err e) = Returned refusal given e

abbrev pub BitsMade : {B : Type 0} → BytesGhosts B → B → ℕ → ℕ → ℕ → Result (BitPicture B) (HandedBack B) → Type 0
BitsMade k bytes w h gray r =
    Made (bit_refusal (length (k.list bytes)) w h gray) (λ p. bits_mean k p ≡ bit_picture (k.list bytes) w h gray) bytes r

abbrev pub GraysMade : {B : Type 0} → BytesGhosts B → B → ℕ → ℕ → Result (GrayPicture B) (HandedBack B) → Type 0
GraysMade k bytes w h r =
    Made (gray_refusal (length (k.list bytes)) w h) (λ p. grays_mean k p ≡ gray_picture (k.list bytes) w h) bytes r

-- a crop keeps its picture whole, means that part of it, and shows its own dots
pub record Cropped {P : Type 0} (k : PictureGhosts P) (inner : P) (a b w h : ℕ) (c : Crop P) : Type 0 where
  pub keeps : c.inner ≡ inner
  pub means : crop_means k c ≡ part (k.means inner) a b w h
  pub shows : (x y : ℕ) → x < w → y < h → (crop_means k c).dot x y ≡ (k.means inner).dot (a + x) (b + y)

abbrev pub CropMade : {P : Type 0} → PictureGhosts P → P → ℕ → ℕ → ℕ → ℕ → Result (Crop P) (HandedBack P) → Type 0
CropMade k inner a b w h r = Made (crop_refusal (k.means inner) a b w h) (Cropped k inner a b w h) inner r
