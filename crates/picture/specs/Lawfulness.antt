-- Each kind of picture keeps the laws. The ghost members `lawful` of src/ cite these.
use Rattle.std.specs.Prelude.{ℕ, Bool, true, false, cond, ◌&&◌, T, Some, None, Option, nat_lt}
use Rattle.std.proofs.Common.{arith, ltb→lt}
use Rattle.picture.specs.declared.bytes.Bytes.{Ghosts as BytesGhosts}
use Rattle.picture.specs.declared.pictures.Picture.{Ghosts as PictureGhosts}
use Rattle.picture.specs.declared.kinds.BitPicture.{BitPicture}
use Rattle.picture.specs.declared.kinds.GrayPicture.{GrayPicture}
use Rattle.picture.specs.declared.kinds.Crop.{Crop}
use Rattle.picture.specs.declared.kinds.Inverse.{Inverse}
use Rattle.either.specs.declared.Either.{Either}
use Rattle.either.specs.declared.Either.TheVariants.{Left, Right}
use Rattle.picture.specs.Pictures.{PictureMeaning, inside, Shade, Lawful}
use Rattle.picture.specs.Packed.{packed}
use Rattle.picture.specs.Parts.{seen, inverted}
use Rattle.picture.specs.Kinds.{bits_mean, grays_mean, crop_means, inverse_means, either_means}

-- a dot that is chosen or clear is a shade if it is one where it is chosen
chosen_shade : (b : Bool) (o : Option ℕ) → (T b → Shade o) → Shade (cond b o None)
chosen_shade true o h = h tt
chosen_shade false o h = tt

both : (a b : Bool) → T (a && b) → T a × T b
both true b t = (tt, t)
both false b t = absurd t

-- a place that a picture has is lawful, and one that it has not is clear
seen_shade : (p : PictureMeaning) (x y : ℕ) → Lawful p → Shade (seen p x y)
seen_shade p x y l =
    chosen_shade (inside p x y) (p.dot x y)
    (λ t. let i = both (nat_lt x p.width) (nat_lt y p.height) t in l.shades x y (ltb→lt x p.width i.0) (ltb→lt y p.height i.1))

inverted_shade : (o : Option ℕ) → Shade (inverted o)
inverted_shade (Some gray) = omega arith
inverted_shade None = tt

pub bits_lawful : {B : Type 0} (k : BytesGhosts B) (p : BitPicture B) → Lawful (bits_mean k p)
bits_lawful k p =
    record { across = p.layout.size.across; down = p.layout.size.down; shades = λ x y _ _. chosen_shade _ (Some p.gray) (λ _. p.shade) }

pub grays_lawful : {B : Type 0} (k : BytesGhosts B) (p : GrayPicture B) → Lawful (grays_mean k p)
unfolding packed
grays_lawful k p =
    record { across = p.layout.size.across; down = p.layout.size.down; shades = λ x y _ _. omega arith }

pub crop_lawful : {P : Type 0} (k : PictureGhosts P) (c : Crop P) → Lawful (crop_means k c)
crop_lawful k c =
    record {
      across = c.size.across;
      down = c.size.down;
      shades = λ x y _ _. seen_shade (k.means c.inner) _ _ (k.lawful c.inner);
    }

pub inverse_lawful : {P : Type 0} (k : PictureGhosts P) (i : Inverse P) → Lawful (inverse_means k i)
inverse_lawful k i =
    let l = k.lawful i.inner in
    record { across = l.across; down = l.down; shades = λ x y _ _. inverted_shade ((k.means i.inner).dot x y) }

pub either_lawful : {P Q : Type 0} (k : PictureGhosts P) (l : PictureGhosts Q) (e : Either P Q) → Lawful (either_means k l e)
either_lawful k l (Left p) = k.lawful p
either_lawful k l (Right q) = l.lawful q
