-- What the pictures of a script mean.
use Rattle.std.specs.Prelude.{ℕ, Ok, vec_items, Vec}
use Rattle.std.specs.declared.alloc.Global.{Global}
use Rattle.picture.specs.declared.bytes.Bytes.{Ghosts as BytesGhosts}
use Rattle.picture.specs.declared.pictures.Picture.{Ghosts as PictureGhosts}
use Rattle.picture.specs.declared.kinds.BitPicture.{BitPicture}
use Rattle.picture.specs.declared.kinds.GrayPicture.{GrayPicture}
use Rattle.picture.specs.declared.kinds.Inverse.{Inverse}
use Rattle.picture.specs.declared.kinds.Crop.{Crop}
use Rattle.picture.specs.declared.Either.{Either}
use Rattle.picture.specs.Kinds.{bits_mean, grays_mean, inverse_means, crop_means, either_means}
use Rattle.picture.specs.Lawfulness.{bits_lawful, grays_lawful, inverse_lawful, crop_lawful, either_lawful}
use Rattle.script.specs.Figures.{Made}

abbrev pub Base : Type 0
Base = Either (BitPicture (Vec ℕ Global)) (GrayPicture (Vec ℕ Global))

abbrev pub Shade : Type 0
Shade = Either Base (Inverse Base)

abbrev pub owned : BytesGhosts (Vec ℕ Global)
owned = record { list = vec_items }

-- as the kinds of pictures have it
abbrev pub bit_kind : PictureGhosts (BitPicture (Vec ℕ Global))
bit_kind = record { means = bits_mean owned; lawful = bits_lawful owned }

abbrev pub gray_kind : PictureGhosts (GrayPicture (Vec ℕ Global))
gray_kind = record { means = grays_mean owned; lawful = grays_lawful owned }

abbrev pub base_kind : PictureGhosts Base
base_kind = record { means = either_means bit_kind gray_kind; lawful = either_lawful bit_kind gray_kind }

abbrev pub inverse_kind : PictureGhosts (Inverse Base)
inverse_kind = record { means = inverse_means base_kind; lawful = inverse_lawful base_kind }

abbrev pub shade_kind : PictureGhosts Shade
shade_kind = record { means = either_means base_kind inverse_kind; lawful = either_lawful base_kind inverse_kind }

abbrev pub Figure : Type 0
Figure = Either Shade (Crop Shade)

abbrev pub crop_kind : PictureGhosts (Crop Shade)
crop_kind = record { means = crop_means shade_kind; lawful = crop_lawful shade_kind }

abbrev pub figure_kind : PictureGhosts Figure
figure_kind = record { means = either_means shade_kind crop_kind; lawful = either_lawful shade_kind crop_kind }

-- what a picture that was made means
abbrev pub made : {P : Type 0} → PictureGhosts P → P → Made
made kind p = Ok (kind.means p)
