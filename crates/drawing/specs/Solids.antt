-- A picture of one gray, as wide and as high as pictures are; bars are filled with it.
use Rattle.std.specs.Prelude.{ℕ, min, Some}
use Rattle.std.proofs.Common.{arith}
use Rattle.picture.specs.Pictures.{PictureMeaning, Lawful}

abbrev pub solid : ℕ → PictureMeaning
solid gray = record { width = 128; height = 128; dot = λ x y. Some (min gray 15) }

pub solid_lawful : (gray : ℕ) → Lawful (solid gray)
solid_lawful gray =
    record { across = record { some = omega arith; most = omega arith }; down = record { some = omega arith; most = omega arith }; shades = λ x y _ _. omega arith }
