-- What the fields of a picture say: a picture, or why it cannot be made. Assumes nothing.
use Rattle.std.specs.Prelude.{ℕ, List, length, Some, None, Ok, Err, Option, Result}
use Rattle.refusal.specs.declared.refusals.Refusal.{Refusal}
use Rattle.picture.specs.Pictures.{PictureMeaning}
use Rattle.picture.specs.Packed.{bit_picture, bit_refusal, gray_picture, gray_refusal}
use Rattle.picture.specs.Parts.{crop_refusal, inverse}
use Rattle.picture.specs.Parts as parts
use Rattle.script.specs.declared.shapes.Extent.{Extent}
use Rattle.script.specs.declared.shapes.Part.{Part}
use Rattle.script.specs.declared.words.Kind.{Kind}
use Rattle.script.specs.declared.words.Kind.TheVariants.{Bits, Grays, Inverse, Crop}
use Rattle.script.specs.Numbers.{unsigned, as_gray}
use Rattle.script.specs.Hex.{bytes_of_hex}
use Rattle.script.specs.Words.{kind}
use Rattle.script.specs.Readings.{Said, field, then, extent, part}

abbrev pub Made : Type 0
Made = Result PictureMeaning Refusal

abbrev pub unless : Option Refusal → PictureMeaning → Made
unless None p = Ok p
unless (Some why) p = Err why

abbrev pub made_bits : List ℕ → Extent → ℕ → Made
made_bits bytes s gray = unless (bit_refusal (length bytes) s.width s.height gray) (bit_picture bytes s.width s.height gray)

abbrev pub made_grays : List ℕ → Extent → Made
made_grays bytes s = unless (gray_refusal (length bytes) s.width s.height) (gray_picture bytes s.width s.height)

-- what cannot be made has no inverse and no part
abbrev pub made_inverse : Made → Made
made_inverse (Ok p) = Ok (inverse p)
made_inverse (Err why) = Err why

abbrev pub made_crop : Part → Made → Made
made_crop c (Ok p) =
    unless (crop_refusal p c.left c.top c.size.width c.size.height) (parts.part p c.left c.top c.size.width c.size.height)
made_crop c (Err why) = Err why

abbrev pub bits : List (List ℕ) → Said Made
bits fs =
    then (extent fs) (λ s fs. then (field unsigned fs) (λ gray fs. then (field bytes_of_hex fs) (λ bytes fs. Some (made_bits bytes s (as_gray gray), fs))))

abbrev pub grays : List (List ℕ) → Said Made
grays fs = then (extent fs) (λ s fs. then (field bytes_of_hex fs) (λ bytes fs. Some (made_grays bytes s, fs)))

-- by the word in front: a picture of bytes,
abbrev pub base : Kind → List (List ℕ) → Said Made
base Bits fs = bits fs
base Grays fs = grays fs
base Inverse fs = None
base Crop fs = None

-- or the inverse of one,
abbrev pub shade : Kind → List (List ℕ) → Said Made
shade Bits fs = base Bits fs
shade Grays fs = base Grays fs
shade Inverse fs = then (field kind fs) (λ k fs. then (base k fs) (λ p fs. Some (made_inverse p, fs)))
shade Crop fs = None

-- or a part of such a picture
abbrev pub figure_by : Kind → List (List ℕ) → Said Made
figure_by Bits fs = shade Bits fs
figure_by Grays fs = shade Grays fs
figure_by Inverse fs = shade Inverse fs
figure_by Crop fs = then (part fs) (λ c fs. then (field kind fs) (λ k fs. then (shade k fs) (λ p fs. Some (made_crop c p, fs))))

abbrev pub figure : List (List ℕ) → Said Made
figure fs = then (field kind fs) figure_by
