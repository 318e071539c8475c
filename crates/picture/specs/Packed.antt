-- Dots packed into bytes, `depth` bits a dot: the first dot of a byte has its highest bits, and each row is
-- filled up to a whole byte. A bit picture has depth 1, a gray picture depth 4.
use Rattle.std.specs.Prelude.{ℕ, ◌+◌, ◌-◌, ◌*◌, ◌/◌, ◌%◌, ◌^◌, Bool, cond, ◌&&◌, List, Some, None, Option, ◌==◌, nat_le, slice_index}
use Rattle.refusal.specs.declared.refusals.Refusal.{Refusal}
use Rattle.refusal.specs.declared.refusals.Refusal.TheVariants.{PictureShape, Gray}
use Rattle.picture.specs.Pictures.{PictureMeaning}

-- how many dots a byte has
abbrev pub places_a_byte : ℕ → ℕ
places_a_byte depth = 8 / depth

-- how many bytes a row of `width` dots takes, the last one filled up
abbrev pub bytes_a_row : ℕ → ℕ → ℕ
bytes_a_row depth width = (width + (places_a_byte depth - 1)) / places_a_byte depth

-- the number in the bits of a byte's dot at `place`, counted from the highest bits
abbrev pub field : ℕ → ℕ → ℕ → ℕ
field depth byte place = byte / 2 ^ (8 - depth * (place + 1)) % 2 ^ depth

-- the number of the dot (x, y) in rows of `width` dots
unfoldable pub packed : ℕ → List ℕ → ℕ → ℕ → ℕ → ℕ
packed depth bytes width x y = field depth (slice_index bytes (y * bytes_a_row depth width + x / places_a_byte depth)) (x % places_a_byte depth)

-- a bit is the picture's gray where it is 1, and clear where it is 0
abbrev pub bit_picture : List ℕ → ℕ → ℕ → ℕ → PictureMeaning
bit_picture bytes width height gray =
    record { width = width; height = height; dot = λ x y. cond (packed 1 bytes width x y == 1) (Some gray) None }

-- four bits are a gray, and nothing is clear
abbrev pub gray_picture : List ℕ → ℕ → ℕ → PictureMeaning
gray_picture bytes width height = record { width = width; height = height; dot = λ x y. Some (packed 4 bytes width x y) }

-- a width or a height of 1 to 128
abbrev pub sized : ℕ → Bool
sized n = nat_le 1 n && nat_le n 128

-- a width and a height that a picture may have, and just as many bytes as they take
abbrev pub shaped : ℕ → ℕ → ℕ → ℕ → Bool
shaped depth count width height = sized width && (sized height && count == bytes_a_row depth width * height)

-- why that shape is refused, if it is
abbrev pub shape_refusal : ℕ → ℕ → ℕ → ℕ → Option Refusal
shape_refusal depth count width height = cond (shaped depth count width height) None (Some PictureShape)

-- why a bit picture of `count` bytes is refused, if it is
abbrev pub bit_refusal : ℕ → ℕ → ℕ → ℕ → Option Refusal
bit_refusal count width height gray =
    cond (shaped 1 count width height) (cond (nat_le gray 15) None (Some Gray)) (Some PictureShape)

-- why a gray picture of `count` bytes is refused, if it is
abbrev pub gray_refusal : ℕ → ℕ → ℕ → Option Refusal
gray_refusal count width height = shape_refusal 4 count width height
