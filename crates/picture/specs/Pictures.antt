-- What a picture means, what it answers, and the laws that every picture keeps. Assumes nothing.
use Rattle.std.specs.Prelude.{ℕ, ◌<◌, ◌≤◌, Bool, cond, ◌&&◌, Some, None, Ok, Err, Option, Result, nat_lt}
use Rattle.refusal.specs.declared.refusals.Refusal.{Refusal}
use Rattle.refusal.specs.declared.refusals.Refusal.TheVariants.{OutsidePicture}

-- a width, a height, and for each place a gray, or None where the dot is clear
pub record PictureMeaning : Type 0 where
  pub width : ℕ
  pub height : ℕ
  pub dot : ℕ → ℕ → Option ℕ

-- whether a picture has the place (x, y)
abbrev pub inside : PictureMeaning → ℕ → ℕ → Bool
inside p x y = nat_lt x p.width && nat_lt y p.height

-- what a picture answers when it is asked for the dot (x, y)
abbrev pub dot_answer : PictureMeaning → ℕ → ℕ → Result (Option ℕ) Refusal
dot_answer p x y = cond (inside p x y) (Ok (p.dot x y)) (Err OutsidePicture)

-- a dot is clear, or has a gray of 0 to 15
abbrev pub Shade : Option ℕ → Type 0
Shade (Some gray) = gray ≤ 15
Shade None = Unit {0}

-- a width or a height
pub record Extent (n : ℕ) : Type 0 where
  pub some : 1 ≤ n
  pub most : n ≤ 128

-- the laws of a picture
pub record Lawful (p : PictureMeaning) : Type 0 where
  pub across : Extent p.width
  pub down : Extent p.height
  pub shades : (x y : ℕ) → x < p.width → y < p.height → Shade (p.dot x y)
