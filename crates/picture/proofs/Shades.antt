-- What is known of a dot that a lawful picture answered.
use Rattle.std.proofs.Common.{◌≡◌, ℕ, ◌<◌, ◌≤◌, Some, Ok, subst, arith}
use Rattle.std.proofs.lemmas.Bool.Decides.{nat_tests}
use Rattle.picture.specs.Pictures.{PictureMeaning, dot_answer, Shade, Lawful}

-- A dot is answered only at a place that the picture has, and there the law bounds it.
pub answered_gray : (p : PictureMeaning) (x y gray : ℕ) → Lawful p → Ok (Some gray) ≡ dot_answer p x y → gray ≤ 15
answered_gray p x y gray l e =
    let wide : x < p.width = grind (arith, nat_tests) in
    let high : y < p.height = grind (arith, nat_tests) in
    let is : p.dot x y ≡ Some gray = grind (arith, nat_tests) in
    subst Shade is (l.shades x y wide high)
