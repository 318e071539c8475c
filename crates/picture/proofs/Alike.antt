-- The laws of crops and inverses.
use Rattle.std.proofs.Common.{◌≡◌, ℕ, ◌+◌, ◌-◌, ◌<◌, Bool, true, false, cond, Some, None, Option, refl, ap, add_assoc, arith}
use Rattle.std.proofs.lemmas.Bool.Decides.{nat_tests}
use Rattle.picture.specs.Pictures.{PictureMeaning, inside, Shade}
use Rattle.picture.specs.Parts.{seen, part, inverted, inverse}
use Rattle.picture.specs.Laws.{Alike, InverseTwice, CropOfCrop, CropOfInverse}
use Rattle.picture.proofs.Within.{accepted_within, within_accepted, seen_inside}

-- Two pictures of one size are alike if their dots are the same at every place inside.
alike_inside : (p q : PictureMeaning) → p.width ≡ q.width → p.height ≡ q.height
    → ((x y : ℕ) → x < p.width → y < p.height → p.dot x y ≡ q.dot x y) → Alike p q
alike_inside p q wide high same = record { wide = wide; high = high; dots = λ x y. let s = same x y in grind (arith, nat_tests) }

-- 15 less what is 15 less a gray is the gray.
inverted_twice : (o : Option ℕ) → Shade o → inverted (inverted o) ≡ o
inverted_twice (Some gray) s = let e : 15 - (15 - gray) ≡ gray = omega arith in ap Some e
inverted_twice None s = refl

pub inverse_twice : InverseTwice
inverse_twice p l =
    alike_inside (inverse (inverse p)) p refl refl (λ x y i j. inverted_twice (p.dot x y) (l.shades x y i j))

-- Inside the inner crop its own test passes, and the sums of the two corners are those of one.
pub crop_of_crop : CropOfCrop
crop_of_crop p a b v k c d w h e f =
    let outer = accepted_within p a b v k e in
    let inner = accepted_within (part p a b v k) c d w h f in
    record {
      accepted =
          within_accepted p (a + c) (b + d) w h
          (record { wide = inner.wide; high = inner.high; across = omega arith; down = omega arith });
      alike =
          alike_inside (part (part p a b v k) c d w h) (part p (a + c) (b + d) w h) refl refl
          (λ x y i j.
          let one : seen (part p a b v k) (c + x) (d + y) ≡ seen p (a + (c + x)) (b + (d + y)) = seen_inside (part p a b v k) (c + x) (d + y) (omega arith) (omega arith) in
          rw (add_assoc a c x, add_assoc b d y) one);
    }

-- A dot that is chosen or clear is inverted as one.
inverted_chosen : (b : Bool) (o : Option ℕ) → cond b (inverted o) None ≡ inverted (cond b o None)
inverted_chosen true o = refl
inverted_chosen false o = refl

pub crop_of_inverse : CropOfInverse
crop_of_inverse p a b w h =
    record {
      refused = refl;
      alike =
          alike_inside (part (inverse p) a b w h) (inverse (part p a b w h)) refl refl
          (λ x y i j. inverted_chosen (inside p (a + x) (b + y)) (p.dot (a + x) (b + y)));
    }
