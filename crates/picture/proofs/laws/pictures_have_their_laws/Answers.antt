-- Each law has its lemma.
use Rattle.picture.proofs.Alike.{inverse_twice, crop_of_crop, crop_of_inverse}
use Rattle.picture.proofs.laws.pictures_have_their_laws.Goals as goal

pub returns : goal.returns
returns c = record { twice = inverse_twice; nested = crop_of_crop; inverted = crop_of_inverse }
