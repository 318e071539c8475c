-- One row more of what a module shows is written.
use Rattle.std.proofs.Common.{◌≡◌, ℕ, ◌+◌, List, take, Option, subst, arith}
use Rattle.std.proofs.Math.Numerals.{add-one}
use Rattle.std.proofs.KnownBytes.{Appends-nil, Appends-trans}
use Rattle.std.specs.Io.KnownBytes.{Appends}
use Rattle.ssd1329.specs.Chip.{Chip}
use Rattle.ssd1329.specs.Glass.{Wires}
use Rattle.ssd1329.specs.RowText.{Put, row_text}
use Rattle.ssd1329.specs.RowTextCall.{Written}
use Rattle.ssd1329.proofs.Texts.{put_front}
use Rattle.listing.specs.Viewing.{rows_above}

pub none_above : (old : Option (List ℕ)) (w : Wires) (c : Chip) → Appends old old (rows_above w c 0)
unfolding rows_above
none_above old w c = Appends-nil old

pub row_more : (old mid new : Option (List ℕ)) (w : Wires) (c : Chip) (y : ℕ) {before after : List ℕ} {n : ℕ} → Written w c y before after n
    → Appends old mid (rows_above w c y) → Appends mid new (take n after) → Appends old new (rows_above w c (y + 1))
unfolding rows_above
row_more old mid new w c y {before} {after} {n} row above more =
    let put : Put before 0 (row_text w c y) after n = record { text = row.text; ends = (let answer = row.answer in omega arith) } in
    let whole : take n after ≡ row_text w c y = put_front (omega arith) put in
    rw add-one (Appends-trans old mid new _ _ above (subst (Appends mid new) whole more))
