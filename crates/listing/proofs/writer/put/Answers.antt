use Rattle.std.proofs.Common.{◌+◌, ◌-◌, length, arith, rules}
use Rattle.ssd1329.proofs.Texts.{put_written}
use Rattle.listing.proofs.writer.put.Goals as goal

pub returns : goal.returns
returns c =
    let at = c.args.at in
    let bytes = c.args.bytes.now in (
      omega arith,
      record { text = put_written c.args.out.now c.copy_from_slice.new.self bytes at (at + length bytes - at) (search rules) (omega arith); ends = search rules },
    )
