use Rattle.std.proofs.Common.{sym, arith}
use Rattle.lfs_check.proofs.Empties.{length-upwards, upwards-at}
use Rattle.std.proofs.lemmas.List.{get_or_past}
use Rattle.lfs_check.specs.Empty.{upwards}
use Rattle.lfs_check.specs.Meets.{null}
use Rattle.lfs_layout.proofs.index_blocks.number_at.Goals as goal

pub returns-then-place-many : goal.returns-then-place-many
returns-then-place-many c = sym (upwards-at c.args.low c.args.many c.args.place null c.if-place-many.true)

pub returns-else-place-many : goal.returns-else-place-many
returns-else-place-many c =
    let l = length-upwards c.args.low c.args.many in
    sym (get_or_past (upwards c.args.low c.args.many) c.args.place null (omega (arith, l)))
