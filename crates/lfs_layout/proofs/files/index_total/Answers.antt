use Rattle.std.proofs.Common.{ap, arith}
use Rattle.lfs_layout.specs.Files.{total_for}
use Rattle.lfs_layout.proofs.FilesRead.{files_more, files_all}
use Rattle.lfs_layout.proofs.files.index_total.Goals as goal

pub loop-file-init : goal.loop-file-init
loop-file-init c = record { sum = omega arith; small = omega arith }

pub loop-file-preserved : goal.loop-file-preserved
loop-file-preserved c =
    let k = c.loop-file.file-index in let i = c.loop-file.invariant in
    let more = ap (total_for 8192) (files_more c.args.files.now k c.file-item.result (omega arith) c.file-item.is) in
    let need = c.indexes_needed-total.ensures.need in let small = c.indexes_needed-total.ensures.small in let sum = i.sum in let low = i.small in
    record { sum = omega (arith, more, need, sum); small = omega (arith, low, small) }

pub returns : goal.returns
returns c =
    let all = ap (total_for 8192) (files_all c.args.files.now c.loop-file.file-index (omega arith)) in let sum = c.loop-file.invariant.sum in omega (arith, all, sum)
