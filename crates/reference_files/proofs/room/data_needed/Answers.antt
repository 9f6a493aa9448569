use Rattle.std.proofs.Common.{◌≡◌, ◌<◌, ◌≤◌, ◌∙◌, ap, arith, length, sym}
use Rattle.std.specs.Prelude.{slice_index_or}
use Rattle.reference_files.specs.Sizes.{size_with}
use Rattle.xinu_model.specs.Files.Room.{data_blocks}
use Rattle.reference_files.proofs.RoomBySize.{blocks_at}
use Rattle.reference_files.proofs.room.data_needed.Goals as goal

pub loop-file-preserved : goal.loop-file-preserved
loop-file-preserved c =
    let files = c.args.files.now in
    let name = c.args.name.now in
    let i = c.loop-file.file-index in
    let f = c.file-item.result in
    let h : i < length files = omega arith in
    let is : slice_index_or files i f ≡ f = sym c.file-item.is in
    let next = blocks_at data_blocks name c.args.size files i f h is in
    let more : c.data_blocks-needed.result ≡ data_blocks (size_with name c.args.size f) = c.data_blocks-needed.ensures.blocks
    ∙ ap data_blocks c.size_with-bytes.ensures.size in
    let small : c.data_blocks-needed.result ≤ 36028797018963968 = omega (arith, c.data_blocks-needed.ensures.blocks) in
    let a = c.loop-file.invariant.0 in
    let b = c.loop-file.invariant.1 in
    (omega (arith, next, more, a), omega (arith, b, small))
