use Rattle.std.proofs.Common.{◌≡◌, ◌≤◌, ◌+◌, ◌*◌, drop}
use Rattle.reference_files.specs.Sizes.{blocks_with}
use Rattle.xinu_model.specs.Files.Room.{data_blocks}
use Rattle.reference_files.proofs.room.data_needed.Given as goal

abbrev pub invariant-loop-file : goal.invariant-loop-file
invariant-loop-file l =
    (l.needed + blocks_with data_blocks l.name l.size (drop l.file-index l.files) ≡ blocks_with data_blocks l.name l.size l.files)
    × (l.needed ≤ 36028797018963968 * l.file-index)
