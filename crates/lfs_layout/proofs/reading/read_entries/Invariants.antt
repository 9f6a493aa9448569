use Rattle.std.proofs.Common.{◌≡◌, ◌++◌, drop}
use Rattle.lfs_layout.specs.Files.{files_in}
use Rattle.lfs_layout.specs.Made.{all_files}
use Rattle.lfs_layout.proofs.reading.read_entries.Given as goal

abbrev pub invariant-loop-entry : goal.invariant-loop-entry
invariant-loop-entry l = all_files l.files.items ++ files_in l.fields.geometry l.fields.indexes.now l.image (drop l.entry-index l.entries) ≡ files_in l.fields.geometry l.fields.indexes.now l.image l.entries
