use Rattle.std.proofs.Common.{◌≡◌}
use Rattle.xinu_model.specs.Files.Stored as model
use Rattle.reference_tables.proofs.Changes.{changed_below}
use Rattle.reference_files.proofs.stored.with_contents.Given as goal

abbrev pub invariant-loop-file : goal.invariant-loop-file
invariant-loop-file l = l.file-items ≡ changed_below (model.rewritten l.name l.bytes) l.file-index l.fn.files.items
