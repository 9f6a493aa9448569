use Rattle.std.proofs.Common.{◌≡◌, ◌+◌, drop}
use Rattle.lfs_check.specs.Rules.{text_length}
use Rattle.local_files.proofs.names.text_len.Given as goal

abbrev pub invariant-loop-i : goal.invariant-loop-i
invariant-loop-i l = l.i + text_length (drop l.i l.name) ≡ text_length l.name
