-- No byte so far comes again.
use Rattle.std.proofs.Common.{◌≡◌, drop, length}
use Rattle.xinu_model.specs.Files.Modes.{are_apart}
use Rattle.refusal_reasons.proofs.file_causes.are_apart.Given as goal

abbrev pub invariant-loop-i : goal.invariant-loop-i
invariant-loop-i l = record {
  end : l.i-end ≡ length l.mode;
  so_far : are_apart l.mode ≡ are_apart (drop l.i l.mode);
}
