-- The answers so far, and those that the files will give to the calls that are left, and the bytes after these.
use Rattle.std.proofs.Common.{◌≡◌, ◌++◌, length, take, drop}
use Rattle.files_c.specs.Answers.{answers_of, bytes_after}
use Rattle.files_c.proofs.calls.answer_all.Given as goal
use Rattle.local_files.specs.Hands.{system}
use Rattle.local_files.specs.Standing.{Stands}
use Rattle.local_files.specs.declared.Phase.TheVariants.{Idle}

abbrev pub invariant-loop-k : goal.invariant-loop-k
invariant-loop-k l = record {
  made : take l.k l.answers ++ answers_of (record { system = system l.files l.disk; bytes = l.bytes }) (drop l.k l.calls)
      ≡ answers_of (record { system = system l.fn.files l.fn.disk; bytes = l.fn.bytes }) l.calls;
  bytes : bytes_after (record { system = system l.files l.disk; bytes = l.bytes }) (drop l.k l.calls)
      ≡ bytes_after (record { system = system l.fn.files l.fn.disk; bytes = l.fn.bytes }) l.calls;
  long : length l.answers ≡ length l.calls;
  idle : l.files.phase ≡ Idle;
  stands : Stands l.files l.disk l.disk;
}
