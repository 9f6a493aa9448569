-- The groups so far, and those that are left.
use Rattle.std.proofs.Common.{◌≡◌, ◌-◌, ◌*◌, ◌≤◌, ◌++◌, length}
use Rattle.workload.specs.Groups.{groups, after_groups}
use Rattle.workload.proofs.programs.instructions.Given as goal

abbrev pub invariant-loop : goal.invariant-loop
invariant-loop l = record {
  words : l.words.items ++ groups l.place l.kinds (64 - l.counter) l.draws ≡ groups l.place l.kinds 64 l.initial.draws;
  draws : after_groups l.kinds (64 - l.counter) l.draws ≡ after_groups l.kinds 64 l.initial.draws;
  size : length l.words.items ≤ 8 * l.counter;
}
