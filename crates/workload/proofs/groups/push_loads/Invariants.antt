-- The instructions so far, and those of the arguments that are left.
use Rattle.std.proofs.Common.{◌≡◌, ◌+◌, ◌*◌, ◌++◌, drop, length}
use Rattle.workload.specs.Groups.{loads_of, after_arguments}
use Rattle.workload.proofs.groups.push_loads.Given as goal

abbrev pub invariant-loop-k : goal.invariant-loop-k
invariant-loop-k l = record {
  words : l.words.items ++ loads_of l.place (10 + l.k) (drop l.k l.args) l.draws ≡ l.initial.words.items ++ loads_of l.place 10 l.args l.initial.draws;
  draws : after_arguments (drop l.k l.args) l.draws ≡ after_arguments l.args l.initial.draws;
  size : length l.words.items ≡ length l.initial.words.items + 2 * l.k;
}
