use Rattle.std.proofs.Common.{◌≡◌, ◌++◌, map, take, drop}
use Rattle.printed_runs.specs.Semaphores.{passed}
use Rattle.printed_runs.proofs.usages.pass.Given as goal

abbrev pub invariant-loop-number : goal.invariant-loop-number
invariant-loop-number l = l.all ≡ map (passed l.process) (take l.number l.fn.all) ++ drop l.number l.fn.all
