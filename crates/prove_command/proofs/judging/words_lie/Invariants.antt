use Rattle.std.proofs.Common.{◌≡◌, ◌+◌, ◌*◌, drop}
use Rattle.program_logic.specs.SystemCheck.{lie_there, words_in}
use Rattle.prove_command.proofs.judging.words_lie.Given as goal

abbrev pub invariant-loop-k : goal.invariant-loop-k
invariant-loop-k l = lie_there l.memory l.first (words_in l.places) ≡ lie_there l.memory (l.first + 4 * l.k) (words_in (drop l.k l.places))
