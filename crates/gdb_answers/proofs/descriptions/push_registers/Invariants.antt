-- So far the entries of the registers before the present one were appended.
use Rattle.std.proofs.Common.{◌≡◌, ◌++◌}
use Rattle.gdb_answers.specs.Descriptions.{registers_below}
use Rattle.gdb_answers.proofs.descriptions.push_registers.Given as goal

abbrev pub invariant-loop-number : goal.invariant-loop-number
invariant-loop-number l = l.text.items ≡ l.initial.text.items ++ registers_below l.number
