-- The rows so far, and those that are left.
use Rattle.std.proofs.Common.{◌≡◌, ◌+◌, ◌++◌, drop}
use Rattle.races_command.specs.Printed.{rows_text}
use Rattle.races_command.proofs.showing.push_rows.Given as goal

abbrev pub invariant-loop-i : goal.invariant-loop-i
invariant-loop-i l = l.text.items ++ rows_text l.base (l.i + 1) (drop l.i l.table) ≡ l.fn.text.items ++ rows_text l.base 1 l.table
