-- The bytes so far, and those of what is left.
use Rattle.std.proofs.Common.{◌≡◌, ◌++◌, true, length}
use Rattle.printed_runs.specs.Names.{is_name, name_of}
use Rattle.printed_runs.proofs.names.push_bytes.Given as goal

abbrev pub invariant-loop-left : goal.invariant-loop-left
invariant-loop-left l = record {
  name : is_name l.left ≡ true;
  bytes : l.text.items ++ name_of l.left ≡ l.fn.text.items ++ name_of l.digits;
}

abbrev pub decreases-loop-left : goal.decreases-loop-left
decreases-loop-left l = length l.left
