-- What was pushed and what is left are the lines of all.
use Rattle.std.proofs.Common.{◌≡◌, ◌+◌, ◌++◌, drop}
use Rattle.xinu_model.specs.Text as model
use Rattle.reference_boot.proofs.dump.devices.push_open_files.Given as goal

abbrev pub invariant-loop-number : goal.invariant-loop-number
invariant-loop-number l =
    l.lines.items ++ model.open_file_lines (4 + l.number) (drop l.number l.s.devices) l.s
    ≡ l.fn.lines.items ++ model.open_file_lines 4 l.s.devices l.s
