-- What was pushed and what is left are the lines of all.
use Rattle.std.proofs.Common.{◌≡◌, ◌++◌, drop}
use Rattle.xinu_model.specs.Text as model
use Rattle.reference_boot.proofs.dump.ports.push_ports.Given as goal

abbrev pub invariant-loop-number : goal.invariant-loop-number
invariant-loop-number l =
    l.lines.items ++ model.port_lines l.number (drop l.number l.ports) ≡ l.fn.lines.items ++ model.port_lines 0 l.ports
