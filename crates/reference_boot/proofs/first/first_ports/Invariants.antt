-- So many were pushed.
use Rattle.std.proofs.Common.{◌≡◌, replicate}
use Rattle.xinu_model.specs.Ports.Queues.{no_port}
use Rattle.reference_boot.proofs.first.first_ports.Given as goal

abbrev pub invariant-loop-i : goal.invariant-loop-i
invariant-loop-i l = l.list.items ≡ replicate l._i no_port
