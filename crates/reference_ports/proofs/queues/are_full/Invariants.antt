-- There is room left, which the ports that are left to be looked at fill if all ports fill the whole.
use Rattle.std.proofs.Common.{◌≡◌, ◌<◌, drop, nat_le}
use Rattle.xinu_model.specs.Ports.Queues.{most_nodes, nodes}
use Rattle.reference_ports.proofs.queues.are_full.Given as goal

abbrev pub invariant-loop-port : goal.invariant-loop-port
invariant-loop-port l = (0 < l.room) × (nat_le l.room (nodes (drop l.port-index l.ports)) ≡ nat_le most_nodes (nodes l.ports))
