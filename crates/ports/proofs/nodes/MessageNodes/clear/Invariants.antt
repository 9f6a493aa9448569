-- The messages of the port alone become fewer.
use Rattle.std.proofs.Common.{◌≡◌, length, []}
use Rattle.ports.specs.Nodes.{queue_at, with_queue}
use Rattle.ports.proofs.nodes.MessageNodes.clear.Given as goal

abbrev pub invariant-loop-port : goal.invariant-loop-port
invariant-loop-port l = with_queue l.port [] l.self ≡ with_queue l.port [] l.fn.self

abbrev pub decreases-loop-port : goal.decreases-loop-port
decreases-loop-port l = length (queue_at l.self l.port)
