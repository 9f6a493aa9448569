-- What a port has beside its messages.
use Rattle.std.specs.Prelude.{◌==◌, ◌||◌, ℕ, Bool, not, List}
use Rattle.reference_ports.specs.declared.queues.Head.{Head}
use Rattle.xinu_model.specs.Ports.Queues.{MessagePort, PortQueue, is_used}

-- the queue with these messages
abbrev pub queue_with : Head → List ℕ → PortQueue
queue_with h messages = record { first_count = h.first_count; send = h.send; receive = h.receive; messages = messages }

-- whether a port isn't in use, or has another sequence number
abbrev pub is_other : ℕ → MessagePort → Bool
is_other seq port = not (is_used port) || not (port.seq == seq)
