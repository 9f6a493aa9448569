-- What is left to be looked at finds what the whole does.
use Rattle.std.proofs.Common.{◌≡◌, ◌-◌, not}
use Rattle.std.specs.List.{find}
use Rattle.xinu_model.specs.Ports.Queues.{is_used, port_at}
use Rattle.xinu_model.specs.Searches.{numbers_from}
use Rattle.reference_ports.proofs.port_changes.port_from.Given as goal

abbrev pub invariant-loop-number : goal.invariant-loop-number
invariant-loop-number l =
    find (λ q. not (is_used (port_at l.m.state.parts.ports q))) (numbers_from l.number (l.end - l.number))
    ≡ find (λ q. not (is_used (port_at l.m.state.parts.ports q))) (numbers_from l.from (l.end - l.from))
