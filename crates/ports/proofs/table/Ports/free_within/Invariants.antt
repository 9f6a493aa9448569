-- What is left to be looked at finds what the whole does.
use Rattle.std.proofs.Common.{◌≡◌, ◌-◌}
use Rattle.std.specs.List.{find}
use Rattle.xinu_model.specs.Searches.{numbers_from}
use Rattle.ports.proofs.Finding.{is_free_in}
use Rattle.ports.proofs.table.Ports.free_within.Given as goal

abbrev pub invariant-loop-number : goal.invariant-loop-number
invariant-loop-number l =
    find (is_free_in l.self.ports) (numbers_from l.number (l.end - l.number)) ≡ find (is_free_in l.self.ports) (numbers_from l.from (l.end - l.from))
