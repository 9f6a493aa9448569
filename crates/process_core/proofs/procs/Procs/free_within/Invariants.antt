-- What is left to be looked at finds what the whole does.
use Rattle.std.proofs.Common.{◌≡◌, ◌-◌}
use Rattle.std.specs.List.{find}
use Rattle.xinu_model.specs.Searches.{numbers_from}
use Rattle.xinu_model.specs.Tables.{is_free}
use Rattle.process_core.specs.Tables.{process_in}
use Rattle.process_core.proofs.procs.Procs.free_within.Given as goal

abbrev pub invariant-loop-number : goal.invariant-loop-number
invariant-loop-number l =
    find (λ p. is_free (process_in l.self.processes p).state) (numbers_from l.number (l.end - l.number))
    ≡ find (λ p. is_free (process_in l.self.processes p).state) (numbers_from l.from (l.end - l.from))
