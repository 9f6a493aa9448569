-- What is left to be looked at finds what the whole does.
use Rattle.std.proofs.Common.{◌≡◌, ◌-◌, not}
use Rattle.std.specs.Prelude.{is_some}
use Rattle.std.specs.List.{find}
use Rattle.xinu_model.specs.Searches.{numbers_from}
use Rattle.xinu_model.specs.Tables as model
use Rattle.reference_tables.proofs.tables.Tables.semaphore_from.Given as goal

abbrev pub invariant-loop-number : goal.invariant-loop-number
invariant-loop-number l =
    find (λ s. not (is_some (model.semaphore_at l.self s).owner)) (numbers_from l.number (l.end - l.number))
    ≡ find (λ s. not (is_some (model.semaphore_at l.self s).owner)) (numbers_from l.from (l.end - l.from))
