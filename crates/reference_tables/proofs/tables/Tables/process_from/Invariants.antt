-- What is left to be looked at finds what the whole does.
use Rattle.std.proofs.Common.{◌≡◌, ◌-◌}
use Rattle.std.specs.List.{find}
use Rattle.xinu_model.specs.Searches.{numbers_from}
use Rattle.xinu_model.specs.Tables as model
use Rattle.reference_tables.proofs.tables.Tables.process_from.Given as goal

abbrev pub invariant-loop-number : goal.invariant-loop-number
invariant-loop-number l =
    find (λ p. model.is_free (model.state_at l.self p)) (numbers_from l.number (l.end - l.number))
    ≡ find (λ p. model.is_free (model.state_at l.self p)) (numbers_from l.from (l.end - l.from))
