use Rattle.std.proofs.Common.{◌∙◌, set, None, ap}
use Rattle.process_core.specs.Tables.{tables_of}
use Rattle.semaphores.specs.Counts.{beside}
use Rattle.xinu_model.specs.Tables.{Tables}
use Rattle.kernel_tables.proofs.sending.take_current.Goals as goal

pub returns : goal.returns
unfolding tables_of
returns c = record {
  taken = λ ls sems ticks f. (
      let s = c.args.procs.now in
      let slots = c.args.slots.now in
      ap (λ l. tables_of ls c.end_rest.new.procs (beside sems l ticks))
      (c.clear.ensures.slots ∙ ap (λ p. set slots p None) c.current-current.ensures.current)
      ∙ ap (λ (u : Tables). record u { messages = set slots s.current None }) (c.end_rest.ensures.goes_on ls (beside sems slots ticks) f));
}
