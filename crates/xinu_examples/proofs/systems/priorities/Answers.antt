use Rattle.xinu_examples.proofs.Computed.Priorities.{prints_raised_above_caller, prints_lowered_below_null, prints_raised_null, prints_entered_again, prints_yields_to_equals}
use Rattle.xinu_examples.proofs.systems.priorities.Goals as goal

pub returns : goal.returns
returns c = record {
  raised_above_caller = prints_raised_above_caller;
  lowered_below_null = prints_lowered_below_null;
  raised_null = prints_raised_null;
  entered_again = prints_entered_again;
  yields_to_equals = prints_yields_to_equals;
}
