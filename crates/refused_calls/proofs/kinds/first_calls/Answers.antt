use Rattle.std.proofs.Common.{arith, sym}
use Rattle.std.proofs.lemmas.List.{length-take-le, take_all}
use Rattle.refused_calls.proofs.kinds.first_calls.Goals as goal

pub slice_bounds-result-end : goal.slice_bounds-result-end
slice_bounds-result-end c = sym (length-take-le 10000 c.args.calls.now (omega (arith, c.if-calls-gt-MOST_CALLS.true)))

pub returns-else-calls-gt-MOST_CALLS : goal.returns-else-calls-gt-MOST_CALLS
returns-else-calls-gt-MOST_CALLS c = record { first = sym (take_all 10000 c.args.calls.now (omega (arith, c.if-calls-gt-MOST_CALLS.false))) }
