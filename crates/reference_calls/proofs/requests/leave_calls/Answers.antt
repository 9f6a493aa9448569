use Rattle.std.proofs.Common.{rules}
use Rattle.std.proofs.lemmas.Fn.{filter_same}
use Rattle.reference_calls.proofs.requests.leave_calls.Goals as goal

pub returns : goal.returns
returns c = record { others = filter_same _ _ _ (λ x b f' k. search rules) _ _ c.retain.ensures.filtered }
