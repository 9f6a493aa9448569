use Rattle.std.specs.Prelude.{slice_index}
use Rattle.refusal_reasons.specs.Reasons.{causes_of}
use Rattle.refusal_reasons.proofs.Ahead.{first_is, told_ahead}
use Rattle.refusal_reasons.proofs.Rows as rows
use Rattle.refusal_reasons.proofs.laws.refusals_have_reasons.Goals as goal

pub returns : goal.returns
returns c = record {
  calls = rows.refusals_have_reasons;
  first = λ number args s r e. first_is (causes_of number (slice_index args) s) r e;
  ahead = told_ahead;
}
