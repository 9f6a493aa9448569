use Rattle.refusal_reasons.proofs.Effects.{refused_effects, refused_requests}
use Rattle.refusal_reasons.proofs.laws.refused_effects_have_reasons.Goals as goal

pub returns : goal.returns
returns c = record { files = refused_effects; disk = refused_requests }
