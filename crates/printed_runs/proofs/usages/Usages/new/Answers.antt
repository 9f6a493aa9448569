use Rattle.std.proofs.Common.{ap, refl, replicate}
use Rattle.printed_runs.proofs.Known.{nothing_said}
use Rattle.printed_runs.proofs.usages.Usages.new.Goals as goal

pub returns : goal.returns
returns c = record { knows = nothing_said _ refl (ap (replicate 128) c.made_with.ensures) }
