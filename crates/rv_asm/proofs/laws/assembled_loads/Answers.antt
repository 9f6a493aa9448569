-- The law over the definition.
use Rattle.rv_asm.proofs.LoadLemmas.{assembled-loads}
use Rattle.rv_asm.proofs.laws.assembled_loads.Goals as goal

pub returns : goal.returns
returns c = record { loads = assembled-loads }
