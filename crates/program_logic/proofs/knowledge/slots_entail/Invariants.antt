use Rattle.std.proofs.Common.{◌≡◌, drop}
use Rattle.program_logic.specs.Terms.{slots_entail}
use Rattle.program_logic.proofs.knowledge.slots_entail.Given as goal

abbrev pub invariant-loop-i : goal.invariant-loop-i
invariant-loop-i l = slots_entail l.have l.want ≡ slots_entail (drop l.i l.have) (drop l.i l.want)
