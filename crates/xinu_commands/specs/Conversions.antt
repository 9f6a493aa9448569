-- What the faults of the reference machine mean for a command.
use Rattle.reference_boot.specs.declared.boot.NoStart.{NoStart}
use Rattle.reference_boot.specs.declared.boot.NoStart.TheVariants as start
use Rattle.run_inputs.specs.declared.refusals.Refusal.{Refusal}
use Rattle.run_inputs.specs.declared.refusals.Refusal.TheVariants as refusal

-- the refusal that the reference machine gives if it doesn't start
abbrev pub start_refusal : NoStart → Refusal
start_refusal (start.Overlaps image) = refusal.Overlap image
start_refusal (start.NoRoom image) = refusal.NoRoom image
start_refusal start.NoMemory = refusal.NoMemory
