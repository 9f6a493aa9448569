use Rattle.run_inputs.specs.InputDisks.{empty_disk0}
use Rattle.run_inputs.proofs.input_disks.empty_bytes.Goals as goal

pub returns-in-Ok : goal.returns-in-Ok
unfolding empty_disk0
returns-in-Ok c = record { empty = c.in-Ok.ensures.items_if_clones_equal (λ y same. same) }
