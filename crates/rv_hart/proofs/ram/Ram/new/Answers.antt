use Rattle.xinu_model.specs.Memory.{zeros}
use Rattle.rv_hart.proofs.ram.Ram.new.Goals as goal

pub returns-in-Ok : goal.returns-in-Ok
unfolding zeros
returns-in-Ok c = c.in-Ok.ensures.items_if_clones_equal (λ y same. same)
