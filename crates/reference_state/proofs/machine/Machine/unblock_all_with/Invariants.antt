use Rattle.std.proofs.Common.{◌≡◌, drop}
use Rattle.xinu_model.specs.Machine as model
use Rattle.reference_state.proofs.machine.Machine.unblock_all_with.Given as goal

abbrev pub invariant-loop-p : goal.invariant-loop-p
invariant-loop-p l = model.unblock_all_with l.value (drop l.p-index l.ps) l.self ≡ model.unblock_all_with l.value l.ps l.fn.self
