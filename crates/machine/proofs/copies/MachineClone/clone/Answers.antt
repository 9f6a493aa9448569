use Rattle.std.proofs.Common.{rules, ◌≡◌, sym, subst}
use Rattle.kernel.specs.Values.{KernelValue}
use Rattle.machine.specs.Machines.{IsMachine}
use Rattle.machine.proofs.copies.MachineClone.clone.Goals as goal

pub invariant_of-result : goal.invariant_of-result
invariant_of-result c =
    let same : c.in_ok-kernel.kernel ≡ c.self.inside.kernel = search rules in
    let P : KernelValue → Type 0 = λ k. IsMachine (record { kernel = k; events = c.self.inside.events; has_ended = c.self.inside.has_ended }) in
    subst P (sym same) c.self.invariant
