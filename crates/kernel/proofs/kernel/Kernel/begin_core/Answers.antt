use Rattle.std.proofs.Common.{◌≡◌, Some, ap, sym, subst}
use Rattle.kernel.specs.Kernels.{kernel_result}
use Rattle.kernel_state.specs.Beginnings.{BeginsAs, next_of}
use Rattle.kernel_state.specs.Results.{came_to}
use Rattle.part_laws.specs.Preserve.{KeepsAll}
use Rattle.xinu_model.specs.Machine.{CallResult}
use Rattle.kernel.proofs.Kept.{begun_keeps, idle_may_call}
use Rattle.xinu_laws.proofs.Preserve.Calls.{called_keeps}
use Rattle.xinu_model.specs.Calls.{called}
use Rattle.kernel.proofs.Values.{came_is}
use Rattle.kernel.proofs.kernel.Kernel.begin_core.Goals as goal

pub invariant_of-self : goal.invariant_of-self
invariant_of-self c =
    let h = c.args.self.now.came in
    let s = h.call.state in
    let call = c.args.call in
    let b = c.begin-begun.result in
    let d = c.begin-begun.new.k in
    let old : KeepsAll h = subst KeepsAll (came_is c.self.view_is) c.self.invariant.keeps in
    let may = idle_may_call h c.requires.idle old c.requires.not_null in
    let P : CallResult → Type 0
    = λ h. BeginsAs b (called call.number call.args h.call.state) h.call.state (came_to d.call (next_of b)) in
    let is : BeginsAs b (called call.number call.args s) s (came_to d.call (next_of b)) = subst P (came_is c.self.view_is) c.begin-begun.ensures.called in
    let e : came_to d.call (next_of b) ≡ kernel_result (record { state = d; answer = Some c.next.result })
    = ap (λ n. came_to d.call n) (sym c.next.ensures.next) in
    record {
      keeps = subst KeepsAll e
          (begun_keeps b (called call.number call.args s) s (came_to d.call (next_of b)) is may (called_keeps call.number call.args s may));
    }
