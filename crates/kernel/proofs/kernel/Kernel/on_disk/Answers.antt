use Rattle.std.proofs.Common.{◌≡◌, ◌∙◌, None, refl, ap, sym, subst}
use Rattle.io_calls.specs.Disks.{after_completing}
use Rattle.kernel.specs.Kernels.{kernel_result}
use Rattle.part_laws.specs.Preserve.{KeepsAll}
use Rattle.xinu_model.specs.Machine.{CallResult, Silent, Xinu}
use Rattle.xinu_model.specs.RawDisk.Calls.{disk_of}
use Rattle.xinu_model.specs.RawDisk.Completions.{raw_completed}
use Rattle.kernel.proofs.Kept.{after_completing_keeps, idle_sound}
use Rattle.kernel.proofs.Values.{came_is}
use Rattle.kernel.proofs.kernel.Kernel.on_disk.Goals as goal

pub invariant_of-self : goal.invariant_of-self
invariant_of-self c =
    let h = c.args.self.now.came in
    let good = c.args.good in
    let old : KeepsAll h = subst KeepsAll (came_is c.self.view_is) c.self.invariant.keeps in
    let after : Xinu → CallResult = λ s. record { call = after_completing (raw_completed good (disk_of s)) s; answer = Silent } in
    let e : kernel_result (record { state = c.on_disk.new.k; answer = None }) ≡ after h.call.state
    = ap (λ d. record { call = d; answer = Silent }) c.on_disk.ensures.completes ∙ ap (λ (h : CallResult). after h.call.state) (came_is c.self.view_is) in
    record {
      keeps = subst KeepsAll (sym e)
          (after_completing_keeps good (raw_completed good (disk_of h.call.state)) h.call.state refl (idle_sound h c.requires.idle old));
    }
