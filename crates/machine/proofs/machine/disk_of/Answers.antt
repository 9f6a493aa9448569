use Rattle.std.proofs.Common.{◌≡◌, ◌≢◌, ◌∙◌, ℕ, suc, zero, List, ap, refl, sym}
use Rattle.kernel_state.specs.Values.{KernelValue}
use Rattle.machine.specs.DiskBytes.{disk_bytes, raw_bytes}
use Rattle.xinu_model.specs.Machine.{Xinu}
use Rattle.machine.proofs.machine.disk_of.Goals as goal

-- disk 1 is the other than disk 0
disk_1 : (n : ℕ) (s : Xinu) (image : List ℕ) → n ≢ 0 → image ≡ disk_bytes n s image
disk_1 zero s image other = absurd (other refl)
disk_1 (suc n) s image other = refl

pub returns-then-n-eq0 : goal.returns-then-n-eq0
returns-then-n-eq0 c =
    let k = c.args.k.now in
    record {
      bytes = c.bytes.ensures.bytes ∙ ap (λ (v : KernelValue). raw_bytes v.call.state) c.k.view_is
          ∙ ap (λ n. disk_bytes n k.call.state k.image) (sym c.if-n-eq0.true);
    }

pub returns-else-n-eq0 : goal.returns-else-n-eq0
returns-else-n-eq0 c =
    let k = c.args.k.now in
    record {
      bytes = c.bytes-else-n-eq0.ensures.bytes ∙ ap (λ (v : KernelValue). v.image) c.k.view_is
          ∙ disk_1 c.args.n k.call.state k.image c.if-n-eq0.false;
    }
