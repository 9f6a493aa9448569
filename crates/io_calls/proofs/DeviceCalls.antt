-- A call that no device offers.
use Rattle.std.proofs.Common.{◌≡◌, ◌∙◌, ℕ, Option, None, ap, sym}
use Rattle.io_calls.specs.Devices.{by_kind}
use Rattle.kernel_state.specs.Results.{came_to, IsStart}
use Rattle.xinu_base.specs.Constants.{SYSERR}
use Rattle.xinu_base.specs.declared.devices.Kind.{Kind}
use Rattle.xinu_base.specs.declared.devices.Op.{Op}
use Rattle.xinu_base.specs.declared.syscalls.Next.TheVariants as next
use Rattle.xinu_model.specs.Devices.Calls.{on_device}
use Rattle.xinu_model.specs.Machine.{CallResult, CallState, refused, Returns, Xinu}

-- No device was found that offers the call: it is refused.
pub no_device : (call : Op) (dev : ℕ) (does : Kind → Xinu → CallResult) (found : Option Kind) (s : Xinu)
    → on_device call dev does s ≡ by_kind found does s → (d : CallState) → d.state ≡ s → IsStart d → found ≡ None
    → came_to d (next.Returns SYSERR) ≡ on_device call dev does s
no_device call dev does found s offered d e i none =
    ap (λ (x : CallState). record { call = x; answer = Returns SYSERR }) i.is
    ∙ ap refused e ∙ sym (ap (λ o. by_kind o does s) none) ∙ sym offered
