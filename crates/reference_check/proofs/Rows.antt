-- What a call comes to and leaves of the files, by its family.
use Rattle.std.proofs.Common.{◌≡◌, ℕ, List, None, Result, Ok, Err, sym, ap, subst}
use Rattle.std.specs.Prelude.{IfOk}
use Rattle.reference_check.specs.Leaving.{Leaves, NoneMade}
use Rattle.reference_check.proofs.Made.{IsPlain, none_if_same, plain_none}
use Rattle.reference_state.specs.Answers.{came_to}
use Rattle.reference_state.specs.declared.answers.Answer.{Answer}
use Rattle.reference_switch.specs.Outcomes.{LeavesFiles}
use Rattle.reference_switch.specs.declared.outcomes.DeviceOutcome.{DeviceOutcome}
use Rattle.reference_switch.specs.declared.outcomes.DeviceOutcome.TheVariants as outcome
use Rattle.xinu_base.specs.Syscalls.{family_of}
use Rattle.xinu_laws.proofs.Rows.CallRows.{no_family}
use Rattle.xinu_model.specs.Calls.{called}
use Rattle.xinu_model.specs.Machine.{CallResult, CallState, Xinu, refused}
use Rattle.xinu_model.specs.Rows.{done_by}
use Rattle.xinu_model.specs.Sound.State.{IsSound}

-- A number without a family is refused.
pub refused_without : (number : ℕ) (args : List ℕ) (s : Xinu) → family_of number ≡ None → refused s ≡ called number args s
refused_without number args s none =
    sym (ap (λ found. done_by found args s) (no_family number none))

-- who leaves the files as they were makes no call on them
files_leave : (d e : CallState) (o : DeviceOutcome) → LeavesFiles d o e → Leaves d o e
files_leave d e (outcome.Done a) same = none_if_same d.state e.state same
files_leave d e (outcome.Asks call at) same = same

pub files_leave_ok : {E : Type 0} (d e : CallState) (r : Result DeviceOutcome E) → IfOk r (λ o. LeavesFiles d o e) → IfOk r (λ o. Leaves d o e)
files_leave_ok d e (Ok o) same = files_leave d e o same
files_leave_ok d e (Err x) same = tt

-- nor a call that isn't on files
pub plain_leaves : (number : ℕ) (args : List ℕ) (s : Xinu) (e : CallState) (a : Answer) → IsSound s → IsPlain number
    → came_to e a ≡ called number args s → NoneMade s e.state
plain_leaves number args s e a k plain is = subst (λ (r : CallResult). NoneMade s r.call.state) (sym is) (plain_none number args s k plain)
