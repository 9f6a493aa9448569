-- What a call leaves of the files.
use Rattle.std.proofs.Common.{◌≡◌, ◌∙◌, ℕ, ℤ, Result, Ok, Err, refl, ap}
use Rattle.std.specs.Prelude.{IfOk}
use Rattle.reference_state.specs.Answers.{came_to}
use Rattle.reference_state.specs.declared.answers.Answer.{Answer}
use Rattle.reference_switch.specs.Outcomes.{LeavesFiles}
use Rattle.reference_switch.specs.declared.outcomes.DeviceOutcome.{DeviceOutcome}
use Rattle.reference_switch.specs.declared.outcomes.DeviceOutcome.TheVariants as outcome
use Rattle.xinu_laws.proofs.Consoles.Kept.{sound_holds}
use Rattle.xinu_laws.proofs.Consoles.Put.{write_keeps}
use Rattle.xinu_laws.proofs.Consoles.Signalled.{console_control_keeps}
use Rattle.xinu_laws.proofs.Consoles.Taken.{read_keeps}
use Rattle.xinu_laws.proofs.NameSpaces.Calls.{mount_touches}
use Rattle.xinu_laws.specs.Touches.{reach, Touches}
use Rattle.xinu_model.specs.Console.Putting.{console_write}
use Rattle.xinu_model.specs.Console.Signals.{console_control}
use Rattle.xinu_model.specs.Console.Taking.{console_read}
use Rattle.xinu_model.specs.Files.Syscalls.{files_of}
use Rattle.xinu_model.specs.Footprints.{on_console}
use Rattle.xinu_model.specs.Machine.{CallResult, CallState, Xinu}
use Rattle.xinu_model.specs.Names.Calls.{mount}
use Rattle.xinu_model.specs.Sound.State.{IsSound}

-- who changes nothing leaves all of them
pub leaves_same : (d : CallState) (o : DeviceOutcome) → LeavesFiles d o d
leaves_same d (outcome.Done a) = refl
leaves_same d (outcome.Asks call at) = refl

pub leaves_same_ok : {E : Type 0} (d : CallState) (r : Result DeviceOutcome E) → IfOk r (λ o. LeavesFiles d o d)
leaves_same_ok d (Ok o) = leaves_same d o
leaves_same_ok d (Err e) = tt

-- who touches the console alone leaves them as they were
files_stay : (s : Xinu) (d : CallState) (a : Answer) (r : CallResult) → came_to d a ≡ r → Touches (reach on_console) s r.call.state
    → files_of d.state ≡ files_of s
files_stay s d a r is t = ap (λ (x : CallResult). files_of x.call.state) is ∙ t.parts.devices.files refl

pub read_stays : (at : ℕ) (n : ℤ) (s : Xinu) (d : CallState) (a : Answer) → IsSound s → came_to d a ≡ console_read at n s
    → files_of d.state ≡ files_of s
read_stays at n s d a k is = files_stay s d a (console_read at n s) is (read_keeps at n s (sound_holds s k)).touches

pub write_stays : (at : ℕ) (n : ℤ) (s : Xinu) (d : CallState) (a : Answer) → IsSound s → came_to d a ≡ console_write at n s
    → files_of d.state ≡ files_of s
write_stays at n s d a k is = files_stay s d a (console_write at n s) is (write_keeps at n s (sound_holds s k)).touches

pub control_stays : (f : ℕ) (s : Xinu) (d : CallState) (a : Answer) → IsSound s → came_to d a ≡ console_control f s
    → files_of d.state ≡ files_of s
control_stays f s d a k is = files_stay s d a (console_control f s) is (console_control_keeps f s (sound_holds s k)).touches

-- so does who touches the names alone
pub mount_stays : (prefix replacement dev : ℕ) (s : Xinu) (d : CallState) (a : Answer) → IsSound s → came_to d a ≡ mount prefix replacement dev s
    → files_of d.state ≡ files_of s
mount_stays prefix replacement dev s d a k is =
    ap (λ (x : CallResult). files_of x.call.state) is ∙ (mount_touches prefix replacement dev s k).parts.devices.files refl
