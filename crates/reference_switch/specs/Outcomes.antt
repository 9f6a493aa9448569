-- What a call on a device comes to, by what the code answers.
use Rattle.std.specs.Prelude.{◌≡◌, Option, Some, None}
use Rattle.reference_state.specs.Answers.{came_to}
use Rattle.reference_state.specs.FileCalls.{file_call_of}
use Rattle.reference_switch.specs.declared.outcomes.DeviceOutcome.{DeviceOutcome}
use Rattle.reference_switch.specs.declared.outcomes.DeviceOutcome.TheVariants as outcome
use Rattle.xinu_base.specs.declared.devices.Kind.{Kind}
use Rattle.xinu_model.specs.Files.Syscalls.{awaits_files, files_of}
use Rattle.xinu_model.specs.Machine.{CallState, CallResult, Xinu, refused}

-- the state that it left with its answer, or what the files make of the call that it asks of them
abbrev pub comes_to : CallState → DeviceOutcome → CallResult
comes_to d (outcome.Done a) = came_to d a
comes_to d (outcome.Asks call at) = awaits_files (file_call_of call) at d.state

-- what is done by what the device is; refused if there is none that offers the call
abbrev pub by_kind : Option Kind → (Kind → Xinu → CallResult) → Xinu → CallResult
by_kind None does s = refused s
by_kind (Some k) does s = does k s

-- What a call leaves of the files: if it went so, they are as they were; if it asks them, all is as it was.
abbrev pub LeavesFiles : CallState → DeviceOutcome → CallState → Type 0
LeavesFiles old (outcome.Done a) new = files_of new.state ≡ files_of old.state
LeavesFiles old (outcome.Asks call at) new = new ≡ old
