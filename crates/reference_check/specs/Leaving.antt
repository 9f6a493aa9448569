-- What a call leaves of the files, by whether it went so or asks for them.
use Rattle.std.specs.Prelude.{◌≡◌, []}
use Rattle.reference_switch.specs.declared.outcomes.DeviceOutcome.{DeviceOutcome}
use Rattle.reference_switch.specs.declared.outcomes.DeviceOutcome.TheVariants as outcome
use Rattle.xinu_model.specs.Files.Syscalls.{files_of}
use Rattle.xinu_model.specs.Machine.{CallState, Xinu}

-- from s to u no call on files is made as the first
abbrev pub NoneMade : Xinu → Xinu → Type 0
NoneMade s u = (files_of s).calls ≡ [] → (files_of u).calls ≡ []

-- A call that went so made none; one that asks for the files did nothing yet.
abbrev pub Leaves : CallState → DeviceOutcome → CallState → Type 0
Leaves old (outcome.Done a) new = NoneMade old.state new.state
Leaves old (outcome.Asks call at) new = new ≡ old
