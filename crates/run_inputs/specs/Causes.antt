-- Why a command wasn't carried out, as it is told in words.
use Rattle.std.specs.Prelude.{◌≡◌, List, [], ◌∷◌, Option, Some, None, Result, Ok, Err}
use Rattle.command_line.specs.Reading.{Text}
use Rattle.host_port.specs.Outside.{HostCall, Outside, fetching, grown}
use Rattle.run_inputs.specs.declared.causes.Cause.{Cause}
use Rattle.run_inputs.specs.declared.causes.Cause.TheVariants as cause
use Rattle.run_inputs.specs.declared.refusals.Refusal.{Refusal}
use Rattle.run_inputs.specs.declared.refusals.Refusal.TheVariants as refusal

-- the refusal as which a cause is told, by its status and its text
abbrev pub refusal_in : Cause → Refusal
refusal_in (cause.Words fault) = refusal.Usage
refusal_in (cause.Unread name) = refusal.HostFault
refusal_in (cause.Unwritten name) = refusal.HostFault
refusal_in (cause.Refused r) = r

-- what something came to, with the refusal alone
abbrev pub refused : {T : Type 0} → Result T Cause → Result T Refusal
refused (Ok x) = Ok x
refused (Err c) = Err (refusal_in c)

-- The last call of the host that named a file fetched this one.
pub record WasFetchedLast (name : Text) (new : Outside) : Type 0 where
  pub before : Option (List HostCall)
  pub last : new.calls ≡ grown before (fetching name ∷ [])

-- If a file may be named, one is, and it was fetched last.
abbrev pub MayBeFetchedLast : Option Text → Outside → Type 0
MayBeFetchedLast None new = ⊥
MayBeFetchedLast (Some name) new = WasFetchedLast name new

-- A cause that names a file that can't be read names the one that was fetched last, and a fault of the host is told of no other file.
abbrev pub NamesLast : Cause → Outside → Type 0
NamesLast (cause.Unread name) new = WasFetchedLast name.now new
NamesLast (cause.Refused refusal.HostFault) new = ⊥
NamesLast (cause.Refused r) new = Unit {0}
NamesLast (cause.Words fault) new = ⊥
NamesLast (cause.Unwritten name) new = ⊥
