-- The command by what was read of its words, and a run by its fault.
use Rattle.std.proofs.Common.{◌≡◌, inl, inr, refl, sym, subst}
use Rattle.std.specs.Prelude.{Option, Some, Result, Ok, Err}
use Rattle.command_line.specs.Reading.{Taken}
use Rattle.command_words.specs.Words.{WordsFault}
use Rattle.host_port.specs.Outside.{Outside}
use Rattle.host_port.specs.declared.host.HostFault.{HostFault}
use Rattle.host_port.specs.declared.host.HostFault.TheVariants as host
use Rattle.replayed_run.specs.Replayed.{Replayed}
use Rattle.run_inputs.specs.Conversions.{host_refusal}
use Rattle.run_inputs.specs.Words.{IsWordsCause}
use Rattle.run_inputs.specs.declared.causes.Cause.{Cause}
use Rattle.run_inputs.specs.declared.causes.Cause.TheVariants as cause
use Rattle.run_inputs.specs.declared.refusals.Refusal.{Refusal}
use Rattle.run_inputs.specs.declared.refusals.Refusal.TheVariants as refusal
use Rattle.gdb_command.specs.Debugging.{Carries, HasServedPart, IsRunServed, Obeys}
use Rattle.gdb_command.specs.Reads.{Streams}

-- memory ran out
carries_nothing : (read : Result Taken WordsFault) (h : Outside) (x : Streams) → Carries read (Some (cause.Refused refusal.NoMemory)) h h x x
carries_nothing (Ok t) h x = inr (record { cause = refl; same = refl; idle = refl })
carries_nothing (Err wrong) h x = inr (record { cause = refl; same = refl; idle = refl })

-- something is wrong with them
pub carries_wrong : (read : Result Taken WordsFault) (c : Cause) (h : Outside) (x : Streams) → IsWordsCause read c → Carries read (Some c) h h x x
carries_wrong read (cause.Words told) h x is =
    subst (λ (r : Result Taken WordsFault). Carries r (Some (cause.Words told)) h h x x) (sym is) (inl (record { told = told; is = refl; cause = refl; same = refl; idle = refl }))
carries_wrong read (cause.Refused refusal.NoMemory) h x is = carries_nothing read h x
carries_wrong read other h x is = absurd is

-- nothing is
pub carries_right : (read : Result Taken WordsFault) (t : Taken) (ended : Option Cause) (old new : Outside) (x y : Streams) → read ≡ Ok t → Obeys t ended old new x y → Carries read ended old new x y
carries_right read t ended old new x y is obeys = subst (λ (r : Result Taken WordsFault). Carries r ended old new x y) (sym is) (inl obeys)

-- a run that was served up to a fault
pub served-part : (r : Replayed) (fault : HostFault) (ended : Refusal) (a b : Streams) → ended ≡ host_refusal fault → HasServedPart r a b
    → IsRunServed r (Some ended) a b
served-part r host.Failed ended a b is served = subst (λ (x : Refusal). IsRunServed r (Some x) a b) (sym is) served
served-part r host.NoMemory ended a b is served = subst (λ (x : Refusal). IsRunServed r (Some x) a b) (sym is) served
