-- What the calls of a host do to the outside.
use Rattle.std.specs.Prelude.{ℕ, Bool, ◌≡◌, ◌+◌, ◌-◌, ◌^◌, ◌≤◌, min, take, List, [], ◌∷◌, Result, IsErrOf, OnOk, OnErr, if◌then◌else◌}
use Rattle.host_port.specs.declared.host.Channel.{Channel}
use Rattle.host_port.specs.declared.host.HostFault.{HostFault}
use Rattle.host_port.specs.declared.host.HostFault.TheVariants.{Failed}
use Rattle.host_port.specs.Outside.{Outside, HostCall, appended, made_empty, with_calls, counted}

-- the count of faults rose, or it is at its greatest value
abbrev pub Rose : ℕ → ℕ → Type 0
Rose before after = min (before + 1) (2 ^ 64 - 1) ≤ after

-- The count of faults didn't fall, and the answer is `Failed` only if it rose.
pub record HasCause {T : Type 0} (before after : ℕ) (result : Result T HostFault) : Type 0 where
  pub later : before ≤ after
  pub failed : IsErrOf result Failed → Rose before after

-- All of the bytes were emitted on the channel at `Ok`, and a prefix of them at a refusal; but for the count of faults nothing
-- else was changed.
pub record Emits {T : Type 0} (old new : Outside) (channel : Channel) (bytes : List ℕ) (result : Result T HostFault) : Type 0 where
  pub whole : OnOk result (new ≡ counted (appended old channel bytes) new.faults)
  pub part : (n : ℕ) × (new ≡ counted (appended old channel (take n bytes)) new.faults)

-- The call was noted, unless memory ran out; but for the count of faults nothing else was changed.
pub record MakesCall {T : Type 0} (old new : Outside) (call : HostCall) (result : Result T HostFault) : Type 0 where
  pub ok : OnOk result (new ≡ counted (with_calls old (call ∷ [])) new.faults)
  pub failed : IsErrOf result Failed → new ≡ counted (with_calls old (call ∷ [])) new.faults
  pub part : (n : ℕ) × (new ≡ counted (with_calls old (take n (call ∷ []))) new.faults)

-- The call was noted, unless memory ran out, and the channel was made empty, at a refusal perhaps not; but for the
-- count of faults nothing else was changed.
pub record NamesFile {T : Type 0} (old new : Outside) (channel : Channel) (call : HostCall) (result : Result T HostFault) : Type 0 where
  pub ok : OnOk result (new ≡ counted (with_calls (made_empty old channel) (call ∷ [])) new.faults)
  pub failed : IsErrOf result Failed → (is_made_empty : Bool) × (new ≡ counted (with_calls (if is_made_empty then made_empty old channel else old) (call ∷ [])) new.faults)
  pub refused : OnErr result ((n : ℕ) × (is_made_empty : Bool) × (new ≡ counted (with_calls (if is_made_empty then made_empty old channel else old) (take n (call ∷ []))) new.faults))
