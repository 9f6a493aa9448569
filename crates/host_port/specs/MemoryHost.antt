-- What the host in memory that fails on demand shows of the outside, and which of its calls fail.
use Rattle.std.specs.Prelude.{ℕ, Bool, ◌≡◌, ◌+◌, ◌-◌, ◌^◌, ◌==◌, ◌||◌, min, not, true, List, [], Some, None, is_some, Result, Ok, Err, IsErr, IsErrOf}
use Rattle.std.specs.List.{list_any}
use Rattle.host_port.specs.declared.host.HostFault.{HostFault}
use Rattle.host_port.specs.declared.host.HostFault.TheVariants.{Failed, NoMemory}
use Rattle.host_port.specs.declared.memory.MemoryHost.{MemoryHost}
use Rattle.host_port.specs.Outside.{Outside, counted}
use Rattle.host_port.specs.QuietHost.{added, added_view}

-- the host: a file that wasn't added is unobservable
abbrev pub memory_view : MemoryHost → Outside
memory_view h = counted (added_view h.quiet) h.faults

-- a host with no files, on which nothing was sent and of which no call was made
abbrev pub memory_empty : Outside
memory_empty = record {
  file = λ name. None;
  out = Some [];
  fault = Some [];
  disk0 = Some [];
  disk1 = Some [];
  image = Some [];
  calls = Some [];
  faults = 0;
}

-- one more, up to the greatest value of the type
abbrev pub one_more : ℕ → ℕ
one_more n = min (n + 1) (2 ^ 64 - 1)

-- whether the call of this number is to fail
abbrev pub fails_at : MemoryHost → ℕ → Bool
fails_at h n = list_any (λ m. m == n) h.failing.items

-- whether the next call is to fail
abbrev pub fails_next : MemoryHost → Bool
fails_next h = fails_at h (one_more h.calls_made)

-- whether the next call fails, if it is a `fetch` of this file
abbrev pub fetch_fails : MemoryHost → List ℕ → Bool
fetch_fails h name = fails_next h || not (is_some (added h.quiet name))

-- the count of faults after a call
abbrev pub faults_after : {T : Type 0} → ℕ → Result T HostFault → ℕ
faults_after faults (Ok x) = faults
faults_after faults (Err Failed) = one_more faults
faults_after faults (Err NoMemory) = faults

-- The call was counted. It was refused if it was to fail, and it answered `Failed` only then. Each failure was counted.
pub record CountsCall {T : Type 0} (old new : MemoryHost) (fails : Bool) (result : Result T HostFault) : Type 0 where
  pub calls : new.calls_made ≡ one_more old.calls_made
  pub numbers : (n : ℕ) → fails_at new n ≡ fails_at old n
  pub faults : new.faults ≡ faults_after old.faults result
  pub refused : fails ≡ true → IsErr result
  pub failed : IsErrOf result Failed → fails ≡ true
