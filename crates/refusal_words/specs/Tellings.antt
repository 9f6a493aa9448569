-- A refusal that is told: its own text, and a line after it.
use Rattle.std.specs.Prelude.{◌≡◌, ◌≢◌, ◌≤◌, ℕ, List, ◌++◌, take}
use Rattle.host_port.specs.HostCalls.{Rose}
use Rattle.host_port.specs.Outside.{Outside, appended, counted}
use Rattle.host_port.specs.declared.host.Channel.TheVariants.{Fault}
use Rattle.run_inputs.specs.Refusals.{status_of, text_of}
use Rattle.run_inputs.specs.declared.refusals.Refusal.{Refusal}

-- The status is the refusal's, or 7 if memory ran out. A prefix of its text was sent on Fault and a prefix of the line, both whole unless memory
-- ran out or a fault of the host was counted; nothing else changed.
pub record TellsInWords (refusal : Refusal) (line : List ℕ) (status : ℕ) (old new : Outside) : Type 0 where
  pub answer : status ≢ 7 → status ≡ status_of refusal
  pub parts : (n : ℕ) × ((m : ℕ) × (new ≡ counted (appended old Fault (take n (text_of refusal) ++ take m line)) new.faults))
  pub whole : status ≢ 7 → (Rose old.faults new.faults → ⊥) → new ≡ counted (appended old Fault (text_of refusal ++ line)) new.faults
  pub later : old.faults ≤ new.faults
