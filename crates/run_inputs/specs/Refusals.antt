-- The refusals: their statuses and what they send on the channel for faults.
use Rattle.std.specs.Prelude.{◌≡◌, ◌≢◌, ◌≤◌, ℕ, List, ◌++◌, take, codes}
use Rattle.std.specs.Fmt.{decimal}
use Rattle.host_port.specs.declared.host.Channel.TheVariants.{Fault}
use Rattle.host_port.specs.HostCalls.{Rose}
use Rattle.host_port.specs.Outside.{Outside, appended, counted}
use Rattle.run_inputs.specs.declared.refusals.Refusal.{Refusal}
use Rattle.run_inputs.specs.declared.refusals.Refusal.TheVariants as refusal

-- the status
abbrev pub status_of : Refusal → ℕ
status_of refusal.Usage = 2
status_of refusal.HostFault = 3
status_of (refusal.Image i f) = 4
status_of (refusal.Schedule l) = 5
status_of (refusal.Disk d b r) = 6
status_of refusal.NoMemory = 7
status_of (refusal.Overlap i) = 8
status_of (refusal.NoRoom i) = 8
status_of (refusal.Asm l f) = 9
status_of refusal.TraceTooLong = 11
status_of refusal.NoSuchFile = 12
status_of refusal.DoesNotFit = 13

-- the text
abbrev pub text_of : Refusal → List ℕ
text_of refusal.Usage = codes "xinu: usage\n"
text_of refusal.HostFault = codes "xinu: host fault\n"
text_of (refusal.Image i f) = codes "xinu: image " ++ decimal i ++ codes " fault " ++ decimal f ++ codes "\n"
text_of (refusal.Schedule l) = codes "xinu: schedule line " ++ decimal l ++ codes "\n"
text_of (refusal.Disk d b r) = codes "xinu: disk " ++ decimal d ++ codes " block " ++ decimal b ++ codes " rule " ++ decimal r ++ codes "\n"
text_of refusal.NoMemory = codes "xinu: no memory\n"
text_of (refusal.Overlap i) = codes "xinu: image " ++ decimal i ++ codes " overlaps\n"
text_of (refusal.NoRoom i) = codes "xinu: no room for image " ++ decimal i ++ codes "\n"
text_of (refusal.Asm l f) = codes "xinu: asm line " ++ decimal l ++ codes " fault " ++ decimal f ++ codes "\n"
text_of refusal.TraceTooLong = codes "xinu: trace too long\n"
text_of refusal.NoSuchFile = codes "xinu: no such file\n"
text_of refusal.DoesNotFit = codes "xinu: does not fit\n"

-- A prefix of the text was sent, and but for the count of faults nothing else changed; it is the whole text unless a fault came or
-- memory ran out.
pub record TellsRefusal (refusal : Refusal) (status : ℕ) (old new : Outside) : Type 0 where
  pub answer : status ≢ 7 → status ≡ status_of refusal
  pub part : (n : ℕ) × (new ≡ counted (appended old Fault (take n (text_of refusal))) new.faults)
  pub whole : status ≢ 7 → (Rose old.faults new.faults → ⊥) → new ≡ counted (appended old Fault (text_of refusal)) new.faults
  pub later : old.faults ≤ new.faults
