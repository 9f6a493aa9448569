-- The outside of the machine as a value: the files, what was emitted on each channel, the calls that named a file, the faults.
use Rattle.std.specs.Prelude.{ℕ, ◌≡◌, ◌≢◌, List, [], ◌++◌, Option, Some, None}
use Rattle.host_port.specs.declared.host.Channel.{Channel}
use Rattle.host_port.specs.declared.host.Channel.TheVariants.{Out, Fault, Disk0, Disk1, Image}

-- a call that named a file: of `name_out` with its channel, of `fetch` with none
pub record HostCall : Type 0 where
  pub name : List ℕ
  pub channel : Option Channel

-- A host: the bytes of its files, the bytes on each channel and the calls that named a file, each if it is observable, and
-- how many faults there were.
pub record Outside : Type 0 where
  pub file : List ℕ → Option (List ℕ)
  pub out : Option (List ℕ)
  pub fault : Option (List ℕ)
  pub disk0 : Option (List ℕ)
  pub disk1 : Option (List ℕ)
  pub image : Option (List ℕ)
  pub calls : Option (List HostCall)
  pub faults : ℕ

-- the call of `fetch` that names this file
abbrev pub fetching : List ℕ → HostCall
fetching name = record { name = name; channel = None }

-- the call of `name_out` that names this file for the channel
abbrev pub naming : Channel → List ℕ → HostCall
naming channel name = record { name = name; channel = Some channel }

-- what is observable, with more after it
abbrev pub grown : {T : Type 0} → Option (List T) → List T → Option (List T)
grown None more = None
grown (Some before) more = Some (before ++ more)

-- what is observable, with nothing left of it
abbrev pub emptied_channel : {T : Type 0} → Option (List T) → Option (List T)
emptied_channel None = None
emptied_channel (Some before) = Some []

-- what was emitted on the channel
abbrev pub sent_on : Outside → Channel → Option (List ℕ)
sent_on h Out = h.out
sent_on h Fault = h.fault
sent_on h Disk0 = h.disk0
sent_on h Disk1 = h.disk1
sent_on h Image = h.image

-- these bytes were emitted on the channel, and nothing else was changed
abbrev pub appended : Outside → Channel → List ℕ → Outside
appended h Out bytes = record h { out = grown h.out bytes }
appended h Fault bytes = record h { fault = grown h.fault bytes }
appended h Disk0 bytes = record h { disk0 = grown h.disk0 bytes }
appended h Disk1 bytes = record h { disk1 = grown h.disk1 bytes }
appended h Image bytes = record h { image = grown h.image bytes }

-- the channel was made empty, and nothing else was changed
abbrev pub made_empty : Outside → Channel → Outside
made_empty h Out = record h { out = emptied_channel h.out }
made_empty h Fault = record h { fault = emptied_channel h.fault }
made_empty h Disk0 = record h { disk0 = emptied_channel h.disk0 }
made_empty h Disk1 = record h { disk1 = emptied_channel h.disk1 }
made_empty h Image = record h { image = emptied_channel h.image }

-- these calls were made, and nothing else was changed
abbrev pub with_calls : Outside → List HostCall → Outside
with_calls h calls = record h { calls = grown h.calls calls }

-- the count of faults is this number, and nothing else was changed
abbrev pub counted : Outside → ℕ → Outside
counted h n = record h { faults = n }

-- The file of this name holds these bytes, every other file is as it was, and nothing else was changed.
pub record AddsFile (old new : Outside) (name bytes : List ℕ) : Type 0 where
  pub holds : new.file name ≡ Some bytes
  pub others : (other : List ℕ) → other ≢ name → new.file other ≡ old.file other
  pub rest : new ≡ record old { file = new.file }

-- Nothing was changed.
pub record Stays (old new : Outside) : Type 0 where
  pub files : (name : List ℕ) → new.file name ≡ old.file name
  pub rest : new ≡ record old { file = new.file }

-- a host of which nothing is observable but the count of its faults
abbrev pub unobservable : ℕ → Outside
unobservable faults = record {
  file = λ name. None;
  out = None;
  fault = None;
  disk0 = None;
  disk1 = None;
  image = None;
  calls = None;
  faults = faults;
}
