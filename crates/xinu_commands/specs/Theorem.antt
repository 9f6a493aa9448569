-- The main theorem's statement: what the top call does. Read `Answers`, at the end, first; `verdict` is in Verdict.antt, `Writes` in Work.antt.
use Rattle.std.specs.Prelude.{◌≡◌, ◌≢◌, ◌≤◌, ◌<◌, ◌⊎◌, ℕ, List, length, take, Option, Some, None, IsSome, is_some, option_map}
use Rattle.std.specs.List.{filter}
use Rattle.command_line.specs.Commands.{Command}
use Rattle.host_port.specs.HostCalls.{Rose}
use Rattle.host_port.specs.Outside.{Outside, HostCall, emptied_channel, grown}
use Rattle.xinu_commands.specs.Calls.{Due, calls_due, calls_in}
use Rattle.run_inputs.specs.Fetching.{IsDecided}
use Rattle.run_inputs.specs.Refusals.{TellsRefusal}
use Rattle.xinu_commands.specs.Verdict.{Input, verdict}
use Rattle.xinu_commands.specs.Work.{Begins, Does, Left, Output, Refuses, Verdict, Work, Writes}
use Rattle.run_inputs.specs.declared.refusals.Refusal.{Refusal}
use Rattle.run_inputs.specs.declared.refusals.Refusal.TheVariants as refusal

-- Why a command ended as it did. It was done only if its verdict is work. A host fault came only if the count of faults rose, and only
-- in a command; memory may run out at any time; any other refusal came only if it is the verdict.
abbrev pub Deserved : Verdict → Option Refusal → Outside → Outside → Type 0
Deserved v None old new = (work : Work) × (v ≡ Does work)
Deserved v (Some refusal.HostFault) old new = (v ≢ Refuses refusal.Usage) × Rose old.faults new.faults
Deserved v (Some refusal.NoMemory) old new = Unit {0}
Deserved v (Some cause) old new = v ≡ Refuses cause

-- A channel without a file stays as it was; one with a file was made empty and holds the bytes.
abbrev pub IsWhole : Option (List ℕ) → Option (List ℕ) → Option (List ℕ) → Type 0
IsWhole None old new = new ≡ old
IsWhole (Some bytes) old new = new ≡ grown (emptied_channel old) bytes

-- The same up to some moment: the channel is as it was, or was made empty and holds a prefix of the bytes.
abbrev pub IsPart : Option (List ℕ) → Option (List ℕ) → Option (List ℕ) → Type 0
IsPart None old new = new ≡ old
IsPart (Some bytes) old new = (new ≡ old) ⊎ ((n : ℕ) × (new ≡ grown (emptied_channel old) (take n bytes)))

-- The whole output was sent.
pub record IsSent (output : Output) (old new : Outside) : Type 0 where
  pub out : new.out ≡ grown old.out output.out
  pub disk0 : IsWhole output.disk0 old.disk0 new.disk0
  pub disk1 : IsWhole output.disk1 old.disk1 new.disk1
  pub image : IsWhole output.image old.image new.image

-- the calls that named a file for a channel, if calls are observable
abbrev pub namings : Outside → Option (List HostCall)
namings h = option_map (filter (λ (call : HostCall). is_some call.channel)) h.calls

-- No file was named for a channel, and no channel that may have a file changed.
pub record HasNoFile (old new : Outside) : Type 0 where
  pub disk0 : new.disk0 ≡ old.disk0
  pub disk1 : new.disk1 ≡ old.disk1
  pub image : new.image ≡ old.image
  pub names : namings new ≡ namings old

-- Of the output on each channel a prefix was sent. No file is begun before the whole text was sent, and no disk 1 before the whole of disk 0:
-- what the host refuses ends the output.
pub record IsPartSent (output : Output) (old new : Outside) : Type 0 where
  pub out : (n : ℕ) × (new.out ≡ grown old.out (take n output.out))
  pub disk0 : IsPart output.disk0 old.disk0 new.disk0
  pub disk1 : IsPart output.disk1 old.disk1 new.disk1
  pub image : IsPart output.image old.image new.image
  pub text_first : (new.out ≡ grown old.out output.out) ⊎ HasNoFile old new
  pub raw_first : IsWhole output.disk0 old.disk0 new.disk0 ⊎ (new.disk1 ≡ old.disk1)

-- No channel changed but perhaps Fault, and no file was named for one.
pub record IsUnsent (old new : Outside) : Type 0 where
  pub out : new.out ≡ old.out
  pub files : HasNoFile old new

-- Of an output that the work may have a prefix was sent; if the command was done all of the work's output, and what the work leaves is left.
pub record WorkSends (work : Work) (output : Output) (ended : Option Refusal) (left : Option Left) (old new : Outside) : Type 0 where
  pub begins : Begins work output
  pub part : IsPartSent output old new
  pub writes : ended ≡ None → Writes work output left
  pub whole : ended ≡ None → IsSent output old new

-- What is sent by the verdict: nothing if it is a refusal.
abbrev pub Sends : Verdict → Output → Option Refusal → Option Left → Outside → Outside → Type 0
Sends (Refuses cause) output ended left old new = IsUnsent old new
Sends (Does work) output ended left old new = WorkSends work output ended left old new

-- A command with this verdict was carried out, to its end or up to a refusal, which leaves no machine.
pub record Carries (v : Verdict) (ended : Option Refusal) (left : Option Left) (old new : Outside) : Type 0 where
  pub output : Output
  pub deserved : Deserved v ended old new
  pub sends : Sends v output ended left old new
  pub refused : IsSome ended → left ≡ None

-- A command was carried out as its verdict says, for some bytes of the files that can't be observed.
pub record Obeys (command : Option Command) (ended : Option Refusal) (left : Option Left) (old new : Outside) : Type 0 where
  pub unseen : Input → List ℕ
  pub carries : Carries (verdict command old.file unseen) ended left old new

-- What the top call does once the command has ended: nothing, and its status is that of the output, if the command was done; else it tells the
-- refusal.
abbrev pub Tells : Option Refusal → Output → ℕ → Outside → Outside → Type 0
Tells None output exit mid new = (exit ≡ output.status) × (new ≡ mid)
Tells (Some cause) output exit mid new = TellsRefusal cause exit mid new

-- The calls that are due were made in order: all of them, or if the host failed or memory ran out the first ones. No channel but perhaps
-- Fault changed if it ended before the last file was fetched.
pub record HasCalled (due : Due) (ended : Option Refusal) (old new : Outside) : Type 0 where
  pub count : ℕ
  pub first : new.calls ≡ grown old.calls (take count (calls_in due))
  pub all : IsDecided ended → new.calls ≡ grown old.calls (calls_in due)
  pub unsent : count < length due.fetches → IsUnsent old new

-- The theorem. The command was done, or refused for a cause, as it deserves by the bytes of its files (`obeys`), and sent nothing on Fault.
-- Then, in the world that it left, its end was told by a status, and a refusal by its text too. It asked the host for the files that are due by
-- its verdict, in order; no file that can be observed changed, and the count of faults never falls.
pub record Answers (exit : ℕ) (command : Option Command) (old new : Outside) (left : Option Left) : Type 0 where
  pub ended : Option Refusal
  pub mid : Outside
  pub obeys : Obeys command ended left old mid
  pub silent : mid.fault ≡ old.fault
  pub tells : Tells ended obeys.carries.output exit mid new
  pub calls : HasCalled (calls_due command (verdict command old.file obeys.unseen)) ended old new
  pub files : new.file ≡ old.file
  pub faults : old.faults ≤ mid.faults
