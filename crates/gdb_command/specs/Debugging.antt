-- The statement of what the command does. Read `Answers`, at the end, first; what a session does is in Serving.antt and Reads.antt.
use Rattle.std.specs.Prelude.{◌≡◌, ◌⊎◌, ℕ, Bool, true, false, List, [], Option, Some, None, Result, Ok, Err, IfErr, map, codes}
use Rattle.command_line.specs.Reading.{Taken, Text}
use Rattle.command_words.specs.ToolNames.{cause_of}
use Rattle.command_words.specs.Tools.{rows_of}
use Rattle.command_words.specs.Words.{WordsFault, words_of}
use Rattle.command_words.specs.declared.tools.Tool.TheVariants.{Gdb}
use Rattle.command_words.specs.declared.words_fault.WordsFault.{WordsFault as WordsFaultValue}
use Rattle.gdb_answers.specs.Threads.{shown_process}
use Rattle.gdb_answers.specs.declared.stops.Stop.TheVariants.{Here}
use Rattle.gdb_command.specs.Held.{held, standing}
use Rattle.gdb_command.specs.Reads.{HasServedSome, HasServedStreams, Streams}
use Rattle.gdb_command.specs.Refusing.{IsRefusedStream, error_packet}
use Rattle.gdb_command.specs.declared.session.Session.{Session}
use Rattle.given_disks.specs.Disks.{disks_of}
use Rattle.host_port.specs.Outside.{Outside}
use Rattle.refusal_words.specs.Meanings.{cause_meaning}
use Rattle.refusal_words.specs.Tellings.{TellsInWords}
use Rattle.replayed_run.specs.Replayed.{HasInputs, Replayed}
use Rattle.run_inputs.specs.Causes.{NamesLast, refusal_in, refused}
use Rattle.run_inputs.specs.Conversions.{boot_refusal}
use Rattle.run_inputs.specs.Reading.{ReadsInputs}
use Rattle.run_inputs.specs.Starts.{IsRefused}
use Rattle.run_inputs.specs.Words.{inputs_in}
use Rattle.run_inputs.specs.declared.causes.Cause.{Cause}
use Rattle.run_inputs.specs.declared.causes.Cause.TheVariants as cause
use Rattle.run_inputs.specs.declared.inputs.Inputs.{Inputs}
use Rattle.run_inputs.specs.declared.refusals.Refusal.{Refusal}
use Rattle.run_inputs.specs.declared.refusals.Refusal.TheVariants as refusal
use Rattle.kernel_boot.specs.declared.initialize.BootFault.{BootFault}

-- ---- the session

-- A session begins with a run: the process is looked at that is shown first.
pub record IsStart (r : Replayed) (start : Session) : Type 0 where
  pub run : start.run.replay ≡ r
  pub stands : held start ≡ standing Here (shown_process r.state.tables) (held start)
  pub fresh : start.sent.items ≡ []
  pub acknowledges : start.has_acks ≡ true
  pub on : start.has_ended ≡ false

-- A session that began with the run served what came to the end.
pub record HasServedRun (r : Replayed) (before after : Streams) : Type 0 where
  pub start : Session
  pub begins : IsStart r start
  pub end : Session
  pub serves : HasServedStreams start end before after

-- A session that began with the run served what came up to a fault.
pub record HasServedPart (r : Replayed) (before after : Streams) : Type 0 where
  pub start : Session
  pub begins : IsStart r start
  pub serves : HasServedSome start before after

-- The run was served: to the end, or up to a fault of a stream or a lack of memory.
abbrev pub IsRunServed : Replayed → Option Refusal → Streams → Streams → Type 0
IsRunServed r None before after = HasServedRun r before after
IsRunServed r (Some refusal.HostFault) before after = HasServedPart r before after
IsRunServed r (Some refusal.NoMemory) before after = HasServedPart r before after
IsRunServed r (Some _) before after = ⊥

-- ---- the inputs

-- It is the run of these inputs, before its first event.
pub record BeginsRun (x : Inputs) (r : Replayed) : Type 0 where
  pub inputs : HasInputs (disks_of x.disk0 x.disk1) (map (λ v. v.items) x.images.items) x.schedule r
  pub none : r.taken ≡ 0
  pub goes_on : r.over ≡ false
  pub known : r.known ≡ true

-- The run of these inputs was served.
pub record Debugs (x : Inputs) (ended : Option Refusal) (before after : Streams) : Type 0 where
  pub run : Replayed
  pub begins : BeginsRun x run
  pub served : IsRunServed run ended before after

-- The images don't boot, or memory ran out; nothing was read or written.
pub record IsUnbooted (x : Inputs) (ended : Option Refusal) (before after : Streams) : Type 0 where
  pub fault : BootFault
  pub cause : ended ≡ Some (boot_refusal fault)
  pub refused : IsRefused (disks_of x.disk0 x.disk1) (map (λ v. v.items) x.images.items) fault
  pub idle : after ≡ before

-- What became of accepted inputs.
abbrev pub Goes : Inputs → Option Refusal → Streams → Streams → Type 0
Goes x ended before after = Debugs x ended before after ⊎ IsUnbooted x ended before after

-- how a call ended
abbrev pub ended_by : {T E : Type 0} → Result T E → Option E
ended_by (Ok x) = None
ended_by (Err e) = Some e

-- The refusal of the inputs is that of the command, and then nothing was read or written; accepted ones were gone on with.
abbrev pub Continues : Result Inputs Cause → Option Cause → Streams → Streams → Type 0
Continues (Err c) ended before after = (ended ≡ Some c) × (after ≡ before)
Continues (Ok x) None before after = Goes x None before after
Continues (Ok x) (Some (cause.Refused r)) before after = Goes x (Some r) before after
Continues (Ok x) (Some _) before after = ⊥

-- ---- the command

-- The inputs were fetched and judged as `run` does it, a file that can't be read is the last that was fetched, and the command went on with them.
pub record Obeys (t : Taken) (ended : Option Cause) (old new : Outside) (before after : Streams) : Type 0 where
  pub inputs : Result Inputs Cause
  pub reads : ReadsInputs (inputs_in t) (refused inputs) old new
  pub last : IfErr inputs (λ c. NamesLast c new)
  pub continues : Continues inputs ended before after

-- Memory ran out before anything was done.
pub record HasNoMemory (ended : Option Cause) (old new : Outside) (before after : Streams) : Type 0 where
  pub cause : ended ≡ Some (cause.Refused refusal.NoMemory)
  pub same : new ≡ old
  pub idle : after ≡ before

-- The arguments are wrong, it is told in which way, and nothing was done.
pub record AsksNothing (wrong : WordsFault) (ended : Option Cause) (old new : Outside) (before after : Streams) : Type 0 where
  pub told : WordsFaultValue
  pub is : wrong ≡ cause_of told
  pub cause : ended ≡ Some (cause.Words told)
  pub same : new ≡ old
  pub idle : after ≡ before

-- The command was carried out as its words ask, if nothing is wrong with them.
abbrev pub Carries : Result Taken WordsFault → Option Cause → Outside → Outside → Streams → Streams → Type 0
Carries (Err wrong) ended old new before after = AsksNothing wrong ended old new before after ⊎ HasNoMemory ended old new before after
Carries (Ok t) ended old new before after = Obeys t ended old new before after ⊎ HasNoMemory ended old new before after

-- the words of the command
abbrev pub usage : List ℕ
usage = codes "--schedule FILE [--disk0 FILE] [--disk1 FILE] IMAGE .."

-- The status is 0 if the session or its input has ended, and else that of the cause, which is told by its text and lines after it.
abbrev pub Tells : Option Cause → ℕ → Outside → Outside → Type 0
Tells None exit mid new = (exit ≡ 0) × (new ≡ mid)
Tells (Some c) exit mid new = TellsInWords (refusal_in c) (cause_meaning usage c) exit mid new

-- whether a cause is that of inputs or arguments that were refused: a fault of the host or of a stream isn't, nor is a lack of memory
abbrev pub is_refused : Cause → Bool
is_refused (cause.Refused refusal.HostFault) = false
is_refused (cause.Refused refusal.NoMemory) = false
is_refused _ = true

-- Each packet is answered with an error, if it is to be so; else nothing is read or written.
abbrev pub RefusesIf : Bool → List ℕ → Streams → Streams → Type 0
RefusesIf true error before after = IsRefusedStream error before after
RefusesIf false error before after = after ≡ before

-- If the inputs or the arguments were refused, each packet is answered with an error that says what the cause means.
abbrev pub IsRefusedTo : Option Cause → Streams → Streams → Type 0
IsRefusedTo None before after = after ≡ before
IsRefusedTo (Some c) before after = RefusesIf (is_refused c) (error_packet (cause_meaning usage c)) before after

-- The theorem. The command was carried out as its arguments ask (`carries`): what was written answers what was read, by a run of the inputs that the
-- files gave. Then, in the world that this left, its end was told by a status, and a cause by its text and lines after it (`tells`), and to the
-- debugger (`refuses`).
pub record Answers (exit : ℕ) (args : List Text) (old new : Outside) (before after : Streams) : Type 0 where
  pub ended : Option Cause
  pub mid : Outside
  pub between : Streams
  pub carries : Carries (words_of (rows_of Gdb) args) ended old mid before between
  pub tells : Tells ended exit mid new
  pub refuses : IsRefusedTo ended between after
