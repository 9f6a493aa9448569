-- What a command deserves, a refusal by its cause or work, and what the work puts out.
use Rattle.std.specs.Prelude.{◌≡◌, ℕ, Bool, true, false, codes, List, Option, Some, None, if◌then◌else◌}
use Rattle.given_disks.specs.HeldFiles.{HoldsFiles}
use Rattle.machine.specs.DiskBytes.{raw_bytes}
use Rattle.soak.specs.Soaks.{Soaks}
use Rattle.transcript_laws.specs.Transcripts.{transcript}
use Rattle.xinu_base.specs.declared.events.Event.{Event}
use Rattle.xinu_base.specs.declared.events.End.{End}
use Rattle.xinu_base.specs.declared.lines.TranscriptLine.{TranscriptLine}
use Rattle.xinu_model.specs.Machine.{Xinu}
use Rattle.xinu_model.specs.Runs.{RunsTo}
use Rattle.xinu_model.specs.Text.{shown}
use Rattle.run_inputs.specs.declared.refusals.Refusal.{Refusal}
use Rattle.run_inputs.specs.declared.refusals.Refusal.TheVariants as refusal

-- the exit status, the bytes for Out, and for each channel that has a file its bytes
pub record Output : Type 0 where
  pub status : ℕ
  pub out : List ℕ
  pub disk0 : Option (List ℕ)
  pub disk1 : Option (List ℕ)
  pub image : Option (List ℕ)

-- a status and text on Out, and no file
abbrev pub only_printed : ℕ → List ℕ → Output
only_printed status bytes =
    record { status = status; out = bytes; disk0 = None; disk1 = None; image = None }

-- text on Out, and the bytes of a disk and of another file, each if there is one
abbrev pub output_of : List ℕ → Option (List ℕ) → Option (List ℕ) → Output
output_of out disk1 image = record { status = 0; out = out; disk0 = None; disk1 = disk1; image = image }

-- What is asked of a run: whether its output is plain, which is the bytes of the console alone, and which of its disks are written at
-- its end.
pub record Wanted : Type 0 where
  pub plain : Bool
  pub out0 : Bool
  pub out1 : Bool

-- What a run leaves: the machine's last state, and the bytes of its disk with files.
pub record Left : Type 0 where
  pub state : Xinu
  pub disk1 : List ℕ

-- The work that is due: a run from this start through these events; the soak test of a number from this start; a trace to be judged, by whether it
-- is the transcript of a run; or an output, text with a disk or another file.
pub data Work : Type 0 where
  Runs : (wanted : Wanted) → (start : Xinu) → (events : List Event) → Work
  Soaking : (seed : ℕ) → (start : Xinu) → Work
  Judges : (is_transcript : Bool) → Work
  Outputs : (out : List ℕ) → (disk1 image : Option (List ℕ)) → Work

-- a refusal by its cause, or the work that is due
pub data Verdict : Type 0 where
  Refuses : (cause : Refusal) → Verdict
  Does : (work : Work) → Verdict

-- ---- a stage of a command, and the next

-- A file with a fault is refused; what is read of any other goes on to the next stage. (A file without a fault can be read, so the
-- middle equation is never reached.)
abbrev pub unless_fault : {T : Type 0} → Option Refusal → Option T → (T → Verdict) → Verdict
unless_fault (Some cause) read next = Refuses cause
unless_fault None None next = Refuses refusal.NoMemory
unless_fault None (Some x) next = next x

-- what there is goes on to the next stage; else the command is refused
abbrev pub if_some : {T : Type 0} → Refusal → Option T → (T → Verdict) → Verdict
if_some cause None next = Refuses cause
if_some cause (Some x) next = next x

-- ---- what work puts out

-- The output of a run: what is shown of it; if it is asked for, its raw disk in its last state; and if that is asked for, its disk with files,
-- once the run has come to it.
abbrev pub run_output : Wanted → List ℕ → Xinu → Option (List ℕ) → Output
run_output wanted out last disk1 = record {
  status = 0;
  out = out;
  disk0 = if wanted.out0 then Some (raw_bytes last) else None;
  disk1 = if wanted.out1 then disk1 else None;
  image = None;
}

-- A disk holds the files of a state, if there is one.
abbrev pub IsHeld : Option (List ℕ) → Xinu → Type 0
IsHeld None s = Unit {0}
IsHeld (Some disk) s = HoldsFiles disk s.parts.devices.files

-- The output is that of one run from this start through these events, which leads to this state. The disk with files holds the files of
-- that state.
pub record RunOutput (wanted : Wanted) (start : Xinu) (events : List Event) (output : Output) (last : Xinu) (disk1 : Option (List ℕ)) : Type 0 where
  pub lines : List TranscriptLine
  pub end : End
  pub runs : RunsTo start events lines last end
  pub held : IsHeld disk1 last
  pub written : output ≡ run_output wanted (shown wanted.plain (transcript start lines last end)) last disk1

-- The output is that of a run. It has no disk with files if the run didn't come to it.
pub record RunBegins (wanted : Wanted) (start : Xinu) (events : List Event) (o : Output) : Type 0 where
  pub last : Xinu
  pub disk1 : Option (List ℕ)
  pub output : RunOutput wanted start events o last disk1

-- The output is that of a run. Its last state and its disk with files are left, and it is that disk that is written.
pub record RunWrites (wanted : Wanted) (start : Xinu) (events : List Event) (o : Output) (left : Option Left) : Type 0 where
  pub last : Left
  pub output : RunOutput wanted start events o last.state (Some last.disk1)
  pub leaves : left ≡ Some last

-- The output is the summary of the soak test of a number from this start, which leads to this state.
pub record SoakOutput (seed : ℕ) (start : Xinu) (output : Output) (last : Xinu) : Type 0 where
  pub summary_line : List ℕ
  pub soaks : Soaks seed start summary_line last
  pub written : output ≡ output_of summary_line None None

-- The output is that of a soak test.
pub record SoakBegins (seed : ℕ) (start : Xinu) (o : Output) : Type 0 where
  pub last : Xinu
  pub output : SoakOutput seed start o last

-- The output is that of a soak test, and its last state is left.
pub record SoakWrites (seed : ℕ) (start : Xinu) (o : Output) (left : Option Left) : Type 0 where
  pub last : Left
  pub output : SoakOutput seed start o last.state
  pub leaves : left ≡ Some last

-- the output on a trace: `yes` with status 0 if it is the transcript of a run, else `no` with status 10
abbrev pub judgement : Bool → Output
judgement true = only_printed 0 (codes "yes\n")
judgement false = only_printed 10 (codes "no\n")

-- The output is the judgement on a trace, and no machine is left.
pub record JudgementWrites (is_transcript : Bool) (output : Output) (left : Option Left) : Type 0 where
  pub written : output ≡ judgement is_transcript
  pub leaves : left ≡ None

-- The output is exactly this one, and no machine is left.
pub record OutputWrites (out : List ℕ) (disk1 image : Option (List ℕ)) (output : Output) (left : Option Left) : Type 0 where
  pub written : output ≡ output_of out disk1 image
  pub leaves : left ≡ None

-- What work may put out, up to where it is broken off. It is a relation, since a run may have several outcomes.
abbrev pub Begins : Work → Output → Type 0
Begins (Runs wanted start events) output = RunBegins wanted start events output
Begins (Soaking seed start) output = SoakBegins seed start output
Begins (Judges is_transcript) output = output ≡ judgement is_transcript
Begins (Outputs out disk1 image) output = output ≡ output_of out disk1 image

-- What work puts out, and what it leaves.
abbrev pub Writes : Work → Output → Option Left → Type 0
Writes (Runs wanted start events) output left = RunWrites wanted start events output left
Writes (Soaking seed start) output left = SoakWrites seed start output left
Writes (Judges is_transcript) output left = JudgementWrites is_transcript output left
Writes (Outputs out disk1 image) output left = OutputWrites out disk1 image output left
