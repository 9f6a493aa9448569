-- The stages of an action on a disk, put together.
use Rattle.std.proofs.Common.{◌≡◌, ◌≢◌, ◌∙◌, ℕ, List, [], ◌∷◌, take, Option, Some, None, IsSome, refl, sym, ap, subst, arith}
use Rattle.std.specs.Prelude.{Result, Ok, Err, IsErr, IsErrAnd, option_map}
use Rattle.command_line.specs.Commands.{Disk}
use Rattle.command_line.specs.DiskArgs.{DiskAction, Mkfs, Ls, Get, Put, Check, Repair}
use Rattle.command_line.specs.Reading.{Text}
use Rattle.host_port.specs.Outside.{Outside, HostCall, naming}
use Rattle.host_port.specs.declared.host.Channel.TheVariants.{Disk1}
use Rattle.machine.specs.Printed.{Booted}
use Rattle.lfs_check.specs.Faults.{Refuses as RefusesBy, report}
use Rattle.lfs_check.specs.declared.faults.CheckFault.{CheckFault}
use Rattle.lfs_check.specs.declared.faults.CheckFault.TheVariants as check
use Rattle.lfs_check.specs.declared.faults.DiskFault.{DiskFault}
use Rattle.run_inputs.specs.InputFiles.{file_bytes}
use Rattle.xinu_commands.specs.Calls.{action_fetches, action_outputs, due_by, source_fetches, unless_refused}
use Rattle.run_inputs.specs.Conversions.{check_refusal}
use Rattle.run_inputs.specs.InputDisks.{disk_fault, rule_broken}
use Rattle.xinu_commands.specs.DiskVerdict.{check_verdict, disk_with, file_lines, file_on, get_verdict, ls_verdict, mkfs_verdict, put_verdict, repair_line, repair_verdict, report_line, set_verdict, size_fault, with_disk}
use Rattle.run_inputs.proofs.ImageFiles.{of_error}
use Rattle.run_inputs.specs.Fetching.{IsDecided, IsFetched, refusal_of}
use Rattle.xinu_commands.specs.Stages.{Fetches, IsHostCause, Performs, SendsOutput, SetsFile, Stage, left_of, no_fetches}
use Rattle.xinu_commands.specs.Theorem.{Deserved, HasCalled}
use Rattle.xinu_commands.specs.Verdict.{Input, ScheduleInput, Disk0Input, Disk1Input, ImageInput, TraceInput, DiskInput, SourceInput, action_verdict}
use Rattle.xinu_commands.specs.Work.{Begins, Does, Left, Output, Outputs, Refuses, Verdict, Work, Writes, if_some, output_of}
use Rattle.run_inputs.specs.declared.refusals.Refusal.{Refusal}
use Rattle.run_inputs.specs.declared.refusals.Refusal.TheVariants as refusal
use Rattle.xinu_commands.proofs.Called.{called_first, fetched_then, keeps_both, keeps_refl, nothing_called, undecided}
use Rattle.xinu_commands.proofs.Fetches.{nothing_due, put_fetches}
use Rattle.xinu_commands.proofs.Carried.{carries_as, carries_nothing, carries_within, unsent_refl}
use Rattle.lfs_layout.specs.Images.{opened, repaired}
use Rattle.xinu_commands.proofs.DiskFetched.{put_fetched, source_fetched}
use Rattle.xinu_commands.proofs.DiskVerdicts.{put_sets}
use Rattle.xinu_commands.proofs.Files.{unless_fault_keeps}
use Rattle.run_inputs.proofs.JudgedFiles.{clean_keeps}

-- what holds of a refusal holds of a result that is this refusal
pub of_refused : {T : Type 0} (r : Result T Refusal) (cause : Refusal) (P : Option Refusal → Type 0) → IsErr r → IsErrAnd r (λ x. x ≡ cause) → P (Some cause) → P (refusal_of r)
of_refused (Ok m) cause P err is holds = absurd (cc)
of_refused (Err x) cause P err is holds =
    let Q : Refusal → Type 0 = λ y. P (Some y) in subst Q (sym is) holds

-- the same of a machine that is left
pub of_err : (r : Result Booted Refusal) (cause : Refusal) (P : Option Refusal → Option Left → Type 0) → IsErr r
    → IsErrAnd r (λ x. x ≡ cause) → P (Some cause) None → P (refusal_of r) (left_of r)
of_err r cause P err is holds = of_error r cause (λ x. P (refusal_of x) (left_of x)) err is holds

-- ---- an output

-- why work was ended by the host
pub work_deserved : (work : Work) (ended : Option Refusal) (h k : Outside) → IsHostCause ended h k → Deserved (Does work) ended h k
work_deserved work None h k cause = (work, refl)
work_deserved work (Some refusal.HostFault) h k cause = ((λ same. cc), cause)
work_deserved work (Some refusal.NoMemory) h k cause = tt
work_deserved work (Some other) h k cause = absurd cause

-- an output of the work that was sent carries it out
pub work_stage : (v : Verdict) (work : Work) (output : Output) (outputs : List HostCall) (ended : Option Refusal) (left : Option Left) (h k : Outside) → v ≡ Does work
    → Begins work output → (ended ≡ None → Writes work output left) → (IsSome ended → left ≡ None) → SendsOutput output outputs ended h k
    → Stage v no_fetches outputs ended left h k
work_stage v work output outputs ended left h k is begins writes refused sends =
    let P : Verdict → Type 0 = λ x. HasCalled (due_by no_fetches outputs x) ended h k in record {
      carries = carries_as v (Does work) ended left h k is (record {
        output = output;
        deserved = work_deserved work ended h k sends.cause;
        sends = record { begins = begins; part = sends.part; writes = writes; whole = sends.whole };
        refused = refused;
      });
      calls = subst P (sym is) sends.calls;
      keeps = sends.keeps;
    }

-- an output that was sent carries out the work that it is
pub sent_stage : (v : Verdict) (out : List ℕ) (disk1 image : Option (List ℕ)) (outputs : List HostCall) (ended : Option Refusal) (h k : Outside) → v ≡ Does (Outputs out disk1 image)
    → SendsOutput (output_of out disk1 image) outputs ended h k → Stage v no_fetches outputs ended None h k
sent_stage v out disk1 image outputs ended h k is sends =
    work_stage v (Outputs out disk1 image) (output_of out disk1 image) outputs ended None h k is refl (λ none. record { written = refl; leaves = refl }) (λ some. refl) sends

-- ---- a refusal

-- a decided refusal is the verdict
decided_refuses : (v : Verdict) (r : Refusal) (h k : Outside) → Deserved v (Some r) h k → IsDecided (Some r) → v ≡ Refuses r
decided_refuses v refusal.HostFault h k deserved decided = absurd decided
decided_refuses v refusal.NoMemory h k deserved decided = absurd decided
decided_refuses v other h k deserved decided = deserved

-- A stage is refused before it asked for anything. If that is the verdict, no file is due.
pub refused_stage : (v : Verdict) (fetches : Verdict → List Text) (outputs : List HostCall) (r : Refusal) (h : Outside) → Deserved v (Some r) h h
    → (IsDecided (Some r) → fetches v ≡ []) → Stage v fetches outputs (Some r) None h h
refused_stage v fetches outputs r h deserved none = record {
  carries = carries_nothing v r h h deserved (unsent_refl h);
  calls = nothing_called (due_by fetches outputs v) r h (λ decided. nothing_due fetches outputs v r (decided_refuses v r h h deserved decided) (none decided));
  keeps = keeps_refl h;
}

-- the last stage is refused
pub refused_last : (v : Verdict) (outputs : List HostCall) (r : Refusal) (h : Outside) → Deserved v (Some r) h h → Stage v no_fetches outputs (Some r) None h h
refused_last v outputs r h deserved = refused_stage v no_fetches outputs r h deserved (λ decided. refl)

-- memory ran out
pub memory_stage : (v : Verdict) (fetches : Verdict → List Text) (outputs : List HostCall) (h : Outside) → Stage v fetches outputs (Some refusal.NoMemory) None h h
memory_stage v fetches outputs h = refused_stage v fetches outputs refusal.NoMemory h tt (λ decided. absurd decided)

-- a disk that isn't accepted
pub broken_stage : (v : Verdict) (fetches : Verdict → List Text) (outputs : List HostCall) (e : CheckFault) (f : Option DiskFault) (h : Outside) → RefusesBy f e
    → ((x : DiskFault) → f ≡ Some x → v ≡ Refuses (rule_broken x)) → ((x : DiskFault) → fetches (Refuses (rule_broken x)) ≡ [])
    → Stage v fetches outputs (Some (check_refusal e)) None h h
broken_stage v fetches outputs (check.Broken x) f h is refuses none =
    refused_stage v fetches outputs (rule_broken x) h (refuses x is) (λ decided. ap fetches (refuses x is) ∙ none x)
broken_stage v fetches outputs check.NoMemory f h is refuses none = memory_stage v fetches outputs h

-- ---- a file that was fetched

fetch_deserved : (v : Verdict) (ended : Refusal) (h k : Outside) → v ≢ Refuses refusal.Usage → IsHostCause (Some ended) h k → Deserved v (Some ended) h k
fetch_deserved v refusal.HostFault h k usage cause = (usage, cause)
fetch_deserved v refusal.NoMemory h k usage cause = tt
fetch_deserved v other h k usage cause = absurd cause

-- the host refused to fetch it
pub unfetched_stage : (v : Verdict) (name : Text) (fetches : Verdict → List Text) (outputs : List HostCall) (r : Refusal) (h k : Outside) → v ≢ Refuses refusal.Usage
    → Fetches name (Some r) h k → Stage v (λ x. name ∷ fetches x) outputs (Some r) None h k
unfetched_stage v name fetches outputs r h k usage f = record {
  carries = carries_nothing v r h k (fetch_deserved v r h k usage f.cause) f.unsent;
  calls = called_first name (fetches v) (unless_refused v outputs) r h k f.unsent (undecided r h k f.cause) f.calls;
  keeps = f.keeps;
}

-- it was fetched, and then what is left was carried out
pub fetched_stage : (v : Verdict) (name : Text) (fetches : Verdict → List Text) (outputs : List HostCall) (ended : Option Refusal) (left : Option Left) (h j k : Outside)
    → Fetches name None h j → Stage v fetches outputs ended left j k → Stage v (λ x. name ∷ fetches x) outputs ended left h k
fetched_stage v name fetches outputs ended left h j k f s = record {
  carries = carries_within v ended left h j k k f.unsent f.keeps.later (unsent_refl k) (omega arith) s.carries;
  calls = fetched_then name (fetches v) (unless_refused v outputs) ended h j k f.unsent (f.calls.all tt) s.calls;
  keeps = keeps_both h j k f.keeps s.keeps;
}

-- the same verdict in another form
pub stage_as : (v w : Verdict) (fetches : Verdict → List Text) (outputs : List HostCall) (ended : Option Refusal) (left : Option Left) (h k : Outside) → v ≡ w
    → Stage w fetches outputs ended left h k → Stage v fetches outputs ended left h k
stage_as v w fetches outputs ended left h k is s =
    let P : Verdict → Type 0 = λ x. Stage x fetches outputs ended left h k in subst P (sym is) s

-- the same files in another form
pub stage_due : (v : Verdict) (fetches others : Verdict → List Text) (outputs : List HostCall) (ended : Option Refusal) (left : Option Left) (h k : Outside) → others v ≡ fetches v
    → Stage v fetches outputs ended left h k → Stage v others outputs ended left h k
stage_due v fetches others outputs ended left h k same s =
    let P : List Text → Type 0 = λ files. HasCalled (record { fetches = files; outputs = unless_refused v outputs }) ended h k in
    record { carries = s.carries; calls = subst P (sym same) s.calls; keeps = s.keeps }

-- ---- a whole action

-- the bytes of a disk and of a source
abbrev pub action_files : List ℕ → List ℕ → Input → List ℕ
action_files disk source ScheduleInput = []
action_files disk source Disk0Input = []
action_files disk source Disk1Input = []
action_files disk source (ImageInput i) = []
action_files disk source TraceInput = []
action_files disk source DiskInput = disk
action_files disk source SourceInput = source

-- what an action deserves on a host, with these bytes for the files that can't be observed
abbrev pub verdict_on : DiskAction → List ℕ → List ℕ → Outside → Verdict
verdict_on action disk source h = action_verdict action (λ input name. file_bytes (h.file name) (action_files disk source input))

-- an action that was carried out, by the bytes of its disk and of its source
pub performs_by : (action : DiskAction) (disk source : List ℕ) (ended : Option Refusal) (h k : Outside) → Stage (verdict_on action disk source h) (action_fetches action) (action_outputs action) ended None h k
    → Performs (Some (Disk action)) ended None h k
performs_by action disk source ended h k s = record {
  obeys = record { unseen = action_files disk source; carries = s.carries };
  calls = s.calls;
  keeps = s.keeps;
}

-- ---- no action finds that there is no command

if_some_keeps : {T : Type 0} (cause : Refusal) (o : Option T) (next : T → Verdict) → cause ≢ refusal.Usage → ((x : T) → next x ≢ Refuses refusal.Usage)
    → if_some cause o next ≢ Refuses refusal.Usage
if_some_keeps cause None next other rest is = (let same : cause ≡ refusal.Usage = cc in other same)
if_some_keeps cause (Some x) next other rest is = rest x is

does_keeps : (work : Work) → Does work ≢ Refuses refusal.Usage
does_keeps work is = cc

set_keeps : (name source d : List ℕ) → set_verdict name source d ≢ Refuses refusal.Usage
unfolding set_verdict
set_keeps name source d is =
    if_some_keeps refusal.DoesNotFit (disk_with name source d) (λ made. Does (Outputs [] (Some made) None)) (λ same. cc) (λ made. does_keeps (Outputs [] (Some made) None)) is

pub disk_keeps : (disk : List ℕ) (next : List ℕ → Verdict) → ((d : List ℕ) → next d ≢ Refuses refusal.Usage) → with_disk disk next ≢ Refuses refusal.Usage
disk_keeps disk next rest is = unless_fault_keeps (option_map rule_broken (disk_fault disk)) (Some (opened disk)) next (clean_keeps (disk_fault disk)) rest is

pub action_keeps : (action : DiskAction) (held : Input → Text → List ℕ) → action_verdict action held ≢ Refuses refusal.Usage
unfolding mkfs_verdict ls_verdict get_verdict put_verdict check_verdict repair_verdict
action_keeps (Mkfs blocks out) held is = does_keeps _ is
action_keeps (Ls image) held is = disk_keeps (held DiskInput image) (λ d. Does (Outputs (file_lines d) None None)) (λ d. does_keeps (Outputs (file_lines d) None None)) is
action_keeps (Get image name out) held is =
    disk_keeps (held DiskInput image) (λ d. if_some refusal.NoSuchFile (file_on name d) (λ bytes. Does (Outputs [] None (Some bytes))))
    (λ d. if_some_keeps refusal.NoSuchFile (file_on name d) (λ bytes. Does (Outputs [] None (Some bytes))) (λ same. cc) (λ bytes. does_keeps (Outputs [] None (Some bytes)))) is
action_keeps (Put image name source out) held is =
    disk_keeps (held DiskInput image) (set_verdict name (held SourceInput source)) (λ d. set_keeps name (held SourceInput source) d) is
action_keeps (Check image) held is =
    disk_keeps (held DiskInput image) (λ d. Does (Outputs (report_line (report (held DiskInput image))) None None)) (λ d. does_keeps (Outputs (report_line (report (held DiskInput image))) None None)) is
action_keeps (Repair image out) held is =
    unless_fault_keeps (option_map rule_broken (size_fault (held DiskInput image))) (Some (held DiskInput image)) (λ d. Does (Outputs (repair_line d) (Some (repaired d)) None))
    (clean_keeps (size_fault (held DiskInput image))) (λ d. does_keeps (Outputs (repair_line d) (Some (repaired d)) None)) is

-- ---- an action whose disk was fetched, or not

-- the host refused to fetch the disk
pub unfetched_performs : (action : DiskAction) (name : Text) (fetches : Verdict → List Text) (r : Refusal) (h k : Outside) → ((v : Verdict) → action_fetches action v ≡ name ∷ fetches v)
    → Fetches name (Some r) h k → Performs (Some (Disk action)) (Some r) None h k
unfetched_performs action name fetches r h k is f =
    let v = verdict_on action [] [] h in
    performs_by action [] [] (Some r) h k (stage_due v (λ x. name ∷ fetches x) (action_fetches action) (action_outputs action) (Some r) None h k (is v)
    (unfetched_stage v name fetches (action_outputs action) r h k (action_keeps action _) f))

-- the disk was fetched, and then what is left was carried out
pub fetched_performs : (action : DiskAction) (name : Text) (fetches : Verdict → List Text) (v : List ℕ → Verdict) (source items : List ℕ) (ended : Option Refusal) (h j k : Outside)
    → ((bytes front : List ℕ) → front ≡ take 33557505 bytes → v bytes ≡ v front) → ((v : Verdict) → action_fetches action v ≡ name ∷ fetches v)
    → verdict_on action items source h ≡ v (file_bytes (h.file name) items)
    → IsFetched 33557504 (h.file name) items → Fetches name None h j → Stage (v items) fetches (action_outputs action) ended None j k → Performs (Some (Disk action)) ended None h k
fetched_performs action name fetches v source items ended h j k front is same fetched f s =
    let outputs = action_outputs action in
    let due = verdict_on action items source h in
    performs_by action items source ended h k (stage_due due (λ x. name ∷ fetches x) (action_fetches action) outputs ended None h k (is due)
    (stage_as due (v items) (λ x. name ∷ fetches x) outputs ended None h k (same ∙ front (file_bytes (h.file name) items) items fetched.front)
    (fetched_stage (v items) name fetches outputs ended None h j k f s)))

-- ---- a file that is set

-- the source wasn't fetched
pub source_unfetched : (disk name source out : List ℕ) (r : Refusal) (h k : Outside) → disk_fault disk ≡ None → Fetches source (Some r) h k → SetsFile disk name source out (Some r) h k
source_unfetched disk name source out r h k clean f =
    let bytes = file_bytes (h.file source) [] in
    let v = put_verdict name bytes disk in record {
      unseen = [];
      stage = stage_due v (λ x. source ∷ no_fetches x) (source_fetches source) (naming Disk1 out ∷ []) (Some r) None h k (put_fetches source name bytes disk clean)
          (unfetched_stage v source no_fetches (naming Disk1 out ∷ []) r h k (action_keeps (Put [] name [] out) (λ input text. by_input input bytes disk)) f);
    }
  where
    by_input : Input → List ℕ → List ℕ → List ℕ
    by_input ScheduleInput s d = []
    by_input Disk0Input s d = []
    by_input Disk1Input s d = []
    by_input (ImageInput i) s d = []
    by_input TraceInput s d = []
    by_input DiskInput s d = d
    by_input SourceInput s d = s

-- the source was fetched, and the file set
pub source_set : (disk name source out items : List ℕ) (ended : Option Refusal) (h j k : Outside) → disk_fault disk ≡ None → IsFetched 33557504 (h.file source) items → Fetches source None h j
    → Stage (set_verdict name items (opened disk)) no_fetches (naming Disk1 out ∷ []) ended None j k → SetsFile disk name source out ended h k
source_set disk name source out items ended h j k clean fetched f s =
    let outputs = naming Disk1 out ∷ [] in
    let v = put_verdict name items disk in record {
      unseen = items;
      stage = stage_as (put_verdict name (file_bytes (h.file source) items) disk) v (source_fetches source) outputs ended None h k
          (source_fetched name (file_bytes (h.file source) items) items disk fetched.front)
          (stage_due v (λ x. source ∷ no_fetches x) (source_fetches source) outputs ended None h k (put_fetches source name items disk clean)
          (fetched_stage v source no_fetches outputs ended None h j k f
          (stage_as v (set_verdict name items (opened disk)) no_fetches outputs ended None j k (put_sets name items disk clean) s)));
    }

-- the disk was fetched, and the file set
pub put_performs : (image name source out items : List ℕ) (ended : Option Refusal) (h j k : Outside) → IsFetched 33557504 (h.file image) items → Fetches image None h j
    → SetsFile items name source out ended j k → Performs (Some (Disk (Put image name source out))) ended None h k
put_performs image name source out items ended h j k fetched f s =
    let same : file_bytes (j.file source) s.unseen ≡ file_bytes (h.file source) s.unseen = ap (λ (file : List ℕ → Option (List ℕ)). file_bytes (file source) s.unseen) f.keeps.file in
    let P : List ℕ → Type 0 = λ b. Stage (put_verdict name b items) (source_fetches source) (naming Disk1 out ∷ []) ended None j k in
    let bytes = file_bytes (h.file source) s.unseen in
    fetched_performs (Put image name source out) image (source_fetches source) (put_verdict name bytes) s.unseen items ended h j k (put_fetched name bytes) (λ v. refl) refl fetched f
    (subst P same s.stage)
