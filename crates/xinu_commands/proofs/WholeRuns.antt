-- A whole run and a whole check: the inputs are read, and then what is left is carried out.
use Rattle.std.proofs.Common.{◌≡◌, ◌∙◌, ℕ, Bool, List, [], ◌∷◌, Option, Some, None, sym, ap, subst}
use Rattle.std.specs.Prelude.{Result, Ok, Err}
use Rattle.command_line.specs.CheckArgs.{CheckFiles}
use Rattle.command_line.specs.Commands.{Check, Run}
use Rattle.command_line.specs.Reading.{Text}
use Rattle.command_line.specs.RunArgs.{RunFiles}
use Rattle.host_port.specs.Outside.{Outside}
use Rattle.xinu_commands.specs.Calls.{input_fetches, run_outputs}
use Rattle.xinu_commands.specs.InputFiles.{check_inputs, run_inputs}
use Rattle.xinu_commands.specs.Judging.{Checks, ChecksInputs}
use Rattle.run_inputs.proofs.FetchedFiles.{fetched_files}
use Rattle.run_inputs.specs.Fetching.{fetches_due}
use Rattle.run_inputs.specs.Reading.{ReadsInputs}
use Rattle.xinu_commands.specs.InputVerdict.{left_verdict}
use Rattle.xinu_commands.specs.RunVerdict.{run_verdict}
use Rattle.xinu_commands.specs.Stages.{Performs, Stage, no_fetches}
use Rattle.xinu_commands.specs.TraceVerdict.{trace_verdict}
use Rattle.run_inputs.specs.InputFiles.{file_bytes, held}
use Rattle.xinu_commands.specs.Verdict.{Input, ScheduleInput, Disk0Input, Disk1Input, ImageInput, TraceInput, DiskInput, SourceInput, held_verdict, wanted_of}
use Rattle.xinu_commands.specs.Work.{Does, Judges, Left}
use Rattle.run_inputs.specs.declared.inputs.Inputs.{Inputs}
use Rattle.run_inputs.specs.declared.refusals.Refusal.{Refusal}
use Rattle.xinu_commands.proofs.Done.{judged_output}
use Rattle.xinu_commands.proofs.Files.{run_later, trace_later}
use Rattle.xinu_commands.proofs.InputsRead.{inputs_as, inputs_refuse, inputs_then, unseen_by}

-- ---- a run

-- a stage with the verdict on the inputs is the whole run
run_by : (r : RunFiles) (unseen : Input → List ℕ) (ended : Option Refusal) (left : Option Left) (h k : Outside)
    → Stage (held_verdict (run_verdict (wanted_of r)) (run_inputs r) h.file unseen) (input_fetches (run_inputs r) []) (run_outputs r.disks) ended left h k → Performs (Some (Run r)) ended left h k
run_by r unseen ended left h k s = record { obeys = record { unseen = unseen; carries = s.carries }; calls = s.calls; keeps = s.keeps }

-- the inputs weren't read
pub run_refused : (r : RunFiles) (cause : Refusal) (h k : Outside) → ReadsInputs (run_inputs r) (Err cause) h k → Performs (Some (Run r)) (Some cause) None h k
run_refused r cause h k reads =
    run_by r (unseen_by reads.unseen) (Some cause) None h k (inputs_refuse (run_inputs r) (run_verdict (wanted_of r)) [] (run_later (wanted_of r)) cause (run_outputs r.disks) h k reads)

-- they were, and the images ran
pub run_performs : (r : RunFiles) (x : Inputs) (ended : Option Refusal) (left : Option Left) (h j k : Outside) → ReadsInputs (run_inputs r) (Ok x) h j
    → Stage (left_verdict (run_verdict (wanted_of r)) x) no_fetches (run_outputs r.disks) ended left j k → Performs (Some (Run r)) ended left h k
run_performs r x ended left h j k reads stage =
    run_by r (unseen_by reads.unseen) ended left h k (inputs_then (run_inputs r) (run_verdict (wanted_of r)) [] (run_later (wanted_of r)) x h j reads (run_outputs r.disks) ended left k stage)

-- ---- a check

-- these bytes for the trace
abbrev with_trace : List ℕ → (Input → List ℕ) → Input → List ℕ
with_trace trace unseen ScheduleInput = unseen ScheduleInput
with_trace trace unseen Disk0Input = unseen Disk0Input
with_trace trace unseen Disk1Input = unseen Disk1Input
with_trace trace unseen (ImageInput i) = unseen (ImageInput i)
with_trace trace unseen TraceInput = trace
with_trace trace unseen DiskInput = unseen DiskInput
with_trace trace unseen SourceInput = unseen SourceInput

-- a stage with the verdict on the inputs and the trace is the whole check
check_by : (c : CheckFiles) (trace : List ℕ) (unseen : Input → List ℕ) (ended : Option Refusal) (h k : Outside)
    → Stage (held_verdict (trace_verdict (file_bytes (h.file c.trace) trace)) (check_inputs c) h.file unseen) (input_fetches (check_inputs c) (c.trace ∷ [])) [] ended None h k → Performs (Some (Check c)) ended None h k
check_by c trace unseen ended h k s = record { obeys = record { unseen = with_trace trace unseen; carries = s.carries }; calls = s.calls; keeps = s.keeps }

-- the inputs weren't read
pub check_refused : (c : CheckFiles) (cause : Refusal) (h k : Outside) → ReadsInputs (check_inputs c) (Err cause) h k → Checks c (Err cause) h k
check_refused c cause h k reads =
    let trace = file_bytes (h.file c.trace) [] in record {
      performs = check_by c [] (unseen_by reads.unseen) (Some cause) h k (inputs_refuse (check_inputs c) (trace_verdict trace) (c.trace ∷ []) (trace_later trace) cause [] h k reads);
      output = tt;
    }

module _ (c : CheckFiles) (x : Inputs) (h j k : Outside) (reads : ReadsInputs (check_inputs c) (Ok x) h j) where
  -- no file that can be observed changed
  files : j.file ≡ h.file
  files = fetched_files (fetches_due (check_inputs c) (held (check_inputs c) h.file reads.unseen)) None h j reads.fetches

  -- the trace was judged by them, or refused
  judged_by : (ended : Option Refusal) (trace : List ℕ) → Stage (left_verdict (trace_verdict (file_bytes (j.file c.trace) trace)) x) (λ v. c.trace ∷ []) [] ended None j k → Performs (Some (Check c)) ended None h k
  judged_by ended trace stage =
      let Contents : Type 0 = Text → Option (List ℕ) in
      let P : Contents → Type 0 = λ file. Stage (left_verdict (trace_verdict (file_bytes (file c.trace) trace)) x) (λ v. c.trace ∷ []) [] ended None j k in
      let bytes = file_bytes (h.file c.trace) trace in
      check_by c trace (unseen_by reads.unseen) ended h k (inputs_then (check_inputs c) (trace_verdict bytes) (c.trace ∷ []) (trace_later bytes) x h j reads [] ended None k (subst P files stage))

  -- the verdict is that on the trace
  judged_as : (trace : List ℕ) (is_transcript : Bool) → left_verdict (trace_verdict (file_bytes (j.file c.trace) trace)) x ≡ Does (Judges is_transcript)
      → held_verdict (trace_verdict (file_bytes (h.file c.trace) trace)) (check_inputs c) h.file (unseen_by reads.unseen) ≡ Does (Judges is_transcript)
  judged_as trace is_transcript is =
      let bytes = file_bytes (h.file c.trace) trace in
      inputs_as (check_inputs c) (trace_verdict bytes) (c.trace ∷ []) (trace_later bytes) x h j reads
      ∙ ap (λ (file : Text → Option (List ℕ)). left_verdict (trace_verdict (file_bytes (file c.trace) trace)) x) (sym files) ∙ is

  pub check_performs : (result : Result Bool Refusal) → ChecksInputs c.trace x result j k → Checks c result h k
  unfolding judged_by check_by trace_verdict
  check_performs (Err cause) checked = record { performs = judged_by (Some cause) checked.unseen checked.stage; output = tt }
  check_performs (Ok is_transcript) checked =
      let performs = judged_by None checked.unseen checked.stage in record {
        performs = performs;
        output = judged_output (held_verdict (trace_verdict (file_bytes (h.file c.trace) checked.unseen)) (check_inputs c) h.file (unseen_by reads.unseen)) is_transcript None h k performs.obeys.carries
            (judged_as checked.unseen is_transcript checked.judged);
      }
