-- What comes of a trace that is judged by inputs that were read.
use Rattle.std.specs.Prelude.{◌≡◌, Bool, List, ℕ, [], ◌∷◌, Some, None, IfOk, Result, Ok, Err}
use Rattle.command_line.specs.CheckArgs.{CheckFiles}
use Rattle.command_line.specs.Commands.{Check}
use Rattle.command_line.specs.Reading.{Text}
use Rattle.host_port.specs.Outside.{Outside}
use Rattle.xinu_commands.specs.InputVerdict.{left_verdict}
use Rattle.run_inputs.specs.Fetching.{refusal_of}
use Rattle.xinu_commands.specs.Stages.{Performs, Stage}
use Rattle.xinu_commands.specs.TraceVerdict.{trace_verdict}
use Rattle.run_inputs.specs.InputFiles.{file_bytes}
use Rattle.xinu_commands.specs.Work.{Does, Judges, Refuses, judgement}
use Rattle.run_inputs.specs.declared.inputs.Inputs.{Inputs}
use Rattle.run_inputs.specs.declared.refusals.Refusal.{Refusal}
use Rattle.run_inputs.specs.declared.refusals.Refusal.TheVariants as refusal

-- The answer is what the trace deserves, or the machine doesn't start; memory may run out at any time.
abbrev pub JudgesTrace : List ℕ → Inputs → Result Bool Refusal → Type 0
JudgesTrace trace x (Ok is_transcript) = left_verdict (trace_verdict trace) x ≡ Does (Judges is_transcript)
JudgesTrace trace x (Err refusal.NoMemory) = Unit {0}
JudgesTrace trace x (Err (refusal.Overlap i)) = left_verdict (trace_verdict trace) x ≡ Refuses (refusal.Overlap i)
JudgesTrace trace x (Err (refusal.NoRoom i)) = left_verdict (trace_verdict trace) x ≡ Refuses (refusal.NoRoom i)
JudgesTrace trace x (Err _) = ⊥

-- The trace in a file was fetched and judged, for some bytes of it if it can't be observed, and the judgement was sent.
pub record ChecksInputs (name : Text) (x : Inputs) (result : Result Bool Refusal) (old new : Outside) : Type 0 where
  pub unseen : List ℕ
  pub stage : Stage (left_verdict (trace_verdict (file_bytes (old.file name) unseen)) x) (λ v. name ∷ []) [] (refusal_of result) None old new
  pub judged : IfOk result (λ is_transcript. left_verdict (trace_verdict (file_bytes (old.file name) unseen)) x ≡ Does (Judges is_transcript))

-- The command was carried out, and the answer is the judgement that was sent.
pub record Checks (c : CheckFiles) (result : Result Bool Refusal) (old new : Outside) : Type 0 where
  pub performs : Performs (Some (Check c)) (refusal_of result) None old new
  pub output : IfOk result (λ is_transcript. performs.obeys.carries.output ≡ judgement is_transcript)
