-- What a check of a trace deserves once its inputs were read: the trace is the transcript of a run through the events or it isn't, unless it is
-- too long or the machine doesn't start.
use Rattle.std.specs.Prelude.{ℕ, nat_le, Bool, if◌then◌else◌, List, length}
use Rattle.transcript_laws.specs.Transcripts.{checks}
use Rattle.xinu_model.specs.Boot.{Start, Boots, Overlaps, NoRoom, boot_on}
use Rattle.xinu_commands.specs.InputVerdict.{Next}
use Rattle.xinu_commands.specs.Work.{Verdict, Refuses, Does, Judges}
use Rattle.run_inputs.specs.declared.refusals.Refusal.TheVariants as refusal

-- the most bytes of a trace: 64 MiB
abbrev pub longest_trace : ℕ
longest_trace = 67108864

-- the machine starts, and the trace is judged, or it doesn't start
abbrev pub judged_verdict : Start → Bool → Verdict
judged_verdict (Boots start) is_transcript = Does (Judges is_transcript)
judged_verdict (Overlaps i) is_transcript = Refuses (refusal.Overlap i)
judged_verdict (NoRoom i) is_transcript = Refuses (refusal.NoRoom i)

-- A trace that isn't too long is judged, by whether a run prints it.
unfoldable pub trace_verdict : List ℕ → Next
trace_verdict trace events disks images =
    if nat_le (length trace) longest_trace then judged_verdict (boot_on disks images) (checks disks images events trace) else Refuses refusal.TraceTooLong
