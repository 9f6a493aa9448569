-- What is counted of a whole run, and how many events it has.
use Rattle.std.proofs.Common.{◌≡◌, ◌∙◌, ℕ, List, [], ◌∷◌, ◌++◌, ap}
use Rattle.soak.proofs.Added.{added_to_none, counted_on}
use Rattle.soak.specs.Counting.{CountsEvents}
use Rattle.soak.specs.Soaks.{Soaks}
use Rattle.transcript_laws.specs.Transcripts.{transcript}
use Rattle.workload.specs.Schedules.{events}
use Rattle.workload.specs.Summaries.{Counts, added, counts_of, summary}
use Rattle.xinu_base.specs.declared.events.End.{End}
use Rattle.xinu_base.specs.declared.lines.TranscriptLine.TheVariants as line
use Rattle.xinu_model.specs.Machine.{Xinu}
use Rattle.xinu_model.specs.Text.{tables_of, text}

-- the counts before anything was counted
abbrev pub nothing : Counts
nothing = record { calls = 0; replies = 0; switches = 0; sent = 0 }

-- The line of the first process, those of the events, the tables and the last line were counted one after another.
pub all_counted : (seed taken : ℕ) (start last : Xinu) (end : End) (a b c d e : Counts) (says_line : List ℕ) → a ≡ nothing
    → b ≡ added a (counts_of (text (line.Switch start.tables.current ∷ []))) → CountsEvents taken start (events seed) last end b c
    → d ≡ added c (counts_of (text (tables_of last))) → e ≡ added d (counts_of (text (line.End end ∷ [])))
    → says_line ≡ summary seed taken e end → Soaks seed start says_line last
all_counted seed taken start last end a b c d e says_line is first run tables ended says =
    let head = line.Switch start.tables.current ∷ [] in
    let with_events = counted_on a b c head run.lines first run.counted in
    let with_tables = counted_on a c d (head ++ run.lines) (tables_of last) with_events tables in
    let whole = counted_on a d e (head ++ run.lines ++ tables_of last) (line.End end ∷ []) with_tables ended in
    let counts : e ≡ counts_of (text (transcript start run.lines last end)) = whole ∙ ap (λ (x : Counts). added x (counts_of (text (transcript start run.lines last end)))) is
    ∙ added_to_none (counts_of (text (transcript start run.lines last end))) in
    record {
      taken = taken;
      lines = run.lines;
      end = end;
      runs = run.runs;
      counted = says ∙ ap (λ (x : Counts). summary seed taken x end) counts;
    }
