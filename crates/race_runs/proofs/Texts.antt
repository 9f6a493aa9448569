-- What a new printer sent to a new host is the text of what was printed.
use Rattle.std.proofs.Common.{◌≡◌, ◌∙◌, ℕ, Bool, ◌&&◌, not, List, true, false, None, Ok, Err, Result, refl, sym, ap, subst}
use Rattle.std.specs.Prelude.{IfOk}
use Rattle.std.proofs.lemmas.Bool.{and_parts}
use Rattle.host_port.specs.Outside.{Outside}
use Rattle.host_port.specs.Printing.{Printing, Prints}
use Rattle.host_port.specs.QuietHost.{quiet_empty}
use Rattle.race_runs.proofs.FileLines.{lines_tell}
use Rattle.race_runs.specs.Forced.{Forces, tells_files}
use Rattle.race_runs.specs.Runs.{HasText, RunPrinted}
use Rattle.xinu_base.specs.declared.events.Event.{Event}
use Rattle.xinu_base.specs.declared.events.End.{End}
use Rattle.xinu_base.specs.declared.lines.TranscriptLine.{TranscriptLine}
use Rattle.xinu_model.specs.Machine.{Xinu}
use Rattle.xinu_model.specs.Text.{shown, text}

-- a printer that was refused nothing and prints transcripts
abbrev pub fresh : Printing
fresh = record { plain = false; failure = None }

-- the text of lines that were printed
pub text_printed : (before after : Printing) (was is : Outside) (lines : List TranscriptLine) → before ≡ fresh → was ≡ quiet_empty
    → Prints before after was is (shown before.plain lines) → Prints fresh after quiet_empty is (text lines)
text_printed before after was is lines new empty prints =
    let P : Printing → Type 0 = λ p. Prints p after was is (shown p.plain lines) in
    let Q : Outside → Type 0 = λ o. Prints fresh after o is (text lines) in
    subst Q empty (subst P new prints)

not_true : (b : Bool) → not b ≡ true → b ≡ false
not_true false is = refl
not_true true is = absurd (cc)

-- the text of a run
pub text_of_run : (old new : Xinu) (events : List Event) (end : End) (is_quiet : Bool) (before after : Printing) (was is : Outside) (bytes : List ℕ) → before ≡ fresh
    → was ≡ quiet_empty → ((sent : List ℕ) → Prints fresh after quiet_empty is sent → bytes ≡ sent)
    → RunPrinted old events new end is_quiet before after was is → HasText old events new end bytes
text_of_run old new events end is_quiet before after was is bytes made empty all run = record {
  lines = run.lines;
  runs = run.runs;
  is = all (text run.lines) (text_printed before after was is run.lines made empty run.prints);
}

-- nothing is chosen in a run that was quiet, if its text tells of no call on files
pub forced_by_text : (old new : Xinu) (events : List Event) (end : End) (is_quiet is_forced : Bool) (before after : Printing) (was is : Outside) (bytes : List ℕ) → before ≡ fresh
    → was ≡ quiet_empty → ((sent : List ℕ) → Prints fresh after quiet_empty is sent → bytes ≡ sent)
    → is_forced ≡ (is_quiet && not (tells_files bytes))
    → RunPrinted old events new end is_quiet before after was is → Forces is_forced old events
forced_by_text old new events end is_quiet is_forced before after was is bytes made empty all forced run = record {
  nothing = λ flag.
      let both = and_parts is_quiet (not (tells_files bytes)) (sym forced ∙ flag) in
      let same = all (text run.lines) (text_printed before after was is run.lines made empty run.prints) in
      run.nothing both.0 (lines_tell run.lines (ap tells_files (sym same) ∙ not_true (tells_files bytes) both.1));
}

-- what holds of a result holds of it in a weaker form
pub if_ok : {X E : Type 0} (P Q : X → Type 0) → ((x : X) → P x → Q x) → (r : Result X E) → IfOk r P → IfOk r Q
if_ok P Q gives (Ok x) is = gives x is
if_ok P Q gives (Err e) is = tt
