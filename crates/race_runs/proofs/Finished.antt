-- The outcome of a run from what it printed.
use Rattle.std.proofs.Common.{◌≡◌, ◌∙◌, ℕ, Bool, ◌&&◌, List, [], ◌∷◌, ◌++◌, refl, sym, ap, subst, append_assoc, append-nil}
use Rattle.std.proofs.lemmas.Bool.{and_parts}
use Rattle.race_runs.proofs.Joined.{run-ended, run-joined}
use Rattle.race_runs.proofs.Stretches.{none-ended, none-joined}
use Rattle.race_runs.specs.Forced.{Forces}
use Rattle.race_runs.specs.Remainders.{IsFinished}
use Rattle.race_runs.specs.Runs.{ComesTo, HasText}
use Rattle.race_tables.specs.Outcomes.{Outcome, outcome_in}
use Rattle.xinu_base.specs.declared.events.Event.{Event}
use Rattle.xinu_base.specs.declared.events.End.{End}
use Rattle.xinu_base.specs.declared.events.End.TheVariants.{Schedule}
use Rattle.xinu_base.specs.declared.lines.TranscriptLine.{TranscriptLine}
use Rattle.xinu_model.specs.Machine.{Xinu}
use Rattle.xinu_model.specs.Runs.{RunsTo}
use Rattle.xinu_model.specs.Text.{line_text, tables_of, text}

text_append : (lines more : List TranscriptLine) → text (lines ++ more) ≡ text lines ++ text more
text_append [] more = refl
text_append (line ∷ lines) more =
    ap (λ (t : List ℕ). line_text line ++ t) (text_append lines more) ∙ sym (append_assoc (line_text line) (text lines) (text more))

-- the outcome of a run that took its events, or ended before
has_outcome : (old new : Xinu) (events : List Event) (end : End) (printed : List ℕ) (o : Outcome) (lines : List TranscriptLine) → RunsTo old events lines new end
    → printed ≡ text lines → o ≡ outcome_in printed (text (tables_of new)) end → ComesTo old events o
has_outcome old new events end printed o lines runs is outcome = record {
  lines = lines;
  last = new;
  end = end;
  runs = runs;
  is = ap (λ (t : List ℕ). outcome_in t (text (tables_of new)) end) (sym is) ∙ sym outcome;
}

-- no events are left
pub comes-whole : (old new : Xinu) (front back : List Event) (end : End) (printed : List ℕ) (o : Outcome) → back ≡ [] → HasText old front new end printed
    → o ≡ outcome_in printed (text (tables_of new)) end → ComesTo old (front ++ back) o
comes-whole old new front back end printed o none has outcome =
    subst (λ (es : List Event). ComesTo old es o) (sym (ap (λ (es : List Event). front ++ es) none ∙ append-nil front))
    (has_outcome old new front end printed o has.lines has.runs has.is outcome)

-- the run ended before the events that are left
pub comes-ended : (old new : Xinu) (front back : List Event) (end : End) (printed : List ℕ) (o : Outcome) → (end ≡ Schedule → ⊥) → HasText old front new end printed
    → o ≡ outcome_in printed (text (tables_of new)) end → ComesTo old (front ++ back) o
comes-ended old new front back end printed o ends has outcome =
    has_outcome old new (front ++ back) end printed o has.lines (run-ended front back old new has.lines end ends has.runs) has.is outcome

-- the run goes on
pub comes-finished : (old mid : Xinu) (front back : List Event) (end : End) (printed : List ℕ) (o : Outcome) → end ≡ Schedule → HasText old front mid end printed
    → IsFinished printed mid back o → ComesTo old (front ++ back) o
comes-finished old mid front back end printed o is has f =
    let before : RunsTo old front has.lines mid Schedule = subst (λ (e : End). RunsTo old front has.lines mid e) is has.runs in
    let after = f.goes.has in
    let whole : printed ++ f.rest.printed ≡ text (has.lines ++ after.lines) =
    ap (λ (t : List ℕ). t ++ f.rest.printed) has.is ∙ ap (λ (t : List ℕ). text has.lines ++ t) after.is ∙ sym (text_append has.lines after.lines) in
    record {
      lines = has.lines ++ after.lines;
      last = f.goes.last;
      end = f.rest.end;
      runs = run-joined front back old mid f.goes.last has.lines after.lines f.rest.end before after.runs;
      is = ap (λ (t : List ℕ). outcome_in t (text (tables_of f.goes.last)) f.rest.end) (sym whole)
          ∙ ap (λ (t : List ℕ). outcome_in (printed ++ f.rest.printed) t f.rest.end) (sym f.goes.tables)
          ∙ sym f.is;
    }

-- ---- whether nothing is chosen

-- the run ended before the events that are left
pub forces-ended : (old new : Xinu) (front back : List Event) (end : End) (printed : List ℕ) (is_forced whole : Bool) → (end ≡ Schedule → ⊥)
    → HasText old front new end printed → Forces is_forced old front → whole ≡ is_forced → Forces whole old (front ++ back)
forces-ended old new front back end printed is_forced whole ends has forces same = record {
  nothing = λ flag. none-ended front back old new has.lines end ends has.runs (forces.nothing (sym same ∙ flag));
}

-- the run goes on
pub forces-finished : (old mid : Xinu) (front back : List Event) (end : End) (printed : List ℕ) (first later whole : Bool) → end ≡ Schedule
    → HasText old front mid end printed → Forces first old front → Forces later mid back → whole ≡ (first && later) → Forces whole old (front ++ back)
forces-finished old mid front back end printed first later whole is has forces rest same =
    let before : RunsTo old front has.lines mid Schedule = subst (λ (e : End). RunsTo old front has.lines mid e) is has.runs in
    record {
      nothing = λ flag.
          let both = and_parts first later (sym same ∙ flag) in
          none-joined front back old mid has.lines before (forces.nothing both.0) (rest.nothing both.1);
    }
