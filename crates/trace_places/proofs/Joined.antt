-- Runs one after another.
use Rattle.std.proofs.Common.{◌∙◌, Bool, true, false, List, [], ◌∷◌, ◌++◌, sym, ap, subst, append_assoc}
use Rattle.xinu_base.specs.declared.events.Event.{Event}
use Rattle.xinu_base.specs.declared.events.End.{End}
use Rattle.xinu_base.specs.declared.events.End.TheVariants.{Schedule}
use Rattle.xinu_base.specs.declared.lines.TranscriptLine.{TranscriptLine}
use Rattle.xinu_model.specs.Events.{panics_in}
use Rattle.xinu_model.specs.Machine.{Xinu}
use Rattle.xinu_model.specs.Runs.{Follows, RunsTo, end_with, is_over}

-- what follows an event that didn't end the run, if what follows the rest is known
follows-joined : (p q : Bool) (xs ys : List Event) (first lines more : List TranscriptLine) (mid here new : Xinu) (end : End)
    → ((rest : List TranscriptLine) → RunsTo mid xs rest here Schedule → RunsTo mid (xs ++ ys) (rest ++ more) new end)
    → Follows (end_with p q) (λ rest. RunsTo mid xs rest here Schedule) first lines mid here Schedule
    → Follows (end_with p q) (λ rest. RunsTo mid (xs ++ ys) rest new end) first (lines ++ more) mid new end
follows-joined true q xs ys first lines more mid here new end goes f = let other = f.2 in absurd (cc)
follows-joined false true xs ys first lines more mid here new end goes f = let other = f.2 in absurd (cc)
follows-joined false false xs ys first lines more mid here new end goes f =
    (f.0 ++ more, goes f.0 f.1, ap (λ (ls : List TranscriptLine). ls ++ more) f.2 ∙ append_assoc first f.0 more)

-- a run that took all its events, and a run from where it led
pub run-joined : (xs ys : List Event) (old here new : Xinu) (lines more : List TranscriptLine) (end : End) → RunsTo old xs lines here Schedule
    → RunsTo here ys more new end → RunsTo old (xs ++ ys) (lines ++ more) new end
run-joined [] ys old here new lines more end run next =
    let P : Xinu → Type 0 = λ s. RunsTo s ys more new end in
    let Q : List TranscriptLine → Type 0 = λ ls. RunsTo old ys (ls ++ more) new end in
    subst Q (sym run.0) (subst P run.1 next)
run-joined (e ∷ xs) ys old here new lines more end run next = (
  run.0,
  run.1,
  run.2,
  follows-joined (panics_in old e) (is_over run.0) xs ys run.1 lines more run.0 here new end
      (λ rest later. run-joined xs ys run.0 here new rest more end later next) run.3,
)
