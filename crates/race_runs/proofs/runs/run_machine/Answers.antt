use Rattle.std.proofs.Common.{rules, ◌≡◌, ◌≢◌, ◌∙◌, ◌++◌, ◌&&◌, ℕ, List, ap, subst, sym}
use Rattle.race_runs.proofs.Finished.{comes-ended, comes-finished, forces-ended, forces-finished}
use Rattle.race_runs.proofs.Texts.{if_ok}
use Rattle.race_runs.proofs.runs.run_machine.Goals.{then-taken, else-taken}
use Rattle.race_runs.proofs.runs.run_machine.Goals as goal
use Rattle.race_runs.specs.Forced.{Forces}
use Rattle.race_runs.specs.Remainders.{IsFinished}
use Rattle.race_runs.specs.Runs.{ComesTo}
use Rattle.race_runs.specs.declared.runs.Ran.{Ran}
use Rattle.race_tables.specs.Outcomes.{outcome_in}
use Rattle.xinu_base.specs.declared.events.End.TheVariants.{Schedule}
use Rattle.xinu_model.specs.Text.{tables_of, text}

pub returns-then-ne-clause-comes : goal.returns-then-ne-clause-comes
returns-then-ne-clause-comes c =
    let old = c.args.machine.now.state in
    let new = c.print_events.new.machine.state in
    let taken = c.in_ok-taken.taken in
    let ended : taken.end ≢ Schedule = search rules in
    if_ok (λ (r : Ran). r.outcome ≡ outcome_in taken.text.items (text (tables_of new)) taken.end) (λ (r : Ran). ComesTo old (c.args.front.now ++ c.args.back.now) r.outcome)
    (λ r is. comes-ended old new c.args.front.now c.args.back.now taken.end taken.text.items r.outcome ended c.in_ok-taken.ensures.prints is)
    c.ended-then-ne.result c.ended-then-ne.ensures.outcome

pub returns-then-ne-clause-forced : goal.returns-then-ne-clause-forced
returns-then-ne-clause-forced c =
    let old = c.args.machine.now.state in
    let new = c.print_events.new.machine.state in
    let taken = c.in_ok-taken.taken in
    let ended : taken.end ≢ Schedule = search rules in
    if_ok (λ (r : Ran). r.is_forced ≡ taken.is_forced) (λ (r : Ran). Forces r.is_forced old (c.args.front.now ++ c.args.back.now))
    (λ r same. forces-ended old new c.args.front.now c.args.back.now taken.end taken.text.items taken.is_forced r.is_forced ended
    c.in_ok-taken.ensures.prints c.in_ok-taken.ensures.forced same)
    c.ended-then-ne.result c.ended-then-ne.ensures.forced

pub returns-clause-comes : goal.returns-clause-comes
returns-clause-comes c =
    let mid = c.print_events.new.machine.state in
    let back = c.args.back.now in
    let taken = c.in_ok-taken.taken in
    let outcome = c.in_ok-rest.rest.outcome in
    let all : taken.end ≡ Schedule = search rules in
    comes-finished c.args.machine.now.state mid c.args.front.now back taken.end taken.text.items outcome all c.in_ok-taken.ensures.prints
    (subst (λ (t : List ℕ). IsFinished t mid back outcome) c.deref.ensures.value c.in_ok-rest.ensures.outcome)

pub returns-clause-forced : goal.returns-clause-forced
returns-clause-forced c =
    let mid = c.print_events.new.machine.state in
    let taken = c.in_ok-taken.taken in
    let later = c.in_ok-rest.rest.is_forced in
    let all : taken.end ≡ Schedule = search rules in
    let both : c.if-taken.result ≡ (taken.is_forced && later) = elim c.if-taken.branch [
      | then-taken w ↦ w.result-is ∙ sym (ap (λ b. b && later) w.if-taken.true)
      | else-taken w ↦ w.result-is ∙ w.if-taken.false ∙ sym (ap (λ b. b && later) w.if-taken.false)
    ] in
    forces-finished c.args.machine.now.state mid c.args.front.now c.args.back.now taken.end taken.text.items taken.is_forced later c.if-taken.result all
    c.in_ok-taken.ensures.prints c.in_ok-taken.ensures.forced c.in_ok-rest.ensures.forced both
