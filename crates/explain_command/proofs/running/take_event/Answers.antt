-- The same inputs, whether a step was looked for or not.
use Rattle.std.proofs.Common.{◌≡◌, Some, refl, sym, subst, arith, inl}
use Rattle.explain_command.proofs.Passed.{taken_after}
use Rattle.explain_command.proofs.SameInputs.{inputs_again}
use Rattle.replayed_run.specs.Progress.{TakesEvent, TakesSteps}
use Rattle.replayed_run.specs.Replayed.{HasInputs, Replayed}
use Rattle.explain_command.proofs.running.take_event.Goals.{else-not-is_listed-via-then-not-is_listed+else-take_steps-eq1, else-not-is_listed-via-else-not-is_listed}
use Rattle.explain_command.proofs.running.take_event.Goals as goal

pub returns-clause-inputs : goal.returns-clause-inputs
returns-clause-inputs c =
    let a = c.args.replay.now in
    let b = c.else-not-is_listed.replay in
    let first : HasInputs a.disks a.files a.events b =
    elim c.else-not-is_listed.branch [
      | else-not-is_listed-via-then-not-is_listed+else-take_steps-eq1 w ↦
          subst (λ (r : Replayed). HasInputs a.disks a.files a.events r) (sym w.replay-is) w.take_steps.ensures.inputs
      | else-not-is_listed-via-else-not-is_listed w ↦
          subst (λ (r : Replayed). HasInputs a.disks a.files a.events r) (sym w.replay-is)
          (record { same_disks = refl; same_files = refl; same_events = refl })
    ] in
    inputs_again a b c.happen.new.replay first c.in_ok-shown.ensures.inputs

pub returns-in_err-tables-clause-inputs : goal.returns-in_err-tables-clause-inputs
returns-in_err-tables-clause-inputs c =
    let a = c.args.replay.now in
    let b = c.else-not-is_listed.replay in
    let first : HasInputs a.disks a.files a.events b =
    elim c.else-not-is_listed.branch [
      | else-not-is_listed-via-then-not-is_listed+else-take_steps-eq1 w ↦
          subst (λ (r : Replayed). HasInputs a.disks a.files a.events r) (sym w.replay-is) w.take_steps.ensures.inputs
      | else-not-is_listed-via-else-not-is_listed w ↦
          subst (λ (r : Replayed). HasInputs a.disks a.files a.events r) (sym w.replay-is)
          (record { same_disks = refl; same_files = refl; same_events = refl })
    ] in
    inputs_again a b c.happen.new.replay first c.in_ok-shown.ensures.inputs

pub returns-clause-takes : goal.returns-clause-takes
returns-clause-takes c =
    let a = c.args.replay.now in
    let b = c.else-not-is_listed.replay in
    let new = c.happen.new.replay in
    let printed = Some c.in_ok-shown.shown.taken.printed in
    let takes : TakesEvent a new printed =
    elim c.else-not-is_listed.branch [
      | else-not-is_listed-via-then-not-is_listed+else-take_steps-eq1 w ↦
          let none : w.take_steps.result ≡ 0 = omega (arith, w.take_steps.ensures.most, w.if-take_steps-eq1.false) in
          taken_after a b new printed
          (subst (λ n. TakesSteps n a b) none (subst (λ (r : Replayed). TakesSteps w.take_steps.result a r) (sym w.replay-is) w.take_steps.ensures.steps))
          c.in_ok-shown.ensures.takes
      | else-not-is_listed-via-else-not-is_listed w ↦ subst (λ (r : Replayed). TakesEvent r new printed) w.replay-is c.in_ok-shown.ensures.takes
    ] in
    inl (printed, takes)
