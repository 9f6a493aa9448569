-- The events that are left, and a run of those that were taken.
use Rattle.std.proofs.Common.{◌≡◌, ◌∙◌, ◌+◌, ◌≤◌, Bool, false, refl, subst, length, drop, sym, ap, arith, length-drop}
use Rattle.std.proofs.lemmas.List.{drop-drop}
use Rattle.xinu_base.specs.declared.events.Event.TheVariants.{Step}
use Rattle.xinu_model.specs.Machine.{Xinu}
use Rattle.xinu_model.specs.Steps.{stepped_times}
use Rattle.replayed_run.specs.Progress.{TakesSteps}
use Rattle.replayed_run.proofs.Ends.{next-copy}
use Rattle.replayed_run.proofs.Continued.{replayed-steps-to}
use Rattle.replayed_run.proofs.Kept.{kept-grows, kept-length}
use Rattle.replayed_run.proofs.SameRuns.{same-grown}
use Rattle.replayed_run.specs.Replayed.{IsSameRun, Replayed}
use Rattle.replayed_run.proofs.Tells.{silent-kept}
use Rattle.replayed_run.specs.Texts.{kept}
use Rattle.replayed_run.specs.Replays.{replayed_of}
use Rattle.replayed_run.proofs.replay.Replay.take_steps.Goals as goal

pub invariant_of-self : goal.invariant_of-self
invariant_of-self c =
    let r = c.self.inside in
    let i = c.self.invariant in
    let k = c.steps-count.result in
    let texts = c.pass.new.texts in
    let few : k ≤ c.steps_ahead.result = (let most = c.steps-count.ensures.most in let min = c.min-ahead.ensures in (let fewer = c.silent_from.ensures.most in omega (arith, most, min, fewer))) in
    let room : c.steps_ahead.result ≤ length (drop r.taken r.inputs.schedule) = rw (sym i.left) c.steps_ahead.ensures.within in
    record {
      some = i.some;
      few = i.few;
      good = i.good;
      most = i.most;
      within = omega (arith, few, room, length-drop r.taken r.inputs.schedule, i.within);
      left = c.skip.ensures.skips ∙ ap (drop k) i.left ∙ drop-drop k r.taken r.inputs.schedule;
      counted = (let counted = c.steps-count.ensures.counted in let before = i.counted in omega (arith, counted, before));
      over = c.steps-count.ensures.over ∙ sym c.if-self.false;
      no_more = c.pass.ensures.no_more;
      replayed = replayed-steps-to (replayed_of r) k c.steps_ahead.result (drop c.steps_ahead.result r.left) c.steps-count.new.self.state c.steps-count.new.self.over
          (kept texts texts.far) i.replayed
          (i.over ∙ c.if-self.false) few (sym i.left ∙ c.steps_ahead.ensures.ahead) c.steps-count.ensures.plain c.steps-count.ensures.steps c.steps-count.ensures.over
          (silent-kept r.texts texts r.taken k r.is_known c.pass.ensures.keeps (λ m low high. c.silent_from.ensures.silent m low (let most = c.steps-count.ensures.most in omega (arith, high, most)))
          c.pass.ensures.same c.pass.ensures.far);
    }

-- the texts are known of those that were taken
pub pass-requires-clause-reached : goal.pass-requires-clause-reached
pass-requires-clause-reached c =
    let r = c.self.inside in
    λ known. (let within = c.self.invariant.replayed.within known in let many = kept-length r.texts r.texts.far in omega (arith, within, many))

-- the same run
pub returns-clause-same : goal.returns-clause-same
returns-clause-same c =
    let r = c.self.inside in
    let texts = c.pass.new.texts in
    let new : Replayed = record (replayed_of r) {
      taken = r.taken + c.steps-count.result;
      state = c.steps-count.new.self.state;
      over = c.steps-count.new.self.over;
      told = kept texts texts.far;
    } in
    subst (λ (v : Replayed). IsSameRun v new) c.self.view_is
    (same-grown (replayed_of r) new (record { same_disks = refl; same_files = refl; same_events = refl }) (kept-grows r.texts texts c.pass.ensures.keeps) (λ known. known))

-- the steps came next
pub returns-clause-steps : goal.returns-clause-steps
returns-clause-steps c =
    let r = c.self.inside in
    let i = c.self.invariant in
    let k = c.steps-count.result in
    let texts = c.pass.new.texts in
    let end = c.steps-count.new.self in
    let goes_on : r.machine.over ≡ false = i.over ∙ c.if-self.false in
    let few : k ≤ c.steps_ahead.result = (let most = c.steps-count.ensures.most in let min = c.min-ahead.ensures in (let fewer = c.silent_from.ensures.most in omega (arith, most, min, fewer))) in
    let new : Replayed = record (replayed_of r) { taken = r.taken + k; state = end.state; over = end.over; told = kept texts texts.far } in
    subst (λ (v : Replayed). TakesSteps k v new) c.self.view_is
    (record {
      goes_on = λ some. goes_on;
      next = λ n within.
          next-copy Step r.taken n c.steps_ahead.result r.inputs.schedule (drop c.steps_ahead.result r.left) (sym i.left ∙ c.steps_ahead.ensures.ahead)
          (omega (arith, within, few));
      plain = c.steps-count.ensures.plain;
      changes =
          ap (λ (s : Xinu). record (replayed_of r) { taken = r.taken + k; state = s; over = end.over; told = kept texts texts.far }) c.steps-count.ensures.steps
          ∙ ap (λ (o : Bool). record (replayed_of r) { taken = r.taken + k; state = stepped_times k r.machine.state; over = o; told = kept texts texts.far })
          (c.steps-count.ensures.over ∙ sym goes_on);
    })
