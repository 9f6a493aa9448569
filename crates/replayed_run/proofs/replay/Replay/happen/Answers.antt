-- The events that are left, and a run of those that were taken.
use Rattle.std.proofs.Common.{◌+◌, ◌≡◌, refl, ◌∙◌, ◌<◌, false, length, drop, Some, sym, ap, subst, arith}
use Rattle.std.specs.Prelude.{IfOk, is_some, slice_get}
use Rattle.std.proofs.lemmas.List.{drop-drop}
use Rattle.std.proofs.lemmas.Option.{slice_get_within}
use Rattle.replayed_run.proofs.Continued.{replayed-event-to}
use Rattle.replayed_run.specs.Replayed.{IsSameRun, Replayed}
use Rattle.replayed_run.proofs.Kept.{kept-grows, kept-length}
use Rattle.replayed_run.proofs.Others.{other-told}
use Rattle.replayed_run.specs.Progress.{PrintsOther}
use Rattle.replayed_run.proofs.SameRuns.{same-told}
use Rattle.replayed_run.proofs.Tells.{told-kept}
use Rattle.replayed_run.specs.Texts.{kept}
use Rattle.replayed_run.specs.Replays.{replayed_of}
use Rattle.replayed_run.proofs.replay.Replay.happen.Goals as goal

pub invariant_of-self : goal.invariant_of-self
invariant_of-self c =
    let r = c.self.inside in
    let i = c.self.invariant in
    let e = c.take_event-go.ensures in
    let is : c.args.self.now ≡ replayed_of r = sym c.self.view_is in
    let next : slice_get r.inputs.schedule r.taken ≡ Some c.args.event =
    subst (λ (v : Replayed). slice_get v.events v.taken ≡ Some c.args.event) is c.requires.next in
    let goes_on : r.machine.over ≡ false = subst (λ (v : Replayed). v.over ≡ false) is c.requires.goes_on in
    let within : r.taken < length r.inputs.schedule = slice_get_within r.inputs.schedule r.taken c.args.event next in
    record {
      some = i.some;
      few = i.few;
      good = i.good;
      most = i.most;
      within = omega (arith, within);
      left = c.skip.ensures.skips ∙ ap (drop 1) i.left ∙ drop-drop 1 r.taken r.inputs.schedule;
      counted = (let counted = e.counted in let before = i.counted in omega (arith, counted, before));
      over = e.over ∙ sym c.is_end-self-inside.ensures.end;
      no_more = c.tell-told.ensures.no_more;
      replayed = replayed-event-to (replayed_of r) c.args.event e.printed.lines c.take_event-go.new.machine.state c.take_event-go.new.machine.over
          (kept c.tell-told.new.texts c.tell-told.new.texts.far) c.are_known-self-inside.result i.replayed goes_on next e.printed.happens (e.over ∙ ap is_some e.goes)
          (told-kept r.texts c.tell-told.new.texts r.taken r.is_known c.are_known-self-inside.result e.printed.lines c.take_event-go.result.1 c.tell-told.result c.are_known-self-inside.ensures.known
          c.tell-told.ensures.keeps e.printed.bytes c.tell-told.ensures.printed c.tell-told.ensures.told c.tell-told.ensures.far);
    }

-- the texts are known of those that were taken
pub tell-told-requires-clause-reached : goal.tell-told-requires-clause-reached
tell-told-requires-clause-reached c =
    let r = c.self.inside in
    λ known. (let within = c.self.invariant.replayed.within known in let many = kept-length r.texts r.texts.far in omega (arith, within, many))

-- the same run
pub returns-clause-same : goal.returns-clause-same
returns-clause-same c =
    let r = c.self.inside in
    let texts = c.tell-told.new.texts in
    let new : Replayed = record (replayed_of r) {
      taken = r.taken + 1;
      state = c.take_event-go.new.machine.state;
      over = c.take_event-go.new.machine.over;
      told = kept texts texts.far;
      known = c.are_known-self-inside.result;
    } in
    subst (λ (v : Replayed). IfOk c.tell-told.result (λ p. IsSameRun v new)) c.self.view_is
    (same-told c.tell-told.result (replayed_of r) new (record { same_disks = refl; same_files = refl; same_events = refl })
    (kept-grows r.texts texts c.tell-told.ensures.keeps) c.are_known-self-inside.ensures.known)

pub tell-told-requires-clause-fits : goal.tell-told-requires-clause-fits
tell-told-requires-clause-fits c =
    let r = c.self.inside in
    let next : slice_get r.inputs.schedule r.taken ≡ Some c.args.event =
    subst (λ (v : Replayed). slice_get v.events v.taken ≡ Some c.args.event) (sym c.self.view_is) c.requires.next in
    let within = slice_get_within r.inputs.schedule r.taken c.args.event next in
    let most = c.self.invariant.most in
    omega (arith, within, most)

-- it printed something else than before
pub returns-clause-differs : goal.returns-clause-differs
returns-clause-differs c = λ fault.
    let r = c.self.inside in
    let texts = c.tell-told.new.texts in
    let new : Replayed = record (replayed_of r) {
      taken = r.taken + 1;
      state = c.take_event-go.new.machine.state;
      over = c.take_event-go.new.machine.over;
      told = kept texts texts.far;
      known = c.are_known-self-inside.result;
    } in
    let next : slice_get r.inputs.schedule r.taken ≡ Some c.args.event =
    subst (λ (v : Replayed). slice_get v.events v.taken ≡ Some c.args.event) (sym c.self.view_is) c.requires.next in
    subst (λ (v : Replayed). PrintsOther v new) c.self.view_is
    (other-told r.texts (replayed_of r) new c.args.event c.take_event-go.result.1 refl next c.take_event-go.ensures.printed (c.tell-told.ensures.differs fault))
