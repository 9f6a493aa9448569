-- One event after another.
use Rattle.std.proofs.Common.{◌≡◌, ◌+◌, ◌∷◌, drop, get_or, sym, arith, refl, add-one, drop-cons, length-drop}
use Rattle.std.proofs.lemmas.List.{drop_all}
use Rattle.xinu_base.specs.declared.events.Event.TheVariants.{Step}
use Rattle.race_runs.proofs.Underway.{taken_end, taken_ended, taken_event, taken_start}
use Rattle.race_runs.proofs.runs.take_events.Goals as goal

pub loop-event-init : goal.loop-event-init
loop-event-init g c = record {
  running = c.requires.over;
  counted = refl;
  taken = taken_start c.args.machine.now.state c.args.events.now c.stays_quiet-is_quiet.result c.args.out.now (g.H.Host.view c.args.host.now)
      c.stays_quiet-is_quiet.ensures.quiet;
}

pub loop-event-preserved : goal.loop-event-preserved
loop-event-preserved g c =
    let l = c.loop-event in
    let all = c.args.events.now in
    let event = get_or all l.event-index Step in
    let left = drop (l.event-index + 1) all in
    let ahead : drop l.event-index all ≡ event ∷ left = rw (add-one, drop-cons all l.event-index Step c.loop-event-test.true) refl in
    let so_many = l.invariant.counted in
    let counted = c.event-go.ensures.counted in
    record {
      running = c.in-Goes.ensures.over;
      counted = omega (arith, so_many, counted, length-drop l.event-index all, length-drop (l.event-index + 1) all, c.loop-event-test.true);
      taken = taken_event c.args.machine.now.state all l.machine.state event left (drop l.event-index all) c.event-go.new.self.state l.is_quiet
          c.stays_quiet-is_quiet-in-loop-event.result _ _ _ _ _ _
          ahead l.invariant.taken c.event-go.ensures.happens (sym c.in-Goes.ensures.goes) c.stays_quiet-is_quiet-in-loop-event.ensures.quiet;
    }

pub returns-in-Done : goal.returns-in-Done
returns-in-Done g c =
    let l = c.loop-event in
    let all = c.args.events.now in
    let event = get_or all l.event-index Step in
    let left = drop (l.event-index + 1) all in
    let ahead : drop l.event-index all ≡ event ∷ left = rw (add-one, drop-cons all l.event-index Step c.loop-event-test.true) refl in
    record {
      prints = taken_ended c.args.machine.now.state all l.machine.state event left (drop l.event-index all) c.event-go.new.self.state _ l.is_quiet
          c.stays_quiet-is_quiet-in-loop-event.result _ _ _ _ _ _
          ahead l.invariant.taken c.event-go.ensures.happens (sym c.in-Done.ensures.goes) c.stays_quiet-is_quiet-in-loop-event.ensures.quiet;
      more = record { running = λ e. absurd (cc); counted = λ e. absurd (cc) };
    }

pub returns-in-Panic : goal.returns-in-Panic
returns-in-Panic g c =
    let l = c.loop-event in
    let all = c.args.events.now in
    let event = get_or all l.event-index Step in
    let left = drop (l.event-index + 1) all in
    let ahead : drop l.event-index all ≡ event ∷ left = rw (add-one, drop-cons all l.event-index Step c.loop-event-test.true) refl in
    record {
      prints = taken_ended c.args.machine.now.state all l.machine.state event left (drop l.event-index all) c.event-go.new.self.state _ l.is_quiet
          c.stays_quiet-is_quiet-in-loop-event.result _ _ _ _ _ _
          ahead l.invariant.taken c.event-go.ensures.happens (sym c.in-Panic.ensures.goes) c.stays_quiet-is_quiet-in-loop-event.ensures.quiet;
      more = record { running = λ e. absurd (cc); counted = λ e. absurd (cc) };
    }

pub returns : goal.returns
returns g c =
    let l = c.loop-event in
    let all = c.args.events.now in
    record {
      prints = taken_end c.args.machine.now.state all l.machine.state (drop l.event-index all) l.is_quiet _ _ _ _ (drop_all l.event-index all (omega arith)) l.invariant.taken;
      more = record {
        running = λ e. l.invariant.running;
        counted = λ e. let so_many = l.invariant.counted in omega (arith, so_many, length-drop l.event-index all);
      };
    }
