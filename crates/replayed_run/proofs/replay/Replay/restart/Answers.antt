-- A run before its first event.
use Rattle.std.proofs.Common.{◌∙◌, true, [], refl, sym, ap, subst, arith}
use Rattle.machine.specs.Printed.{Booted}
use Rattle.replayed_run.specs.Replayed.{IsReplayed, Replayed}
use Rattle.replayed_run.specs.Replays.{replayed_of}
use Rattle.run_inputs.specs.Starts.{IsBooted}
use Rattle.xinu_base.specs.declared.events.End.TheVariants.{Schedule}
use Rattle.replayed_run.proofs.replay.Replay.restart.Goals as goal

-- no event was taken
replayed-none : (r : Replayed) (m : Booted) → IsBooted r.disks r.files m → IsReplayed (record r { taken = 0; state = m.state; over = m.over; known = true })
replayed-none r m booted = record {
  start = m.state;
  starts = booted.starts;
  sound = booted.sound;
  lines = [];
  end = Schedule;
  runs = (refl, refl, refl);
  goes_on = λ k. refl;
  ends = λ over. absurd (cc (over, booted.goes_on));
  before = λ n less. absurd (omega (arith, less));
  within = λ k. omega arith;
  printed = λ k. refl;
}

pub invariant_of-self : goal.invariant_of-self
invariant_of-self c =
    let r = c.self.inside in
    let i = c.self.invariant in
    record {
      some = i.some;
      few = i.few;
      good = i.good;
      most = i.most;
      within = omega arith;
      left = c.requires.all ∙ sym (ap (λ (v : Replayed). v.events) c.self.view_is);
      counted = c.requires.booted.none;
      over = c.requires.booted.goes_on;
      no_more = i.no_more;
      replayed =
          replayed-none (replayed_of r) c.args.machine
          (subst (λ (v : Replayed). IsBooted v.disks v.files c.args.machine) (sym c.self.view_is) c.requires.booted);
    }
