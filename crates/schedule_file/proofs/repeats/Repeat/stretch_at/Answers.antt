-- A repeat of one event goes on with copies of it, rounds as a round does at what is left of the place.
use Rattle.std.proofs.Common.{◌<◌, arith, length, replicate}
use Rattle.std.proofs.lemmas.List.{length-replicate}
use Rattle.schedule_file.proofs.PlaceLemmas.{comes-replicate}
use Rattle.schedule_file.proofs.RoundLemmas.{length-rounds, rounds_come}
use Rattle.schedule_file.specs.LineKinds.{rounds}
use Rattle.schedule_file.proofs.repeats.Repeat.stretch_at.Goals as goal

pub returns-in-Same-clause-events : goal.returns-in-Same-clause-events
returns-in-Same-clause-events c =
    let n = c.in-Same.count in
    let within : c.args.place < length (replicate n c.in-Same.event) = rw c.in-Same.is at c.requires.within in
    rw c.in-Same.is (comes-replicate n c.args.place c.in-Same.event (omega (arith, length-replicate n c.in-Same.event)))

pub returns-in-Rounds : goal.returns-in-Rounds
returns-in-Rounds c =
    let n = c.in-Rounds.field-0 in
    let next = c.round_stretch.ensures in
    let within : c.args.place < length (rounds n) = rw c.in-Rounds.is at c.requires.within in
    record {
      events = rw c.in-Rounds.is
          (rounds_come n c.args.place c.round_stretch.result.1 c.round_stretch.result.0 (omega (arith, length-rounds n)) (omega arith) next.events);
      within = rw c.in-Rounds.is (omega (arith, length-rounds n));
    }
