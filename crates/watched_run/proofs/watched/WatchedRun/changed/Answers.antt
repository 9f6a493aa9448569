-- What the watches have seen.
use Rattle.std.proofs.Common.{◌∙◌, List, ℕ, ap, map}
use Rattle.watched_run.proofs.Changes.{areas-seen, first-changed, have-seen}
use Rattle.watched_run.specs.Watching.{areas_of, first_other, seen}
use Rattle.watched_run.proofs.watched.WatchedRun.changed.Goals as goal

pub returns-clause-first : goal.returns-clause-first
returns-clause-first c = λ memory have.
    let watches = c.args.self.now.points.watches.items in
    c.changed.ensures.first
    ∙ ap (λ (m : List ℕ). first_other m watches) c.ram_of.ensures.ram
    ∙ first-changed memory c.args.self.now.replay.state.memory watches c.ram_of.ensures.whole have

pub returns-clause-seen : goal.returns-clause-seen
returns-clause-seen c =
    let watches = c.args.self.now.points.watches.items in
    have-seen c.args.self.now.replay.state.memory watches c.changed.new.self.watches.items c.ram_of.ensures.whole
    (c.changed.ensures.seen ∙ ap (λ (m : List ℕ). map (seen m) watches) c.ram_of.ensures.ram)

pub returns-clause-areas : goal.returns-clause-areas
returns-clause-areas c = ap areas_of c.changed.ensures.seen ∙ areas-seen c.ram_of.result.now c.args.self.now.points.watches.items
