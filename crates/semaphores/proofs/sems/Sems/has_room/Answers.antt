use Rattle.std.proofs.Common.{◌∙◌, not, int_lt, ap, ◌+ℤ◌, pos, rules, w32}
use Rattle.std.proofs.lemmas.Int.{to_z-of_z}
use mir.Val.{SFits}
use Rattle.xinu_model.specs.Semaphores.Counts.{most_tokens}
use Rattle.semaphores.proofs.sems.Sems.has_room.Goals as goal

pub returns-clause-room : goal.returns-clause-room
returns-clause-room c p m ticks =
    let f : SFits w32 c.count.result = search rules in
    c.stays_within.ensures.within
    ∙ ap (λ z. not (int_lt most_tokens (z +ℤ pos c.args.n))) (to_z-of_z w32 c.count.result f ∙ c.count.ensures.count p m ticks)
