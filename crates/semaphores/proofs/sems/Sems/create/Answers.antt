use Rattle.std.proofs.Common.{rules, w32}
use Rattle.std.proofs.lemmas.Int.{to_z-of_z}
use mir.Val.{SFits}
use Rattle.semaphores.proofs.Counting.{made}
use Rattle.semaphores.proofs.sems.Sems.create.Goals as goal

pub returns-in-Some-clause-made : goal.returns-in-Some-clause-made
returns-in-Some-clause-made c ls p m ticks k =
    let f : SFits w32 c.args.count = search rules in
    rw (c.set_last.ensures.sems, c.set_entry.ensures.sems, to_z-of_z w32 c.args.count f)
    (made ls p c.args.self.now c.in-Some.sem c.args.owner c.args.count m ticks k c.in-Some.ensures.within c.in-Some.ensures.free)
