-- A front with a step more than those within which preemptions may come.
use Rattle.std.proofs.Common.{rules, ◌≡◌, ◌+◌, ◌<◌, true, get_or, take, length, arith}
use Rattle.std.specs.List.{count_by}
use Rattle.std.proofs.lemmas.List.Sums.{count_by_more_yes}
use Rattle.xinu_base.specs.declared.events.Event.TheVariants.{Step}
use Rattle.preemptions.proofs.FrontLemmas.{longer_with_steps}
use Rattle.preemptions.specs.Preempted.{is_step}
use Rattle.preemptions.proofs.fronts.front.Goals as goal

pub returns-then-steps-stretch-clause-parts : goal.returns-then-steps-stretch-clause-parts
returns-then-steps-stretch-clause-parts c =
    let l = c.loop-i in
    let base = c.args.base.now in
    let inside : l.i < length base = omega (arith, c.loop-i-test.true) in
    let step : is_step (get_or base l.i Step) ≡ true = search rules in
    let more : count_by is_step (take (l.i + 1) base) ≡ count_by is_step (take l.i base) + 1 = count_by_more_yes is_step base l.i Step inside step in
    λ n. longer_with_steps (l.i + 1) n c.args.stretch base (omega (arith, more, l.invariant.counted, c.if-steps-stretch.true))
