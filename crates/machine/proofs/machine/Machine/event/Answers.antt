use Rattle.std.proofs.Common.{ap, arith, rules, subst}
use Rattle.machine.specs.Apart.{KeepsApart}
use Rattle.machine.specs.Printed.{Booted}
use Rattle.machine.proofs.Apart.{keeps_apart}
use Rattle.machine.proofs.machine.Machine.event.Goals as goal

pub returns-then-ne-clause-apart : goal.returns-then-ne-clause-apart
returns-then-ne-clause-apart g c =
    let e = c.args.event in
    let new = c.happen-panics.new.kernel.came.call.state in
    let event = c.happen-panics.ensures.happens in
    subst (λ (m : Booted). KeepsApart m.state e new) c.self.view_is
    (keeps_apart c.self.inside.kernel.came.call.state e event.lines new c.self.invariant.sound event.happens)

pub returns-else-ne-clause-apart : goal.returns-else-ne-clause-apart
returns-else-ne-clause-apart g c =
    let e = c.args.event in
    let new = c.happen-panics.new.kernel.came.call.state in
    let event = c.happen-panics.ensures.happens in
    subst (λ (m : Booted). KeepsApart m.state e new) c.self.view_is
    (keeps_apart c.self.inside.kernel.came.call.state e event.lines new c.self.invariant.sound event.happens)

pub invariant_of-self : goal.invariant_of-self
invariant_of-self g c =
    let old = c.self.invariant in
    let after = c.happen-panics.ensures in
    let events = ap (λ (b : Booted). b.events) c.self.view_is in
    let ticks = old.ticks in
    let risen = after.ticks in
    let few = c.requires.few in
    record {
      idle = after.idle;
      sound = after.sound;
      holds = c.holds_files.ensures.holds;
      lives = λ e. absurd (cc);
      ticks = omega (arith, ticks, risen);
      numbers = λ q. let n = old.numbers q in let r = after.numbers q in omega (arith, n, r);
      few = omega (arith, events, few);
    }

pub invariant_of-self-else-ne : goal.invariant_of-self-else-ne
invariant_of-self-else-ne g c =
    let old = c.self.invariant in
    let after = c.happen-panics.ensures in
    let events = ap (λ (b : Booted). b.events) c.self.view_is in
    let ticks = old.ticks in
    let risen = after.ticks in
    let few = c.requires.few in
    record {
      idle = after.idle;
      sound = after.sound;
      holds = c.holds_files.ensures.holds;
      lives = search rules;
      ticks = omega (arith, ticks, risen);
      numbers = λ q. let n = old.numbers q in let r = after.numbers q in omega (arith, n, r);
      few = omega (arith, events, few);
    }
