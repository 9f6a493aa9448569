use Rattle.std.proofs.Common.{rules, sym, IsSome}
use Rattle.xinu_commands.proofs.PlainSteps.{so_far_steps}
use Rattle.xinu_commands.proofs.SoFar.{so_far_ended, so_far_end, so_far_stopped}
use Rattle.machine.proofs.SoFar.{so_far_start, so_far_event}
use Rattle.xinu_commands.proofs.runs.take_events.Goals as goal

pub loop-machine-init : goal.loop-machine-init
loop-machine-init g c = record {
  running = c.requires.over;
  few = c.requires.few;
  so_far = so_far_start c.args.machine.now.state c.args.schedule.now c.args.out.now (g.H.Host.view c.args.host.now);
}

pub loop-machine-preserved : goal.loop-machine-preserved
loop-machine-preserved g c =
    let steps = so_far_steps _ _ _ _ _ _ _ _ _ _ c.loop-machine.invariant.so_far c.take_steps.ensures.steps in
    record {
      running = c.in-Goes.ensures.over;
      few = search rules;
      so_far = so_far_event c.args.machine.now.state c.args.schedule.now c.take_steps.new.machine.state c.in-Some.event c.next_event.new.self c.take_steps.new.schedule c.event.new.self.state _ _ _ _ _ _
          c.in-Some.ensures.next steps c.event.ensures.happens (sym c.in-Goes.ensures.goes);
    }

pub returns-in-Done : goal.returns-in-Done
returns-in-Done g c =
    let steps = so_far_steps _ _ _ _ _ _ _ _ _ _ c.loop-machine.invariant.so_far c.take_steps.ensures.steps in
    so_far_ended c.args.machine.now.state c.args.schedule.now c.take_steps.new.machine.state c.in-Some.event c.next_event.new.self c.take_steps.new.schedule c.event.new.self.state _ _ _ _ _ _ _
    c.in-Some.ensures.next steps c.event.ensures.happens (sym c.in-Done.ensures.goes)

pub returns-in-Panic : goal.returns-in-Panic
returns-in-Panic g c =
    let steps = so_far_steps _ _ _ _ _ _ _ _ _ _ c.loop-machine.invariant.so_far c.take_steps.ensures.steps in
    so_far_ended c.args.machine.now.state c.args.schedule.now c.take_steps.new.machine.state c.in-Some.event c.next_event.new.self c.take_steps.new.schedule c.event.new.self.state _ _ _ _ _ _ _
    c.in-Some.ensures.next steps c.event.ensures.happens (sym c.in-Panic.ensures.goes)

pub returns-in_default : goal.returns-in_default
returns-in_default g c =
    let steps = so_far_steps _ _ _ _ _ _ _ _ _ _ c.loop-machine.invariant.so_far c.take_steps.ensures.steps in
    so_far_end c.args.machine.now.state c.args.schedule.now c.take_steps.new.machine.state c.take_steps.new.schedule _ _ _ _ c.in_default.ensures.next.0 steps

pub returns : goal.returns
returns g c =
    let failed : IsSome c.loop-machine.out.failure = (let some = c.is_none.ensures in let test = c.loop-machine-test.false in let same = c.failed.ensures.failed in cc) in
    so_far_stopped c.args.machine.now.state c.args.schedule.now c.loop-machine.machine.state c.loop-machine.schedule _ _ _ _ _ failed c.loop-machine.invariant.so_far
