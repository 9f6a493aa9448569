-- Nothing at first, then a step more, up to one that is the last or is cut off.
use Rattle.std.proofs.Common.{ap}
use Rattle.gdb_command.proofs.Moved.{on-err}
use Rattle.gdb_command.proofs.Reading.{at}
use Rattle.gdb_command.proofs.Refused.{no-steps, same-refused, step-cut, step-last, step-on, steps-counted}
use Rattle.gdb_command.proofs.refusing.refuse_all.Goals as goal
use Rattle.gdb_command.proofs.refusing.refuse_all.Goals.{else-loop-test, then-loop-test+in_ok-refuse_one+then-not-branch}

pub loop-init : goal.loop-init
loop-init g c =
    no-steps c.args.error.now (at (g.R.Read.remaining c.args.input.now) (g.W.Write.contents c.args.output.now)) c.new-pending.result.items
    c.new-pending.ensures.items

pub returns-in_err-refuse_one-clause-cut : goal.returns-in_err-refuse_one-clause-cut
returns-in_err-refuse_one-clause-cut g c =
    on-err c.from_residual.result
    (step-cut c.loop.counter c.args.error.now (at (g.R.Read.remaining c.args.input.now) (g.W.Write.contents c.args.output.now))
    (at (g.R.Read.remaining c.loop.input) (g.W.Write.contents c.loop.output))
    (at (g.R.Read.remaining c.refuse_one.new.input) (g.W.Write.contents c.refuse_one.new.output)) c.loop.pending.items c.loop.invariant
    c.in_err-refuse_one.ensures.cut)

pub loop-preserved : goal.loop-preserved
loop-preserved g c =
    step-on c.loop.counter c.args.error.now c.in_ok-refuse_one.field-0
    (at (g.R.Read.remaining c.args.input.now) (g.W.Write.contents c.args.output.now))
    (at (g.R.Read.remaining c.loop.input) (g.W.Write.contents c.loop.output))
    (at (g.R.Read.remaining c.refuse_one.new.input) (g.W.Write.contents c.refuse_one.new.output)) c.loop.pending.items c.refuse_one.new.pending.items
    c.loop.invariant c.in_ok-refuse_one.ensures.one c.if-not-branch.false

pub returns-clause-refuses : goal.returns-clause-refuses
returns-clause-refuses g c =
    let a = at (g.R.Read.remaining c.args.input.now) (g.W.Write.contents c.args.output.now) in
    let b = at (g.R.Read.remaining c.loop.input) (g.W.Write.contents c.loop.output) in
    elim c.loop-test.branch [
      | else-loop-test w ↦
          same-refused c.args.error.now a (g.R.Read.remaining c.loop.input) (g.R.Read.remaining c.loop-test.input) (g.W.Write.contents c.loop.output)
          (g.W.Write.contents c.loop-test.output) (ap (λ x. g.R.Read.remaining x) w.input-is) (ap (λ x. g.W.Write.contents x) w.output-is)
          (steps-counted c.loop.counter c.args.error.now a b c.loop.pending.items c.loop.invariant w.loop-test.false)
      | then-loop-test+in_ok-refuse_one+then-not-branch w ↦
          let d = at (g.R.Read.remaining w.refuse_one.new.input) (g.W.Write.contents w.refuse_one.new.output) in
          same-refused c.args.error.now a (g.R.Read.remaining w.refuse_one.new.input) (g.R.Read.remaining c.loop-test.input)
          (g.W.Write.contents w.refuse_one.new.output) (g.W.Write.contents c.loop-test.output) (ap (λ x. g.R.Read.remaining x) w.input-is)
          (ap (λ x. g.W.Write.contents x) w.output-is)
          (step-last c.loop.counter c.args.error.now w.in_ok-refuse_one.field-0 a b d c.loop.pending.items w.refuse_one.new.pending.items c.loop.invariant
          w.in_ok-refuse_one.ensures.one w.if-not-branch.true)
    ]
