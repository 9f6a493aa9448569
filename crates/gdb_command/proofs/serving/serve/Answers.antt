-- Nothing at first, then a read more, up to one that is the last or is cut off.
use Rattle.std.proofs.Common.{List, ℕ, ◌∙◌, ap, subst, sym}
use Rattle.gdb_command.proofs.Moved.{on-err}
use Rattle.gdb_command.proofs.Reading.{at, counted-streams, cut-streams, drained-streams, empty-partial, ended-streams, goes-no-more, goes-on, read-more, same-streams}
use Rattle.gdb_command.proofs.Streams.{none-read}
use Rattle.gdb_command.specs.Reads.{ServesStreams}
use Rattle.gdb_command.proofs.serving.serve.Goals as goal
use Rattle.gdb_command.proofs.serving.serve.Goals.{else-loop-test, then-loop-test+then-session, then-session-via-else-session+in_ok-serve_once+then-not-branch, then-session-via-then-session}

pub loop-init : goal.loop-init
loop-init g c =
    let s = c.args.session.now in
    let a = at (g.R.Read.remaining c.args.input.now) (g.W.Write.contents c.args.output.now) in
    record {
      serves = subst (λ (l : List ℕ). ServesStreams 0 s s a a l) (sym c.new-pending.ensures.items) (none-read s a);
      waits = λ on. empty-partial c.new-pending.result.items c.new-pending.ensures.items;
    }

pub returns-in_err-serve_once-clause-cut : goal.returns-in_err-serve_once-clause-cut
returns-in_err-serve_once-clause-cut g c =
    on-err c.from_residual.result
    (cut-streams c.loop.counter c.args.session.now c.loop.session (at (g.R.Read.remaining c.args.input.now) (g.W.Write.contents c.args.output.now))
    (at (g.R.Read.remaining c.loop.input) (g.W.Write.contents c.loop.output))
    (at (g.R.Read.remaining c.serve_once.new.input) (g.W.Write.contents c.serve_once.new.output)) c.loop.pending.items c.loop.invariant.serves
    c.if-session.false c.in_err-serve_once.ensures.cut)

pub loop-preserved : goal.loop-preserved
loop-preserved g c =
    let a = at (g.R.Read.remaining c.args.input.now) (g.W.Write.contents c.args.output.now) in
    let b = at (g.R.Read.remaining c.loop.input) (g.W.Write.contents c.loop.output) in
    let d = at (g.R.Read.remaining c.serve_once.new.input) (g.W.Write.contents c.serve_once.new.output) in
    let once = goes-on c.in_ok-serve_once.field-0 c.loop.session c.serve_once.new.session b d c.loop.pending.items c.serve_once.new.pending.items
    c.in_ok-serve_once.ensures.once c.if-not-branch.false in
    record {
      serves = read-more c.loop.counter c.args.session.now c.loop.session c.serve_once.new.session a b d c.loop.pending.items c.serve_once.new.pending.items
          c.loop.invariant.serves c.if-session.false once;
      waits = once.served.waits;
    }

pub returns-clause-serves : goal.returns-clause-serves
returns-clause-serves g c =
    let s = c.args.session.now in
    let a = at (g.R.Read.remaining c.args.input.now) (g.W.Write.contents c.args.output.now) in
    let b = at (g.R.Read.remaining c.loop.input) (g.W.Write.contents c.loop.output) in
    let before = c.loop.invariant in
    elim c.loop-test.branch [
      | else-loop-test w ↦
          same-streams s c.loop.session c.loop-test.session a (g.R.Read.remaining c.loop.input) (g.R.Read.remaining c.loop-test.input)
          (g.W.Write.contents c.loop.output) (g.W.Write.contents c.loop-test.output) w.session-is (ap (λ x. g.R.Read.remaining x) w.input-is)
          (ap (λ x. g.W.Write.contents x) w.output-is)
          (counted-streams c.loop.counter s c.loop.session a b c.loop.pending.items before.serves before.waits w.loop-test.false)
      | then-loop-test+then-session w ↦ elim w.then-session.branch [
        | then-session-via-then-session v ↦
            same-streams s c.loop.session c.loop-test.session a (g.R.Read.remaining c.loop.input) (g.R.Read.remaining c.loop-test.input)
            (g.W.Write.contents c.loop.output) (g.W.Write.contents c.loop-test.output) (w.session-is ∙ v.session-is)
            (ap (λ x. g.R.Read.remaining x) (w.input-is ∙ v.input-is)) (ap (λ x. g.W.Write.contents x) (w.output-is ∙ v.output-is))
            (ended-streams c.loop.counter s c.loop.session a b c.loop.pending.items before.serves v.if-session.true)
        | then-session-via-else-session+in_ok-serve_once+then-not-branch v ↦
            let d = at (g.R.Read.remaining v.serve_once.new.input) (g.W.Write.contents v.serve_once.new.output) in
            same-streams s v.serve_once.new.session c.loop-test.session a (g.R.Read.remaining v.serve_once.new.input) (g.R.Read.remaining c.loop-test.input)
            (g.W.Write.contents v.serve_once.new.output) (g.W.Write.contents c.loop-test.output) (w.session-is ∙ v.session-is)
            (ap (λ x. g.R.Read.remaining x) (w.input-is ∙ v.input-is)) (ap (λ x. g.W.Write.contents x) (w.output-is ∙ v.output-is))
            (drained-streams c.loop.counter s c.loop.session v.serve_once.new.session a b d c.loop.pending.items v.serve_once.new.pending.items before.serves
            before.waits
            (goes-no-more v.in_ok-serve_once.field-0 c.loop.session v.serve_once.new.session b d c.loop.pending.items v.serve_once.new.pending.items
            v.in_ok-serve_once.ensures.once v.if-not-branch.true))
      ]
    ]
