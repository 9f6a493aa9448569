-- It was cut off: before it was served, or in its answer.
use Rattle.gdb_command.proofs.Moved.{on-err}
use Rattle.gdb_command.proofs.Reading.{cut-at-once, cut-in-answer, some-read}
use Rattle.gdb_command.proofs.serving.serve_once.Goals as goal

pub returns-in_err-read_more-clause-cut : goal.returns-in_err-read_more-clause-cut
returns-in_err-read_more-clause-cut g c =
    on-err c.from_residual.result
    (cut-at-once c.args.session.now c.args.pending.now.items (g.R.Read.remaining c.args.input.now) (g.R.Read.remaining c.read_more.new.input)
    (g.W.Write.contents c.args.output.now) c.in_err-read_more.ensures.some)

pub returns-in_err-served-clause-cut : goal.returns-in_err-served-clause-cut
returns-in_err-served-clause-cut g c =
    let a = g.R.Read.remaining c.args.input.now in
    let b = g.R.Read.remaining c.read_more.new.input in
    on-err c.from_residual-in_err-served.result
    (cut-at-once c.args.session.now c.args.pending.now.items a b (g.W.Write.contents c.args.output.now)
    (some-read c.args.pending.now.items c.read_more.new.bytes.items a b c.in_ok-read_more.ensures.reads))

pub returns-in_err-write-clause-cut : goal.returns-in_err-write-clause-cut
returns-in_err-write-clause-cut g c =
    let served = c.in_ok-served.served in
    on-err c.from_residual-in_err-write.result
    (cut-in-answer c.args.session.now c.units.new.self c.args.pending.now.items c.read_more.new.bytes.items c.as_slice.result.now served.sent.items
    c.as_slice-2.result.now served.rest.items (g.R.Read.remaining c.args.input.now) (g.R.Read.remaining c.read_more.new.input)
    (g.W.Write.contents c.args.output.now) (g.W.Write.contents c.write.new.output) c.in_ok-read_more.ensures.reads c.as_slice.ensures.value
    c.in_ok-served.ensures.serves c.as_slice-2.ensures.value c.in_err-write.ensures.part)
