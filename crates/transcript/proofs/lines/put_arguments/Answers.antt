use Rattle.std.proofs.Common.{◌∙◌, arith, refl}
use Rattle.xinu_model.specs.Text.{signed_field}
use Rattle.transcript.proofs.Texts.{one_more}
use Rattle.transcript.proofs.lines.put_arguments.Goals as goal

pub loop-arg-preserved : goal.loop-arg-preserved
loop-arg-preserved c =
    (c.put_signed.ensures.put ∙ one_more signed_field _ c.args.text.now c.args.args.now c.loop-arg.arg-index _ 0 (omega arith) refl c.loop-arg.invariant.0, omega arith)
