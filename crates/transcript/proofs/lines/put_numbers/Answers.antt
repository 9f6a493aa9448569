use Rattle.std.proofs.Common.{rules, ◌∙◌, ◌++◌, ap, arith, refl, get_or, ℤ, pos, w64, SFits}
use Rattle.std.specs.Fmt.{signed_decimal}
use Rattle.std.proofs.lemmas.Int.{to_z-of_z}
use Rattle.host_port.specs.LineText.{blanked}
use Rattle.transcript.proofs.Texts.{one_more}
use Rattle.transcript.proofs.lines.put_numbers.Goals as goal

pub loop-number-preserved : goal.loop-number-preserved
loop-number-preserved c =
    let n = get_or c.args.numbers.now c.loop-number.number-index (pos 0) in
    let fits : SFits w64 n = search rules in (
      c.number.ensures.number
          ∙ ap (λ (k : ℤ). blanked c.loop-number.text ++ signed_decimal k) (to_z-of_z w64 n fits)
          ∙ one_more signed_decimal _ c.args.field.now c.args.numbers.now c.loop-number.number-index _ (pos 0) (omega arith) refl c.loop-number.invariant.0,
      omega arith,
    )
