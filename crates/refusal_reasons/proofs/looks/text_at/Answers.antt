use Rattle.std.proofs.Common.{◌≡◌, ◌∙◌, None, Some, ap, arith, sym, subst, take}
use Rattle.std.proofs.lemmas.List.{length-take-le, take_all}
use Rattle.std.specs.Prelude.{MatchOption}
use Rattle.refusal_reasons.proofs.looks.text_at.Goals as goal
use Rattle.xinu_model.specs.Devices.Texts.{text_in}

pub slice_bounds-text_in-end : goal.slice_bounds-text_in-end
slice_bounds-text_in-end c = let h = c.if-bytes-gt128.true in sym (length-take-le 128 c.bytes_from-bytes.result.now (omega (arith, h)))

pub returns-else-bytes-gt128 : goal.returns-else-bytes-gt128
returns-else-bytes-gt128 c = record {
  text = subst (λ o. MatchOption c.text_in-else-bytes-gt128.result (o ≡ None) (λ t. o ≡ Some t.now))
      (ap text_in (sym (take_all 128 c.bytes_from-bytes.result.now c.if-bytes-gt128.false) ∙ ap (take 128) c.bytes_from-bytes.ensures.bytes))
      c.text_in-else-bytes-gt128.ensures.text;
}
