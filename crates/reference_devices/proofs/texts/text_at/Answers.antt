use Rattle.std.proofs.Common.{◌≡◌, ◌∙◌, arith, ap, drop, subst, sym, take}
use Rattle.std.proofs.lemmas.List.{length-take-le, take_all}
use Rattle.std.specs.Prelude.{IfOk}
use Rattle.xinu_model.specs.Devices.Texts.{text_in}
use Rattle.xinu_model.specs.Machine.{CallState}
use Rattle.reference_devices.proofs.texts.text_at.Goals as goal

pub slice_bounds-text_in-end : goal.slice_bounds-text_in-end
slice_bounds-text_in-end c = let h = c.if-bytes-gt128.true in sym (length-take-le 128 c.bytes_from-bytes.result.now (omega (arith, h)))

pub returns-else-bytes-gt128 : goal.returns-else-bytes-gt128
returns-else-bytes-gt128 c =
    let bytes = c.bytes_from-bytes.result.now in
    let is = c.bytes_from-bytes.ensures.bytes ∙ ap (λ (d : CallState). drop c.args.a d.state.memory) c.m.view_is in
    record {
      text = subst (λ o. IfOk c.text_in-else-bytes-gt128.result (λ t. t ≡ o))
          (ap text_in (sym (take_all 128 bytes c.if-bytes-gt128.false) ∙ ap (take 128) is)) c.text_in-else-bytes-gt128.ensures.text;
    }
