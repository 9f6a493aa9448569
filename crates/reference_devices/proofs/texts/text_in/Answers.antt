use Rattle.std.proofs.Common.{◌≡◌, ◌∙◌, ◌+◌, ◌==◌, ◌∷◌, add-one, ap, drop, drop-cons, false, get_or, refl, rules, sym}
use Rattle.xinu_model.specs.Devices.Texts.{text_in}
use Rattle.reference_devices.proofs.ReadTexts.{after_bytes, text_more}
use Rattle.reference_devices.proofs.texts.text_in.Goals as goal

pub loop-b-preserved : goal.loop-b-preserved
loop-b-preserved c =
    let l = c.loop-b in
    let bytes = c.args.bytes.now in
    let b = get_or bytes l.b-index 0 in
    let rest = drop (l.b-index + 1) bytes in
    let ahead : drop l.b-index bytes ≡ b ∷ rest = rw (add-one, drop-cons bytes l.b-index 0 c.loop-b-test.true) refl in
    let more : (b == 0) ≡ false = search rules in
    ap (λ r. after_bytes r (text_in rest)) c.in_ok-push.ensures.pushed
    ∙ sym (text_more l.text.items b rest more) ∙ ap (λ d. after_bytes l.text.items (text_in d)) (sym ahead) ∙ l.invariant
