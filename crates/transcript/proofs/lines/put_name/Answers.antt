use Rattle.std.proofs.Common.{◌∙◌, ◌<◌, ◌++◌, ℕ, List, length, ap, arith}
use Rattle.std.proofs.lemmas.Bool.Decides.{nat_tests}
use Rattle.host_port.specs.LineText.{blanked}
use Rattle.xinu_base.specs.Hexadecimal.{hex_of}
use Rattle.xinu_model.specs.Text.{or_hyphen}
use Rattle.transcript.proofs.Texts.{named}
use Rattle.transcript.proofs.lines.put_name.Goals as goal

pub returns-else-is_empty-clause-put : goal.returns-else-is_empty-clause-put
returns-else-is_empty-clause-put c =
    let some : 0 < length c.before_zero-name.result.now = grind (arith, nat_tests) in
    c.hex.ensures.hex
    ∙ ap (λ (l : List ℕ). l ++ hex_of c.before_zero-name.result.now) c.word-else-is_empty.ensures.word
    ∙ named c.args.text.now c.before_zero-name.result.now some
    ∙ ap (λ (name : List ℕ). blanked c.args.text.now ++ or_hyphen (hex_of name)) c.before_zero-name.ensures.front
