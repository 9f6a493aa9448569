-- The first byte says what the first token is.
use Rattle.std.proofs.Common.{◌∙◌}
use Rattle.std.proofs.lemmas.List.{take_rest}
use Rattle.asm_syntax.proofs.TokenLemmas.{first_byte}
use Rattle.asm_syntax.proofs.tokens.next_token.Goals as goal

pub returns-in-35-clause-tokens : goal.returns-in-35-clause-tokens
returns-in-35-clause-tokens c = first_byte c.args.line.now _ 35 c.in_ok-first.ensures.value c.in-35.is

pub returns-in-34-clause-tokens : goal.returns-in-34-clause-tokens
returns-in-34-clause-tokens c =
    first_byte c.args.line.now _ 34 c.in_ok-first.ensures.value c.in-34.is ∙ rw (take_rest c.args.line.now 1) at c.cut_text.ensures.tokens

pub returns-in-44-clause-tokens : goal.returns-in-44-clause-tokens
returns-in-44-clause-tokens c = rw (take_rest c.args.line.now 1) (first_byte c.args.line.now _ 44 c.in_ok-first.ensures.value c.in-44.is)

pub returns-in-58-clause-tokens : goal.returns-in-58-clause-tokens
returns-in-58-clause-tokens c = rw (take_rest c.args.line.now 1) (first_byte c.args.line.now _ 58 c.in_ok-first.ensures.value c.in-58.is)

pub returns-in_default-clause-tokens : goal.returns-in_default-clause-tokens
returns-in_default-clause-tokens c = c.cut_word.ensures.tokens
