-- The word goes to the first byte that ends it.
use Rattle.std.proofs.Common.{sym}
use Rattle.std.proofs.lemmas.List.{take_rest}
use Rattle.asm_syntax.proofs.TokenLemmas.{tokens_of-word, tokens_of-last}
use Rattle.asm_syntax.proofs.tokens.cut_word.Goals as goal

pub returns-in-Some-clause-tokens : goal.returns-in-Some-clause-tokens
returns-in-Some-clause-tokens c =
    rw (take_rest c.args.line.now c.in-Some.i)
    (tokens_of-word c.args.line.now c.in-Some.i c.requires.something c.requires.word (sym c.in-Some.ensures.end))

pub returns-in-None-clause-tokens : goal.returns-in-None-clause-tokens
returns-in-None-clause-tokens c =
    tokens_of-last c.args.line.now c.requires.something c.requires.word (sym c.in-None.ensures.end)
