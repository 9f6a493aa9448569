-- The first blank ends the token.
use Rattle.std.proofs.Common.{◌+◌, sym}
use Rattle.std.proofs.lemmas.List.{take_rest}
use Rattle.text_lines.proofs.TokenLemmas.{tokens_of-cut, tokens_of-last, some_there}
use Rattle.text_lines.proofs.lines.cut_token.Goals as goal

pub returns-in-Some-clause-tokens : goal.returns-in-Some-clause-tokens
returns-in-Some-clause-tokens c =
    rw (take_rest c.args.line.now (c.in-Some.i + 1))
    (tokens_of-cut c.args.line.now c.in-Some.i c.requires.starts (sym c.in-Some.ensures.end))

pub returns-in-None-clause-tokens : goal.returns-in-None-clause-tokens
returns-in-None-clause-tokens c =
    tokens_of-last c.args.line.now (some_there c.args.line.now c.requires.starts) (sym c.in-None.ensures.end)
