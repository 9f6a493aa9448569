-- The blanks before a statement make no difference.
use Rattle.std.proofs.Common.{sym, ap, ◌∙◌}
use Rattle.asm_syntax.specs.Statements.{statement_of}
use Rattle.asm_syntax.specs.Tokens.{tokens_of}
use Rattle.asm_syntax.proofs.LineLemmas.{statement_of-skip}
use Rattle.asm_syntax.proofs.lines.statement_in.Goals as goal

pub returns-in-Some-clause-statement : goal.returns-in-Some-clause-statement
returns-in-Some-clause-statement c =
    c.statement_from.ensures.statement ∙ sym (statement_of-skip (tokens_of c.args.line.now) ∙ ap statement_of c.in-Some.ensures.tokens)

pub returns-in-None-clause-statement : goal.returns-in-None-clause-statement
returns-in-None-clause-statement c =
    sym (statement_of-skip (tokens_of c.args.line.now) ∙ ap statement_of c.in-None.ensures.tokens)
