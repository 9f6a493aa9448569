-- A word that can't name a statement.
use Rattle.std.proofs.Common.{sym, ◌∙◌}
use Rattle.asm_syntax.specs.Tokens.{tokens_of}
use Rattle.asm_syntax.proofs.LineLemmas.{statement_of-unnamed}
use Rattle.asm_syntax.proofs.lines.statement_from.Goals as goal

pub returns-else-can_name-clause-statement : goal.returns-else-can_name-clause-statement
returns-else-can_name-clause-statement c =
    rw c.in-Word.is
    (statement_of-unnamed c.in-Word.name.now (tokens_of c.args.rest.now) (sym c.can_name.ensures.name ∙ c.if-can_name.false))
