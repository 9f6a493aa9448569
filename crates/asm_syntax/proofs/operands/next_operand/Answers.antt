-- A token that is no operand.
use Rattle.asm_syntax.specs.CodeTokens.{seen}
use Rattle.asm_syntax.specs.Tokens.{tokens_of, solid}
use Rattle.asm_syntax.proofs.OperandLemmas.{separated-none}
use Rattle.asm_syntax.proofs.operands.next_operand.Goals as goal

pub returns-in_err-operand-clause-operands : goal.returns-in_err-operand-clause-operands
returns-in_err-operand-clause-operands c =
    rw (c.from_residual-in_err-operand.ensures, c.in_ok-token.ensures.tokens)
    (separated-none (seen c.in_ok-token.token) (solid (tokens_of c.in_ok-token.rest.now)) c.in_err-operand.ensures.operand)
