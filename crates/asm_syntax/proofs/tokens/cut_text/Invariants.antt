-- The bytes so far come before what is left.
use Rattle.std.proofs.Common.{◌≡◌, take, drop}
use Rattle.asm_syntax.specs.Tokens.{tokens_from, Inside}
use Rattle.asm_syntax.proofs.TokenLemmas.{prefixed, where_is}
use Rattle.asm_syntax.proofs.tokens.cut_text.Given as goal

abbrev pub invariant-loop-i : goal.invariant-loop-i
invariant-loop-i l = tokens_from Inside l.line ≡ prefixed (take l.i l.line) (tokens_from (where_is l.escaped) (drop l.i l.line))
