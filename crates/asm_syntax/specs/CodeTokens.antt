-- The tokens of the code.
use Rattle.asm_syntax.specs.Tokens as spec
use Rattle.asm_syntax.specs.declared.tokens.Token.{Token}
use Rattle.asm_syntax.specs.declared.tokens.Token.TheVariants.{Blank, Colon, Comma, Word, Quoted, Unclosed}

-- the token that the code has
abbrev pub seen : Token → spec.Token
seen Blank = spec.Blank
seen Colon = spec.Colon
seen Comma = spec.Comma
seen (Word w) = spec.Word w.now
seen (Quoted t) = spec.Quoted t.now
seen Unclosed = spec.Unclosed
