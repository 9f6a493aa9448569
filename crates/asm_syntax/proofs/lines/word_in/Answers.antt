-- A word, and what follows it.
use Rattle.std.proofs.Common.{◌∷◌, ◌∙◌, ap}
use Rattle.asm_syntax.specs.CodeTokens.{seen}
use Rattle.asm_syntax.specs.Statements.{said, word_with}
use Rattle.asm_syntax.specs.Tokens.{Token, tokens_of}
use Rattle.asm_syntax.proofs.LineLemmas.{said-skip, said-other, said-word}
use Rattle.asm_syntax.proofs.lines.word_in.Goals as goal

pub returns-in_err-token : goal.returns-in_err-token
returns-in_err-token c = record {
  word =
      rw c.from_residual.ensures (said-skip (tokens_of c.args.line.now) ∙ ap said c.in_err-token.ensures.tokens);
}

pub returns-in_err-name : goal.returns-in_err-name
returns-in_err-name c = record {
  word =
      rw c.from_residual-in_err-name.ensures
      (said-skip (tokens_of c.args.line.now) ∙ ap said c.in_ok-token.ensures.tokens
      ∙ said-other (seen c.in_ok-token.token) (tokens_of c.in_ok-token.rest.now) c.in_ok-token.ensures.solid c.in_err-name.ensures.word);
}

pub returns-in_err-after : goal.returns-in_err-after
returns-in_err-after c = record {
  word =
      rw c.from_residual-in_err-after.ensures
      (said-skip (tokens_of c.args.line.now) ∙ ap said c.in_ok-token.ensures.tokens
      ∙ ap (λ (t : Token). said (t ∷ tokens_of c.in_ok-token.rest.now)) c.in_ok-name.ensures.word
      ∙ said-word c.in_ok-name.name.now (tokens_of c.in_ok-token.rest.now) c.in_ok-name.ensures.named
      ∙ ap (word_with c.in_ok-name.name.now) c.in_err-after.ensures.operands);
}

pub returns : goal.returns
returns c = record {
  word =
      said-skip (tokens_of c.args.line.now) ∙ ap said c.in_ok-token.ensures.tokens
      ∙ ap (λ (t : Token). said (t ∷ tokens_of c.in_ok-token.rest.now)) c.in_ok-name.ensures.word
      ∙ said-word c.in_ok-name.name.now (tokens_of c.in_ok-token.rest.now) c.in_ok-name.ensures.named
      ∙ ap (word_with c.in_ok-name.name.now) c.in_ok-after.ensures.operands;
}
