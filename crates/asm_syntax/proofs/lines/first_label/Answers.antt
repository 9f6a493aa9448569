-- A label is a name and a colon.
use Rattle.std.proofs.Common.{List, ◌∷◌, ◌∙◌, ap}
use Rattle.asm_syntax.specs.CodeTokens.{seen}
use Rattle.asm_syntax.specs.Tokens.{Token, Word, tokens_of}
use Rattle.asm_syntax.proofs.LineLemmas.{line_in-empty, line_in-unnamed, line_in-no_colon, line_in-label, said_line-empty, said_line-unnamed, said_line-no_colon, said_line-label}
use Rattle.asm_syntax.proofs.lines.first_label.Goals as goal

pub returns-in_err-token-clause-label : goal.returns-in_err-token-clause-label
returns-in_err-token-clause-label c =
    rw c.from_residual.ensures (line_in-empty (tokens_of c.args.line.now) c.in_err-token.ensures.tokens)

pub returns-in_err-name-clause-label : goal.returns-in_err-name-clause-label
returns-in_err-name-clause-label c =
    rw c.from_residual-in_err-name.ensures
    (line_in-unnamed (tokens_of c.args.line.now) (tokens_of c.in_ok-token.rest.now) (seen c.in_ok-token.token) c.in_ok-token.ensures.tokens
    c.in_err-name.ensures.name)

pub returns-in_err-after-clause-label : goal.returns-in_err-after-clause-label
returns-in_err-after-clause-label c =
    rw c.from_residual-in_err-after.ensures
    (line_in-no_colon (tokens_of c.args.line.now) (tokens_of c.in_ok-token.rest.now) c.in_ok-name.name.now
    (c.in_ok-token.ensures.tokens ∙ ap (λ (t : Token). t ∷ tokens_of c.in_ok-token.rest.now) c.in_ok-name.ensures.name)
    c.in_err-after.ensures.colon)

pub returns-clause-label : goal.returns-clause-label
returns-clause-label c =
    line_in-label (tokens_of c.args.line.now) (tokens_of c.in_ok-after.after.now) c.in_ok-name.name.now
    (c.in_ok-token.ensures.tokens ∙ ap (λ (t : Token). t ∷ tokens_of c.in_ok-token.rest.now) c.in_ok-name.ensures.name
    ∙ ap (λ (ts : List Token). Word c.in_ok-name.name.now ∷ ts) c.in_ok-after.ensures.colon)
    c.in_ok-name.ensures.named

pub returns-in_err-token-clause-said : goal.returns-in_err-token-clause-said
returns-in_err-token-clause-said c =
    rw c.from_residual.ensures (said_line-empty (tokens_of c.args.line.now) c.in_err-token.ensures.tokens)

pub returns-in_err-name-clause-said : goal.returns-in_err-name-clause-said
returns-in_err-name-clause-said c =
    rw c.from_residual-in_err-name.ensures
    (said_line-unnamed (tokens_of c.args.line.now) (tokens_of c.in_ok-token.rest.now) (seen c.in_ok-token.token) c.in_ok-token.ensures.tokens
    c.in_err-name.ensures.name)

pub returns-in_err-after-clause-said : goal.returns-in_err-after-clause-said
returns-in_err-after-clause-said c =
    rw c.from_residual-in_err-after.ensures
    (said_line-no_colon (tokens_of c.args.line.now) (tokens_of c.in_ok-token.rest.now) c.in_ok-name.name.now
    (c.in_ok-token.ensures.tokens ∙ ap (λ (t : Token). t ∷ tokens_of c.in_ok-token.rest.now) c.in_ok-name.ensures.name)
    c.in_err-after.ensures.colon)

pub returns-clause-said : goal.returns-clause-said
returns-clause-said c =
    said_line-label (tokens_of c.args.line.now) (tokens_of c.in_ok-after.after.now) c.in_ok-name.name.now
    (c.in_ok-token.ensures.tokens ∙ ap (λ (t : Token). t ∷ tokens_of c.in_ok-token.rest.now) c.in_ok-name.ensures.name
    ∙ ap (λ (ts : List Token). Word c.in_ok-name.name.now ∷ ts) c.in_ok-after.ensures.colon)
    c.in_ok-name.ensures.named
