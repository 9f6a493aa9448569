-- The blanks at the front are left out.
use Rattle.std.proofs.Common.{sym, ◌∙◌}
use Rattle.std.proofs.lemmas.List.{take_rest}
use Rattle.text_lines.proofs.TokenLemmas.{tokens_of-from, tokens_of-blanks, starts_at}
use Rattle.text_lines.proofs.lines.first_token.Goals as goal

pub returns-in_err-start-clause-tokens : goal.returns-in_err-start-clause-tokens
returns-in_err-start-clause-tokens c =
    rw c.from_residual.ensures (tokens_of-blanks c.args.line.now (sym c.in_err-start.ensures.start))

pub cut_token-requires : goal.cut_token-requires
cut_token-requires c = record {
  starts =
      rw (take_rest c.args.line.now c.in_ok-start.start) (starts_at c.args.line.now c.in_ok-start.start (sym c.in_ok-start.ensures.start));
}

pub returns-clause-tokens : goal.returns-clause-tokens
returns-clause-tokens c =
    tokens_of-from c.args.line.now c.in_ok-start.start (sym c.in_ok-start.ensures.start)
    ∙ (rw (take_rest c.args.line.now c.in_ok-start.start) at c.cut_token.ensures.tokens)
