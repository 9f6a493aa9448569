-- Each byte joins the text until the closing quote.
use Rattle.std.proofs.Common.{◌+◌, refl, arith, inl, inr, true, false}
use Rattle.std.proofs.lemmas.List.{take_rest}
use Rattle.std.proofs.lemmas.Bool.Decides.{nat_tests}
use Rattle.asm_syntax.specs.Tokens.{tokens_from, Inside}
use Rattle.asm_syntax.proofs.TokenLemmas.{text_more, text_ends, text_broken}
use Rattle.asm_syntax.proofs.tokens.cut_text.Goals.{then-escaped, else-escaped+then-b-eq92, else-escaped+else-b-eq92+else-b-eq34}
use Rattle.asm_syntax.proofs.tokens.cut_text.Goals as goal

pub returns-then-b-eq34-clause-tokens : goal.returns-then-b-eq34-clause-tokens
returns-then-b-eq34-clause-tokens c =
    rw (take_rest c.args.line.now (c.loop-i.i + 1))
    (text_ends c.args.line.now c.loop-i.i (tokens_from Inside c.args.line.now) c.loop-i-test.true c.if-b-eq34.true
    (rw c.if-escaped.false at c.loop-i.invariant))

pub loop-i-preserved : goal.loop-i-preserved
loop-i-preserved c = elim c.if-escaped.branch [
  | then-escaped w ↦ rw w.escaped-is
      (text_more c.args.line.now c.loop-i.i c.loop-i.escaped false (tokens_from Inside c.args.line.now) c.loop-i-test.true (λ _. refl)
      (λ e. cc) (inl w.if-escaped.true) c.loop-i.invariant)
  | else-escaped+then-b-eq92 w ↦ rw w.escaped-is
      (text_more c.args.line.now c.loop-i.i c.loop-i.escaped true (tokens_from Inside c.args.line.now) c.loop-i-test.true (λ e. cc)
      (λ e. rw w.if-b-eq92.true refl) (inr (w.if-escaped.false, rw w.if-b-eq92.true refl)) c.loop-i.invariant)
  | else-escaped+else-b-eq92+else-b-eq34 w ↦ rw w.escaped-is
      (text_more c.args.line.now c.loop-i.i c.loop-i.escaped c.loop-i.escaped (tokens_from Inside c.args.line.now) c.loop-i-test.true
      (λ e. w.if-escaped.false) (λ e. grind (arith, nat_tests, w.if-escaped.false, w.if-b-eq92.false))
      (inr (w.if-escaped.false, grind (arith, nat_tests, w.if-b-eq34.false))) c.loop-i.invariant)
]

pub returns-clause-tokens : goal.returns-clause-tokens
returns-clause-tokens c =
    text_broken c.args.line.now c.loop-i.i c.loop-i.escaped (tokens_from Inside c.args.line.now) (omega (arith, c.loop-i-test.false))
    c.loop-i.invariant
