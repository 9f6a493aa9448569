-- What the text of the lines begins with.
use Rattle.std.proofs.Common.{◌∙◌, ◌++◌, List, ℕ, Some, None, ap, sym}
use Rattle.std.proofs.lemmas.Bool.Decides.{Decides-eqb}
use Rattle.std.proofs.lemmas.Slice.Eq.{strip_prefix_is}
use Rattle.watched_run.proofs.TrapLines.{no-trap, trap-is}
use Rattle.watched_run.specs.Traps.{cause_of}
use Rattle.watched_run.proofs.lines.trap_in.Goals as goal

pub returns-in-Some : goal.returns-in-Some
returns-in-Some c =
    let rest = c.in-Some.rest.now in
    let begins =
    strip_prefix_is Decides-eqb c.args.lines.now c.as_slice.result.now (Some c.in-Some.rest) c.in-Some.ensures.cases
    ∙ ap (λ (word : List ℕ). word ++ rest) c.as_slice.ensures in
    record {
      trap = λ all is.
          c.cause_of.ensures.cause
          ∙ ap cause_of c.after_blank.ensures.after
          ∙ trap-is all c.args.lines.now rest is begins;
    }

pub returns-in-None : goal.returns-in-None
returns-in-None c = record {
  trap = λ all is.
      no-trap all c.args.lines.now is
      (λ rest begins.
      strip_prefix_is Decides-eqb c.args.lines.now c.as_slice.result.now None c.in-None.ensures.cases rest
      (begins ∙ ap (λ (word : List ℕ). word ++ rest) (sym c.as_slice.ensures)));
}
