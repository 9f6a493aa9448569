-- Two digits more.
use Rattle.std.proofs.Common.{◌∙◌, ◌&&◌, Bool, ap, sym, arith, drop}
use Rattle.printed_runs.specs.Names.{is_name}
use Rattle.printed_runs.proofs.Digits.{is_name-end, is_name-pair}
use Rattle.printed_runs.proofs.names.is_name.Goals as goal

pub returns-then-not-is_pair : goal.returns-then-not-is_pair
returns-then-not-is_pair c =
    let left = c.loop-left.left.now in
    record {
      is = sym (c.loop-left.invariant ∙ is_name-pair left c.loop-left-test.true
          ∙ ap (λ (is : Bool). is && is_name (drop 2 left)) (sym c.is_pair.ensures.is ∙ c.if-not-is_pair.true));
    }

pub loop-left-preserved : goal.loop-left-preserved
loop-left-preserved c =
    let left = c.loop-left.left.now in
    c.loop-left.invariant ∙ is_name-pair left c.loop-left-test.true
    ∙ ap (λ (is : Bool). is && is_name (drop 2 left)) (sym c.is_pair.ensures.is ∙ c.if-not-is_pair.false)
    ∙ ap is_name (sym c.split_at.ensures.back)

pub returns : goal.returns
returns c = record { is = c.is_empty.ensures ∙ sym (c.loop-left.invariant ∙ is_name-end c.loop-left.left.now (omega (arith, c.loop-left-test.false))) }
