-- The next number is free, or has a process.
use Rattle.std.proofs.Common.{◌≡◌, ◌∙◌, ◌+◌, ◌-◌, suc, true, false, ap, sym, arith}
use Rattle.gdb_answers.proofs.Searches.{left_end, left_here, left_next, not_true, not_false}
use Rattle.xinu_model.specs.Tables.{is_free, state_at}
use Rattle.gdb_answers.proofs.threads.first_left.Goals as goal

pub returns-then-is_left : goal.returns-then-is_left
returns-then-is_left c =
    let t = c.args.tables.now in
    let n = c.loop-number.number in
    let is = c.at-p.ensures.number in
    let more : 64 - n ≡ suc (63 - n) = omega (arith, c.loop-number-test.true) in
    let some : is_free (state_at t n) ≡ false = ap (λ p. is_free (state_at t p)) (sym is) ∙ not_true _ (sym c.is_left.ensures.left ∙ c.if-is_left.true) in
    record { first = is ∙ sym (c.loop-number.invariant ∙ left_here t n (64 - n) (63 - n) more some) }

pub loop-number-preserved : goal.loop-number-preserved
loop-number-preserved c =
    let t = c.args.tables.now in
    let n = c.loop-number.number in
    let is = c.at-p.ensures.number in
    let more : 64 - n ≡ suc (64 - (n + 1)) = omega (arith, c.loop-number-test.true) in
    let free : is_free (state_at t n) ≡ true = ap (λ p. is_free (state_at t p)) (sym is) ∙ not_false _ (sym c.is_left.ensures.left ∙ c.if-is_left.false) in
    c.loop-number.invariant ∙ left_next t n (64 - n) (64 - (n + 1)) more free

pub returns : goal.returns
returns c =
    let n = c.loop-number.number in
    let none : 64 - n ≡ 0 = omega (arith, c.loop-number-test.false) in
    record { first = c.at.ensures.number ∙ sym (c.loop-number.invariant ∙ left_end c.args.tables.now n (64 - n) none) }
