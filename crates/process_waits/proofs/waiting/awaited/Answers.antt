-- The next semaphore is the one, or another.
use Rattle.std.proofs.Common.{◌≡◌, ◌∙◌, ◌+◌, ◌-◌, suc, true, false, Some, ap, sym, arith}
use Rattle.process_waits.proofs.Searches.{awaited_end, awaited_here, awaited_next}
use Rattle.process_waits.specs.Waiting.{waits_on}
use Rattle.process_waits.proofs.waiting.awaited.Goals as goal

pub returns-then-waits_on : goal.returns-then-waits_on
returns-then-waits_on c =
    let t = c.args.tables.now in
    let n = c.loop-number.number in
    let p = c.args.p in
    let is = c.at-sem.ensures.number in
    let more : 128 - n ≡ suc (127 - n) = omega (arith, c.loop-number-test.true) in
    let yes : waits_on t n p ≡ true = ap (λ s. waits_on t s p) (sym is) ∙ sym c.waits_on.ensures.waits ∙ c.if-waits_on.true in
    record { semaphore = ap Some is ∙ sym (c.loop-number.invariant ∙ awaited_here t p n (128 - n) (127 - n) more yes) }

pub loop-number-preserved : goal.loop-number-preserved
loop-number-preserved c =
    let t = c.args.tables.now in
    let n = c.loop-number.number in
    let p = c.args.p in
    let is = c.at-sem.ensures.number in
    let more : 128 - n ≡ suc (128 - (n + 1)) = omega (arith, c.loop-number-test.true) in
    let no : waits_on t n p ≡ false = ap (λ s. waits_on t s p) (sym is) ∙ sym c.waits_on.ensures.waits ∙ c.if-waits_on.false in
    c.loop-number.invariant ∙ awaited_next t p n (128 - n) (128 - (n + 1)) more no

pub returns : goal.returns
returns c =
    let n = c.loop-number.number in
    let none : 128 - n ≡ 0 = omega (arith, c.loop-number-test.false) in
    record { semaphore = sym (c.loop-number.invariant ∙ awaited_end c.args.tables.now c.args.p n (128 - n) none) }
