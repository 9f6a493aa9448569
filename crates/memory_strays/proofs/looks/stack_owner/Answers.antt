-- The address is in the stack of the next process, or isn't.
use Rattle.std.proofs.Common.{◌≡◌, ◌∙◌, ◌+◌, ◌-◌, suc, true, false, Some, ap, sym, arith}
use Rattle.memory_strays.proofs.Owners.{owner_end, owner_here, owner_next}
use Rattle.memory_strays.specs.Looks.{is_in_stack}
use Rattle.xinu_base.specs.declared.processes.Process.{Process}
use Rattle.xinu_model.specs.Tables.{process_at}
use Rattle.memory_strays.proofs.looks.stack_owner.Goals as goal

pub returns-then-is_in_stack : goal.returns-then-is_in_stack
returns-then-is_in_stack c =
    let t = c.args.tables.now in
    let a = c.args.address in
    let n = c.loop-number.number in
    let is = c.at-p.ensures.number in
    let more : 64 - n ≡ suc (63 - n) = omega (arith, c.loop-number-test.true) in
    let here : is_in_stack (process_at t n) a ≡ true = ap (λ p. is_in_stack (process_at t p) a) (sym is)
    ∙ ap (λ (x : Process). is_in_stack x a) (sym c.process.ensures.process) ∙ sym c.is_in_stack.ensures.is ∙ c.if-is_in_stack.true in
    record { owner = ap Some is ∙ sym (c.loop-number.invariant ∙ owner_here t a n (64 - n) (63 - n) more here) }

pub loop-number-preserved : goal.loop-number-preserved
loop-number-preserved c =
    let t = c.args.tables.now in
    let a = c.args.address in
    let n = c.loop-number.number in
    let is = c.at-p.ensures.number in
    let more : 64 - n ≡ suc (64 - (n + 1)) = omega (arith, c.loop-number-test.true) in
    let other : is_in_stack (process_at t n) a ≡ false = ap (λ p. is_in_stack (process_at t p) a) (sym is)
    ∙ ap (λ (x : Process). is_in_stack x a) (sym c.process.ensures.process) ∙ sym c.is_in_stack.ensures.is ∙ c.if-is_in_stack.false in
    c.loop-number.invariant ∙ owner_next t a n (64 - n) (64 - (n + 1)) more other

pub returns : goal.returns
returns c =
    let n = c.loop-number.number in
    let none : 64 - n ≡ 0 = omega (arith, c.loop-number-test.false) in
    record { owner = sym (c.loop-number.invariant ∙ owner_end c.args.tables.now c.args.address n (64 - n) none) }
