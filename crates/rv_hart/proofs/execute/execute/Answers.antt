use Rattle.std.proofs.Common.{◌≡◌, ◌∙◌, ◌%◌, ap, sym, refl, arith}
use Rattle.std.proofs.lemmas.Bool.{ne_eqb}
use Rattle.xinu_model.specs.Isa.Exec.{Executed, perform}
use Rattle.xinu_base.specs.declared.Outcome.TheVariants.{Trap}
use Rattle.xinu_base.specs.declared.Cause.TheVariants.{Illegal}
use Rattle.xinu_model.specs.Isa.Effects.{stops}
use Rattle.rv_hart.proofs.Dispatch.{perform-of_opcode, outcome_by, hart_by, memory_by, no_row}
use Rattle.rv_hart.proofs.execute.execute.Goals as goal

pub returns-in-3-clause-outcome : goal.returns-in-3-clause-outcome
returns-in-3-clause-outcome c = c.load.ensures.outcome ∙ outcome_by 3 c.args.word c.args.hart.now c.args.ram.now c.ranges.word.fits c.in-3.is

pub returns-in-3-clause-hart : goal.returns-in-3-clause-hart
returns-in-3-clause-hart c = c.load.ensures.hart ∙ hart_by 3 c.args.word c.args.hart.now c.args.ram.now c.ranges.word.fits c.in-3.is

pub returns-in-3-clause-memory : goal.returns-in-3-clause-memory
returns-in-3-clause-memory c = c.load.ensures.memory ∙ memory_by 3 c.args.word c.args.hart.now c.args.ram.now c.ranges.word.fits c.in-3.is

pub returns-in-15-clause-outcome : goal.returns-in-15-clause-outcome
returns-in-15-clause-outcome c = c.fence.ensures.outcome c.args.ram.now ∙ outcome_by 15 c.args.word c.args.hart.now c.args.ram.now c.ranges.word.fits c.in-15.is

pub returns-in-15-clause-hart : goal.returns-in-15-clause-hart
returns-in-15-clause-hart c = c.fence.ensures.hart c.args.ram.now ∙ hart_by 15 c.args.word c.args.hart.now c.args.ram.now c.ranges.word.fits c.in-15.is

pub returns-in-15-clause-memory : goal.returns-in-15-clause-memory
returns-in-15-clause-memory c = c.fence.ensures.memory c.args.ram.now ∙ memory_by 15 c.args.word c.args.hart.now c.args.ram.now c.ranges.word.fits c.in-15.is

pub returns-in-19-clause-outcome : goal.returns-in-19-clause-outcome
returns-in-19-clause-outcome c = c.immediate_operation.ensures.outcome c.args.ram.now ∙ outcome_by 19 c.args.word c.args.hart.now c.args.ram.now c.ranges.word.fits c.in-19.is

pub returns-in-19-clause-hart : goal.returns-in-19-clause-hart
returns-in-19-clause-hart c = c.immediate_operation.ensures.hart c.args.ram.now ∙ hart_by 19 c.args.word c.args.hart.now c.args.ram.now c.ranges.word.fits c.in-19.is

pub returns-in-19-clause-memory : goal.returns-in-19-clause-memory
returns-in-19-clause-memory c = c.immediate_operation.ensures.memory c.args.ram.now ∙ memory_by 19 c.args.word c.args.hart.now c.args.ram.now c.ranges.word.fits c.in-19.is

pub returns-in-23-clause-outcome : goal.returns-in-23-clause-outcome
returns-in-23-clause-outcome c = c.add_upper_to_pc.ensures.outcome c.args.ram.now ∙ outcome_by 23 c.args.word c.args.hart.now c.args.ram.now c.ranges.word.fits c.in-23.is

pub returns-in-23-clause-hart : goal.returns-in-23-clause-hart
returns-in-23-clause-hart c = c.add_upper_to_pc.ensures.hart c.args.ram.now ∙ hart_by 23 c.args.word c.args.hart.now c.args.ram.now c.ranges.word.fits c.in-23.is

pub returns-in-23-clause-memory : goal.returns-in-23-clause-memory
returns-in-23-clause-memory c = c.add_upper_to_pc.ensures.memory c.args.ram.now ∙ memory_by 23 c.args.word c.args.hart.now c.args.ram.now c.ranges.word.fits c.in-23.is

pub returns-in-35-clause-outcome : goal.returns-in-35-clause-outcome
returns-in-35-clause-outcome c = c.store.ensures.outcome ∙ outcome_by 35 c.args.word c.args.hart.now c.args.ram.now c.ranges.word.fits c.in-35.is

pub returns-in-35-clause-hart : goal.returns-in-35-clause-hart
returns-in-35-clause-hart c = c.store.ensures.hart ∙ hart_by 35 c.args.word c.args.hart.now c.args.ram.now c.ranges.word.fits c.in-35.is

pub returns-in-35-clause-memory : goal.returns-in-35-clause-memory
returns-in-35-clause-memory c = c.store.ensures.memory ∙ memory_by 35 c.args.word c.args.hart.now c.args.ram.now c.ranges.word.fits c.in-35.is

pub returns-in-51-clause-outcome : goal.returns-in-51-clause-outcome
returns-in-51-clause-outcome c = c.register_operation.ensures.outcome c.args.ram.now ∙ outcome_by 51 c.args.word c.args.hart.now c.args.ram.now c.ranges.word.fits c.in-51.is

pub returns-in-51-clause-hart : goal.returns-in-51-clause-hart
returns-in-51-clause-hart c = c.register_operation.ensures.hart c.args.ram.now ∙ hart_by 51 c.args.word c.args.hart.now c.args.ram.now c.ranges.word.fits c.in-51.is

pub returns-in-51-clause-memory : goal.returns-in-51-clause-memory
returns-in-51-clause-memory c = c.register_operation.ensures.memory c.args.ram.now ∙ memory_by 51 c.args.word c.args.hart.now c.args.ram.now c.ranges.word.fits c.in-51.is

pub returns-in-55-clause-outcome : goal.returns-in-55-clause-outcome
returns-in-55-clause-outcome c = c.load_upper.ensures.outcome c.args.ram.now ∙ outcome_by 55 c.args.word c.args.hart.now c.args.ram.now c.ranges.word.fits c.in-55.is

pub returns-in-55-clause-hart : goal.returns-in-55-clause-hart
returns-in-55-clause-hart c = c.load_upper.ensures.hart c.args.ram.now ∙ hart_by 55 c.args.word c.args.hart.now c.args.ram.now c.ranges.word.fits c.in-55.is

pub returns-in-55-clause-memory : goal.returns-in-55-clause-memory
returns-in-55-clause-memory c = c.load_upper.ensures.memory c.args.ram.now ∙ memory_by 55 c.args.word c.args.hart.now c.args.ram.now c.ranges.word.fits c.in-55.is

pub returns-in-99-clause-outcome : goal.returns-in-99-clause-outcome
returns-in-99-clause-outcome c = c.branch-hart.ensures.outcome c.args.ram.now ∙ outcome_by 99 c.args.word c.args.hart.now c.args.ram.now c.ranges.word.fits c.in-99.is

pub returns-in-99-clause-hart : goal.returns-in-99-clause-hart
returns-in-99-clause-hart c = c.branch-hart.ensures.hart c.args.ram.now ∙ hart_by 99 c.args.word c.args.hart.now c.args.ram.now c.ranges.word.fits c.in-99.is

pub returns-in-99-clause-memory : goal.returns-in-99-clause-memory
returns-in-99-clause-memory c = c.branch-hart.ensures.memory c.args.ram.now ∙ memory_by 99 c.args.word c.args.hart.now c.args.ram.now c.ranges.word.fits c.in-99.is

pub returns-in-103-clause-outcome : goal.returns-in-103-clause-outcome
returns-in-103-clause-outcome c = c.jump_register.ensures.outcome c.args.ram.now ∙ outcome_by 103 c.args.word c.args.hart.now c.args.ram.now c.ranges.word.fits c.in-103.is

pub returns-in-103-clause-hart : goal.returns-in-103-clause-hart
returns-in-103-clause-hart c = c.jump_register.ensures.hart c.args.ram.now ∙ hart_by 103 c.args.word c.args.hart.now c.args.ram.now c.ranges.word.fits c.in-103.is

pub returns-in-103-clause-memory : goal.returns-in-103-clause-memory
returns-in-103-clause-memory c = c.jump_register.ensures.memory c.args.ram.now ∙ memory_by 103 c.args.word c.args.hart.now c.args.ram.now c.ranges.word.fits c.in-103.is

pub returns-in-111-clause-outcome : goal.returns-in-111-clause-outcome
returns-in-111-clause-outcome c = c.jump.ensures.outcome c.args.ram.now ∙ outcome_by 111 c.args.word c.args.hart.now c.args.ram.now c.ranges.word.fits c.in-111.is

pub returns-in-111-clause-hart : goal.returns-in-111-clause-hart
returns-in-111-clause-hart c = c.jump.ensures.hart c.args.ram.now ∙ hart_by 111 c.args.word c.args.hart.now c.args.ram.now c.ranges.word.fits c.in-111.is

pub returns-in-111-clause-memory : goal.returns-in-111-clause-memory
returns-in-111-clause-memory c = c.jump.ensures.memory c.args.ram.now ∙ memory_by 111 c.args.word c.args.hart.now c.args.ram.now c.ranges.word.fits c.in-111.is

pub returns-in-115-clause-outcome : goal.returns-in-115-clause-outcome
returns-in-115-clause-outcome c = c.system.ensures.outcome c.args.ram.now ∙ outcome_by 115 c.args.word c.args.hart.now c.args.ram.now c.ranges.word.fits c.in-115.is

pub returns-in-115-clause-hart : goal.returns-in-115-clause-hart
returns-in-115-clause-hart c = c.system.ensures.hart c.args.ram.now ∙ hart_by 115 c.args.word c.args.hart.now c.args.ram.now c.ranges.word.fits c.in-115.is

pub returns-in-115-clause-memory : goal.returns-in-115-clause-memory
returns-in-115-clause-memory c = c.system.ensures.memory c.args.ram.now ∙ memory_by 115 c.args.word c.args.hart.now c.args.ram.now c.ranges.word.fits c.in-115.is

other : (c : goal.In_default) → perform c.args.word c.args.hart.now c.args.ram.now ≡ stops c.args.hart.now c.args.ram.now (Trap Illegal)
other c =
    perform-of_opcode (c.args.word % 128) c.args.word c.args.hart.now c.args.ram.now c.ranges.word.fits refl
    ∙ no_row (c.args.word % 128) c.args.word c.args.hart.now c.args.ram.now
    (ne_eqb _ _ (λ is. omega arith))
    (ne_eqb _ _ (λ is. omega arith))
    (ne_eqb _ _ (λ is. omega arith))
    (ne_eqb _ _ (λ is. omega arith))
    (ne_eqb _ _ (λ is. omega arith))
    (ne_eqb _ _ (λ is. omega arith))
    (ne_eqb _ _ (λ is. omega arith))
    (ne_eqb _ _ (λ is. omega arith))
    (ne_eqb _ _ (λ is. omega arith))
    (ne_eqb _ _ (λ is. omega arith))
    (ne_eqb _ _ (λ is. omega arith))

pub returns-in_default-clause-outcome : goal.returns-in_default-clause-outcome
returns-in_default-clause-outcome c = ap (λ (e : Executed). e.outcome) (sym (other c))

pub returns-in_default-clause-hart : goal.returns-in_default-clause-hart
returns-in_default-clause-hart c = ap (λ (e : Executed). e.hart) (sym (other c))

pub returns-in_default-clause-memory : goal.returns-in_default-clause-memory
returns-in_default-clause-memory c = ap (λ (e : Executed). e.memory) (sym (other c))
