-- Plain instructions of a process, one after another.
use Rattle.std.specs.Prelude.{ℕ, zero, suc, ◌+◌, List}
use Rattle.xinu_base.specs.declared.Hart.{Hart}
use Rattle.xinu_base.specs.declared.Outcome.{Outcome}
use Rattle.xinu_base.specs.declared.Outcome.TheVariants.{Went}
use Rattle.xinu_model.specs.Isa.Exec.{exec}

-- How many plain instructions were carried out, and the registers and RAM after them.
pub record Ran : Type 0 where
  pub count : ℕ
  pub hart : Hart
  pub memory : List ℕ

-- what there is after an instruction with this outcome: only a plain one is carried out, and others follow it
abbrev pub unless_stopped : Outcome → Ran → Ran → Ran
unless_stopped Went before after = after
unless_stopped _ before after = before

-- at most n plain instructions after this many
abbrev pub ran_on : ℕ → ℕ → Hart → List ℕ → Ran
ran_on count zero h memory = record { count = count; hart = h; memory = memory }
ran_on count (suc n) h memory =
    let did = exec h memory in
    unless_stopped did.outcome (record { count = count; hart = h; memory = memory }) (ran_on (count + 1) n did.hart did.memory)

-- at most n plain instructions: they end before the first that calls, traps or returns from the process's first function
abbrev pub ran : ℕ → Hart → List ℕ → Ran
ran n h memory = ran_on 0 n h memory
