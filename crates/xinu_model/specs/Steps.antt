-- Machine steps that print nothing and don't end a run, one after another.
use Rattle.std.specs.Prelude.{◌≡◌, ℕ, zero, suc, false, slice_set}
use Rattle.xinu_model.specs.Events.{stepped}
use Rattle.xinu_model.specs.Isa.Ran.{Ran}
use Rattle.xinu_model.specs.Machine.{nothing_happens, Xinu}
use Rattle.xinu_model.specs.Runs.{is_over}

-- the machine after n steps
abbrev pub stepped_times : ℕ → Xinu → Xinu
stepped_times zero s = s
stepped_times (suc n) s = stepped_times n (stepped s).state

-- A plain step prints nothing, and leaves a process besides the null process.
pub record IsPlain (s : Xinu) : Type 0 where
  pub quiet : stepped s ≡ nothing_happens (stepped s).state
  pub lives : is_over (stepped s).state ≡ false

-- the next n steps are plain
abbrev pub ArePlain : ℕ → Xinu → Type 0
ArePlain zero s = Unit {0}
ArePlain (suc n) s = IsPlain s × ArePlain n (stepped s).state

-- the machine after plain instructions of the current process
abbrev pub with_ran : Ran → Xinu → Xinu
with_ran x s = record s { harts = slice_set s.harts s.tables.current x.hart; memory = x.memory }
