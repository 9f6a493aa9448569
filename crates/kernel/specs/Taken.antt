-- How many steps are taken at once.
use Rattle.std.specs.Prelude.{ℕ, ◌==◌, if◌then◌else◌}
use Rattle.xinu_base.specs.declared.processes.Rest.{Rest}
use Rattle.xinu_base.specs.declared.processes.Rest.TheVariants.{Nothing}
use Rattle.xinu_model.specs.Isa.Ran.{ran}
use Rattle.xinu_model.specs.Machine.{current_hart, Xinu}
use Rattle.xinu_model.specs.Tables.{process_at}

-- of a process that has this left of a call: its plain instructions, or none if it goes on with the call first
abbrev pub taken_after : Rest → ℕ → Xinu → ℕ
taken_after Nothing most s = (ran most (current_hart s) s.memory).count
taken_after _ most s = 0

-- At most so many: all of them if the null process runs; of another process the steps up to its first instruction that calls, traps or
-- returns from its first function, and none if something is left of a call in which it waited.
abbrev pub taken_at_once : ℕ → Xinu → ℕ
taken_at_once most s =
    if s.tables.current == 0 then most else taken_after (process_at s.tables s.tables.current).rest most s
