-- One step of a process (RISC-V unprivileged manual, chapter "RV32I Base Integer Instruction Set").
use Rattle.std.specs.Prelude.{ℕ, ◌==◌, if◌then◌else◌, List, Option, None, Some}
use Rattle.xinu_base.specs.Constants.{INITRET}
use Rattle.xinu_base.specs.declared.Hart.{Hart}
use Rattle.xinu_base.specs.declared.Outcome.TheVariants.{Exit, Trap}
use Rattle.xinu_base.specs.declared.Cause.TheVariants.{Fetch, Illegal}
use Rattle.xinu_model.specs.Isa.Instructions.{Row, row_of, fields}
pub use Rattle.xinu_model.specs.Isa.Effects.{Executed}
use Rattle.xinu_model.specs.Isa.Effects.{stops, effect}
use Rattle.xinu_model.specs.Memory.{may_access, number_at}

-- what the word of this row does
abbrev pub obeyed : Option Row → ℕ → Hart → List ℕ → Executed
obeyed None word h memory = stops h memory (Trap Illegal)
obeyed (Some row) word h memory = effect row.name (fields row.form word) h memory

-- what a word does
abbrev pub perform : ℕ → Hart → List ℕ → Executed
perform word h memory = obeyed (row_of word) word h memory

-- one step of a process, from its registers, its pc and RAM
unfoldable pub exec : Hart → List ℕ → Executed
exec h memory =
    if h.pc == INITRET then stops h memory Exit
    else (if may_access h.pc 4 then perform (number_at memory h.pc 4) h memory
    else stops h memory (Trap Fetch))
