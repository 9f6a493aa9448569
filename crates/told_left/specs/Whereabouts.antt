-- Where a process is that is left. Read `whereabouts_text`, at the end, first.
use Rattle.std.specs.Prelude.{ℕ, ◌+◌, ◌^◌, ◌-◌, ◌%◌, Bool, true, false, if◌then◌else◌, List, [], ◌++◌, codes, slice_index_or}
use Rattle.rv_disasm.specs.Disassembly.{disassembly}
use Rattle.rv_disasm.specs.OperandTexts.{hex_word}
use Rattle.told_left.specs.Calls.{call_words}
use Rattle.told_places.specs.Places.{function_text}
use Rattle.xinu_base.specs.declared.processes.State.{State}
use Rattle.xinu_base.specs.declared.processes.State.TheVariants.{Receiving, Sleeping, Timed, Waiting}
use Rattle.xinu_base.specs.declared.registers.Hart.{Hart}
use Rattle.xinu_model.specs.Events.{call_of}
use Rattle.xinu_model.specs.Machine.{Xinu, no_hart}
use Rattle.xinu_model.specs.Memory.{may_access, number_at}
use Rattle.xinu_model.specs.Tables.{state_at}

-- whether a process in this state is in a call that it made itself: it waits for a semaphore or a message, or sleeps
abbrev pub is_in_call : State → Bool
is_in_call Waiting = true
is_in_call Receiving = true
is_in_call Timed = true
is_in_call Sleeping = true
is_in_call state = false

-- the address of the `ecall` that made it, one word ahead of where the process goes on, or else of its next instruction
abbrev pub place_of : Hart → Bool → ℕ
place_of hart is_waiting = if is_waiting then (hart.pc + 2 ^ 32 - 4) % 2 ^ 32 else hart.pc

-- the call that a process is in
unfoldable pub in_call_text : Hart → Bool → List ℕ
in_call_text hart is_waiting = if is_waiting then codes "in " ++ call_words (call_of hart) ++ codes ", " else []

-- the address of an instruction
unfoldable pub pc_text : ℕ → List ℕ
pc_text pc = codes "pc 0x" ++ hex_word pc

-- the instruction at an address, if RAM has one there
unfoldable pub instruction_text : List ℕ → ℕ → List ℕ
instruction_text memory pc = if may_access pc 4 then codes ": " ++ disassembly (number_at memory pc 4) pc else []

-- a line with the address, the function that it is in, and of a process that is in no call the instruction there
unfoldable pub place_text : List (List ℕ) → List ℕ → ℕ → Bool → List ℕ
place_text files memory pc is_waiting =
    pc_text pc ++ function_text (codes ", ") files pc ++ (if is_waiting then [] else instruction_text memory pc) ++ codes "\n"

-- the same of a process with these registers, after the call that it is in
unfoldable pub line_text : List (List ℕ) → List ℕ → Hart → Bool → List ℕ
line_text files memory hart is_waiting =
    codes "      " ++ in_call_text hart is_waiting ++ place_text files memory (place_of hart is_waiting) is_waiting

-- where process p is in a state, by the files of the images
abbrev pub whereabouts_text : List (List ℕ) → Xinu → ℕ → List ℕ
whereabouts_text files s p =
    line_text files s.memory (slice_index_or s.harts p no_hart) (is_in_call (state_at s.tables p))
