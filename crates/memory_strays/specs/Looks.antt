-- What the next step of a state does to memory: the process that executes, its stack, and its store.
use Rattle.std.specs.Prelude.{◌+◌, ◌-◌, ◌/◌, ◌%◌, ◌^◌, ◌==◌, nat_le, nat_lt, ℕ, suc, zero, Bool, ◌&&◌, not, if◌then◌else◌, slice_index, Option, None, Some}
use Rattle.std.specs.List.{list_any}
use Rattle.memory_strays.specs.declared.looks.Store.{Store}
use Rattle.xinu_base.specs.declared.processes.Process.{Process}
use Rattle.xinu_base.specs.declared.registers.Hart.{Hart}
use Rattle.xinu_model.specs.Events.{is_done}
use Rattle.xinu_model.specs.Heap.Cells.{Block, Heap, free_blocks}
use Rattle.xinu_model.specs.Isa.Instructions.{imm_s, rs1_of}
use Rattle.xinu_model.specs.Machine.{Xinu, current_hart}
use Rattle.xinu_model.specs.Memory.{may_access, number_at}
use Rattle.xinu_model.specs.Tables.{Tables, process_at}

-- whether the next step executes an instruction: the null process executes none, nor does one that goes on in a call
abbrev pub executes : Xinu → Bool
executes s = not (s.tables.current == 0) && is_done (process_at s.tables s.tables.current).rest

-- the first address after the stack of a process, and its lowest one
abbrev pub stack_end : Process → ℕ
stack_end x = x.stack + 4

abbrev pub stack_low : Process → ℕ
stack_low x = stack_end x - x.stack_size

-- whether an address is in the stack of a process
abbrev pub is_in_stack : Process → ℕ → Bool
is_in_stack x a = nat_le (stack_low x) a && nat_lt a (stack_end x)

-- the first of so many processes, from a number on, in whose stack an address is; processes that are gone have none
unfoldable pub stack_owner : Tables → ℕ → ℕ → ℕ → Option ℕ
stack_owner t a p zero = None
stack_owner t a p (suc left) = if is_in_stack (process_at t p) a then Some p else stack_owner t a (p + 1) left

-- whether an address is in a block of memory
abbrev pub is_in_block : ℕ → Block → Bool
is_in_block a b = nat_le b.0 a && nat_lt a (b.0 + b.1)

-- whether an address is in a free block of the heap
abbrev pub is_free : Heap → ℕ → Bool
is_free h a = list_any (is_in_block a) (free_blocks h)

-- how many bytes the word of a store stores; none if the word is no store
abbrev pub store_width : ℕ → Option ℕ
store_width word =
    if word % 128 == 35 then
    (if word / 4096 % 8 == 0 then Some 1 else (if word / 4096 % 8 == 1 then Some 2 else (if word / 4096 % 8 == 2 then Some 4 else None))) else None

-- the address at which it stores
abbrev pub store_address : ℕ → Hart → ℕ
store_address word h = (slice_index h.regs (rs1_of word) + imm_s word) % 2 ^ 32

-- a store of so many bytes, unless it is trapped
abbrev pub made_store : Option ℕ → ℕ → Option Store
made_store None a = None
made_store (Some width) a = if may_access a width then Some (record { address = a; width = width }) else None

-- the store that a word makes
abbrev pub store_of : Option ℕ → Hart → Option Store
store_of None h = None
store_of (Some word) h = made_store (store_width word) (store_address word h)

-- the word at the pc of the process that runs, if RAM has one there
abbrev pub next_word : Xinu → Option ℕ
next_word s = if may_access (current_hart s).pc 4 then Some (number_at s.memory (current_hart s).pc 4) else None

-- the store that the next step makes
abbrev pub store_in : Xinu → Option Store
store_in s = if executes s then store_of (next_word s) (current_hart s) else None
