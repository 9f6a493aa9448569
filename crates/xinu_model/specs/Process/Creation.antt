-- New processes: number, stack, registers and name (book, chapters 4 to 6).
use Rattle.std.specs.Prelude.{ℕ, ◌+◌, ◌-◌, ◌*◌, ◌%◌, max, List, ◌∷◌, ◌++◌, take, replicate, slice_set, Option, None, ℤ}
use Rattle.xinu_base.specs.Constants.{NPROC, MINSTK, INITRET}
use Rattle.xinu_base.specs.Texts.{before_zero}
use Rattle.xinu_base.specs.declared.processes.Process.{Process}
use Rattle.xinu_base.specs.declared.processes.Rest.TheVariants.{Nothing}
use Rattle.xinu_base.specs.declared.processes.State.TheVariants.{Suspended}
use Rattle.xinu_base.specs.declared.registers.Hart.{Hart}
use Rattle.xinu_model.specs.Heap.Cells.{Stack, cells_for}
use Rattle.xinu_model.specs.Machine.{Xinu}
use Rattle.xinu_model.specs.Searches.{search}
use Rattle.xinu_model.specs.Tables.{Tables, state_at, is_free, move_to, Nowhere}

-- the size of a stack: at least MINSTK bytes, and a multiple of 8
abbrev pub stack_size : ℕ → ℕ
stack_size wanted = 8 * cells_for (max MINSTK wanted)

-- the registers of a new process: x1 is the address whose execution exits, x2 the top of the stack at a multiple of 16
abbrev pub new_hart : ℕ → ℕ → ℕ → ℕ → Hart
new_hart entry top x y = record {
  regs = 0 ∷ INITRET ∷ (top - top % 16) ∷ replicate 7 0 ++ x ∷ y ∷ replicate 20 0;
  pc = entry;
}

-- a name as a process has it: at most fifteen bytes, with zeros after its end
abbrev pub process_name : List ℕ → List ℕ
process_name bytes = take 15 (before_zero bytes ++ replicate 15 0)

-- a new process on a stack; it is suspended
abbrev pub new_process : List ℕ → ℤ → ℕ → ℕ → ℕ → Process
new_process name priority parent top size = record {
  state = Suspended;
  priority = priority;
  parent = parent;
  name = name;
  stack = top;
  stack_size = size;
  rest = Nothing;
}

-- the free number that the next process gets
abbrev pub free_process : Tables → Option ℕ
free_process t = search (λ p. is_free (state_at t p)) NPROC (t.last_process + 1)

-- process p is made, with its registers, on a stack of the heap
abbrev pub make_process : ℕ → Process → Hart → Stack → Xinu → Xinu
make_process p x hart stack s =
    record s {
      tables = record (move_to p x None Nowhere s.tables) { last_process = p };
      harts = slice_set s.harts p hart;
      parts = record s.parts { heap = stack.heap };
    }
