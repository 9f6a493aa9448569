-- Memory that is given, and memory that is given back: a new owner, and a store of each byte.
use Rattle.std.specs.Prelude.{ℕ, ◌+◌, ◌-◌, ◌*◌, ◌==◌, nat_lt, if◌then◌else◌, List, [], ◌∷◌, ◌++◌, filter, length, not, slice_index, slice_index_or, Option, Some, None, is_some}
use Rattle.std.specs.List.{flat_map}
use Rattle.xinu_base.specs.declared.syscalls.Call.{Call}
use Rattle.xinu_model.specs.Heap.Cells.{Grant, Stack, cells_for, free_memory, free_stack, take_memory, take_stack}
use Rattle.xinu_model.specs.Machine.{Xinu, no_hart}
use Rattle.xinu_model.specs.Pools.Buffers.{BufferPool, is_in, pool_at, pool_bytes}
use Rattle.xinu_model.specs.Tables.{process_at}
use Rattle.happens_before.specs.Histories.{Deed, Given}
use Rattle.data_races.specs.Changes.{born, dead, numbers}
use Rattle.data_races.specs.Instructions.{stores}

-- how many bytes are in the cells that hold n
abbrev pub rounded : ℕ → ℕ
rounded n = 8 * cells_for n

-- a stack of n bytes whose highest word is at an address: where it begins
abbrev pub stack_low : ℕ → ℕ → ℕ
stack_low top n = top + 4 - rounded n

-- `getmem` and `getstk`: what is granted is given
abbrev pub memory_given : ℕ → Option Grant → List Deed
memory_given n None = []
memory_given n (Some grant) = Given grant.address (rounded n) ∷ []

abbrev pub stack_given : ℕ → Option Stack → List Deed
stack_given n None = []
stack_given n (Some stack) = Given (stack_low stack.top n) (rounded n) ∷ []

-- `freemem` and `freestk` by process u at a place: what the heap takes back is stored to
abbrev pub freed_deeds : ℕ → ℕ → ℕ → ℕ → Xinu → List Deed
freed_deeds u place a n s = if is_some (free_memory a n s.parts.heap) then stores u place a (rounded n) else []

abbrev pub freed_stack_deeds : ℕ → ℕ → ℕ → ℕ → Xinu → List Deed
freed_stack_deeds u place top n s = if is_some (free_stack top n s.parts.heap) then stores u place (stack_low top n) (rounded n) else []

-- the calls on the heap
abbrev pub heap_deeds : ℕ → ℕ → Call → Xinu → List Deed
heap_deeds u place call s =
    let a = slice_index call.args 0 in
    let b = slice_index call.args 1 in
    if call.number == 10 then memory_given a (take_memory a s.parts.heap)
    else (if call.number == 11 then freed_deeds u place a b s
    else (if call.number == 12 then stack_given a (take_stack a s.parts.heap)
    else (if call.number == 13 then freed_stack_deeds u place a b s
    else [])))

-- a process that begins is given its stack
abbrev pub birth_deeds : Xinu → Xinu → List Deed
birth_deeds old new =
    flat_map (λ p. let x = process_at new.tables p in Given (stack_low x.stack x.stack_size) (rounded x.stack_size) ∷ []) (born old new)

-- where a process stands
abbrev pub pc_of : Xinu → ℕ → ℕ
pc_of s p = (slice_index_or s.harts p no_hart).pc

-- a process that dies stores to its stack, if the heap takes it back; its place is where it stood
abbrev pub death_deeds : Xinu → Xinu → List Deed
death_deeds old new =
    flat_map (λ w. let x = process_at old.tables w in freed_stack_deeds w (pc_of old w) x.stack x.stack_size old) (dead old new)

-- what a pool gives and takes in an event in which process u steps: a buffer is given with the word in front of it, to which u then stores;
-- who gives a buffer back stores to it
abbrev pub taken_from : ℕ → ℕ → ℕ → ℕ → List Deed
taken_from u place size a = Given (a - 4) (size + 4) ∷ stores u place (a - 4) 4

abbrev pub pool_deeds : ℕ → ℕ → BufferPool → BufferPool → List Deed
pool_deeds u place was is =
    flat_map (λ a. stores u place a was.size) (filter (λ a. not (is_in a was.free)) is.free)
    ++ flat_map (taken_from u place was.size) (filter (λ a. not (is_in a is.free)) was.free)

-- the pools that there were, and the one that is made: all of its memory is given
abbrev pub made_pool_deeds : List BufferPool → ℕ → List Deed
made_pool_deeds pools i =
    if nat_lt i (length pools) then (let pool = pool_at pools i in Given pool.base (pool_bytes pool.size pool.number) ∷ []) else []

abbrev pub buffer_deeds : ℕ → ℕ → Xinu → Xinu → List Deed
buffer_deeds u place old new =
    flat_map (λ i. pool_deeds u place (pool_at old.parts.pools i) (pool_at new.parts.pools i)) (numbers (length old.parts.pools))
    ++ made_pool_deeds new.parts.pools (length old.parts.pools)
