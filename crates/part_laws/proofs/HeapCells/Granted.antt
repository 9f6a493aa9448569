-- What `getmem` and `getstk` answer was free before the call, and isn't after it.
use Rattle.std.proofs.Common.{◌≡◌, ℕ, ◌+◌, ◌<◌, ◌≤◌, true, false, Option, Some, None, refl, arith, pos}
use Rattle.part_laws.specs.FreeCells.{is_in_free}
use Rattle.part_laws.proofs.HeapCells.Taken.{grants_were_free, stacks_were_free}
use Rattle.xinu_model.specs.Heap.Calls.{getmem, getstk, granted, stacked}
use Rattle.xinu_model.specs.Heap.Cells.{Grant, Stack, take_memory, take_stack}
use Rattle.xinu_model.specs.Machine.{Xinu, Returns}

-- what call 10 answers was free before and isn't after
getmem_answer : (n : ℕ) (found : Option Grant) (address : ℕ) (s : Xinu) → take_memory n s.parts.heap ≡ found
    → (granted found s).answer ≡ Returns (pos address) → (a : ℕ) → address ≤ a → a < address + n
    → (is_in_free a s.parts.heap ≡ true) × (is_in_free a (granted found s).call.state.parts.heap ≡ false)
getmem_answer n None address s e answer a low high = absurd (cc)
getmem_answer n (Some grant) address s e answer a low high =
    let at : grant.address ≡ address = cc in grants_were_free n s.parts.heap grant e a (omega arith) (omega arith)

pub getmem_was_free : (n address : ℕ) (s : Xinu) → (getmem n s).answer ≡ Returns (pos address) → (a : ℕ) → address ≤ a → a < address + n
    → (is_in_free a s.parts.heap ≡ true) × (is_in_free a (getmem n s).call.state.parts.heap ≡ false)
getmem_was_free n address s = getmem_answer n (take_memory n s.parts.heap) address s refl

-- what call 12 answers, the address of the highest word
getstk_answer : (n : ℕ) (found : Option Stack) (top : ℕ) (s : Xinu) → take_stack n s.parts.heap ≡ found
    → (stacked found s).answer ≡ Returns (pos top) → (a : ℕ) → a < top + 4 → top + 4 ≤ a + n
    → (is_in_free a s.parts.heap ≡ true) × (is_in_free a (stacked found s).call.state.parts.heap ≡ false)
getstk_answer n None top s e answer a low high = absurd (cc)
getstk_answer n (Some stack) top s e answer a low high =
    let at : stack.top ≡ top = cc in stacks_were_free n s.parts.heap stack e a (omega arith) (omega arith)

pub getstk_was_free : (n top : ℕ) (s : Xinu) → (getstk n s).answer ≡ Returns (pos top) → (a : ℕ) → a < top + 4 → top + 4 ≤ a + n
    → (is_in_free a s.parts.heap ≡ true) × (is_in_free a (getstk n s).call.state.parts.heap ≡ false)
getstk_was_free n top s = getstk_answer n (take_stack n s.parts.heap) top s refl
