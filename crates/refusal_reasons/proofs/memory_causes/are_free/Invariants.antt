-- None of the free blocks so far meets the bytes.
use Rattle.std.proofs.Common.{◌≡◌, Bool, ℕ, ◌+◌, ◌*◌, ◌<◌, ◌≤◌}
use Rattle.std.specs.List.{list_any}
use Rattle.std.specs.Prelude.{find, nat_le, IfSome}
use Rattle.freelist_memory.proofs.Rest.{blocks_above}
use Rattle.machine.proofs.Walks.{room_from}
use Rattle.xinu_model.specs.Heap.Cells.{Block, cells_for, free_blocks}
use Rattle.xinu_model.specs.Memory.{ranges_meet}
use Rattle.refusal_reasons.proofs.memory_causes.are_free.Given as goal

abbrev pub invariant-loop-next : goal.invariant-loop-next
invariant-loop-next l =
    let blocks = free_blocks l.heap in
    let meets : Block → Bool = λ b. ranges_meet l.a (8 * cells_for l.n) b.0 b.1 in
    (a : ℕ) × (l.next ≡ find (λ b. nat_le a b.0) blocks)
    × IfSome l.next (λ b. (0 < b.1) × (b.0 + b.1 ≤ 1048576))
    × (list_any meets blocks ≡ list_any meets (blocks_above a blocks))

abbrev pub decreases-loop-next : goal.decreases-loop-next
decreases-loop-next l = room_from l.next
