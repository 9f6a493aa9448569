-- The free blocks up to the next one were printed.
use Rattle.std.proofs.Common.{◌≡◌, ℕ, ◌+◌, ◌<◌, ◌≤◌}
use Rattle.std.specs.Prelude.{find, nat_le, IfSome}
use Rattle.freelist_memory.proofs.Rest.{blocks_above}
use Rattle.xinu_model.specs.Heap.Cells.{free_blocks}
use Rattle.xinu_model.specs.Text.{free_line}
use Rattle.machine.proofs.Walks.{PrintedUpTo, room_from}
use Rattle.machine.proofs.tables.print_free.Given as goal

abbrev pub invariant-loop-next : goal.invariant-loop-next
invariant-loop-next g l =
    let blocks = free_blocks l.heap in
    (a : ℕ) × (l.next ≡ find (λ b. nat_le a b.0) blocks)
    × IfSome l.next (λ b. (0 < b.1) × (b.0 + b.1 ≤ 1048576))
    × PrintedUpTo free_line blocks (blocks_above a blocks) l.initial.out l.out (g.H.Host.view l.initial.host) (g.H.Host.view l.host)

abbrev pub decreases-loop-next : goal.decreases-loop-next
decreases-loop-next g l = room_from l.next
