-- The replies that are left to be kept give the whole.
use Rattle.std.proofs.Common.{◌≡◌, ◌≤◌, ◌++◌, drop}
use Rattle.arrayvec.specs.ArrayVec.{array_vec_len}
use Rattle.kernel_state.specs.Released.{replies_to}
use Rattle.kernel_state.proofs.replies.answer_released.Given as goal

abbrev pub invariant-loop-p : goal.invariant-loop-p
invariant-loop-p l =
    (array_vec_len l.replies ≤ l.p-index) × (l.replies.items ++ replies_to l.value (drop l.p-index l.released) l.tables ≡ replies_to l.value l.released l.tables)
