-- The end of an event leaves sound tables, and registers for each number.
use Rattle.std.proofs.Common.{◌≡◌, ℕ, ◌+◌, Bool, true, false, cond, ◌||◌, List, slice_index, refl, ap}
use Rattle.std.proofs.lemmas.Bool.{both_ways, cond_both, or_right}
use Rattle.xinu_base.specs.declared.lines.TranscriptLine.{TranscriptLine}
use Rattle.xinu_model.specs.Clock.{due, wakeup, ticked}
use Rattle.xinu_model.specs.Events.{with_executed}
use Rattle.xinu_model.specs.Isa.Exec.{Executed}
use Rattle.xinu_model.specs.Machine.{Xinu, Answer, Returns, Waits, Gone, Panics, Silent, CallResult, start, is_off, closed, replies_of, end_of_event}
use Rattle.xinu_model.specs.Process.Scheduling.{resched}
use Rattle.xinu_model.specs.Sound.Tables.{IsSoundTables}
use Rattle.xinu_model.specs.Tables.{Tables}
use Rattle.table_laws.specs.Preserve.{FitsAnswer, IsPreserved, MayCall}
use Rattle.table_laws.proofs.Tables.Scheduling.{sound_resched}
use Rattle.table_laws.proofs.Tables.Unblock.{unblock_all_ready}
use Rattle.table_laws.proofs.Tables.Harts.{harts_set, harts_same, harts_with_replies}
use Rattle.xinu_model.specs.Sound.State.{AreHarts}

-- if the caller runs no longer there is a resched
off_closed : (answer : Answer) (owes : Bool) (t : Tables) → is_off answer ≡ true → IsSoundTables (resched t)
    → IsSoundTables (cond (owes || is_off answer) (resched t) t)
off_closed answer owes t e k =
    cond_both (owes || is_off answer) (resched t) t IsSoundTables
    (λ _. k) (λ b. absurd (both_ways (owes || is_off answer) b (or_right owes (is_off answer) e)))

-- The one resched at the end makes the tables sound if they aren't yet.
pub closed_fits : (answer : Answer) (owes : Bool) (t : Tables) → FitsAnswer answer t
    → IsSoundTables (cond (owes || is_off answer) (resched t) t)
closed_fits (Returns value) owes t k = cond_both (owes || false) (resched t) t IsSoundTables (λ _. sound_resched t k.inside) (λ _. k)
closed_fits Panics owes t k = cond_both (owes || false) (resched t) t IsSoundTables (λ _. sound_resched t k.inside) (λ _. k)
closed_fits Silent owes t k = cond_both (owes || false) (resched t) t IsSoundTables (λ _. sound_resched t k.inside) (λ _. k)
closed_fits Waits owes t o = off_closed Waits owes t refl (sound_resched t o)
closed_fits Gone owes t o = off_closed Gone owes t refl (sound_resched t o)

-- The tables after the resched.
pub sound_closed : (result : CallResult) → IsPreserved result → IsSoundTables (closed result)
sound_closed result k = closed_fits result.answer result.call.owes_resched result.call.state.tables k.tables

-- The end of an event leaves sound tables.
pub sound_end_of_event : (was : ℕ) (first : List TranscriptLine) (result : CallResult) → IsPreserved result
    → IsSoundTables (end_of_event was first result).state.tables
sound_end_of_event was first result k = sound_closed result k

-- Each number keeps its registers there.
pub harts_end_of_event : (was : ℕ) (first : List TranscriptLine) (result : CallResult) → IsPreserved result
    → AreHarts (end_of_event was first result).state.harts
harts_end_of_event was first result k = harts_with_replies (replies_of result) result.call.state.harts k.harts

-- And so it does at a tick.
pub harts_ticked : (s : Xinu) → AreHarts s.harts → AreHarts (ticked s).state.harts
harts_ticked s a =
    harts_with_replies (wakeup s).released (wakeup s).state.harts
    (harts_same s.harts _ (ap (λ (x : Xinu). x.harts) (unblock_all_ready (due (s.tables.ticks + 1) s.tables.sleepers) (start s))) a)

-- An instruction leaves the tables as they are, and each number keeps its registers.
pub executed_may_call : (did : Executed) (s : Xinu) → slice_index did.hart.regs 0 ≡ 0 → MayCall s → MayCall (with_executed did s)
executed_may_call did s zero c = record { tables = c.tables; harts = harts_set s.harts s.tables.current did.hart zero c.harts; not_null = c.not_null }
