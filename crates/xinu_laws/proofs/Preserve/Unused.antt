-- The start, and the calls that make a process or end one, leave the registers of free numbers as they were at the start.
use Rattle.std.proofs.Common.{◌≡◌, ℕ, ◌<◌, ◌==◌, false, not, ◌||◌, List, [], length, drop, take, Option, Some, None, refl, subst, arith, ℤ, pos}
use Rattle.std.specs.Prelude.{int_lt}
use Rattle.std.proofs.lemmas.Bool.{cond_both}
use Rattle.part_laws.specs.Preserve.{MayCallAny}
use Rattle.xinu_laws.specs.Touches.{Reach, reach, Touches}
use Rattle.xinu_model.specs.Boot.{Loaded, first_overlap, loaded_machine, Boots, all_made, all_started, unless_overlap, boot}
use Rattle.xinu_model.specs.Footprints.{on_tables}
use Rattle.xinu_model.specs.Heap.Cells.{Stack, take_stack}
use Rattle.xinu_model.specs.Machine.{Xinu, CallState, CallResult, start, refused}
use Rattle.xinu_model.specs.Memory.{in_ram}
use Rattle.xinu_model.specs.Messages.{sent}
use Rattle.xinu_model.specs.Process.Calls.{created, create, kill}
use Rattle.xinu_model.specs.Process.Creation.{stack_size, new_hart, new_process, process_name, free_process}
use Rattle.xinu_model.specs.Process.Death.{killed, exit}
use Rattle.xinu_model.specs.Sound.State.{AreUnused}
use Rattle.xinu_model.specs.Tables.{process_at, state_at, is_free}
use Rattle.table_laws.proofs.Tables.Found.{free_process_within}
use Rattle.table_laws.proofs.Tables.Starts.{none_made, all_are_made, boots_from}
use Rattle.table_laws.proofs.Tables.Unused.{unused_made, unused_gone}
use Rattle.xinu_laws.proofs.Touches.Boot.{touches_all_started}
use Rattle.xinu_laws.proofs.Touches.Kept.{keeps_unused}
use Rattle.xinu_laws.proofs.Touches.Moves.{touches_sent}

-- what holds of free numbers after a call
abbrev pub AreUnusedAfter : CallResult → Type 0
AreUnusedAfter h = AreUnused h.call.state.tables h.call.state.harts

-- a process dies
unused_killed : (p : ℕ) (d : CallState) → AreUnused d.state.tables d.state.harts
    → AreUnused (killed p d).state.tables (killed p d).state.harts
unused_killed p d a =
    let told = sent (process_at d.state.tables p).parent p d in
    let touches : Touches (reach on_tables) d.state told.state = touches_sent (process_at d.state.tables p).parent p d in
    unused_gone told.state.tables told.state.harts p (keeps_unused (touches.free refl) a)

-- Call 9.
pub exit_unused : (s : Xinu) → MayCallAny s → AreUnusedAfter (exit s)
exit_unused s c = unused_killed s.tables.current (start s) c.unused

-- Call 5.
pub kill_unused : (p : ℕ) (s : Xinu) → MayCallAny s → AreUnusedAfter (kill p s)
kill_unused p s c =
    cond_both ((p == 0) || is_free (state_at s.tables p)) (refused s) _ AreUnusedAfter (λ _. c.unused)
    (λ _. cond_both (p == s.tables.current) _ _ AreUnusedAfter (λ _. exit_unused s c) (λ _. unused_killed p (start s) c.unused))

-- Call 2.
created_unused : (number : Option ℕ) (stack : Option Stack) (entry size : ℕ) (priority : ℤ) (name : List ℕ) (x y : ℕ) (s : Xinu)
    → free_process s.tables ≡ number → MayCallAny s → AreUnusedAfter (created number stack entry size priority name x y s)
created_unused (Some p) (Some stack) entry size priority name x y s e c =
    unused_made s.tables s.harts p (new_process name priority s.tables.current stack.top size)
    (new_hart entry stack.top x y) c.may.tables.inside.processes (free_process_within s.tables p e) refl c.unused
created_unused (Some p) None entry size priority name x y s e c = c.unused
created_unused None stack entry size priority name x y s e c = c.unused

pub create_unused : (entry size : ℕ) (priority : ℤ) (name x y : ℕ) (s : Xinu) → MayCallAny s
    → AreUnusedAfter (create entry size priority name x y s)
create_unused entry size priority name x y s c =
    cond_both (int_lt priority (pos 1) || not (in_ram name 16)) (refused s) _ AreUnusedAfter (λ _. c.unused)
    (λ _. created_unused (free_process s.tables) (take_stack (stack_size size) s.parts.heap) entry (stack_size size) priority
    (process_name (take 16 (drop name s.memory))) x y s refl c)

-- anything but the parts may change
abbrev on_any_tables : Reach
on_any_tables = record { mine = λ sem by. false; asks = λ left. false; parts = on_tables; clock = false }

-- The start, by the first image that overlaps an earlier one.
unused_unless_overlap : (overlap : Option ℕ) (images : List Loaded) (start : Xinu) → length images < 64
    → unless_overlap overlap images ≡ Boots start → AreUnused start.tables start.harts
unused_unless_overlap (Some i) images start few e = cc
unused_unless_overlap None images start few e =
    let b = boots_from (all_made 1 images (loaded_machine images)) (λ s. Boots (all_started images s)) start e in
    let made = all_are_made images 1 (loaded_machine images) b.0 (none_made images) (omega arith) (omega arith) b.1 in
    let touches : Touches on_any_tables b.0 (all_started images b.0) = touches_all_started images b.0 (λ p. record { idle = λ h. absurd (cc) }) in
    let is : all_started images b.0 ≡ start = cc in
    subst (λ (s : Xinu). AreUnused s.tables s.harts) is (keeps_unused (touches.free refl) made.unused)

-- At the start free numbers have their registers.
pub unused_start : (images : List Loaded) (start : Xinu) → length images < 64 → boot images ≡ Boots start
    → AreUnused start.tables start.harts
unused_start images start few e = unused_unless_overlap (first_overlap 1 [] images) images start few e
