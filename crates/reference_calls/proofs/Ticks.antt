-- A tick, step by step, and that who is released at it doesn't change how many ticks there were.
use Rattle.std.proofs.Common.{◌≡◌, ◌∙◌, ℕ, ◌+◌, ℤ, pos, false, List, [], ◌∷◌, ap, refl}
use Rattle.xinu_model.specs.Clock.{a_tick_later, due, quantum_falls, ticked, wakeup}
use Rattle.xinu_model.specs.Machine.{CallState, event_result, start, unblock_all_with, unblock_with, with_tables, Xinu}

pub ticks_stay : (value : ℤ) (ps : List ℕ) (d : CallState) → (unblock_all_with value ps d).state.tables.ticks ≡ d.state.tables.ticks
ticks_stay value [] d = refl
ticks_stay value (p ∷ ps) d = ticks_stay value ps (unblock_with value p d)

-- the tables' part of a tick
abbrev pub tables_ticked : CallState → CallState
tables_ticked d = with_tables (quantum_falls (a_tick_later d.owes_resched d.state.tables)) d

-- first those are released whose tick has come, and then the tables tick
pub ticked_by : (s : Xinu) (was : ℕ) (d e : CallState) → was ≡ s.tables.current → d ≡ wakeup s → e ≡ tables_ticked d
    → event_result was [] e.released e.state.tables e.state false ≡ ticked s
ticked_by s was d e first woken later =
    ap (λ was. event_result was [] e.released e.state.tables e.state false) first
    ∙ ap (λ e. event_result s.tables.current [] e.released e.state.tables e.state false) (later ∙ ap tables_ticked woken)

-- who is released begins with nothing done yet
pub woken : (s : Xinu) (ps : List ℕ) (d e : CallState) → e ≡ unblock_all_with (pos 0) ps d → ps ≡ due (s.tables.ticks + 1) s.tables.sleepers
    → d ≡ start s → e ≡ wakeup s
woken s ps d e is who begins = is ∙ ap (λ ps. unblock_all_with (pos 0) ps d) who ∙ ap (unblock_all_with (pos 0) (due (s.tables.ticks + 1) s.tables.sleepers)) begins
