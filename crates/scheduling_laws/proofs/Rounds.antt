-- Each tick brings the turn of a ready process nearer, and no event puts it off.
use Rattle.std.proofs.Common.{◌≡◌, ◌≢◌, ℕ, ◌+◌, ◌*◌, ◌<◌, ◌≤◌, ◌==◌, false, List, [], ◌∷◌, refl, sym, ap, subst, ◌∙◌, arith, ℤ, ◌≤ℤ◌}
use Rattle.std.specs.Prelude.{slice_index}
use Rattle.std.specs.List.{list_any}
use Rattle.std.proofs.lemmas.Bool.{and_from, eq-eqb, or_parts, true≢false}
use Rattle.xinu_base.specs.declared.events.Event.{Event}
use Rattle.xinu_base.specs.declared.events.Event.TheVariants.{Step, Tick, Key, Tx, Disk0, Disk1, Fail0, Fail1, Dump}
use Rattle.xinu_base.specs.declared.lines.TranscriptLine.{TranscriptLine}
use Rattle.xinu_base.specs.declared.lines.TranscriptLine.TheVariants as line
use Rattle.xinu_model.specs.Events.{Happens}
use Rattle.xinu_model.specs.Machine.{Xinu, EventResult}
use Rattle.xinu_model.specs.Sound.State.{IsSound}
use Rattle.xinu_model.specs.Sound.Tables.{entries_of, ready_places, waiting_places, IsSoundTables}
use Rattle.xinu_model.specs.Tables.{Tables, process_at, state_at}
use Rattle.table_laws.proofs.Lists.Orders.{all_weaker}
use Rattle.table_laws.proofs.Tables.MoveTo.{within_table}
use Rattle.scheduling_laws.proofs.Waiters.{not_waiting}
use Rattle.scheduling_laws.proofs.Resched.{through}
use Rattle.scheduling_laws.specs.Policy.{HasQuantum, IsHighest}
use Rattle.scheduling_laws.specs.RoundRobin.{before, turn, is_placed, tick_of, ticks_of, WaitsItsTurn, WaitsThrough}
use Rattle.xinu_laws.proofs.Preserve.Events.{sound_happens}
use Rattle.scheduling_laws.proofs.Highest.{highest_carried}
use Rattle.scheduling_laws.proofs.Lows.{low, low_all, low_before}
use Rattle.scheduling_laws.proofs.Kernels.{all_kernels}
use Rattle.scheduling_laws.proofs.Moves.{Anyone, MayDo}
use Rattle.scheduling_laws.specs.Moments.{call_in, first_call}
use Rattle.scheduling_laws.proofs.Passes.Events.{carried_happens, carried_where}
use Rattle.scheduling_laws.proofs.Quantum.{few_carried}
use Rattle.scheduling_laws.proofs.Turns.{Begins, Nearer, nearer_ticked, turned_carried}

-- a call that the first line doesn't tell to be of `chprio` on p
first_spared : (p : ℕ) (l : TranscriptLine) (lines : List TranscriptLine) → is_placed p l ≡ false → MayDo (λ x. p ≢ x) Anyone (first_call (l ∷ lines))
first_spared p (line.Call q call) lines = λ e. (
  (λ f g. true≢false (sym (and_from (call.number == 7) (slice_index call.args 0 == p) (eq-eqb call.number 7 f) (eq-eqb (slice_index call.args 0) p (sym g))) ∙ e)),
  (λ f. tt),
)
first_spared p _ lines = λ e. tt

step_spared : (p : ℕ) (lines : List TranscriptLine) → list_any (is_placed p) lines ≡ false → MayDo (λ x. p ≢ x) Anyone (first_call lines)
step_spared p [] e = tt
step_spared p (l ∷ lines) e = first_spared p l lines (or_parts (is_placed p l) (list_any (is_placed p) lines) e).0

pub spared : (p : ℕ) (e : Event) (lines : List TranscriptLine) → list_any (is_placed p) lines ≡ false → MayDo (λ x. p ≢ x) Anyone (call_in e lines)
spared p Step lines none = step_spared p lines none
spared p _ lines none = tt

-- what waits its turn in sound tables
pub waits_begins : (p : ℕ) (k : ℤ) (t : Tables) → IsSoundTables t → WaitsItsTurn p k t → Begins p k t.quantum (low p k t.ready) t
waits_begins p k t c w = (
  (
    w.0,
    w.1,
    (let one : entries_of p t.ready ≡ 1 = c.inside.ready p ∙ ap ready_places w.0 in omega arith),
    (omega arith),
    all_weaker (λ e. e.1 ≡ (process_at t e.0).priority) (λ e. e.0 ≡ p → e.1 ≡ k)
        (λ e h f. h ∙ ap (λ r. (process_at t r).priority) f ∙ w.1) t.ready c.inside.keys,
  ),
  (
    c.inside.processes,
    within_table t p c.inside.processes (λ f. let g = sym w.0 ∙ f in cc),
    (λ sem. not_waiting t p sem c.inside (ap waiting_places w.0)),
    (λ f. let g = sym c.runs ∙ ap (state_at t) f ∙ w.0 in cc),
    refl,
  ),
  c,
)

-- From low entries to all that come before p.
low_turn : (p : ℕ) (k : ℤ) (old new : Tables) (n : ℕ) → IsHighest new → WaitsItsTurn p k new
    → new.quantum + 2 * low p k new.ready + n ≤ old.quantum + 2 * low p k old.ready → turn p new + n ≤ turn p old
low_turn p k old new n highest w h =
    let all = low_all p k new.ready
    (all_weaker (λ e. e.1 ≤ℤ (process_at new new.current).priority) (λ e. e.1 ≤ℤ k)
    (λ e f. through e.1 (process_at new new.current).priority k f w.2) new.ready highest) in
    let some = low_before p k old.ready in
    let goal : new.quantum + 2 * before p new.ready + n ≤ old.quantum + 2 * before p old.ready = omega arith in
    goal

-- Each event brings p's turn nearer by its ticks.
pub round_robin : (p : ℕ) (k : ℤ) (old : Xinu) (e : Event) (lines : List TranscriptLine) (new : Xinu) → IsSound old → IsHighest old.tables
    → HasQuantum old.tables → Happens old e lines new → list_any (is_placed p) lines ≡ false → WaitsItsTurn p k old.tables
    → WaitsItsTurn p k new.tables → turn p new.tables + tick_of e ≤ turn p old.tables
round_robin p k old e lines new sound highest few h none w v = by_event e h
  where
    t : Tables
    t = old.tables

    others : (e : Event) → Happens old e lines new → turn p new.tables + 0 ≤ turn p old.tables
    others e h =
        let f = carried_where (turned_carried p k t.quantum (low p k t.ready) few.0) old e lines new sound (all_kernels old.parts) (waits_begins p k t sound.tables w) h
        (spared p e lines none) v in
        low_turn p k t new.tables 0 (carried_happens highest_carried old e lines new sound highest h) v (omega arith)

    by_event : (e : Event) → Happens old e lines new → turn p new.tables + tick_of e ≤ turn p old.tables
    by_event Tick h =
        low_turn p k t new.tables 1 (carried_happens highest_carried old Tick lines new sound highest h) v
        (subst (λ (x : Xinu). Nearer p k t.quantum (low p k t.ready) x.tables) (ap (λ (x : EventResult). x.state) h.effect)
        (nearer_ticked p k t.quantum (low p k t.ready) old sound.tables few.0 (waits_begins p k t sound.tables w)) v)
    by_event Step h = others Step h
    by_event (Key c) h = others (Key c) h
    by_event Tx h = others Tx h
    by_event Disk0 h = others Disk0 h
    by_event Fail0 h = others Fail0 h
    by_event Disk1 h = others Disk1 h
    by_event Fail1 h = others Fail1 h
    by_event Dump h = others Dump h

-- So p waits through fewer ticks than its turn.
pub comes_to_run : (p : ℕ) (k : ℤ) (events : List Event) (old new : Xinu) → IsSound old → IsHighest old.tables → HasQuantum old.tables
    → WaitsItsTurn p k old.tables → WaitsThrough p k old events new → ticks_of events < turn p old.tables
comes_to_run p k [] old new s h few w through = let some = few.0 in omega arith
comes_to_run p k (e ∷ events) old new s h few w through =
    let mid = through.0 in
    let lines = through.1 in
    let happens = through.2 in
    let one = round_robin p k old e lines mid s h few happens through.3 w through.4 in
    let rest = comes_to_run p k events mid new (sound_happens old e lines mid s happens)
    (carried_happens highest_carried old e lines mid s h happens) (carried_happens few_carried old e lines mid s few happens) through.4 through.5 in
    omega arith
