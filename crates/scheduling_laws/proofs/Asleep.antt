-- Who sleeps goes on sleeping as others move; a caller of `sleepms`, `sleep` or `recvtime` has its tick.
use Rattle.std.proofs.Common.{◌≡◌, ◌≢◌, ℕ, suc, ◌+◌, ◌<◌, ◌≤◌, ◌==◌, ◌&&◌, Bool, true, false, cond, not, List, ◌∷◌, ◌++◌, filter, refl, sym, ap, subst, ◌∙◌, arith, pos, ◌*◌, ◌-◌, Option, None}
use Rattle.std.specs.Prelude.{nat_le, max}
use Rattle.std.proofs.lemmas.Bool.{cond_both, and_parts, eqb-true, eq-eqb, le-ltb}
use Rattle.xinu_base.specs.declared.processes.Process.{Process}
use Rattle.xinu_base.specs.declared.processes.Rest.TheVariants as rest
use Rattle.xinu_base.specs.declared.processes.State.{State}
use Rattle.xinu_base.specs.declared.processes.State.TheVariants.{Current, Ready, Sleeping, Timed}
use Rattle.xinu_model.specs.Clock.{sleep, sleepms}
use Rattle.xinu_model.specs.Machine.{Xinu, blocked, closed, refused}
use Rattle.xinu_model.specs.Messages.{held, received, recvtime}
use Rattle.xinu_model.specs.Process.Scheduling.{in_state, resched}
use Rattle.xinu_model.specs.Sound.State.{IsSound}
use Rattle.xinu_model.specs.Sound.Tables.{sleeping_places, times, IsInside}
use Rattle.xinu_model.specs.Tables.{Tables, process_at, state_at, message_at, entries_without, sleepers_in, Place, Nowhere, InReady, InSemaphore, InSleepers, move_to}
use Rattle.table_laws.proofs.Lists.Counts.{times-append, times-filter_keeps, times-insert}
use Rattle.table_laws.proofs.Preserve.{current_within}
use Rattle.table_laws.proofs.Tables.MoveTo.{state_move_same, state_move_other}
use Rattle.xinu_laws.proofs.Preserve.Calls.{inside_preserved}
use Rattle.xinu_laws.proofs.Preserve.Messages.{recvtime_preserves, sleepms_preserves}
use Rattle.scheduling_laws.proofs.Resched.{by_resched}
use Rattle.scheduling_laws.specs.Sleeping.{IsUntil, ReceivesUntil, SleepsUntil}

-- whether an entry is p's for tick w
abbrev pub is_entry : ℕ → ℕ → ℕ × ℕ → Bool
is_entry p w e = (e.0 == p) && (e.1 == w)

-- an entry stays as another process leaves
entry_stays : (p q w : ℕ) (l : List (ℕ × ℕ)) → p ≢ q → 0 < times (is_entry p w) l → 0 < times (is_entry p w) (entries_without q l)
entry_stays p q w l n h =
    subst (λ k. 0 < k) (sym (times-filter_keeps (is_entry p w) (λ e. not (e.0 == q))
    (λ x b. other x (eqb-true x.0 p (and_parts (x.0 == p) (x.1 == w) b).0)) l)) h
  where
    other : (x : ℕ × ℕ) → x.0 ≡ p → not (x.0 == q) ≡ true
    other x e = cond_both (x.0 == q) true false (λ b. not (x.0 == q) ≡ true) (λ b. absurd (n (sym e ∙ eqb-true x.0 q b))) (λ b. ap not b)

-- and as another comes
entry_in : (place : Place) (p q w : ℕ) (l : List (ℕ × ℕ)) → 0 < times (is_entry p w) l → 0 < times (is_entry p w) (sleepers_in place q l)
entry_in (InSleepers wake) p q w l h =
    let n = times (is_entry p w) l in
    subst (λ k. 0 < k) (sym (times-insert (is_entry p w) (λ x. nat_le x.1 wake) (q, wake) l))
    (cond_both (is_entry p w (q, wake)) (suc n) n (λ k. 0 < k) (λ _. omega arith) (λ _. h))
entry_in Nowhere p q w l h = h
entry_in InReady p q w l h = h
entry_in (InSemaphore sem) p q w l h = h

-- who has a tick isn't in a state that has none
pub not_in : (a b : State) → sleeping_places a ≡ 1 → sleeping_places b ≡ 0 → a ≢ b
not_in a b late none e = let f = sym late ∙ ap sleeping_places e ∙ none in absurd (omega arith)

module _ (a : State) (late : sleeping_places a ≡ 1) where
  -- Who sleeps, or waits with a limit, still does as another process moves,
  pub sleeps_moved : (t : Tables) (p q w : ℕ) (x : Process) (m : Option ℕ) (place : Place) → p ≢ q → IsUntil a p w t
      → IsUntil a p w (move_to q x m place t)
  sleeps_moved t p q w x m place n z =
      (state_move_other t p q x m place n ∙ z.0, entry_in place p q w (entries_without q t.sleepers) (entry_stays p q w t.sleepers n z.1))

  -- and after a resched.
  pub sleeps_resched : (t : Tables) (p w : ℕ) → IsInside t → IsUntil a p w t → IsUntil a p w (resched t)
  sleeps_resched t p w o z =
      by_resched (IsUntil a p w) t o z
      (λ e. sleeps_moved t p t.current w (in_state Ready (process_at t t.current)) (message_at t t.current) InReady
      (λ f. not_in a Current late refl (sym z.0 ∙ ap (state_at t) f ∙ e)) z)
      (λ u q i e y. sleeps_moved (record u { current = q; quantum = 2 }) p q w (in_state Current (process_at u q)) (message_at u q) Nowhere
      (λ f. not_in a Ready late refl (sym y.0 ∙ ap (state_at u) f ∙ e)) y)

-- an entry is in a list into which it came
entry_comes : (p w : ℕ) (before after : List (ℕ × ℕ)) → 0 < times (is_entry p w) (before ++ (p, w) ∷ after)
entry_comes p w before after =
    let both : (p == p) && (w == w) ≡ true = ap (λ b. b && (w == w)) (eq-eqb p p refl) ∙ eq-eqb w w refl in
    let more = times (is_entry p w) after in
    let first : 0 < times (is_entry p w) ((p, w) ∷ after) = subst (λ b. 0 < cond b (suc more) more) (sym both) (omega arith) in
    let sum = times-append (is_entry p w) before ((p, w) ∷ after) in
    omega arith

-- Call 26.
pub falls_asleep : (n : ℕ) (s : Xinu) → IsSound s → s.tables.current ≢ 0
    → SleepsUntil s.tables.current (s.tables.ticks + suc n) (closed (sleepms (pos (suc n)) s))
falls_asleep n s k not_null =
    let t = s.tables in
    let c = t.current in
    let wake = t.ticks + suc n in
    let x = record (process_at t c) { state = Sleeping; rest = rest.Nothing } in
    let u = move_to c x (message_at t c) (InSleepers wake) t in
    let o : IsInside u = (sleepms_preserves (pos (suc n)) s (record { tables = k.tables; harts = k.harts; not_null = not_null })).tables in
    sleeps_resched Sleeping refl u c wake o (
      state_move_same t c x (message_at t c) (InSleepers wake) k.tables.inside.processes (current_within t k.tables),
      entry_comes c wake (filter (λ e. nat_le e.1 wake) (entries_without c t.sleepers)) _,
    )

-- Call 25: as many seconds are a thousand times as many ticks.
pub falls_asleep_for : (n : ℕ) (s : Xinu) → IsSound s → s.tables.current ≢ 0 → suc n ≤ 2147483
    → SleepsUntil s.tables.current (s.tables.ticks + 1000 * suc n) (closed (sleep (pos (suc n)) s))
falls_asleep_for n s k not_null few =
    let c = s.tables.current in
    let m = 1000 * suc n - 1 in
    let same : suc m ≡ 1000 * suc n = omega arith in
    subst (λ b. SleepsUntil c (s.tables.ticks + 1000 * suc n) (closed (cond b (refused s) (sleepms (pos (1000 * suc n)) s))))
    (sym (le-ltb 2147483 (suc n) few))
    (subst (λ ticks. SleepsUntil c (s.tables.ticks + ticks) (closed (sleepms (pos ticks) s))) same (falls_asleep m s k not_null))

-- Call 24, if no message is there.
pub waits_until : (n : ℕ) (s : Xinu) → IsSound s → s.tables.current ≢ 0 → held s ≡ None
    → ReceivesUntil s.tables.current (s.tables.ticks + max 1 n) (closed (recvtime (pos n) s))
waits_until n s k not_null none =
    let t = s.tables in
    let c = t.current in
    let wake = t.ticks + max 1 n in
    let x = record (process_at t c) { state = Timed; rest = rest.Timed } in
    let u = move_to c x (message_at t c) (InSleepers wake) t in
    let waits = blocked Timed rest.Timed (InSleepers wake) s in
    let o : IsInside u = subst (λ found. IsInside (received found waits s).call.state.tables) none
    (inside_preserved (recvtime (pos n) s) (recvtime_preserves (pos n) s (record { tables = k.tables; harts = k.harts; not_null = not_null }))) in
    subst (λ found. ReceivesUntil c wake (closed (received found waits s))) (sym none)
    (sleeps_resched Timed refl u c wake o (
      state_move_same t c x (message_at t c) (InSleepers wake) k.tables.inside.processes (current_within t k.tables),
      entry_comes c wake (filter (λ e. nat_le e.1 wake) (entries_without c t.sleepers)) _,
    ))
