-- What the calls on the sleepers' queue leave of the delays, and of how lists and processes fit.
use Rattle.std.proofs.Common.{◌≡◌, ◌≢◌, ◌∙◌, ℕ, ◌+◌, ◌<◌, ℤ, pos, negsuc, ◌≤ℤ◌, ◌<ℤ◌, Bool, true, false, cond, None, Some, List, [], ◌∷◌, length, replicate, refl, sym, ap, subst, arith}
use Rattle.std.specs.List.{filter}
use Rattle.std.specs.Option.{IsSomeAnd}
use Rattle.std.proofs.lemmas.Int.{ints}
use Rattle.std.proofs.lemmas.List.{set-get_or}
use Rattle.xinu_base.specs.declared.processes.Process.{Process}
use Rattle.xinu_base.specs.declared.processes.State.TheVariants.{Ready}
use Rattle.queue_table.specs.declared.table.QueueTable.{QueueTable}
use Rattle.queue_table.specs.Table.{lists}
use Rattle.queue_table.specs.Lists.{Entry, IsByKey, IsDelta, KeysAtLeast, all_delta_without, delays, delta_insert, delta_sooner, differences, first_key_of, first_process, list_at, place, rest_of, sooner, with_list}
use Rattle.queue_table.proofs.Laws.{IsDelta-insert, IsDelta-sooner, IsDelta-without, below_P, delays-insert, delays-without, disjoint, list_at-same, list_at_delta_without, place-some}
use Rattle.xinu_model.specs.Tables.{InSleepers, message_at, move_to, process_at}
use Rattle.process_core.specs.Fits.{Fits, MayBeIn}
use Rattle.process_core.specs.Tables.{Beside, ProcessTable, process_in, sleepers_of, tables_of, wake_tick}
use Rattle.process_core.proofs.Fitting.{fits_sleeping, may_be_in}
use Rattle.process_core.proofs.Moves.{tables-sleeping, then_sleeps}
use Rattle.process_core.proofs.Removals.{left}
use Rattle.process_core.proofs.Steps.{fits_left_sleepers}
use Rattle.process_core.proofs.Sleepers.{delays_least_due, sleepers_sooner}
use Rattle.queue_table.proofs.Laws.{all_without_none, place-none}
use Rattle.queue_table.proofs.Deltas.{KeysAtLeast-append}
use Rattle.delta_clock.specs.Wakeups.{WakesLater, not_due}

-- nobody sleeps in empty lists
pub later_start : (n : ℕ) → list_at (replicate n []) 129 ≡ [] → WakesLater (replicate n [])
unfolding delays
later_start n h =
    let F : List Entry → Type 0 = λ l. IsDelta l in
    let G : List Entry → Type 0 = λ l. KeysAtLeast (pos 1) (delays l) in
    record {
      delta = subst F (sym h) (record { differences = tt; bounded = omega (arith, ints) });
      later = subst G (sym h) tt;
    }

-- what a filter leaves of keys that are not less
least-filter : (k : ℤ) (test : Entry → Bool) (l : List Entry) → KeysAtLeast k l → KeysAtLeast k (filter test l)
least-filter k test [] h = tt
least-filter k test (e ∷ l) h = go (least-filter k test l h.1) (test e)
  where
    go : KeysAtLeast k (filter test l) → (b : Bool) → KeysAtLeast k (cond b (e ∷ filter test l) (filter test l))
    go i true = (h.0, i)
    go i false = i

-- the queue with one sleeper more
pub later-insert : (ls : List (List Entry)) (p : ℕ) (d : ℤ) → length ls ≡ 130 → WakesLater ls → pos 1 ≤ℤ d → d ≤ℤ pos 2147483647
    → WakesLater (with_list ls 129 (delta_insert p d (list_at ls 129)))
later-insert ls p d n w le max =
    let l = list_at ls 129 in
    let at = list_at-same ls 129 (delta_insert p d l) (omega (arith, n)) in
    let F : List Entry → Type 0 = λ l. IsDelta l in
    let G : List Entry → Type 0 = λ l. KeysAtLeast (pos 1) l in
    record {
      delta = subst F (sym at) (IsDelta-insert l p d w.delta (omega (arith, ints, le)) max);
      later = subst G (sym (ap delays at ∙ delays-insert p d l))
          (KeysAtLeast-append (pos 1) _ _ (least-filter (pos 1) _ (delays l) w.later) (le, least-filter (pos 1) _ (delays l) w.later));
    }

-- the queue with one sleeper less
pub later-without : (t : QueueTable 64 130) (p : ℕ) → place (lists t) p ≡ Some 129 → WakesLater (lists t)
    → WakesLater (all_delta_without p (lists t))
later-without t p at w =
    let is = list_at_delta_without (lists t) p 129 in
    let F : List Entry → Type 0 = λ l. IsDelta l in
    let G : List Entry → Type 0 = λ l. KeysAtLeast (pos 1) l in
    record {
      delta = subst F (sym is) (IsDelta-without t p 129 129 at w.delta);
      later = subst G (sym (ap delays is ∙ delays-without p (list_at (lists t) 129)))
          (least-filter (pos 1) _ (delays (list_at (lists t) 129)) w.later);
    }

-- p, which is in no list, is put among the sleepers
pub slept : (ls : List (List Entry)) (s : ProcessTable) (b : Beside) (p : ℕ) (d : ℤ) → length ls ≡ 130 → place ls p ≡ None
    → IsDelta (list_at ls 129)
    → pos 1 ≤ℤ d
    → tables_of (with_list ls 129 (delta_insert p d (list_at ls 129))) s b
    ≡ (let t = tables_of ls s b in move_to p (process_at t p) (message_at t p) (InSleepers (wake_tick b.ticks d)) t)
slept ls s b p (negsuc n) size none delta le = absurd (omega (arith, ints, le))
slept ls s b p (pos n) size none delta le =
    let t = tables_of ls s b in
    then_sleeps ls s b t p (process_at t p) (message_at t p) n delta size
    (ap (λ m. tables_of m s b) (sym (all_without_none ls p none)) ∙ left ls s b p (place-none ls p none 129))

-- lists and processes fit then
pub slept_fits : (ls : List (List Entry)) (ps : List Process) (p : ℕ) (d : ℤ) → Fits ls ps → length ls ≡ 130 → p < 64 → place ls p ≡ None
    → MayBeIn 129 (process_in ps p).state
    → Fits (with_list ls 129 (delta_insert p d (list_at ls 129))) ps
slept_fits ls ps p d f n lt none may =
    let F : List Process → Type 0 = λ ps. Fits (with_list ls 129 (delta_insert p d (list_at ls 129))) ps in
    subst F (set-get_or ps p _) (fits_sleeping ls ps p d (process_in ps p) f n lt may none)

-- whoever sleeps isn't ready
pub sleeping_not_ready : (ls : List (List Entry)) (ps : List Process) (p : ℕ) → Fits ls ps → place ls p ≡ Some 129
    → (process_in ps p).state ≢ Ready
sleeping_not_ready ls ps p f at is =
    let m : 129 ≡ 128 = may_be_in 129 (process_in ps p).state Ready is (f.placed p 129 at) in omega (arith, m)

-- p is taken out of the sleepers, and lists and processes fit
pub cancelled_fits : (t : QueueTable 64 130) (ps : List Process) (p : ℕ) → place (lists t) p ≡ Some 129 → Fits (lists t) ps
    → Fits (all_delta_without p (lists t)) ps
cancelled_fits t ps p at f =
    fits_left_sleepers (lists t) ps p f (below_P t p 129 (place-some (lists t) p 129 at).1)
    (disjoint t p 129 128 at (λ e. omega (arith, e))) (sleeping_not_ready (lists t) ps p f at)

-- lists and processes fit if every process is where it was, and the ready list stays
pub fits_same_places : (ls ls' : List (List Entry)) (ps : List Process) → Fits ls ps → list_at ls' 128 ≡ list_at ls 128
    → ((p : ℕ) → place ls' p ≡ place ls p) → Fits ls' ps
fits_same_places ls ls' ps f ready same =
    let B : List Entry → Type 0 = λ l. IsByKey l in
    record {
      size = f.size;
      by_key = subst B (sym ready) f.by_key;
      placed = λ p q at. f.placed p q (sym (same p) ∙ at);
      ready = λ p is. same p ∙ f.ready p is;
    }

-- nobody sleeps in an empty list
pub none_later : (l : List Entry) → l ≡ [] → KeysAtLeast (pos 1) (delays l)
unfolding delays
none_later [] h = tt
none_later (e ∷ l) h = absurd (cc)

-- if the first delay is at least 1, so is each
pub some_later : (l : List Entry) (k : ℤ) → Some k ≡ first_key_of l → IsDelta l → pos 0 <ℤ k → KeysAtLeast (pos 1) (delays l)
some_later [] k h d le = absurd (cc)
some_later (e ∷ l) k h d le = let s : k ≡ e.1 = cc in delays_least_due e l d (omega (arith, ints, s, le))

-- a list without a first key is empty
pub no_key : (l : List Entry) → None ≡ first_key_of l → l ≡ []
no_key [] h = refl
no_key (e ∷ l) h = absurd (cc)

-- if the first delay is 0, the list begins with it
pub first_zero : (l : List Entry) (k : ℤ) (p : ℕ) → Some k ≡ first_key_of l → Some p ≡ first_process l → IsDelta l → k ≤ℤ pos 0
    → l ≡ (p, pos 0) ∷ rest_of l
first_zero [] k p h f d le = absurd (cc)
first_zero (e ∷ l) k p h f d le =
    let s : k ≡ e.1 = cc in
    let q : p ≡ e.0 = cc in
    let a = d.differences.0 in
    let z : e.1 ≡ pos 0 = omega (arith, ints, s, le, a) in
    ap (λ k. (e.0, k) ∷ l) z ∙ ap (λ q. (q, pos 0) ∷ l) (sym q)

-- the first of some sleepers has a delay of at least 1
pub due_first : (l : List Entry) → (l ≡ [] → ⊥) → KeysAtLeast (pos 1) (delays l) → IsSomeAnd (first_key_of l) (λ k. pos 1 ≤ℤ k)
unfolding delays
due_first [] h w = h refl
due_first (e ∷ l) h w = let a = w.0 in omega (arith, ints, a)

-- a tick less for each: the queue is a delta list
pub sooner_delta : (l : List Entry) → IsDelta l → KeysAtLeast (pos 1) (delays l) → IsDelta (delta_sooner l)
unfolding delays sooner differences
sooner_delta [] d w = record { differences = tt; bounded = omega (arith, ints) }
sooner_delta (e ∷ l) d w = let a = w.0 in IsDelta-sooner e l d (omega (arith, ints, a))

-- and each wakes at the same tick
pub sooner_sleepers : (t : ℕ) (l : List Entry) → IsDelta l → KeysAtLeast (pos 1) (delays l) → sleepers_of (t + 1) (delta_sooner l)
    ≡ sleepers_of t l
unfolding delays sooner differences
sooner_sleepers t [] d w = refl
sooner_sleepers t (e ∷ l) d w = let a = w.0 in sleepers_sooner t e l d (omega (arith, ints, a))

-- nobody sleeps, whatever the tick is
pub none_asleep : (t u : ℕ) (l : List Entry) → l ≡ [] → sleepers_of t l ≡ sleepers_of u l
unfolding delays
none_asleep t u [] h = refl
none_asleep t u (e ∷ l) h = absurd (cc)

-- a tick has passed, and the sleepers' queue is another
pub tables-ticked : (ls : List (List Entry)) (s : ProcessTable) (b : Beside) (n : ℕ) (l : List Entry) → length ls ≡ 130 → b.ticks ≡ n
    → sleepers_of (n + 1) l ≡ not_due (n + 1) (sleepers_of n (list_at ls 129))
    → tables_of (with_list ls 129 l) s (record b { ticks = n + 1 })
    ≡ (let t = tables_of ls s b in record t { sleepers = not_due (n + 1) t.sleepers; ticks = n + 1 })
unfolding tables_of
tables-ticked ls s b n l size e h =
    tables-sleeping ls s (record b { ticks = n + 1 }) l size
    ∙ ap (λ m. record (tables_of ls s (record b { ticks = n + 1 })) { sleepers = m })
    (h ∙ ap (λ k. not_due (n + 1) (sleepers_of k (list_at ls 129))) (sym e))
