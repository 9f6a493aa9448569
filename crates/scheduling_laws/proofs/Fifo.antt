-- Those who wait on a semaphore go on in the order in which they came, over each event.
use Rattle.std.proofs.Common.{◌≡◌, ◌≢◌, ◌⊎◌, inl, inr, ⊎_elim, ℕ, ◌+◌, ◌<◌, Bool, true, false, List, [], ◌∷◌, length, take, refl, sym, ap, subst, ◌∙◌, arith, ℤ, Option, Some, None, get_or, get_or-set_same, get_or-set_other}
use Rattle.std.specs.Prelude.{slice_set}
use Rattle.std.proofs.Math.ListN.{length-set}
use Rattle.std.proofs.lemmas.Bool.{cases_eq, cond_both, true≢false}
use Rattle.xinu_base.specs.declared.events.Event.{Event}
use Rattle.xinu_base.specs.declared.lines.TranscriptLine.{TranscriptLine}
use Rattle.xinu_base.specs.declared.processes.Process.{Process}
use Rattle.xinu_base.specs.declared.processes.Rest.TheVariants as rest
use Rattle.xinu_base.specs.declared.processes.State.TheVariants.{Free, Current, Ready, Suspended, Waiting}
use Rattle.xinu_model.specs.Clock.{due, ticked}
use Rattle.xinu_model.specs.Events.{Happens}
use Rattle.xinu_model.specs.Machine.{Xinu}
use Rattle.xinu_model.specs.Messages.{listens}
use Rattle.xinu_model.specs.Process.Calls.{is_ready, with_priority}
use Rattle.xinu_model.specs.Process.Scheduling.{in_state, ready, ready_all, resched}
use Rattle.xinu_model.specs.Semaphores.Counts.{with_semaphore}
use Rattle.xinu_model.specs.Sound.Pools.{is_waiting}
use Rattle.xinu_model.specs.Sound.State.{IsSound}
use Rattle.xinu_model.specs.Sound.Tables.{count_in, waiting_places, sleeping_places, CanRun, IsInside, IsSoundTables}
use Rattle.xinu_model.specs.Tables.{no_process, Semaphore, no_semaphore, Tables, process_at, state_at, message_at, semaphore_at, numbers_without, semaphores_in, waits_without, Place, Nowhere, InReady, move_to}
use Rattle.table_laws.proofs.Lists.Counts.{count_last_other, numbers_without_other, numbers_without_same, two-le-total}
use Rattle.table_laws.proofs.Tables.MoveTo.{by_number, within_table, state_move_same, state_move_other}
use Rattle.table_laws.proofs.Tables.Unblock.{IsOneOf, unblock_all_with_ready, waiter_waits}
use Rattle.xinu_laws.proofs.Preserve.Events.{sound_happens}
use Rattle.scheduling_laws.specs.Fairness.{IsBefore, IsReleased, WaitsBefore}
use Rattle.scheduling_laws.proofs.Moves.{Anyone, IsClosed}
use Rattle.scheduling_laws.proofs.Orders.{before_counts, before_last, before_without, first_of_before, none_before, one_of_all, one_or_none}
use Rattle.scheduling_laws.proofs.Passes.Events.{IsCarried, carried_happens}
use Rattle.scheduling_laws.proofs.Resched.{by_resched, by_tick}
use Rattle.scheduling_laws.proofs.Waiters.{none_counted_of, waiters_given, waiters_left, waiters_moved}
use Rattle.scheduling_laws.proofs.Waking.{never_due}
use Rattle.xinu_laws.proofs.Touches.Processes.{idle_ready}

module _ (sem p q : ℕ) where
  -- q waits on the semaphore after p, and on no other;
  abbrev Behind : Tables → Type 0
  Behind t = WaitsBefore sem p q t × (state_at t q ≡ Waiting) × ((r : ℕ) → r ≢ sem → count_in q (semaphore_at t r).waiters ≡ 0)

  -- or q is dead,
  abbrev Dead : Tables → Type 0
  Dead t = (state_at t q ≡ Free) × ((r : ℕ) → count_in q (semaphore_at t r).waiters ≡ 0)

  -- or p is released.
  abbrev Fair : Tables → Type 0
  Fair t = Behind t ⊎ (IsReleased sem p t ⊎ Dead t)

  -- A process that leaves its place for none among waiters leaves p released,
  module _ (t : Tables) (x : ℕ) (y : Process) (m : Option ℕ) (place : Place)
      (same : semaphores_in place x (waits_without x t.semaphores) ≡ waits_without x t.semaphores) where
    waiters_at : (P : List ℕ → Type 0) (r : ℕ) → P (numbers_without x (semaphore_at t r).waiters)
        → P (semaphore_at (move_to x y m place t) r).waiters
    waiters_at P r h = subst (λ l. P (get_or l r no_semaphore).waiters) (sym same) (waiters_left P x r t.semaphores h)

    released_itself : p ≡ x → IsReleased sem p (move_to x y m place t)
    released_itself e =
        let l = (semaphore_at t sem).waiters in
        waiters_at (λ ws. count_in p ws ≡ 0) sem (subst (λ z. count_in p (numbers_without z l) ≡ 0) e (numbers_without_same p l))

    released_left : IsReleased sem p t → IsReleased sem p (move_to x y m place t)
    released_left h =
        ⊎_elim (λ (e : p ≡ x). released_itself e)
        (λ (n : p ≢ x). waiters_at (λ ws. count_in p ws ≡ 0) sem (numbers_without_other p x (semaphore_at t sem).waiters n ∙ h)) (cases_eq p x)

    -- and all fair, if it isn't q.
    fair_left : (Behind t → q ≢ x) → (Dead t → q ≢ x) → Fair t → Fair (move_to x y m place t)
    fair_left waits dead h =
        let u = move_to x y m place t in
        let elsewhere : q ≢ x → (r : ℕ) → count_in q (semaphore_at t r).waiters ≡ 0 → count_in q (semaphore_at u r).waiters ≡ 0 =
        λ n r z. waiters_at (λ ws. count_in q ws ≡ 0) r (numbers_without_other q x (semaphore_at t r).waiters n ∙ z) in
        ⊎_elim
        (λ (b : Behind t). ⊎_elim (λ (e : p ≡ x). inr (inl (released_itself e)))
        (λ (n : p ≢ x). inl (
          waiters_at (IsBefore p q) sem (before_without p q x (semaphore_at t sem).waiters n (waits b) b.0),
          state_move_other t q x y m place (waits b) ∙ b.1,
          (λ r d. elsewhere (waits b) r (b.2 r d)),
        ))
        (cases_eq p x))
        (λ (i : IsReleased sem p t ⊎ Dead t). ⊎_elim (λ (g : IsReleased sem p t). inr (inl (released_left g)))
        (λ (d : Dead t). inr (inr (state_move_other t q x y m place (dead d) ∙ d.0, (λ r. elsewhere (dead d) r (d.1 r))))) i)
        h

  -- A process that is neither goes to any place.
  fair_came : (t : Tables) (x : ℕ) (y : Process) (m : Option ℕ) (place : Place) → p ≢ x → q ≢ x → Fair t → Fair (move_to x y m place t)
  fair_came t x y m place n o h =
      let u = move_to x y m place t in
      let elsewhere : (a r : ℕ) → a ≢ x → count_in a (semaphore_at t r).waiters ≡ 0 → count_in a (semaphore_at u r).waiters ≡ 0 =
      λ a r d z. let left = numbers_without_other a x (semaphore_at t r).waiters d ∙ z in
      waiters_moved (λ ws. count_in a ws ≡ 0) t x r y m place left
      (count_last_other a x (numbers_without x (semaphore_at t r).waiters) d ∙ left) in
      ⊎_elim
      (λ (b : Behind t). let left = before_without p q x (semaphore_at t sem).waiters n o b.0 in
      inl (
        waiters_moved (IsBefore p q) t x sem y m place left (before_last p q x (numbers_without x (semaphore_at t sem).waiters) left),
        state_move_other t q x y m place o ∙ b.1,
        (λ r d. elsewhere q r o (b.2 r d)),
      ))
      (λ (i : IsReleased sem p t ⊎ Dead t). ⊎_elim (λ (g : IsReleased sem p t). inr (inl (elsewhere p sem n g)))
      (λ (d : Dead t). inr (inr (state_move_other t q x y m place o ∙ d.0, (λ r. elsewhere q r o (d.1 r))))) i)
      h

  -- Others than q become ready, one after another;
  fair_all : (ps : List ℕ) (t : Tables) → (IsOneOf q ps → ⊥) → Fair t → Fair (ready_all ps t)
  fair_all [] t n h = h
  fair_all (x ∷ ps) t n h =
      fair_all ps (ready x t) (λ i. n (inr i))
      (fair_left t x (in_state Ready (process_at t x)) (message_at t x) InReady refl (λ b e. n (inl e)) (λ d e. n (inl e)) h)

  -- any do after p was released;
  released_all : (ps : List ℕ) (t : Tables) → IsReleased sem p t → IsReleased sem p (ready_all ps t)
  released_all [] t h = h
  released_all (x ∷ ps) t h =
      released_all ps (ready x t) (released_left t x (in_state Ready (process_at t x)) (message_at t x) InReady refl h)

  -- or p is among them.
  released_among : (ps : List ℕ) (t : Tables) → IsOneOf p ps → IsReleased sem p (ready_all ps t)
  released_among [] t i = absurd i
  released_among (x ∷ ps) t i =
      ⊎_elim
      (λ (e : p ≡ x). released_all ps (ready x t) (released_itself t x (in_state Ready (process_at t x)) (message_at t x) InReady refl e))
      (λ (j : IsOneOf p ps). released_among ps (ready x t) j) i

  -- So the first n waiters of any semaphore are released fairly.
  fair_releases : (r n : ℕ) (t : Tables) → Fair t → Fair (ready_all (take n (semaphore_at t r).waiters) t)
  fair_releases r n t h =
      let l = (semaphore_at t r).waiters in
      let ps = take n l in
      ⊎_elim
      (λ (b : Behind t).
      ⊎_elim
      (λ (e : r ≡ sem). let before = subst (λ k. WaitsBefore k p q t) (sym e) b.0 in
      ⊎_elim (λ (i : IsOneOf p ps). inr (inl (released_among ps t i)))
      (λ (away : IsOneOf p ps → ⊥). fair_all ps t (none_before p q n l before away) (inl b)) (one_or_none p ps))
      (λ (d : r ≢ sem). fair_all ps t (λ i. none_counted_of q l (b.2 r d) (one_of_all q n l i)) (inl b)) (cases_eq r sem))
      (λ (i : IsReleased sem p t ⊎ Dead t). ⊎_elim (λ (g : IsReleased sem p t). inr (inl (released_all ps t g)))
      (λ (d : Dead t). fair_all ps t (λ j. none_counted_of q l (d.1 r) (one_of_all q n l j)) (inr (inr d))) i)
      h

  -- The first waiter of a semaphore gets its reply.
  fair_replied : (t : Tables) (r x : ℕ) (xs : List ℕ) (y : Process) (m : Option ℕ) → (semaphore_at t r).waiters ≡ x ∷ xs → Fair t
      → Fair (move_to x y m InReady t)
  fair_replied t r x xs y m f h =
      let l = (semaphore_at t r).waiters in
      let first : q ≡ x → IsOneOf q l = λ e. subst (IsOneOf q) (sym f) (inl e) in
      ⊎_elim (λ (e : p ≡ x). inr (inl (released_itself t x y m InReady refl e)))
      (λ (n : p ≢ x). fair_left t x y m InReady refl
      (λ b. ⊎_elim (λ (e : r ≡ sem). first_of_before p q x xs (subst (IsBefore p q) f (subst (λ k. WaitsBefore k p q t) (sym e) b.0)) n)
      (λ (d : r ≢ sem) e. none_counted_of q l (b.2 r d) (first e)) (cases_eq r sem))
      (λ d e. none_counted_of q l (d.1 r) (first e)) h)
      (cases_eq p x)

  -- A semaphore is made, given up, or gets other tokens.
  fair_given : (t : Tables) (r : ℕ) (x : Semaphore) → (x.waiters ≡ []) ⊎ (x.waiters ≡ (semaphore_at t r).waiters) → Fair t
      → Fair (with_semaphore r x t)
  fair_given t r x f h =
      let u = with_semaphore r x t in
      let none : (a c : ℕ) → count_in a (semaphore_at t c).waiters ≡ 0 → count_in a (semaphore_at u c).waiters ≡ 0 =
      λ a c z. waiters_given (λ ws. count_in a ws ≡ 0) t r c x
      (λ e. ⊎_elim (λ (g : x.waiters ≡ []). subst (λ ws. count_in a ws ≡ 0) (sym g) refl)
      (λ (g : x.waiters ≡ (semaphore_at t r).waiters). subst (λ ws. count_in a ws ≡ 0) (sym g)
      (subst (λ k. count_in a (semaphore_at t k).waiters ≡ 0) (sym e) z)) f) z in
      ⊎_elim
      (λ (b : Behind t).
      ⊎_elim (λ (before : WaitsBefore sem p q u). inl (before, b.1, (λ c d. none q c (b.2 c d))))
      (λ (g : IsReleased sem p u). inr (inl g))
      (waiters_given (λ ws. IsBefore p q ws ⊎ (count_in p ws ≡ 0)) t r sem x
      (λ e. ⊎_elim (λ (g : x.waiters ≡ []). inr (subst (λ ws. count_in p ws ≡ 0) (sym g) refl))
      (λ (g : x.waiters ≡ (semaphore_at t r).waiters). inl (subst (IsBefore p q) (sym g) (subst (λ k. WaitsBefore k p q t) (sym e) b.0))) f)
      (inl b.0)))
      (λ (i : IsReleased sem p t ⊎ Dead t). ⊎_elim (λ (g : IsReleased sem p t). inr (inl (none p sem g)))
      (λ (d : Dead t). inr (inr (d.0, (λ c. none q c (d.1 c))))) i)
      h

  -- p waits before q as an event begins
  abbrev Begins : Tables → Type 0
  Begins t = WaitsBefore sem p q t × IsSoundTables t

  -- Neither runs inside the event.
  abbrev Still : Tables → Type 0
  Still t = (length t.processes ≡ 64) × (q < 64) × (t.current ≢ p) × (t.current ≢ q)

  -- what holds inside the event
  abbrev Holds : Tables → Bool → Type 0
  Holds t owes = Still t × Fair t

  still_all : (ps : List ℕ) (t : Tables) → Still t → Still (ready_all ps t)
  still_all [] t h = h
  still_all (x ∷ ps) t h = still_all ps (ready x t) (length-set t.processes x _ ∙ h.0, h.1, h.2, h.3)

  still_moved : (t : Tables) (x : ℕ) (y : Process) (m : Option ℕ) (place : Place) → Still t → Still (move_to x y m place t)
  still_moved t x y m place h = (length-set t.processes x y ∙ h.0, h.1, h.2, h.3)

  waits_at_first : (t : Tables) → Begins t → (state_at t p ≡ Waiting) × (state_at t q ≡ Waiting)
  waits_at_first t b =
      let both = before_counts p q (semaphore_at t sem).waiters b.0 in
      (waiter_waits t sem p b.1.inside both.0, waiter_waits t sem q b.1.inside both.1)

  behind_begins : (t : Tables) → Begins t → Behind t
  behind_begins t b =
      let waits = (waits_at_first t b).1 in (
        b.0,
        waits,
        (λ r d.
            let a = b.1.inside.waiting q in
            let w : waiting_places (state_at t q) ≡ 1 = ap waiting_places waits in
            let c = two-le-total (λ (x : Semaphore). count_in q x.waiters) t.semaphores r sem no_semaphore refl d in
            let f = (before_counts p q (semaphore_at t sem).waiters b.0).1 in
            omega arith),
      )

  holds_begins : (t : Tables) → Begins t → Still t × Fair t
  holds_begins t b =
      let w = waits_at_first t b in
      let many = b.1.inside.processes in
      ((many, within_table t q many (λ f. let g = sym w.1 ∙ f in cc), (λ f. let g = sym b.1.runs ∙ ap (state_at t) f ∙ w.0 in cc), (λ f. let g = sym b.1.runs ∙ ap (state_at t) f ∙ w.1 in cc)), inl (behind_begins t b))

  -- As an event begins a process moves that doesn't wait.
  holds_first : (t : Tables) (x : ℕ) (y : Process) (m : Option ℕ) (place : Place) → Begins t → is_waiting (state_at t x) ≡ false
      → Holds (move_to x y m place t) false
  holds_first t x y m place b idle =
      let w = waits_at_first t b in
      let h = holds_begins t b in
      (still_moved t x y m place h.0, fair_came t x y m place (λ e. true≢false (sym (ap is_waiting w.0) ∙ ap (λ r. is_waiting (state_at t r)) e ∙ idle)) (λ e. true≢false (sym (ap is_waiting w.1) ∙ ap (λ r. is_waiting (state_at t r)) e ∙ idle)) h.1)

  holds_dies : (t : Tables) (x : ℕ) → Still t × Fair t → Still (move_to x no_process None Nowhere t) × Fair (move_to x no_process None Nowhere t)
  holds_dies t x h = (
    still_moved t x no_process None Nowhere h.0,
    ⊎_elim
        (λ (e : q ≡ x). subst (λ z. Fair (move_to z no_process None Nowhere t)) e
        (inr (inr (
          state_move_same t q no_process None Nowhere h.0.0 h.0.1,
          (λ r. waiters_left (λ ws. count_in q ws ≡ 0) q r t.semaphores (numbers_without_same q (semaphore_at t r).waiters)),
        ))))
        (λ (n : q ≢ x). fair_left t x no_process None Nowhere refl (λ b. n) (λ d. n) h.1) (cases_eq q x),
  )

  -- a process gets another priority
  fair_set : (t : Tables) (x : ℕ) (y : Process) → y.state ≡ state_at t x → Begins t
      → Holds (record t { processes = slice_set t.processes x y }) false
  fair_set t x y e b =
      let h = holds_begins t b in
      let u = record t { processes = slice_set t.processes x y } in
      let many = h.0.0 in
      let same : state_at u q ≡ state_at t q =
      by_number q x (λ r. r < 64 → state_at u r ≡ state_at t r)
      (λ v. ap (λ (z : Process). z.state) (get_or-set_same t.processes x y no_process (omega arith)) ∙ e)
      (λ n v. ap (λ (z : Process). z.state) (get_or-set_other t.processes x q y no_process n)) h.0.1 in
      let k = behind_begins t b in
      ((length-set t.processes x y ∙ h.0.0, h.0.1, h.0.2, h.0.3), inl (k.0, same ∙ k.1, k.2))

  fair_placed : (t : Tables) (x : ℕ) (priority : ℤ) → Begins t → Still (with_priority x priority t) × Fair (with_priority x priority t)
  fair_placed t x priority b =
      let y = record (process_at t x) { priority = priority } in
      cond_both (is_ready y.state) (move_to x y (message_at t x) InReady t) (record t { processes = slice_set t.processes x y })
      (λ u. Still u × Fair u)
      (λ r. holds_first t x y (message_at t x) InReady b (idle_ready (state_at t x) r)) (λ _. fair_set t x y refl b)

  -- Each move of a call is fair.
  fair_closed : IsClosed Anyone Anyone Begins Holds
  fair_closed = record {
    begins = holds_begins;
    owes = λ t h. h;
    releases = λ value r n d touch h. let ps = take n (semaphore_at d.state.tables r).waiters in
        subst (λ (x : Xinu). Still x.tables × Fair x.tables) (sym (unblock_all_with_ready value ps d))
        (still_all ps d.state.tables h.0, fair_releases r n d.state.tables h.1);
    hears = λ t b x m l h. let y = in_state Ready (process_at t x) in
        let f : q ≡ x → listens (state_at t q) ≡ true = λ e. subst (λ r. listens (state_at t r) ≡ true) (sym e) l in (
          still_moved t x y (Some m) InReady h.0,
          fair_left t x y (Some m) InReady refl
              (λ k e. true≢false (sym (f e) ∙ ap listens k.1)) (λ d e. true≢false (sym (f e) ∙ ap listens d.0)) h.1,
        );
    replies = λ t b r x xs reply touch k f h. let y = record (process_at t x) { state = Ready; rest = rest.Disk (Some reply) } in
        (still_moved t x y (message_at t x) InReady h.0, fair_replied t r x xs y (message_at t x) f h.1);
    counts = λ t b r x touch f h. (h.0, fair_given t r x f h.1);
    numbers = λ t b n h. h;
    messages = λ t b q m h. h;
    goes_on = λ t m k b. holds_first t t.current (record (process_at t t.current) { rest = rest.Nothing }) m Nowhere b (ap is_waiting k.runs);
    stops = λ t state left place touch h. let y = record (process_at t t.current) { state = state; rest = left } in (
      still_moved t t.current y (message_at t t.current) place h.0,
      fair_came t t.current y (message_at t t.current) place (λ e. h.0.2 (sym e)) (λ e. h.0.3 (sym e)) h.1,
    );
    dies = λ t b x n h. holds_dies t x h;
    exits = λ t b x h. holds_dies t x h;
    makes = λ t x y k free b. holds_first t x y None Nowhere b (ap is_waiting free);
    resumes = λ t x k e b. holds_first t x (in_state Ready (process_at t x)) (message_at t x) InReady b (ap is_waiting e);
    suspends = λ t x k e b. holds_first t x (in_state Suspended (process_at t x)) (message_at t x) Nowhere b (ap is_waiting e);
    places = λ t x priority may k b. fair_placed t x priority b;
  }

  -- a resched
  fair_resched : (t : Tables) → IsInside t → Fair t → Fair (resched t)
  fair_resched t o h =
      by_resched Fair t o h
      (λ e. fair_left t t.current (in_state Ready (process_at t t.current)) (message_at t t.current) InReady refl
      (λ b f. let g = sym b.1 ∙ ap (state_at t) f ∙ e in cc) (λ d f. let g = sym d.0 ∙ ap (state_at t) f ∙ e in cc) h)
      (λ u x i e k. fair_left (record u { current = x; quantum = 2 }) x (in_state Current (process_at u x)) (message_at u x) Nowhere refl
      (λ b f. let g = sym b.1 ∙ ap (state_at u) f ∙ e in cc) (λ d f. let g = sym d.0 ∙ ap (state_at u) f ∙ e in cc) k)

  -- a tick
  fair_ticked : (s : Xinu) → IsSoundTables s.tables → Begins s.tables → Fair (ticked s).state.tables
  fair_ticked s k b =
      let ps = due (s.tables.ticks + 1) s.tables.sleepers in
      by_tick Fair s k (λ t quantum ticks h. h) fair_resched
      (fair_all ps s.tables (never_due s.tables q (s.tables.ticks + 1) k.inside (ap sleeping_places (waits_at_first s.tables b).1)) (inl (behind_begins s.tables b)))

  -- Each event is fair.
  fair_carried : IsCarried Anyone Anyone Begins Holds Fair
  fair_carried = record {
    moves = fair_closed;
    stays = λ t b. inl (behind_begins t b);
    ends = λ t o h. h.1;
    rescheds = λ t o h. fair_resched t o h.1;
    ticks = fair_ticked;
  }

-- After an event p still waits before q, or it waits no longer, or q is dead.
pub fair_happens : (sem p q : ℕ) (old : Xinu) (e : Event) (lines : List TranscriptLine) (new : Xinu) → IsSound old
    → Happens old e lines new → WaitsBefore sem p q old.tables
    → WaitsBefore sem p q new.tables ⊎ (IsReleased sem p new.tables ⊎ (state_at new.tables q ≡ Free))
fair_happens sem p q old e lines new k h before =
    ⊎_elim (λ (b : Behind sem p q new.tables). inl b.0)
    (λ (i : IsReleased sem p new.tables ⊎ Dead sem p q new.tables).
    ⊎_elim (λ (g : IsReleased sem p new.tables). inr (inl g)) (λ (d : Dead sem p q new.tables). inr (inr d.0)) i)
    (carried_happens (fair_carried sem p q) old e lines new k (before, k.tables) h)

-- So if q can run p waits no longer.
pub fair_release : (sem p q : ℕ) (old : Xinu) (e : Event) (lines : List TranscriptLine) (new : Xinu) → IsSound old
    → Happens old e lines new → WaitsBefore sem p q old.tables → CanRun (state_at new.tables q) → IsReleased sem p new.tables
fair_release sem p q old e lines new k h before can =
    let t = new.tables in
    let sound = sound_happens old e lines new k h in
    ⊎_elim
    (λ (b : WaitsBefore sem p q t).
    let waits = waiter_waits t sem q sound.tables.inside (before_counts p q (semaphore_at t sem).waiters b).1 in
    ⊎_elim (λ (f : state_at t q ≡ Current). let g = sym waits ∙ f in absurd (cc))
    (λ (f : state_at t q ≡ Ready). let g = sym waits ∙ f in absurd (cc)) can)
    (λ (i : IsReleased sem p t ⊎ (state_at t q ≡ Free)). ⊎_elim (λ (g : IsReleased sem p t). g)
    (λ (d : state_at t q ≡ Free). ⊎_elim (λ (f : state_at t q ≡ Current). let g = sym d ∙ f in absurd (cc))
    (λ (f : state_at t q ≡ Ready). let g = sym d ∙ f in absurd (cc)) can) i)
    (fair_happens sem p q old e lines new k h before)
