-- Who has the answer of a disk keeps it in another process's step, or dies.
use Rattle.std.proofs.Common.{◌≡◌, ◌≢◌, ◌⊎◌, inl, inr, ⊎_elim, ℕ, ◌<◌, Bool, true, List, [], ◌∷◌, length, take, Option, Some, None, refl, sym, ap, subst, ◌∙◌, ℤ}
use Rattle.std.specs.Prelude.{slice_set}
use Rattle.std.specs.List.{AllByRecursion}
use Rattle.std.proofs.Math.ListN.{get_or, length-set}
use Rattle.std.proofs.lemmas.Bool.{cond_both, true≢false}
use Rattle.xinu_base.specs.declared.processes.Process.{Process}
use Rattle.xinu_base.specs.declared.processes.Rest.{Rest}
use Rattle.xinu_base.specs.declared.processes.Rest.TheVariants as rest
use Rattle.xinu_base.specs.declared.processes.State.TheVariants.{Current, Free, Ready, Suspended}
use Rattle.xinu_model.specs.Machine.{CallState, unblock_with, unblock_all_with}
use Rattle.xinu_model.specs.Messages.{listens}
use Rattle.xinu_model.specs.Process.Calls.{is_ready, with_priority}
use Rattle.xinu_model.specs.Process.Scheduling.{in_state, resched}
use Rattle.xinu_model.specs.Sound.Tables.{count_in, IsInside, IsSoundTables}
use Rattle.xinu_model.specs.Tables.{no_process, no_semaphore, Tables, process_at, state_at, message_at, semaphore_at, numbers_without, waits_without, Place, Nowhere, InReady, move_to}
use Rattle.table_laws.proofs.Lists.Counts.{count_last_other, numbers_without_other, numbers_without_same}
use Rattle.table_laws.proofs.Tables.MoveTo.{by_number, process_move_other, state_move_same, state_move_other}
use Rattle.table_laws.proofs.Tables.Unblock.{all_take}
use Rattle.scheduling_laws.proofs.Moves.{Anyone, IsClosed}
use Rattle.scheduling_laws.proofs.Passes.Events.{IsCarried}
use Rattle.scheduling_laws.proofs.Resched.{by_resched}
use Rattle.scheduling_laws.proofs.Waiters.{all_others, waiters_given, waiters_left, waiters_moved}
use Rattle.bounded_waits.proofs.Rests.{rests_move, rests_resched, rest_set}
use Rattle.bounded_waits.proofs.Waiting.{same_ticked}

module _ (p : ℕ) (left : Rest) where
  -- p waits nowhere and doesn't run
  abbrev pub Apart : Tables → Type 0
  Apart t = (length t.processes ≡ 64) × (p < 64) × ((sem : ℕ) → count_in p (semaphore_at t sem).waiters ≡ 0) × (t.current ≢ p)

  -- this is left of its call, or it is dead
  abbrev pub HasOrLost : Tables → Type 0
  HasOrLost t = ((process_at t p).rest ≡ left) ⊎ (state_at t p ≡ Free)

  abbrev Holds : Tables → Bool → Type 0
  Holds t owes = Apart t × HasOrLost t

  -- as the event begins it lives
  abbrev pub Begins : Tables → Type 0
  Begins t = Apart t × ((process_at t p).rest ≡ left) × (state_at t p ≢ Free)

  begins : (t : Tables) → Begins t → Apart t × HasOrLost t
  begins t b = (b.0, inl b.1)

  -- another process moves
  other : (t : Tables) (x : ℕ) (y : Process) (m : Option ℕ) (place : Place) → p ≢ x → Apart t × HasOrLost t
      → Apart (move_to x y m place t) × HasOrLost (move_to x y m place t)
  other t x y m place n h =
      let none : (sem : ℕ) → count_in p (numbers_without x (semaphore_at t sem).waiters) ≡ 0 =
      λ sem. numbers_without_other p x (semaphore_at t sem).waiters n ∙ h.0.2 sem in (
        (
          length-set t.processes x y ∙ h.0.0,
          h.0.1,
          (λ sem. waiters_moved (λ l. count_in p l ≡ 0) t x sem y m place (none sem)
              (count_last_other p x (numbers_without x (semaphore_at t sem).waiters) n ∙ none sem)),
          h.0.3,
        ),
        ⊎_elim (λ (f : (process_at t p).rest ≡ left). inl (ap (λ (z : Process). z.rest) (process_move_other t p x y m place n) ∙ f))
            (λ (f : state_at t p ≡ Free). inr (state_move_other t p x y m place n ∙ f)) h.1,
      )

  -- it moves itself, to the ready list or nowhere
  apart_itself : (t : Tables) (y : Process) (m : Option ℕ) (place : Place)
      → ((sem : ℕ) → (semaphore_at (move_to p y m place t) sem).waiters ≡ (get_or (waits_without p t.semaphores) sem no_semaphore).waiters)
      → Apart t → Apart (move_to p y m place t)
  apart_itself t y m place same h = (
    length-set t.processes p y ∙ h.0,
    h.1,
    (λ sem. ap (count_in p) (same sem)
        ∙ waiters_left (λ l. count_in p l ≡ 0) p sem t.semaphores (numbers_without_same p (semaphore_at t sem).waiters)),
    h.3,
  )

  -- p is made ready, if it lives
  ready_itself : (t : Tables) (y : Process) (m : Option ℕ) → y.rest ≡ (process_at t p).rest → Apart t → (process_at t p).rest ≡ left
      → Apart (move_to p y m InReady t) × HasOrLost (move_to p y m InReady t)
  ready_itself t y m same h f = (apart_itself t y m InReady (λ sem. refl) h, inl (rests_move t p y m InReady same p ∙ f))

  stopped_itself : (t : Tables) (y : Process) (m : Option ℕ) → y.rest ≡ (process_at t p).rest → Apart t → (process_at t p).rest ≡ left
      → Apart (move_to p y m Nowhere t) × HasOrLost (move_to p y m Nowhere t)
  stopped_itself t y m same h f = (apart_itself t y m Nowhere (λ sem. refl) h, inl (rests_move t p y m Nowhere same p ∙ f))

  dies : (t : Tables) (x : ℕ) → Apart t × HasOrLost t → Apart (move_to x no_process None Nowhere t) × HasOrLost (move_to x no_process None Nowhere t)
  dies t x h =
      by_number x p (λ z. Apart (move_to z no_process None Nowhere t) × HasOrLost (move_to z no_process None Nowhere t))
      (apart_itself t no_process None Nowhere (λ sem. refl) h.0, inr (state_move_same t p no_process None Nowhere h.0.0 h.0.1))
      (λ n. other t x no_process None Nowhere (λ e. n (sym e)) h)

  -- who listens gets a message
  hears : (t : Tables) (x m : ℕ) → listens (state_at t x) ≡ true → Apart t × HasOrLost t
      → Apart (move_to x (in_state Ready (process_at t x)) (Some m) InReady t) × HasOrLost (move_to x (in_state Ready (process_at t x)) (Some m) InReady t)
  hears t x m l h =
      by_number x p (λ z. listens (state_at t z) ≡ true
      → Apart (move_to z (in_state Ready (process_at t z)) (Some m) InReady t) × HasOrLost (move_to z (in_state Ready (process_at t z)) (Some m) InReady t))
      (λ f. ⊎_elim (λ (g : (process_at t p).rest ≡ left). ready_itself t (in_state Ready (process_at t p)) (Some m) refl h.0 g)
      (λ (g : state_at t p ≡ Free). absurd (true≢false (sym f ∙ ap listens g))) h.1)
      (λ n _. other t x (in_state Ready (process_at t x)) (Some m) InReady (λ e. n (sym e)) h) l

  -- others become ready, one after another
  unblocked : (value : ℤ) (ps : List ℕ) (d : CallState) → AllByRecursion (λ x. p ≢ x) ps → Apart d.state.tables × HasOrLost d.state.tables
      → Apart (unblock_all_with value ps d).state.tables × HasOrLost (unblock_all_with value ps d).state.tables
  unblocked value [] d all h = h
  unblocked value (x ∷ ps) d all h =
      let t = d.state.tables in
      unblocked value ps (unblock_with value x d) all.1 (other t x (in_state Ready (process_at t x)) (message_at t x) InReady all.0 h)

  -- a process that isn't free is resumed, or suspended
  resumed : (t : Tables) (x : ℕ) → Begins t
      → Apart (move_to x (in_state Ready (process_at t x)) (message_at t x) InReady t)
      × HasOrLost (move_to x (in_state Ready (process_at t x)) (message_at t x) InReady t)
  resumed t x b =
      by_number x p (λ z. Apart (move_to z (in_state Ready (process_at t z)) (message_at t z) InReady t)
      × HasOrLost (move_to z (in_state Ready (process_at t z)) (message_at t z) InReady t))
      (ready_itself t (in_state Ready (process_at t p)) (message_at t p) refl b.0 b.1)
      (λ n. other t x (in_state Ready (process_at t x)) (message_at t x) InReady (λ e. n (sym e)) (begins t b))

  suspended : (t : Tables) (x : ℕ) → Begins t
      → Apart (move_to x (in_state Suspended (process_at t x)) (message_at t x) Nowhere t)
      × HasOrLost (move_to x (in_state Suspended (process_at t x)) (message_at t x) Nowhere t)
  suspended t x b =
      by_number x p (λ z. Apart (move_to z (in_state Suspended (process_at t z)) (message_at t z) Nowhere t)
      × HasOrLost (move_to z (in_state Suspended (process_at t z)) (message_at t z) Nowhere t))
      (stopped_itself t (in_state Suspended (process_at t p)) (message_at t p) refl b.0 b.1)
      (λ n. other t x (in_state Suspended (process_at t x)) (message_at t x) Nowhere (λ e. n (sym e)) (begins t b))

  -- a process gets another priority
  placed : (t : Tables) (x : ℕ) (priority : ℤ) → Begins t → Apart (with_priority x priority t) × HasOrLost (with_priority x priority t)
  placed t x priority b =
      let y = record (process_at t x) { priority = priority } in
      cond_both (is_ready y.state) (move_to x y (message_at t x) InReady t) (record t { processes = slice_set t.processes x y })
      (λ u. Apart u × HasOrLost u)
      (λ _. by_number x p (λ z. (let w = record (process_at t z) { priority = priority } in
      Apart (move_to z w (message_at t z) InReady t) × HasOrLost (move_to z w (message_at t z) InReady t)))
      (ready_itself t (record (process_at t p) { priority = priority }) (message_at t p) refl b.0 b.1)
      (λ n. other t x y (message_at t x) InReady (λ e. n (sym e)) (begins t b)))
      (λ _. (
        (length-set t.processes x y ∙ b.0.0, b.0.1, b.0.2, b.0.3),
        inl (rest_set t.processes x p y refl ∙ b.1),
      ))

  closed : IsClosed Anyone Anyone (λ t. Begins t × IsSoundTables t) (λ t owes. Apart t × HasOrLost t)
  closed = record {
    begins = λ t b. begins t b.0;
    owes = λ t h. h;
    releases = λ value sem n d touch h. let l = (semaphore_at d.state.tables sem).waiters in
        unblocked value (take n l) d (all_take (λ x. p ≢ x) n l (all_others p l (h.0.2 sem))) h;
    hears = λ t b x m l h. hears t x m l h;
    replies = λ t b sem x xs reply touch c f h. other t x (record (process_at t x) { state = Ready; rest = rest.Disk (Some reply) }) (message_at t x) InReady
        (subst (AllByRecursion (λ r. p ≢ r)) f (all_others p (semaphore_at t sem).waiters (h.0.2 sem))).0 h;
    counts = λ t b sem x touch f h. (
      (
        h.0.0,
        h.0.1,
        (λ r. waiters_given (λ l. count_in p l ≡ 0) t sem r x (λ _.
            ⊎_elim (λ (e : x.waiters ≡ []). subst (λ l. count_in p l ≡ 0) (sym e) refl)
            (λ (e : x.waiters ≡ (semaphore_at t sem).waiters). subst (λ l. count_in p l ≡ 0) (sym e) (h.0.2 sem)) f) (h.0.2 r)),
        h.0.3,
      ),
      h.1,
    );
    numbers = λ t b n h. h;
    messages = λ t b q m h. h;
    goes_on = λ t m c b. other t t.current (record (process_at t t.current) { rest = rest.Nothing }) m Nowhere (λ e. b.0.0.3 (sym e)) (begins t b.0);
    stops = λ t state part place touch h.
        other t t.current (record (process_at t t.current) { state = state; rest = part }) (message_at t t.current) place (λ e. h.0.3 (sym e)) h;
    dies = λ t b x n h. dies t x h;
    exits = λ t b x h. dies t x h;
    makes = λ t x y c free b. other t x y None Nowhere (λ e. b.0.2 (ap (state_at t) e ∙ free)) (begins t b.0);
    resumes = λ t x c s b. resumed t x b.0;
    suspends = λ t x c s b. suspended t x b.0;
    places = λ t x priority n c b. placed t x priority b.0;
  }

  -- who is dead stays so in a resched
  lost_resched : (t : Tables) → IsInside t → state_at t p ≡ Free → state_at (resched t) p ≡ Free
  lost_resched t o h =
      by_resched (λ u. state_at u p ≡ Free) t o h
      (λ e. state_move_other t p t.current (in_state Ready (process_at t t.current)) (message_at t t.current) InReady
      (λ f. let g : Free ≡ Current = sym h ∙ ap (state_at t) f ∙ e in absurd (cc)) ∙ h)
      (λ u q i r lost. state_move_other (record u { current = q; quantum = 2 }) p q (in_state Current (process_at u q)) (message_at u q) Nowhere
      (λ f. let g : Free ≡ Ready = sym lost ∙ ap (state_at u) f ∙ r in absurd (cc)) ∙ lost)

  left_resched : (t : Tables) → IsInside t → HasOrLost t → HasOrLost (resched t)
  left_resched t o h =
      ⊎_elim (λ (f : (process_at t p).rest ≡ left). inl (rests_resched t p ∙ f)) (λ (f : state_at t p ≡ Free). inr (lost_resched t o f)) h

  -- So after each event.
  pub carried : IsCarried Anyone Anyone (λ t. Begins t × IsSoundTables t) (λ t owes. Apart t × HasOrLost t) HasOrLost
  carried = record {
    moves = closed;
    stays = λ t b. inl b.0.1;
    ends = λ t o h. h.1;
    rescheds = λ t o h. left_resched t o h.1;
    ticks = λ s c b. inl (same_ticked p s c ∙ b.0.1);
  }
