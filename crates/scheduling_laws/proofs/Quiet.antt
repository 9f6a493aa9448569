-- An event in which no call changes a process's semaphore leaves it its tokens, and those of its waiters who live.
use Rattle.std.proofs.Common.{◌≡◌, ◌≢◌, ◌⊎◌, inl, inr, ⊎_elim, ℕ, zero, suc, ◌+◌, ◌<◌, ◌==◌, ◌&&◌, Bool, true, false, not, cond, List, [], ◌∷◌, filter, length, take, Option, Some, None, refl, sym, ap, subst, ◌∙◌, arith, get_or-set_same, get_or-set_other, ℤ}
use Rattle.std.specs.Prelude.{slice_index, slice_set}
use Rattle.std.specs.List.{AllByRecursion}
use Rattle.std.proofs.Math.ListN.{length-set}
use Rattle.std.proofs.lemmas.Bool.{cond_both, eq-eqb, ne_eqb, and_from, and_right, true≢false}
use Rattle.xinu_base.specs.declared.events.Event.{Event}
use Rattle.xinu_base.specs.declared.lines.TranscriptLine.{TranscriptLine}
use Rattle.xinu_base.specs.declared.processes.Process.{Process}
use Rattle.xinu_base.specs.declared.processes.Rest.TheVariants as rest
use Rattle.xinu_base.specs.declared.processes.State.TheVariants.{Free, Current, Ready, Suspended, Waiting}
use Rattle.xinu_base.specs.declared.semaphores.Owner.TheVariants as owner
use Rattle.xinu_model.specs.Clock.{due, ticked}
use Rattle.xinu_model.specs.Events.{Happens}
use Rattle.xinu_model.specs.Machine.{Xinu}
use Rattle.xinu_model.specs.Messages.{listens}
use Rattle.xinu_model.specs.Process.Calls.{is_ready, with_priority}
use Rattle.xinu_model.specs.Process.Scheduling.{in_state, ready, ready_all, resched}
use Rattle.xinu_model.specs.Semaphores.Counts.{is_good, with_semaphore}
use Rattle.xinu_model.specs.Sound.State.{IsSound}
use Rattle.xinu_model.specs.Sound.Tables.{count_in, sleeping_places, waiting_places, IsInside, IsSoundTables}
use Rattle.xinu_model.specs.Tables.{no_process, Semaphore, no_semaphore, Tables, process_at, state_at, message_at, semaphore_at, is_free, numbers_without, semaphore_without, waits_without, Place, Nowhere, InReady, InSemaphore, InSleepers, move_to}
use Rattle.table_laws.proofs.Frame.Order.{filter_all}
use Rattle.table_laws.proofs.Lists.Counts.{count_behind, count_last_other, first_is_counted, numbers_without_other, numbers_without_same, two-le-total}
use Rattle.table_laws.proofs.Lists.Orders.{all_weaker}
use Rattle.table_laws.proofs.Tables.MoveTo.{by_number, within_table, state_move_same, state_move_other}
use Rattle.table_laws.proofs.Tables.Places.{semaphore_at_without}
use Rattle.table_laws.proofs.Tables.Unblock.{IsOneOf, all_are_of, all_counted, unblock_all_with_ready, waiter_waits}
use Rattle.xinu_laws.proofs.Preserve.Semaphores.{good_semaphore}
use Rattle.scheduling_laws.specs.Tokens.{changes, changes_semaphore, living}
use Rattle.scheduling_laws.proofs.Kernels.{other_kernels}
use Rattle.scheduling_laws.proofs.Moves.{Anyone, IsClosed, MayChange, MayDo, MayStop}
use Rattle.scheduling_laws.specs.Moments.{call_in}
use Rattle.xinu_base.specs.declared.syscalls.Call.{Call}
use Rattle.scheduling_laws.proofs.Passes.Events.{IsCarried, carried_where}
use Rattle.scheduling_laws.proofs.Resched.{by_resched, by_tick}
use Rattle.scheduling_laws.proofs.Waiters.{waiters_given, waiters_left, waiters_moved}
use Rattle.scheduling_laws.proofs.Waking.{never_due}
use Rattle.xinu_model.proofs.States.{is_ready_of}

-- two tests that agree on each element of a list filter it alike
pub filter_agrees : (f g : ℕ → Bool) (l : List ℕ) → ((p : ℕ) → 0 < count_in p l → f p ≡ g p) → filter f l ≡ filter g l
filter_agrees f g [] same = refl
filter_agrees f g (x ∷ xs) same =
    ap (λ b. cond b (x ∷ filter f xs) (filter f xs)) (same x (first_is_counted x xs))
    ∙ ap (λ l. cond (g x) (x ∷ l) l) (filter_agrees f g xs (λ p h. same p (count_behind p x xs h)))

-- a filter after another
filter_twice : (f g : ℕ → Bool) (l : List ℕ) → filter f (filter g l) ≡ filter (λ p. g p && f p) l
filter_twice f g [] = refl
filter_twice f g (x ∷ xs) =
    let rest = filter_twice f g xs in
    cond_both (g x) (x ∷ filter g xs) (filter g xs) (λ l. filter f l ≡ filter (λ p. g p && f p) (x ∷ xs))
    (λ b. subst (λ c. filter f (x ∷ filter g xs) ≡ cond (c && f x) (x ∷ filter (λ p. g p && f p) xs) (filter (λ p. g p && f p) xs)) (sym b)
    (ap (λ l. cond (f x) (x ∷ l) l) rest))
    (λ b. subst (λ c. filter f (filter g xs) ≡ cond (c && f x) (x ∷ filter (λ p. g p && f p) xs) (filter (λ p. g p && f p) xs)) (sym b) rest)

-- what is also asked of nothing
pub and_true : (b : Bool) → b && true ≡ b
and_true true = refl
and_true false = refl

-- what holds of each element of a list, as it is in the list
all_of : (P : ℕ → Type 0) (l : List ℕ) → ((p : ℕ) → IsOneOf p l → P p) → AllByRecursion P l
all_of P l h = all_weaker (λ p. IsOneOf p l) P h l (all_are_of l)

-- none is what isn't more
none_or_some : (n : ℕ) → (n ≡ 0) ⊎ (0 < n)
none_or_some zero = inl refl
none_or_some (suc n) = inr (omega arith)

module _ (sem : ℕ) (x : Semaphore) (image : x.owner ≡ Some owner.Image) where
  -- whether a process is one of those who waited
  abbrev Waited : ℕ → Type 0
  Waited p = 0 < count_in p x.waiters

  abbrev Other : ℕ → Type 0
  Other p = count_in p x.waiters ≡ 0

  -- who waited isn't another
  differs : (p q : ℕ) → Waited p → Other q → p ≢ q
  differs p q h o e = let f = ap (λ r. count_in r x.waiters) e in absurd (omega arith)

  -- The semaphore has its tokens and those of its waiters who live. They wait there alone.
  pub record IsLeft (t : Tables) : Type 0 where
    pub many : length t.processes ≡ 64
    pub kept : semaphore_at t sem ≡ living t x
    pub states : (p : ℕ) → Waited p → (state_at t p ≡ Waiting) ⊎ (state_at t p ≡ Free)
    pub apart : (r p : ℕ) → r ≢ sem → Waited p → count_in p (semaphore_at t r).waiters ≡ 0
    pub few : (p : ℕ) → Waited p → p < 64

  -- what begins an event, and what holds inside it: none of the waiters runs
  abbrev Begins : Tables → Type 0
  Begins t = IsSoundTables t × (semaphore_at t sem ≡ x)

  abbrev Holds : Tables → Bool → Type 0
  Holds t owes = IsLeft t × Other t.current

  -- who neither waits nor is free isn't one of them
  other_by : (t : Tables) (q : ℕ) → IsLeft t → (state_at t q ≢ Waiting) → (state_at t q ≢ Free) → Other q
  other_by t q k w f =
      ⊎_elim (λ (e : Other q). e)
      (λ (h : Waited q). absurd (⊎_elim (λ (e : state_at t q ≡ Waiting). w e) (λ (e : state_at t q ≡ Free). f e) (k.states q h)))
      (none_or_some (count_in q x.waiters))

  -- at first each waits
  waits_first : (t : Tables) → Begins t → (p : ℕ) → Waited p → state_at t p ≡ Waiting
  waits_first t b p h = waiter_waits t sem p b.0.inside (subst (λ (y : Semaphore). 0 < count_in p y.waiters) (sym b.1) h)

  other_first : (t : Tables) (q : ℕ) → Begins t → (state_at t q ≢ Waiting) → Other q
  other_first t q b w =
      ⊎_elim (λ (e : Other q). e) (λ (h : Waited q). absurd (w (waits_first t b q h))) (none_or_some (count_in q x.waiters))

  left_begins : (t : Tables) → Begins t → IsLeft t
  left_begins t b =
      let waits = waits_first t b in
      record {
        many = b.0.inside.processes;
        kept = b.1 ∙ ap (λ ws. record { owner = x.owner; tokens = x.tokens; waiters = ws })
            (sym (filter_all (λ p. not (is_free (state_at t p))) x.waiters (λ p h. ap (λ s. not (is_free s)) (waits p h))));
        states = λ p h. inl (waits p h);
        apart = λ r p n h. (let a = b.0.inside.waiting p in
            let w : waiting_places (state_at t p) ≡ 1 = ap waiting_places (waits p h) in
            let c = two-le-total (λ (y : Semaphore). count_in p y.waiters) t.semaphores r sem no_semaphore refl n in
            let f : 0 < count_in p (semaphore_at t sem).waiters = subst (λ (y : Semaphore). 0 < count_in p y.waiters) (sym b.1) h in
            omega arith);
        few = λ p h. within_table t p b.0.inside.processes (λ f. let g = sym (waits p h) ∙ f in cc);
      }

  holds_begins : (t : Tables) → Begins t → Holds t false
  holds_begins t b = (left_begins t b, other_first t t.current b (λ e. let g = sym b.0.runs ∙ e in cc))

  -- the semaphore after q left its place for one that isn't there
  at_moved : (t : Tables) (q : ℕ) (y : Process) (m : Option ℕ) (place : Place) → MayStop (λ r. r ≢ sem) place
      → semaphore_at (move_to q y m place t) sem ≡ semaphore_without q (semaphore_at t sem)
  at_moved t q y m Nowhere may = semaphore_at_without q sem t.semaphores
  at_moved t q y m InReady may = semaphore_at_without q sem t.semaphores
  at_moved t q y m (InSleepers wake) may = semaphore_at_without q sem t.semaphores
  at_moved t q y m (InSemaphore r) may =
      get_or-set_other (waits_without q t.semaphores) r sem _ no_semaphore (λ e. may (sym e)) ∙ semaphore_at_without q sem t.semaphores

  -- the waiters who live without one who doesn't live any more
  living_without : (t u : Tables) (q : ℕ)
      → ((p : ℕ) → Waited p → not (is_free (state_at t p)) && not (p == q) ≡ not (is_free (state_at u p)))
      → semaphore_without q (living t x) ≡ living u x
  living_without t u q same =
      ap (λ ws. record { owner = x.owner; tokens = x.tokens; waiters = ws })
      (filter_twice (λ p. not (p == q)) (λ p. not (is_free (state_at t p))) x.waiters
      ∙ filter_agrees (λ p. not (is_free (state_at t p)) && not (p == q)) (λ p. not (is_free (state_at u p))) x.waiters same)

  -- One who didn't wait moves anywhere else.
  left_moved : (t : Tables) (q : ℕ) (y : Process) (m : Option ℕ) (place : Place) → MayStop (λ r. r ≢ sem) place → Other q → IsLeft t
      → IsLeft (move_to q y m place t)
  left_moved t q y m place may o k =
      let u = move_to q y m place t in
      let state : (p : ℕ) → Waited p → state_at u p ≡ state_at t p = λ p h. state_move_other t p q y m place (differs p q h o) in
      record {
        many = length-set t.processes q y ∙ k.many;
        kept = at_moved t q y m place may ∙ ap (semaphore_without q) k.kept
            ∙ living_without t u q (λ p h. ap (λ b. not (is_free (state_at t p)) && not b) (ne_eqb p q (differs p q h o))
            ∙ and_true (not (is_free (state_at t p))) ∙ ap (λ s. not (is_free s)) (sym (state p h)));
        states = λ p h. subst (λ s. (s ≡ Waiting) ⊎ (s ≡ Free)) (sym (state p h)) (k.states p h);
        apart = λ r p n h. (let was = numbers_without_other p q (semaphore_at t r).waiters (differs p q h o) ∙ k.apart r p n h in
            waiters_moved (λ ws. count_in p ws ≡ 0) t q r y m place was
            (count_last_other p q (numbers_without q (semaphore_at t r).waiters) (differs p q h o) ∙ was));
        few = k.few;
      }

  -- Any process dies.
  left_dies : (t : Tables) (q : ℕ) → IsLeft t → IsLeft (move_to q no_process None Nowhere t)
  left_dies t q k =
      let u = move_to q no_process None Nowhere t in
      let gone : q < 64 → state_at u q ≡ Free = state_move_same t q no_process None Nowhere k.many in
      record {
        many = length-set t.processes q no_process ∙ k.many;
        kept = semaphore_at_without q sem t.semaphores ∙ ap (semaphore_without q) k.kept
            ∙ living_without t u q (λ p. by_number p q (λ r. Waited r → not (is_free (state_at t r)) && not (r == q) ≡ not (is_free (state_at u r)))
            (λ h. ap (λ b. not (is_free (state_at t q)) && not b) (eq-eqb q q refl) ∙ and_right (not (is_free (state_at t q))) false refl
            ∙ ap (λ s. not (is_free s)) (sym (gone (k.few q h))))
            (λ n h. ap (λ b. not (is_free (state_at t p)) && not b) (ne_eqb p q n) ∙ and_true (not (is_free (state_at t p)))
            ∙ ap (λ s. not (is_free s)) (sym (state_move_other t p q no_process None Nowhere n))));
        states = λ p. by_number p q (λ r. Waited r → (state_at u r ≡ Waiting) ⊎ (state_at u r ≡ Free)) (λ h. inr (gone (k.few q h)))
            (λ n h. subst (λ s. (s ≡ Waiting) ⊎ (s ≡ Free)) (sym (state_move_other t p q no_process None Nowhere n)) (k.states p h));
        apart = λ r p n h. waiters_left (λ ws. count_in p ws ≡ 0) q r t.semaphores
            (by_number p q (λ z. count_in z (semaphore_at t r).waiters ≡ 0 → count_in z (numbers_without q (semaphore_at t r).waiters) ≡ 0)
            (λ _. numbers_without_same q (semaphore_at t r).waiters) (λ d z. numbers_without_other p q (semaphore_at t r).waiters d ∙ z)
            (k.apart r p n h));
        few = k.few;
      }

  -- Others become ready, one after another.
  left_all : (ps : List ℕ) (t : Tables) → AllByRecursion Other ps → IsLeft t → IsLeft (ready_all ps t)
  left_all [] t all k = k
  left_all (q ∷ ps) t all k =
      left_all ps (ready q t) all.1 (left_moved t q (in_state Ready (process_at t q)) (message_at t q) InReady tt all.0 k)

  current_all : (ps : List ℕ) (t : Tables) → (ready_all ps t).current ≡ t.current
  current_all [] t = refl
  current_all (q ∷ ps) t = current_all ps (ready q t)

  -- those who wait elsewhere are others
  others_at : (t : Tables) (r : ℕ) → r ≢ sem → IsLeft t → AllByRecursion Other (semaphore_at t r).waiters
  others_at t r n k =
      all_weaker (λ q. 0 < count_in q (semaphore_at t r).waiters) Other
      (λ q there. ⊎_elim (λ (e : Other q). e) (λ (h : Waited q). let z = k.apart r q n h in absurd (omega arith)) (none_or_some (count_in q x.waiters)))
      (semaphore_at t r).waiters (all_counted (semaphore_at t r).waiters)

  first_others : (n : ℕ) (l : List ℕ) → AllByRecursion Other l → AllByRecursion Other (take n l)
  first_others zero l h = tt
  first_others (suc n) [] h = tt
  first_others (suc n) (q ∷ l) h = (h.0, first_others n l h.1)

  -- Another semaphore is made, given up, or gets other tokens.
  left_given : (t : Tables) (r : ℕ) (y : Semaphore) → r ≢ sem → (y.waiters ≡ []) ⊎ (y.waiters ≡ (semaphore_at t r).waiters) → IsLeft t
      → IsLeft (with_semaphore r y t)
  left_given t r y n f k = record {
    many = k.many;
    kept = get_or-set_other t.semaphores r sem y no_semaphore (λ e. n (sym e)) ∙ k.kept;
    states = k.states;
    apart = λ i p d h. waiters_given (λ ws. count_in p ws ≡ 0) t r i y
        (λ e. ⊎_elim (λ (g : y.waiters ≡ []). subst (λ ws. count_in p ws ≡ 0) (sym g) refl)
        (λ (g : y.waiters ≡ (semaphore_at t r).waiters). subst (λ ws. count_in p ws ≡ 0) (sym g) (k.apart r p n h)) f) (k.apart i p d h);
    few = k.few;
  }

  -- a semaphore that may be changed is another
  may_differs : (t : Tables) (r : ℕ) → MayChange (λ i. i ≢ sem) t r → IsLeft t → r ≢ sem
  may_differs t r may k =
      ⊎_elim (λ (n : r ≢ sem). n)
      (λ (none : (semaphore_at t r).owner ≡ None) e.
      let f : (semaphore_at t sem).owner ≡ None = subst (λ i. (semaphore_at t i).owner ≡ None) e none in
      let g : (semaphore_at t sem).owner ≡ Some owner.Image = ap (λ (y : Semaphore). y.owner) k.kept ∙ image in
      let z = sym f ∙ g in cc) may

  -- a process gets another priority
  left_set : (t : Tables) (q : ℕ) (y : Process) → y.state ≡ state_at t q → IsLeft t
      → IsLeft (record t { processes = slice_set t.processes q y })
  left_set t q y e k =
      let u = record t { processes = slice_set t.processes q y } in
      let state : (p : ℕ) → Waited p → state_at u p ≡ state_at t p =
      λ p h. by_number p q (λ r. r < 64 → state_at u r ≡ state_at t r)
      (λ v. let many = k.many in ap (λ (z : Process). z.state) (get_or-set_same t.processes q y no_process (omega arith)) ∙ e)
      (λ n v. ap (λ (z : Process). z.state) (get_or-set_other t.processes q p y no_process n)) (k.few p h) in
      record {
        many = length-set t.processes q y ∙ k.many;
        kept = k.kept ∙ ap (λ ws. record { owner = x.owner; tokens = x.tokens; waiters = ws })
            (filter_agrees (λ p. not (is_free (state_at t p))) (λ p. not (is_free (state_at u p))) x.waiters
            (λ p h. ap (λ s. not (is_free s)) (sym (state p h))));
        states = λ p h. subst (λ s. (s ≡ Waiting) ⊎ (s ≡ Free)) (sym (state p h)) (k.states p h);
        apart = k.apart;
        few = k.few;
      }

  left_placed : (t : Tables) (q : ℕ) (priority : ℤ) → Begins t → IsLeft (with_priority q priority t)
  left_placed t q priority b =
      let y = record (process_at t q) { priority = priority } in
      cond_both (is_ready y.state) (move_to q y (message_at t q) InReady t) (record t { processes = slice_set t.processes q y }) IsLeft
      (λ r. let e = is_ready_of (state_at t q) r in
      left_moved t q y (message_at t q) InReady tt (other_first t q b (λ f. let g = sym e ∙ f in cc)) (left_begins t b))
      (λ _. left_set t q y refl (left_begins t b))

  -- who listens is another
  hearer_other : (t : Tables) (q : ℕ) → listens (state_at t q) ≡ true → IsLeft t → Other q
  hearer_other t q l k =
      other_by t q k (λ e. true≢false (sym l ∙ ap listens e)) (λ e. true≢false (sym l ∙ ap listens e))

  -- the current process stays the same over a change of priority
  current_placed : (t : Tables) (q : ℕ) (priority : ℤ) → (with_priority q priority t).current ≡ t.current
  current_placed t q priority =
      let y = record (process_at t q) { priority = priority } in
      cond_both (is_ready y.state) (move_to q y (message_at t q) InReady t) (record t { processes = slice_set t.processes q y })
      (λ u. u.current ≡ t.current) (λ _. refl) (λ _. refl)

  -- Each move of a call leaves the semaphore, if the call doesn't change it.
  left_closed : IsClosed Anyone (λ r. r ≢ sem) Begins Holds
  left_closed = record {
    begins = holds_begins;
    owes = λ t h. h;
    releases = λ value r n d touch h. let t = d.state.tables in
        let ps = take n (semaphore_at t r).waiters in
        subst (λ (s : Xinu). IsLeft s.tables × Other s.tables.current) (sym (unblock_all_with_ready value ps d))
        (left_all ps t (first_others n (semaphore_at t r).waiters (others_at t r touch h.0)) h.0, subst Other (sym (current_all ps t)) h.1);
    hears = λ t b q m l h. (left_moved t q (in_state Ready (process_at t q)) (Some m) InReady tt (hearer_other t q l h.0) h.0, h.1);
    replies = λ t b r q qs reply touch k f h. (
      left_moved t q (record (process_at t q) { state = Ready; rest = rest.Disk (Some reply) }) (message_at t q) InReady tt
          (subst (AllByRecursion Other) f (others_at t r touch h.0)).0 h.0,
      h.1,
    );
    counts = λ t b r y touch f h. (left_given t r y (may_differs t r touch h.0) f h.0, h.1);
    numbers = λ t b n h. (record { many = h.0.many; kept = h.0.kept; states = h.0.states; apart = h.0.apart; few = h.0.few }, h.1);
    messages = λ t b q m h. (record { many = h.0.many; kept = h.0.kept; states = h.0.states; apart = h.0.apart; few = h.0.few }, h.1);
    goes_on = λ t m k b. let h = holds_begins t b in
        (left_moved t t.current (record (process_at t t.current) { rest = rest.Nothing }) m Nowhere tt h.1 h.0, h.1);
    stops = λ t state left place touch h.
        (left_moved t t.current (record (process_at t t.current) { state = state; rest = left }) (message_at t t.current) place touch h.1 h.0, h.1);
    dies = λ t b q n h. (left_dies t q h.0, h.1);
    exits = λ t b q h. (left_dies t q h.0, h.1);
    makes = λ t q y k free b. let h = holds_begins t b in
        let u = move_to q y None Nowhere t in
        let m = left_moved t q y None Nowhere tt (other_first t q b (λ e. let g = sym free ∙ e in cc)) h.0 in
        (record { many = m.many; kept = m.kept; states = m.states; apart = m.apart; few = m.few }, h.1);
    resumes = λ t q k s b. let h = holds_begins t b in
        (left_moved t q (in_state Ready (process_at t q)) (message_at t q) InReady tt (other_first t q b (λ e. let g = sym s ∙ e in cc)) h.0, h.1);
    suspends = λ t q k s b. let h = holds_begins t b in
        (left_moved t q (in_state Suspended (process_at t q)) (message_at t q) Nowhere tt (other_first t q b (λ e. let g = sym s ∙ e in cc)) h.0, h.1);
    places = λ t q priority may k b. (left_placed t q priority b, subst Other (sym (current_placed t q priority)) (holds_begins t b).1);
  }

  -- a resched
  left_resched : (t : Tables) → IsInside t → IsLeft t → IsLeft (resched t)
  left_resched t o k =
      by_resched IsLeft t o k
      (λ e. left_moved t t.current (in_state Ready (process_at t t.current)) (message_at t t.current) InReady tt
      (other_by t t.current k (λ f. let g = sym e ∙ f in cc) (λ f. let g = sym e ∙ f in cc)) k)
      (λ u q i e h. let v = record u { current = q; quantum = 2 } in
      left_moved v q (in_state Current (process_at u q)) (message_at u q) Nowhere tt
      (other_by u q h (λ f. let g = sym e ∙ f in cc) (λ f. let g = sym e ∙ f in cc))
      (record { many = h.many; kept = h.kept; states = h.states; apart = h.apart; few = h.few }))

  -- a tick
  left_ticked : (s : Xinu) → IsSoundTables s.tables → Begins s.tables → IsLeft (ticked s).state.tables
  left_ticked s k b =
      let t = s.tables in
      let ps = due (t.ticks + 1) t.sleepers in
      by_tick IsLeft s k
      (λ u quantum ticks h. record { many = h.many; kept = h.kept; states = h.states; apart = h.apart; few = h.few }) left_resched
      (left_all ps t
      (all_of Other ps (λ q i. other_first t q b (λ e. never_due t q (t.ticks + 1) k.inside (ap sleeping_places e) i))) (left_begins t b))

  -- Each event without such a call leaves the semaphore.
  left_carried : IsCarried Anyone (λ r. r ≢ sem) Begins Holds IsLeft
  left_carried = record {
    moves = left_closed;
    stays = left_begins;
    ends = λ t o h. h.0;
    rescheds = λ t o h. left_resched t o h.0;
    ticks = left_ticked;
  }

-- a call that doesn't change the semaphore, if there is one
quiet_may : (sem : ℕ) (made : Option Call) → changes sem made ≡ false → MayDo Anyone (λ r. r ≢ sem) made
quiet_may sem None e = tt
quiet_may sem (Some call) e = (
  (λ f. tt),
  (λ f g. true≢false (sym (and_from (changes_semaphore call.number) (slice_index call.args 0 == sem) f (eq-eqb (slice_index call.args 0) sem g)) ∙ e)),
)

-- what is known of a semaphore that a process may name
good_owner : (sem : ℕ) (s : Xinu) → IsSound s → is_good sem s.tables ≡ true → (semaphore_at s.tables sem).owner ≡ Some owner.Image
good_owner sem s k good = (good_semaphore s.tables sem k.tables.inside good).owner

-- In an event without such a call the semaphore keeps its tokens, and those of its waiters who live, in their order.
pub quiet_happens : (sem : ℕ) (old : Xinu) (e : Event) (lines : List TranscriptLine) (new : Xinu) → IsSound old
    → is_good sem old.tables ≡ true → Happens old e lines new → changes sem (call_in e lines) ≡ false
    → semaphore_at new.tables sem ≡ living new.tables (semaphore_at old.tables sem)
quiet_happens sem old e lines new k good h none =
    (carried_where (left_carried sem (semaphore_at old.tables sem) (good_owner sem old k good)) old e lines new k (other_kernels sem old k good)
    (k.tables, refl) h (quiet_may sem (call_in e lines) none)).kept
