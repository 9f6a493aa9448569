-- Of two equals that one call releases, who came earlier is ahead in the ready list.
use Rattle.std.proofs.Common.{◌≡◌, ◌≢◌, inl, inr, ⊎_elim, ℕ, zero, suc, ◌<◌, ◌≤◌, ◌==◌, ◌||◌, not, Bool, true, false, cond, List, [], ◌∷◌, ◌++◌, filter, length, take, refl, sym, ap, subst, ◌∙◌, arith, ℤ, pos, ◌+ℤ◌}
use Rattle.std.specs.Prelude.{int_lt}
use Rattle.std.specs.List.{AllByRecursion}
use Rattle.std.proofs.Math.ListN.{length-set}
use Rattle.std.proofs.lemmas.Bool.{and_from, cases_eq, cond_both, eq-eqb, eqb-false, eqb-true, ne_eqb, true≢false}
use Rattle.xinu_base.specs.Constants.{OK, SYSERR}
use Rattle.xinu_base.specs.Insert.{ready_insert}
use Rattle.xinu_base.specs.declared.processes.Process.{Process}
use Rattle.xinu_base.specs.declared.processes.State.{State}
use Rattle.xinu_base.specs.declared.processes.State.TheVariants.{Current, Free, Ready, Receiving, Sleeping, Suspended, Timed, Waiting}
use Rattle.xinu_model.specs.Machine.{Xinu, CallResult, closed, refused, returns, start, with_tables}
use Rattle.xinu_model.specs.Process.Scheduling.{in_state, is_current, dispatch_first, keeps_cpu, preempt, ready, ready_all, resched}
use Rattle.xinu_model.specs.Semaphores.Calls.{semdelete, semreset, signaln}
use Rattle.xinu_model.specs.Semaphores.Counts.{count_of, is_good, most_tokens, with_semaphore, with_tokens}
use Rattle.xinu_model.specs.Semaphores.Waiting.{emptied, emptied_with, signalled_times}
use Rattle.xinu_model.specs.Sound.State.{IsSound}
use Rattle.xinu_model.specs.Sound.Tables.{count_in, entries_of, waiting_places}
use Rattle.xinu_model.specs.Tables.{no_semaphore, Semaphore, Tables, process_at, state_at, message_at, semaphore_at, entries_without, InReady}
use Rattle.table_laws.proofs.Lists.Counts.{count_more, entries_insert_same, entries_without_other, entries_without_same, first_has_entry, get_or-le-total, times-append}
use Rattle.table_laws.proofs.Lists.Orders.{all_both, all_filter, all_passes, all_ready_in, all_weaker}
use Rattle.table_laws.proofs.Tables.MoveTo.{by_number, within_table, process_move_same, process_move_other}
use Rattle.table_laws.proofs.Tables.Places.{ready_in_other}
use Rattle.table_laws.proofs.Tables.Unblock.{unblock_all_ready, unblock_all_with_ready, waiter_waits}
use Rattle.scheduling_laws.specs.Fairness.{firsts, IsAhead, IsBefore, WaitsBefore}
use Rattle.scheduling_laws.proofs.Lows.{HasKey, filter_has, key_without}
use Rattle.scheduling_laws.proofs.Orders.{before_counts}
use Rattle.scheduling_laws.proofs.TwoTicks.{not_below}
use Rattle.scheduling_laws.proofs.Waiters.{all_others}

-- who is in the list of entries
count_firsts : (q : ℕ) (l : List (ℕ × ℤ)) → count_in q (firsts l) ≡ entries_of q l
count_firsts q [] = refl
count_firsts q (x ∷ xs) = ap (λ n. cond (x.0 == q) (suc n) n) (count_firsts q xs)

-- what holds of each entry holds of those of a list
everywhere : {P : ℕ × ℤ → Type 0} → ((e : ℕ × ℤ) → P e) → (l : List (ℕ × ℤ)) → AllByRecursion P l
everywhere f [] = tt
everywhere f (e ∷ l) = (f e, everywhere f l)

-- another's entry stays as y leaves
stays : (r y : ℕ) → r ≢ y → (e : ℕ × ℤ) → e.0 ≡ r → not (e.0 == y) ≡ true
stays r y n e f = ap not (ne_eqb e.0 y (λ g. n (sym f ∙ g)))

-- Who is before another among some is another one, if it is there once.
two_differ : (p q : ℕ) (l : List ℕ) → IsBefore p q l → count_in p l ≤ 1 → p ≢ q
two_differ p q [] h few e = absurd h
two_differ p q (x ∷ xs) h few e =
    ⊎_elim
    (λ (f : (x ≡ p) × (0 < count_in q xs)).
    let more : 0 < count_in p xs = subst (λ r. 0 < count_in r xs) (sym e) f.1 in
    absurd (cond_both (x == p) (suc (count_in p xs)) (count_in p xs) (λ n. n ≤ 1 → ⊥) (λ _ m. absurd (omega arith)) (λ b m. eqb-false x p b f.0) few))
    (λ (f : (x ≢ q) × IsBefore p q xs). let less = count_more p x xs in two_differ p q xs f.1 (omega arith) e) h

-- Both are among the first n, if the later one is.
before_take : (p q n : ℕ) (l : List ℕ) → p ≢ q → IsBefore p q l → 0 < count_in q (take n l) → IsBefore p q (take n l)
before_take p q zero l apart h some = absurd (omega arith)
before_take p q (suc n) [] apart h some = h
before_take p q (suc n) (x ∷ xs) apart h some =
    let c = count_in q (take n xs) in
    let left : x ≢ q → 0 < c = λ d. subst (λ b. 0 < cond b (suc c) c) (ne_eqb x q d) some in
    ⊎_elim (λ (f : (x ≡ p) × (0 < count_in q xs)). inl (f.0, left (λ e. apart (sym f.0 ∙ e))))
    (λ (f : (x ≢ q) × IsBefore p q xs). inr (f.0, before_take p q n xs apart f.1 (left f.0))) h

-- no more are among the first n than in all
count_take : (p n : ℕ) (l : List ℕ) → count_in p (take n l) ≤ count_in p l
count_take p zero l = omega arith
count_take p (suc n) [] = omega arith
count_take p (suc n) (x ∷ xs) =
    let less = count_take p n xs in
    let few : count_in p (take n xs) ≤ count_in p xs = less in
    one_more (x == p) (count_in p (take n xs)) (count_in p xs) few
  where
    one_more : (b : Bool) (i j : ℕ) → i ≤ j → cond b (suc i) i ≤ cond b (suc j) j
    one_more true i j h = omega arith
    one_more false i j h = h

module _ (p q : ℕ) (k : ℤ) (apart : p ≢ q) where
  -- Two with key k keep their order in a part of the ready list in which both are,
  before_filter : (kept : ℕ × ℤ → Bool) (l : List (ℕ × ℤ)) → AllByRecursion (λ e. e.0 ≡ p → kept e ≡ true) l
      → AllByRecursion (λ e. e.0 ≡ q → kept e ≡ true) l → IsBefore p q (firsts l) → IsBefore p q (firsts (filter kept l))
  before_filter kept [] hp hq b = b
  before_filter kept (x ∷ xs) hp hq b =
      let some : 0 < entries_of q xs → 0 < count_in q (firsts (filter kept xs)) =
      λ h. subst (λ n. 0 < n) (sym (count_firsts q (filter kept xs))) (filter_has q kept xs hq.1 h) in
      ⊎_elim
      (λ (f : (x.0 ≡ p) × (0 < count_in q (firsts xs))).
      subst (λ c. IsBefore p q (firsts (cond c (x ∷ filter kept xs) (filter kept xs)))) (sym (hp.0 f.0))
      (inl (f.0, some (subst (λ n. 0 < n) (count_firsts q xs) f.1))))
      (λ (f : (x.0 ≢ q) × IsBefore p q (firsts xs)).
      let more = before_filter kept xs hp.1 hq.1 f.1 in
      cond_both (kept x) (x ∷ filter kept xs) (filter kept xs) (λ l. IsBefore p q (firsts l)) (λ _. inr (f.0, more)) (λ _. more)) b

  -- ahead of others,
  before_first : (xs ys : List (ℕ × ℤ)) → IsBefore p q (firsts xs) → IsBefore p q (firsts (xs ++ ys))
  before_first [] ys b = absurd b
  before_first (x ∷ xs) ys b =
      ⊎_elim
      (λ (f : (x.0 ≡ p) × (0 < count_in q (firsts xs))).
      let here : 0 < entries_of q xs = subst (λ n. 0 < n) (count_firsts q xs) f.1 in
      let sum = times-append (λ (e : ℕ × ℤ). e.0 == q) xs ys in
      let all : 0 < entries_of q (xs ++ ys) = omega arith in
      inl (f.0, subst (λ n. 0 < n) (sym (count_firsts q (xs ++ ys))) all))
      (λ (f : (x.0 ≢ q) × IsBefore p q (firsts xs)). inr (f.0, before_first xs ys f.1)) b

  -- and behind others.
  before_after : (xs ys : List (ℕ × ℤ)) → AllByRecursion (λ e. e.0 ≢ q) xs → IsBefore p q (firsts ys) → IsBefore p q (firsts (xs ++ ys))
  before_after [] ys h b = b
  before_after (x ∷ xs) ys h b = inr (h.0, before_after xs ys h.1 b)

  -- One is in the first part, the other in the second.
  before_there : (xs ys : List (ℕ × ℤ)) → AllByRecursion (λ e. e.0 ≢ q) xs → 0 < entries_of p xs → 0 < entries_of q ys
      → IsBefore p q (firsts (xs ++ ys))
  before_there [] ys h here there = absurd (omega arith)
  before_there (x ∷ xs) ys h here there =
      let sum = times-append (λ (e : ℕ × ℤ). e.0 == q) xs ys in
      let all : 0 < entries_of q (xs ++ ys) = omega arith in
      cond_both (x.0 == p) (suc (entries_of p xs)) (entries_of p xs) (λ n. 0 < n → IsBefore p q (firsts ((x ∷ xs) ++ ys)))
      (λ b _. inl (eqb-true x.0 p b, subst (λ n. 0 < n) (sym (count_firsts q (xs ++ ys))) all))
      (λ b some. inr (h.0, before_there xs ys h.1 some there)) here

  -- Another comes into the list.
  before_insert : (y : ℕ) (key : ℤ) (l : List (ℕ × ℤ)) → q ≢ y → HasKey p k l → HasKey q k l → IsBefore p q (firsts l)
      → IsBefore p q (firsts (ready_insert y key l))
  before_insert y key l other hp hq b = by_key (int_lt k key) refl
    where
      goes_before : ℕ × ℤ → Bool
      goes_before e = not (int_lt e.1 key)

      passes : (r : ℕ) → HasKey r k l → int_lt k key ≡ false → AllByRecursion (λ e. e.0 ≡ r → goes_before e ≡ true) l
      passes r h c =
          all_weaker (λ e. e.0 ≡ r → e.1 ≡ k) (λ e. e.0 ≡ r → goes_before e ≡ true) (λ e g f. ap (λ a. not (int_lt a key)) (g f) ∙ ap not c) l h

      fails : (r : ℕ) → HasKey r k l → int_lt k key ≡ true → AllByRecursion (λ e. e.0 ≡ r → not (goes_before e) ≡ true) l
      fails r h c =
          all_weaker (λ e. e.0 ≡ r → e.1 ≡ k) (λ e. e.0 ≡ r → not (goes_before e) ≡ true)
          (λ e g f. ap (λ a. not (not (int_lt a key))) (g f) ∙ ap (λ a. not (not a)) c) l h

      by_key : (c : Bool) → int_lt k key ≡ c → IsBefore p q (firsts (ready_insert y key l))
      by_key false c =
          before_first (filter goes_before l) ((y, key) ∷ filter (λ e. not (goes_before e)) l) (before_filter goes_before l (passes p hp c) (passes q hq c) b)
      by_key true c =
          let none = all_weaker (λ e. (goes_before e ≡ true) × (e.0 ≡ q → e.1 ≡ k)) (λ e. e.0 ≢ q)
          (λ e h f. true≢false (sym h.0 ∙ ap (λ a. not (int_lt a key)) (h.1 f) ∙ ap not c)) (filter goes_before l)
          (all_both (λ e. goes_before e ≡ true) (λ e. e.0 ≡ q → e.1 ≡ k) (filter goes_before l) (all_passes goes_before l)
          (all_filter (λ e. e.0 ≡ q → e.1 ≡ k) goes_before l hq)) in
          before_after (filter goes_before l) ((y, key) ∷ filter (λ e. not (goes_before e)) l) none
          (inr ((λ e. other (sym e)), before_filter (λ e. not (goes_before e)) l (fails p hp c) (fails q hq c) b))

  module _ (first_in : p < 64) (second_in : q < 64) where
    -- Both have priority k, and neither runs.
    abbrev AreEqual : Tables → Type 0
    AreEqual t =
        (length t.processes ≡ 64) × ((process_at t p).priority ≡ k) × ((process_at t q).priority ≡ k) × (HasKey p k t.ready) × (HasKey q k t.ready)
        × (t.current ≢ p) × (t.current ≢ q)

    -- becoming ready changes no priority
    same_priority : (t : Tables) (x r : ℕ) → length t.processes ≡ 64 → r < 64 → (process_at (ready x t) r).priority ≡ (process_at t r).priority
    same_priority t x r many within =
        by_number r x (λ z. z < 64 → (process_at (ready x t) z).priority ≡ (process_at t z).priority)
        (λ v. ap (λ (y : Process). y.priority) (process_move_same t x (in_state Ready (process_at t x)) (message_at t x) InReady many v))
        (λ n v. ap (λ (y : Process). y.priority) (process_move_other t r x (in_state Ready (process_at t x)) (message_at t x) InReady n)) within

    key_ready : (t : Tables) (x r : ℕ) → (process_at t r).priority ≡ k → HasKey r k t.ready → HasKey r k (ready x t).ready
    key_ready t x r e h =
        all_ready_in (λ a. a.0 ≡ r → a.1 ≡ k) InReady x (process_at t x).priority (entries_without x t.ready)
        (λ f. ap (λ z. (process_at t z).priority) f ∙ e) (key_without r x k t.ready h)

    equal_ready : (t : Tables) (x : ℕ) → AreEqual t → AreEqual (ready x t)
    equal_ready t x h = (
      length-set t.processes x (in_state Ready (process_at t x)) ∙ h.0,
      same_priority t x p h.0 first_in ∙ h.1,
      same_priority t x q h.0 second_in ∙ h.2,
      key_ready t x p h.1 h.3,
      key_ready t x q h.2 h.4,
      h.5,
      h.6,
    )

    equal_all : (ps : List ℕ) (t : Tables) → AreEqual t → AreEqual (ready_all ps t)
    equal_all [] t h = h
    equal_all (x ∷ ps) t h = equal_all ps (ready x t) (equal_ready t x h)

    -- another becomes ready
    before_ready : (t : Tables) (y : ℕ) → AreEqual t → p ≢ y → q ≢ y → IsBefore p q (firsts t.ready) → IsBefore p q (firsts (ready y t).ready)
    before_ready t y h n o b =
        before_insert y (process_at t y).priority (entries_without y t.ready) o (key_without p y k t.ready h.3) (key_without q y k t.ready h.4)
        (before_filter (λ e. not (e.0 == y)) t.ready (everywhere (stays p y n) t.ready) (everywhere (stays q y o) t.ready) b)

    -- the later one becomes ready after the earlier one
    before_comes : (t : Tables) → AreEqual t → 0 < entries_of p t.ready → IsBefore p q (firsts (ready q t).ready)
    before_comes t h here =
        let key = (process_at t q).priority in
        let l = entries_without q t.ready in
        let goes_before = λ (e : ℕ × ℤ). not (int_lt e.1 key) in
        let passes = all_weaker (λ e. e.0 ≡ p → e.1 ≡ k) (λ e. e.0 ≡ p → goes_before e ≡ true)
        (λ e g f. ap not (not_below e.1 key (g f ∙ sym h.2))) l (key_without p q k t.ready h.3) in
        let none = all_filter (λ e. e.0 ≢ q) goes_before l
        (all_weaker (λ e. not (e.0 == q) ≡ true) (λ e. e.0 ≢ q) (λ e c f. true≢false (sym c ∙ ap not (subst (λ r. (e.0 == r) ≡ true) f (eq-eqb e.0 e.0 refl)))) l
        (all_passes (λ e. not (e.0 == q)) t.ready)) in
        before_there (filter goes_before l) ((q, key) ∷ filter (λ e. not (goes_before e)) l) none
        (filter_has p goes_before l passes (subst (λ n. 0 < n) (sym (entries_without_other p q t.ready apart)) here))
        (first_has_entry (q, key) (filter (λ e. not (goes_before e)) l))

    -- others become ready,
    order_others : (ps : List ℕ) (t : Tables) → AreEqual t → AllByRecursion (λ r. p ≢ r) ps → AllByRecursion (λ r. q ≢ r) ps
        → IsBefore p q (firsts t.ready) → IsBefore p q (firsts (ready_all ps t).ready)
    order_others [] t h n o b = b
    order_others (y ∷ ps) t h n o b = order_others ps (ready y t) (equal_ready t y h) n.1 o.1 (before_ready t y h n.0 o.0 b)

    -- the later one among them,
    order_rest : (ps : List ℕ) (t : Tables) → AreEqual t → 0 < entries_of p t.ready → AllByRecursion (λ r. p ≢ r) ps → 0 < count_in q ps
        → count_in q ps ≤ 1 → IsBefore p q (firsts (ready_all ps t).ready)
    order_rest [] t h here n some few = absurd (omega arith)
    order_rest (y ∷ ps) t h here n some few =
        cond_both (y == q) (suc (count_in q ps)) (count_in q ps)
        (λ c. 0 < c → c ≤ 1 → IsBefore p q (firsts (ready_all (y ∷ ps) t).ready))
        (λ b i j. order_others ps (ready y t) (equal_ready t y h) n.1 (all_others q ps (omega arith))
        (subst (λ r. IsBefore p q (firsts (ready r t).ready)) (sym (eqb-true y q b)) (before_comes t h here)))
        (λ b i j. order_rest ps (ready y t) (equal_ready t y h)
        (subst (λ c. 0 < c) (sym (ready_in_other InReady p y (process_at t y).priority (entries_without y t.ready) n.0 ∙ entries_without_other p y t.ready n.0)) here)
        n.1 i j) some few

    -- and the earlier one before it.
    order_all : (ps : List ℕ) (t : Tables) → AreEqual t → IsBefore p q ps → count_in p ps ≤ 1 → count_in q ps ≤ 1
        → IsBefore p q (firsts (ready_all ps t).ready)
    order_all [] t h b one two = absurd b
    order_all (x ∷ ps) t h b one two =
        let fewer = count_more q x ps in
        let less = count_more p x ps in
        ⊎_elim
        (λ (f : (x ≡ p) × (0 < count_in q ps)).
        let c = count_in p ps in
        let none : c ≡ 0 = cond_both (x == p) (suc c) c (λ n. n ≤ 1 → c ≡ 0) (λ _ i. omega arith) (λ e i. absurd (eqb-false x p e f.0)) one in
        let come : 0 < entries_of p (ready x t).ready =
        subst (λ r. 0 < entries_of p (ready r t).ready) (sym f.0)
        (let once = entries_insert_same (λ e. not (int_lt e.1 (process_at t p).priority)) p (process_at t p).priority (entries_without p t.ready)
        (entries_without_same p t.ready) in omega arith) in
        order_rest ps (ready x t) (equal_ready t x h) come (all_others p ps none) f.1 (omega arith))
        (λ (f : (x ≢ q) × IsBefore p q ps). order_all ps (ready x t) (equal_ready t x h) f.1 (omega arith) (omega arith)) b

    -- The first of the list is run.
    ahead_dispatched : (l : List (ℕ × ℤ)) (u : Tables) → l ≡ u.ready → IsBefore p q (firsts l) → IsAhead p q (dispatch_first l u)
    ahead_dispatched [] u e b = absurd b
    ahead_dispatched (x ∷ xs) u e b =
        ⊎_elim (λ (f : x.0 ≡ p). inl f)
        (λ (n : x.0 ≢ p).
        let other : x.0 ≢ q = ⊎_elim (λ (f : (x.0 ≡ p) × (0 < count_in q (firsts xs))). absurd (n f.0)) (λ (f : (x.0 ≢ q) × IsBefore p q (firsts xs)). f.0) b in
        inr (subst (λ l. IsBefore p q (firsts (entries_without x.0 l))) e
        (before_filter (λ a. not (a.0 == x.0)) (x ∷ xs) (everywhere (stays p x.0 (λ g. n (sym g))) (x ∷ xs))
        (everywhere (stays q x.0 (λ g. other (sym g))) (x ∷ xs)) b))) (cases_eq x.0 p)

    ahead_closed : (owes : Bool) (t : Tables) → AreEqual t → IsBefore p q (firsts t.ready) → IsAhead p q (cond owes (resched t) t)
    ahead_closed owes t h b =
        let c = t.current in
        let room : IsBefore p q (firsts (preempt t).ready) =
        cond_both (is_current (state_at t c)) (ready c t) t (λ u. IsBefore p q (firsts u.ready))
        (λ _. before_ready t c h (λ e. h.5 (sym e)) (λ e. h.6 (sym e)) b) (λ _. b) in
        cond_both owes (resched t) t (IsAhead p q)
        (λ _. cond_both (keeps_cpu t.ready t) t (dispatch_first (preempt t).ready (preempt t)) (IsAhead p q) (λ _. inr b)
        (λ _. ahead_dispatched (preempt t).ready (preempt t) refl room)) (λ _. inr b)

-- a process waits in one place at most
at_most_one : (state : State) → waiting_places state ≤ 1
at_most_one Waiting = omega arith
at_most_one Free = omega arith
at_most_one Current = omega arith
at_most_one Ready = omega arith
at_most_one Receiving = omega arith
at_most_one Sleeping = omega arith
at_most_one Suspended = omega arith
at_most_one Timed = omega arith

-- the calls that release all, if they are accepted
abbrev semreset_done : ℕ → ℕ → Xinu → CallResult
semreset_done sem n s = let d = emptied sem (start s) in returns (with_tables (with_tokens sem n d.state.tables) d) OK

abbrev semdelete_done : ℕ → Xinu → CallResult
semdelete_done sem s =
    let d = emptied_with SYSERR sem (start s) in returns (with_tables (with_semaphore sem no_semaphore d.state.tables) d) OK

-- A sound state in which p waits before q for one semaphore, and they have one priority.
module _ (sem p q : ℕ) (s : Xinu) (k : IsSound s) (waits : WaitsBefore sem p q s.tables)
    (same : (process_at s.tables p).priority ≡ (process_at s.tables q).priority) where
  abbrev t : Tables
  t = s.tables

  abbrev l : List ℕ
  l = (semaphore_at t sem).waiters

  abbrev key : ℤ
  key = (process_at t q).priority

  once : (r : ℕ) → count_in r l ≤ 1
  once r =
      let few = get_or-le-total (λ (x : Semaphore). count_in r x.waiters) t.semaphores sem no_semaphore refl in
      let all = k.tables.inside.waiting r in
      let most = at_most_one (state_at t r) in
      omega arith

  apart : p ≢ q
  apart = two_differ p q l waits (once p)

  first_waits : state_at t p ≡ Waiting
  first_waits = waiter_waits t sem p k.tables.inside (before_counts p q l waits).0

  second_waits : state_at t q ≡ Waiting
  second_waits = waiter_waits t sem q k.tables.inside (before_counts p q l waits).1

  within : (r : ℕ) → state_at t r ≡ Waiting → r < 64
  within r w = within_table t r k.tables.inside.processes (λ f. let g = sym w ∙ f in cc)

  keys : (r : ℕ) → (process_at t r).priority ≡ key → HasKey r key t.ready
  keys r e =
      all_weaker (λ a. a.1 ≡ (process_at t a.0).priority) (λ a. a.0 ≡ r → a.1 ≡ key)
      (λ a h f. h ∙ ap (λ z. (process_at t z).priority) f ∙ e) t.ready k.tables.inside.keys

  equal : AreEqual p q key apart (within p first_waits) (within q second_waits) t
  equal = (
    k.tables.inside.processes,
    same,
    refl,
    keys p same,
    keys q refl,
    (λ f. let g = sym k.tables.runs ∙ ap (state_at t) f ∙ first_waits in cc),
    (λ f. let g = sym k.tables.runs ∙ ap (state_at t) f ∙ second_waits in cc),
  )

  -- Those of which q is one are released, and then there may be a resched.
  ahead : (ps : List ℕ) (owes : Bool) (u : Tables) → IsBefore p q ps → count_in p ps ≤ 1 → count_in q ps ≤ 1
      → record (ready_all ps t) { semaphores = u.semaphores } ≡ u → IsAhead p q (cond owes (resched u) u)
  ahead ps owes u b one two e =
      subst (λ v. IsAhead p q (cond owes (resched v) v)) e
      (ahead_closed p q key apart (within p first_waits) (within q second_waits) owes (record (ready_all ps t) { semaphores = u.semaphores })
      (equal_all p q key apart (within p first_waits) (within q second_waits) ps t equal)
      (order_all p q key apart (within p first_waits) (within q second_waits) ps t equal b one two))

  -- Call 20.
  pub ahead_signaln : (n : ℕ) → 0 < count_in q (take n l) → is_good sem t ≡ true
      → int_lt most_tokens (count_of (semaphore_at t sem) +ℤ pos n) ≡ false → IsAhead p q (closed (signaln sem (pos n) s))
  ahead_signaln n some good room =
      let d = signalled_times sem n (start s) in
      let ps = take n l in
      let most = count_take p n l in
      let few = count_take q n l in
      let one = once p in
      let two = once q in
      subst (λ c. IsAhead p q (closed (cond c (returns d OK) (refused s))))
      (sym (and_from (is_good sem t) (not (int_lt most_tokens (count_of (semaphore_at t sem) +ℤ pos n))) good (ap not room)))
      (ahead ps (d.owes_resched || false) d.state.tables (before_take p q n l apart waits some) (omega arith) (omega arith)
      (ap (λ (x : Xinu). record x.tables { semaphores = d.state.tables.semaphores }) (sym (unblock_all_ready ps (start s)))))

  -- Call 16.
  pub ahead_semreset : (n : ℕ) → is_good sem t ≡ true → IsAhead p q (closed (semreset sem (pos n) s))
  ahead_semreset n good =
      let d = (semreset_done sem n s).call in
      subst (λ c. IsAhead p q (closed (cond c (semreset_done sem n s) (refused s)))) (sym good)
      (ahead l (d.owes_resched || false) d.state.tables waits (once p) (once q)
      (ap (λ (x : Xinu). record x.tables { semaphores = d.state.tables.semaphores }) (sym (unblock_all_with_ready OK l (start s)))))

  -- Call 15.
  pub ahead_semdelete : is_good sem t ≡ true → IsAhead p q (closed (semdelete sem s))
  ahead_semdelete good =
      let d = (semdelete_done sem s).call in
      subst (λ c. IsAhead p q (closed (cond c (semdelete_done sem s) (refused s)))) (sym good)
      (ahead l (d.owes_resched || false) d.state.tables waits (once p) (once q)
      (ap (λ (x : Xinu). record x.tables { semaphores = d.state.tables.semaphores }) (sym (unblock_all_with_ready SYSERR l (start s)))))
