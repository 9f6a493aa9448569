-- Those whose tick has come become ready one after another.
use Rattle.std.proofs.Common.{◌≡◌, ◌≢◌, ◌∙◌, Bool, ℕ, suc, ◌+◌, ◌<◌, true, false, cond, eqb, ℤ, List, [], ◌∷◌, drop, get_or, length, sym, ap, subst, arith, add-one, drop-cons}
use Rattle.std.proofs.lemmas.Bool.{eq-eqb}
use Rattle.xinu_base.specs.Insert.{ready_insert}
use Rattle.queue_table.specs.Lists.{Entry, list_at, place, with_list}
use Rattle.queue_table.proofs.Laws.{place_inserted}
use Rattle.delta_clock.specs.Wakeups.{AreOut, not_due}
use Rattle.delta_clock.proofs.Ready.{ready_due}
use Rattle.process_core.specs.Fits.{Fits}
use Rattle.process_core.specs.Tables.{Beside, ProcessTable, tables_of}
use Rattle.xinu_model.specs.Process.Scheduling.{ready, resched, ready_all}
use Rattle.xinu_model.specs.Tables.{Tables}
use Rattle.xinu_model.specs.Clock.{a_tick_later, due}
use Rattle.table_laws.proofs.Tables.Ticks.{ticks_ready}
use Rattle.kernel_tables.specs.Waking.{are_any}
use Rattle.xinu_model.specs.Sound.Tables.{count_in}

-- Some of these processes have become ready: those that are left, once ready, give the whole.
pub record IsReadying (ls0 : List (List Entry)) (s0 : ProcessTable) (due : List ℕ) (left : List ℕ) (ls : List (List Entry))
    (s : ProcessTable) : Type 0 where
  pub rest : (b : Beside) → ready_all left (tables_of ls s b) ≡ ready_all due (tables_of ls0 s0 b)
  pub out : AreOut ls left
  pub others : (q : ℕ) → q ≢ 128 → list_at ls q ≡ list_at ls0 q
  pub fits : Fits ls s.processes

-- the process at k is the first of those that are left
pub next_left : (due : List ℕ) (k p : ℕ) → k < length due → p ≡ get_or due k p → drop k due ≡ p ∷ drop (k + 1) due
next_left due k p within is = drop-cons due k p within ∙ ap (λ y. y ∷ drop (suc k) due) (sym is)
    ∙ ap (λ n. p ∷ drop n due) (sym (add-one k))

-- a process that isn't counted first isn't first
uncounted_first : (p q : ℕ) (qs : List ℕ) → count_in p (q ∷ qs) ≡ 0 → q ≢ p
uncounted_first p q qs h e = (let n : suc (count_in p qs)
    ≡ 0 = sym (ap (λ b. cond b (suc (count_in p qs)) (count_in p qs)) (eq-eqb q p e)) ∙ h in omega (arith, n))

-- nor among the others
uncounted_rest : (p q : ℕ) (qs : List ℕ) → count_in p (q ∷ qs) ≡ 0 → count_in p qs ≡ 0
uncounted_rest p q qs h = go (eqb q p) h
  where
    go : (b : Bool) → cond b (suc (count_in p qs)) (count_in p qs) ≡ 0 → count_in p qs ≡ 0
    go true h = absurd (omega (arith, h))
    go false h = h

-- the others are still out once p has gone to a list
still_out : (ls ms : List (List Entry)) (p : ℕ) (left : List ℕ) → count_in p left ≡ 0 → AreOut ls left
    → ((r : ℕ) → r ≢ p → place ms r ≡ place ls r) → AreOut ms left
still_out ls ms p [] n h others = tt
still_out ls ms p (q ∷ qs) n h others =
    (others q (uncounted_first p q qs n) ∙ h.0, h.1, still_out ls ms p qs (uncounted_rest p q qs n) h.2 others)

-- one more became ready
pub one_readied : (ls0 : List (List Entry)) (s0 : ProcessTable) (due left : List ℕ) (p : ℕ) (key : ℤ) (ls : List (List Entry))
    (s : ProcessTable) (ms : List (List Entry)) (u : ProcessTable)
    → IsReadying ls0 s0 due (p ∷ left) ls s → length ls ≡ 130 → ms ≡ with_list ls 128 (ready_insert p key (list_at ls 128))
    → ((b : Beside) → tables_of ms u b ≡ ready p (tables_of ls s b)) → ((q : ℕ) → q ≢ 128 → list_at ms q ≡ list_at ls q)
    → Fits ms u.processes
    → IsReadying ls0 s0 due left ms u
one_readied ls0 s0 due left p key ls s ms u i size is readied others fits =
    let at = place_inserted ls 128 p key i.out.0 (omega (arith, size)) in
    record {
      rest = λ b. ap (ready_all left) (readied b) ∙ i.rest b;
      out = still_out ls ms p left i.out.1 i.out.2 (λ r n. ap (λ l. place l r) is ∙ at.1 r n);
      others = λ q n. others q n ∙ i.others q n;
      fits = fits;
    }

-- Once those who are due became ready it is a tick later, with a resched if there are any.
pub woken_later : (t : Tables) (ps : List ℕ) → ps ≡ due (t.ticks + 1) t.sleepers
    → (let u = ready_all ps (record t { sleepers = not_due (t.ticks + 1) t.sleepers; ticks = t.ticks + 1 }) in cond (are_any ps)
    (resched u) u)
    ≡ a_tick_later (are_any ps) (ready_all ps t)
woken_later t ps is =
    let n = t.ticks + 1 in
    let u = ready_all ps (record t { sleepers = not_due n t.sleepers; ticks = n }) in
    let v = ready_all ps t in
    let F : List ℕ → Type 0 = λ l. ready_all l (record t { sleepers = not_due n t.sleepers; ticks = n })
    ≡ record (ready_all l t) { ticks = n } in
    let e : u ≡ record v { ticks = v.ticks + 1 } = subst F (sym is) (ready_due n n t)
    ∙ ap (λ k. record v { ticks = k + 1 }) (sym (ticks_ready ps t)) in
    ap (λ (w : Tables). cond (are_any ps) (resched w) w) e
