-- What is read off the entries and the lists, and what a change of one semaphore does to it.
use Rattle.std.proofs.Common.{◌≡◌, ◌≢◌, ◌∙◌, int_lt, nat_lt, IsSome, ℕ, zero, suc, ◌<◌, ◌≤◌, ◌+◌, ◌-◌, List, [], ◌∷◌, map, length, set, get_or, take, Option, Some, None, refl, sym, ap, subst, inl, inr, arith, get_or-set_same, get_or-set_other, ℤ, pos, negsuc, ◌+ℤ◌, ◌-ℤ◌, ◌<ℤ◌, ◌≤ℤ◌, neg_ℤ}
use Rattle.std.proofs.Math.ListN.{length-set}
use Rattle.std.proofs.lemmas.Bool.{cases_eq}
use Rattle.std.proofs.lemmas.Int.{ints}
use Rattle.std.proofs.lemmas.List.{map-set, set-get_or, set-set, length-map}
use Rattle.queue_table.specs.Lists.{Entry, list_at}
use Rattle.xinu_base.specs.declared.semaphores.Owner.{Owner}
use Rattle.xinu_model.specs.Semaphores.Counts.{count_of, make_semaphore, with_semaphore, with_tokens}
use Rattle.xinu_model.specs.Tables.{Tables, Semaphore, no_semaphore, semaphore_at}
use Rattle.process_core.specs.Tables.{ProcessTable, Mark, numbers, semaphore_of, semaphores_of, sleepers_of, tables_of}
use Rattle.process_core.proofs.Semaphores.{no_mark, get_or-take, semaphores-get, semaphores-mark}
use Rattle.semaphores.specs.declared.sems.SemaphoreEntry.{SemaphoreEntry}
use Rattle.semaphores.specs.Counts.{SemaphoreTable, Counts, no_entry, entry_at, tokens_of, waiting_of, mark_in, beside, with_count, with_entry, with_made_entry}

-- the mark of a semaphore
pub mark_at : (es : List SemaphoreEntry) (sem : ℕ) → get_or (map mark_in es) sem no_mark ≡ mark_in (entry_at es sem)
mark_at [] sem = refl
mark_at (e ∷ es) zero = refl
mark_at (e ∷ es) (suc sem) = mark_at es sem

-- the semaphore that is read off
pub seen_at : (ls : List (List Entry)) (p : ProcessTable) (c : SemaphoreTable) (sem : ℕ) (m : List (Option ℕ)) (ticks : ℕ)
    → length c.entries ≡ 128 → sem < 128
    → semaphore_at (tables_of ls p (beside c m ticks)) sem ≡ semaphore_of (list_at ls sem) (mark_in (entry_at c.entries sem))
unfolding tables_of
seen_at ls p c sem m ticks size lt =
    semaphores-get sem (take 128 ls) (map mark_in c.entries) (omega (arith, length-map c.entries mark_in, size, lt))
    ∙ ap (semaphore_of (list_at (take 128 ls) sem)) (mark_at c.entries sem)
    ∙ ap (λ l. semaphore_of l (mark_in (entry_at c.entries sem))) (get_or-take 128 sem ls [] lt)

-- whose it is, whether or not there is such a number
owner_among : (ls : List (List Entry)) (es : List SemaphoreEntry) (sem : ℕ)
    → (get_or (semaphores_of ls (map mark_in es)) sem no_semaphore).owner ≡ (entry_at es sem).owner
owner_among ls [] sem = refl
owner_among [] (e ∷ es) zero = refl
owner_among (l ∷ ls) (e ∷ es) zero = refl
owner_among [] (e ∷ es) (suc sem) = owner_among [] es sem
owner_among (l ∷ ls) (e ∷ es) (suc sem) = owner_among ls es sem

pub owner_at : (ls : List (List Entry)) (p : ProcessTable) (c : SemaphoreTable) (sem : ℕ) (m : List (Option ℕ)) (ticks : ℕ)
    → (semaphore_at (tables_of ls p (beside c m ticks)) sem).owner ≡ (entry_at c.entries sem).owner
unfolding tables_of
owner_at ls p c sem m ticks = owner_among (take 128 ls) c.entries sem

-- the tokens that are read off
pub tokens_at : (ls : List (List Entry)) (p : ProcessTable) (c : SemaphoreTable) (sem : ℕ) (m : List (Option ℕ)) (ticks : ℕ)
    → length c.entries ≡ 128 → sem < 128
    → (semaphore_at (tables_of ls p (beside c m ticks)) sem).tokens ≡ tokens_of (entry_at c.entries sem).count
tokens_at ls p c sem m ticks size lt = ap (λ (x : Semaphore). x.tokens) (seen_at ls p c sem m ticks size lt)

-- the waiters that are read off
pub waiters_at : (ls : List (List Entry)) (p : ProcessTable) (c : SemaphoreTable) (sem : ℕ) (m : List (Option ℕ)) (ticks : ℕ)
    → length c.entries ≡ 128 → sem < 128
    → (semaphore_at (tables_of ls p (beside c m ticks)) sem).waiters ≡ numbers (list_at ls sem)
waiters_at ls p c sem m ticks size lt = ap (λ (x : Semaphore). x.waiters) (seen_at ls p c sem m ticks size lt)

-- a signed count is tokens less waiters
signed : (z : ℤ) (n : ℕ) → n ≡ waiting_of z → pos (tokens_of z) +ℤ neg_ℤ (pos n) ≡ z
signed (pos k) n e = omega (arith, ints, e)
signed (negsuc k) n e = omega (arith, ints, e)

-- as many wait as the list has entries
pub length-numbers : (l : List Entry) → length (numbers l) ≡ length l
length-numbers l = length-map l (λ (e : Entry). e.0)

-- the count that is read off
pub count_at : (ls : List (List Entry)) (p : ProcessTable) (c : SemaphoreTable) (sem : ℕ) (m : List (Option ℕ)) (ticks : ℕ)
    → Counts ls c.entries → sem < 128
    → count_of (semaphore_at (tables_of ls p (beside c m ticks)) sem) ≡ (entry_at c.entries sem).count
count_at ls p c sem m ticks k lt =
    ap count_of (seen_at ls p c sem m ticks k.size lt)
    ∙ signed (entry_at c.entries sem).count (length (numbers (list_at ls sem))) (length-numbers (list_at ls sem) ∙ k.waiting sem lt)

-- one semaphore has another list and another entry
pub counts_changed : (ls ls' : List (List Entry)) (es : List SemaphoreEntry) (sem : ℕ) (e : SemaphoreEntry) → Counts ls es → sem < 128
    → length (list_at ls' sem) ≡ waiting_of e.count → (e.owner ≡ None → e.count ≡ pos 0)
    → ((r : ℕ) → r < 128 → r ≢ sem → list_at ls' r ≡ list_at ls r)
    → Counts ls' (set es sem e)
counts_changed ls ls' es sem e k lt here free others =
    let same : entry_at (set es sem e) sem ≡ e = get_or-set_same es sem e no_entry (omega (arith, k.size)) in
    record {
      size = length-set es sem e ∙ k.size;
      waiting = λ r lr. elim (cases_eq r sem) [
        | inl i ↦ (let F : ℕ → Type 0 = λ r. length (list_at ls' r) ≡ waiting_of (entry_at (set es sem e) r).count in
            subst F (sym i) (here ∙ sym (ap (λ (y : SemaphoreEntry). waiting_of y.count) same)))
        | inr n ↦ ap length (others r lr n) ∙ k.waiting r lr
            ∙ sym (ap (λ (y : SemaphoreEntry). waiting_of y.count) (get_or-set_other es sem r e no_entry n))
      ];
      unused = λ r none. elim (cases_eq r sem) [
        | inl i ↦ (let at : entry_at (set es sem e) r ≡ e = ap (entry_at (set es sem e)) i ∙ same in
            ap (λ (y : SemaphoreEntry). y.count) at ∙ free (sym (ap (λ (y : SemaphoreEntry). y.owner) at) ∙ none))
        | inr n ↦ (let at : entry_at (set es sem e) r ≡ entry_at es r = get_or-set_other es sem r e no_entry n in
            ap (λ (y : SemaphoreEntry). y.count) at ∙ k.unused r (sym (ap (λ (y : SemaphoreEntry). y.owner) at) ∙ none))
      ];
    }

-- another entry of a semaphore is seen as another semaphore
pub entered : (ls : List (List Entry)) (p : ProcessTable) (c : SemaphoreTable) (sem : ℕ) (e : SemaphoreEntry) (m : List (Option ℕ))
    (ticks : ℕ)
    → sem < 128
    → tables_of ls p (beside (with_entry sem e c) m ticks)
    ≡ with_semaphore sem (semaphore_of (list_at ls sem) (mark_in e)) (tables_of ls p (beside c m ticks))
unfolding tables_of
entered ls p c sem e m ticks lt =
    let ms = map mark_in c.entries in
    let other : semaphores_of (take 128 ls) (map mark_in (set c.entries sem e)) ≡ set (semaphores_of (take 128 ls) ms) sem
    (semaphore_of (list_at ls sem) (mark_in e))
    = ap (semaphores_of (take 128 ls)) (map-set mark_in c.entries sem e) ∙ semaphores-mark sem (take 128 ls) ms (mark_in e)
    ∙ ap (λ l. set (semaphores_of (take 128 ls) ms) sem (semaphore_of l (mark_in e))) (get_or-take 128 sem ls [] lt) in
    ap (λ y. record {
      processes = p.processes;
      messages = m;
      current = p.current;
      quantum = p.quantum;
      ready = list_at ls 128;
      semaphores = y;
      sleepers = sleepers_of ticks (list_at ls 129);
      ticks = ticks;
      last_process = p.last_process;
      last_semaphore = c.last_semaphore;
    }) other

-- a list without entries
empty_list : (l : List Entry) → length l ≡ 0 → l ≡ []
empty_list [] h = refl
empty_list (e ∷ l) h = absurd (omega (arith, h))

-- nobody waits on a semaphore that isn't in use
pub unused_empty : (ls : List (List Entry)) (es : List SemaphoreEntry) (sem : ℕ) → Counts ls es → sem < 128 → (entry_at es sem).owner ≡ None
    → list_at ls sem ≡ []
unused_empty ls es sem k lt none = empty_list (list_at ls sem) (k.waiting sem lt ∙ ap waiting_of (k.unused sem none))

-- a free number is given to a new semaphore
pub made : (ls : List (List Entry)) (p : ProcessTable) (c : SemaphoreTable) (sem : ℕ) (by : Owner) (z : ℤ) (m : List (Option ℕ)) (ticks : ℕ)
    → Counts ls c.entries → sem < 128 → (entry_at c.entries sem).owner ≡ None
    → tables_of ls p (beside (record (with_entry sem (record { owner = Some by; count = z }) c) { last_semaphore = sem }) m ticks)
    ≡ make_semaphore sem by (tokens_of z) (tables_of ls p (beside c m ticks))
unfolding tables_of
made ls p c sem by z m ticks k lt none =
    let t = tables_of ls p (beside c m ticks) in
    let e : SemaphoreEntry = record { owner = Some by; count = z } in
    ap (λ (t : Tables). record t { last_semaphore = sem }) (entered ls p c sem e m ticks lt)
    ∙ ap (λ (l : List Entry). record (with_semaphore sem (semaphore_of l (mark_in e)) t) { last_semaphore = sem })
    (unused_empty ls c.entries sem k lt none)

-- what was made at a free number is free again
pub undone : (ls : List (List Entry)) (c : SemaphoreTable) (sem : ℕ) (by : Owner) (z : ℤ) → Counts ls c.entries
    → (entry_at c.entries sem).owner ≡ None
    → record (with_entry sem no_entry (with_made_entry (Some sem) by z c)) { last_semaphore = c.last_semaphore } ≡ c
undone ls c sem by z k none =
    let e : entry_at c.entries sem ≡ no_entry
    = ap (λ o. record { owner = o; count = (entry_at c.entries sem).count }) none
    ∙ ap (λ n. record { owner = None; count = n }) (k.unused sem none) in
    ap (λ l. record { entries = l; last_semaphore = c.last_semaphore })
    (set-set c.entries sem (record { owner = Some by; count = z }) no_entry ∙ ap (set c.entries sem) (sym e)
    ∙ set-get_or c.entries sem no_entry)

-- another count is another number of tokens
pub recounted : (ls : List (List Entry)) (p : ProcessTable) (c : SemaphoreTable) (sem : ℕ) (z : ℤ) (m : List (Option ℕ)) (ticks : ℕ)
    → length c.entries ≡ 128 → sem < 128
    → tables_of ls p (beside (with_count sem z c) m ticks) ≡ with_tokens sem (tokens_of z) (tables_of ls p (beside c m ticks))
recounted ls p c sem z m ticks size lt =
    let t = tables_of ls p (beside c m ticks) in
    entered ls p c sem (record (entry_at c.entries sem) { count = z }) m ticks lt
    ∙ ap (λ (x : Semaphore). with_semaphore sem (record x { tokens = tokens_of z }) t) (sym (seen_at ls p c sem m ticks size lt))

-- another count with as many tokens isn't seen
pub unmarked : (c : SemaphoreTable) (sem : ℕ) (z : ℤ) (m : List (Option ℕ)) (ticks : ℕ)
    → tokens_of z ≡ tokens_of (entry_at c.entries sem).count
    → beside (with_count sem z c) m ticks ≡ beside c m ticks
unmarked c sem z m ticks e =
    let ms = map mark_in c.entries in
    let x : Mark = record { owner = (entry_at c.entries sem).owner; tokens = tokens_of z } in
    let same : x ≡ get_or ms sem no_mark
    = ap (λ n. record { owner = (entry_at c.entries sem).owner; tokens = n }) e ∙ sym (mark_at c.entries sem) in
    ap (λ ms. record { messages = m; marks = ms; ticks = ticks; last_semaphore = c.last_semaphore })
    (map-set mark_in c.entries sem (record (entry_at c.entries sem) { count = z }) ∙ ap (set ms sem) same ∙ set-get_or ms sem no_mark)

-- there is a mark for each
pub marks_size : (c : SemaphoreTable) (m : List (Option ℕ)) (ticks : ℕ) → length (beside c m ticks).marks ≡ length c.entries
marks_size c m ticks = length-map c.entries mark_in

-- a token is taken
pub less_taken : (z y : ℤ) → y ≡ z -ℤ pos 1 → pos 0 <ℤ z → (tokens_of y ≡ tokens_of z - 1) × (waiting_of y ≡ 0) × (waiting_of z ≡ 0)
less_taken (negsuc n) y e h = absurd (omega (arith, ints, h))
less_taken (pos n) (negsuc k) e h = absurd (omega (arith, ints, h, e))
less_taken (pos n) (pos k) e h = (omega (arith, ints, e, h), refl, refl)

-- one waits more
pub less_waiting : (z y : ℤ) → y ≡ z -ℤ pos 1 → z ≤ℤ pos 0 → (tokens_of y ≡ tokens_of z) × (waiting_of y ≡ suc (waiting_of z))
less_waiting (pos n) (pos k) e h = absurd (omega (arith, ints, h, e))
less_waiting (negsuc n) (pos k) e h = absurd (omega (arith, ints, e))
less_waiting (pos n) (negsuc k) e h = (omega (arith, ints, h, e), omega (arith, ints, h, e))
less_waiting (negsuc n) (negsuc k) e h = (refl, omega (arith, ints, e))

-- n more: first those who wait, then tokens
pub more : (z y : ℤ) (n : ℕ) → y ≡ z +ℤ pos n → (tokens_of y ≡ tokens_of z + (n - waiting_of z)) × (waiting_of y ≡ waiting_of z - n)
more (pos k) (pos j) n e = (omega (arith, ints, e), omega arith)
more (pos k) (negsuc j) n e = absurd (omega (arith, ints, e))
more (negsuc k) (pos j) n e = (omega (arith, ints, e), omega (arith, ints, e))
more (negsuc k) (negsuc j) n e = (omega (arith, ints, e), omega (arith, ints, e))

-- a count isn't far below 0
pub count_least : (z : ℤ) (n : ℕ) → n ≡ waiting_of z → n ≤ 64 → negsuc 63 ≤ℤ z
count_least (pos k) n e h = omega (arith, ints)
count_least (negsuc k) n e h = omega (arith, ints, e, h)

-- a count that isn't negative has nobody waiting
pub none_waiting : (z : ℤ) → pos 0 ≤ℤ z → waiting_of z ≡ 0
none_waiting (pos k) h = refl
none_waiting (negsuc k) h = absurd (omega (arith, ints, h))

-- whoever waits, the count is below 0
pub some_waiting : (z : ℤ) → 0 < waiting_of z → z <ℤ pos 0
some_waiting (pos k) h = absurd (omega (arith, h))
some_waiting (negsuc k) h = omega (arith, ints)

-- whether there is a token, by the count and by the tokens
pub token_test : (z : ℤ) → int_lt (pos 0) z ≡ nat_lt 0 (tokens_of z)
token_test (pos n) = refl
token_test (negsuc n) = refl

-- nothing is asked of the count of a semaphore in use
pub used_count : (o : Option Owner) (P : Type 0) → IsSome o → o ≡ None → P
used_count None P h e = absurd (cc)
used_count (Some x) P h e = absurd (cc)
