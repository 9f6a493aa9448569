-- What a grant and a gift change of the records that are taken.
use Rattle.std.proofs.Common.{◌≡◌, ◌≢◌, ◌∙◌, ℕ, ◌+◌, ◌*◌, ◌%◌, ◌<◌, ◌≤◌, ◌==◌, Bool, true, not, List, [], ◌∷◌, ◌++◌, get_or, Option, Some, None, refl, sym, ap, subst, inl, inr, ⊎_elim, arith}
use Rattle.std.specs.Prelude.{unwrap_or}
use Rattle.std.specs.List.{All, AllPairs, Contains, filter, list_any}
use Rattle.std.proofs.lemmas.Bool.{true≢false, cases_lt, eqb-false, eqb-true, not-true}
use Rattle.std.proofs.lemmas.List.{get_or_default}
use Rattle.std.proofs.lemmas.List.Elements.{All-filter, All-push, filter_passes}
use Rattle.std.proofs.lemmas.List.Kept.{AllPairs-filter}
use Rattle.std.proofs.lemmas.Map.Views.{Contains-from_any}
use Rattle.std.proofs.lemmas.List.Quantifiers.{all_pairs_push}
use Rattle.part_laws.specs.FreeCells.{is_in_free}
use Rattle.part_laws.proofs.HeapCells.Marked.{AreMarked, free_inside, free_outside}
use Rattle.part_laws.proofs.HeapCells.Taken.{getmem_grants, freemem_frees}
use Rattle.xinu_model.specs.Heap.Cells.{Grant, Heap, free_memory, take_memory}
use Rattle.uses_heap.specs.Pools.{AreApart, AreRecords, IsTaken}

-- a record that is granted shares no byte with one that is taken
granted_apart : (h : Heap) (grant : Grant) (b : ℕ) → take_memory 24 h ≡ Some grant → IsTaken h b → AreApart grant.address b
granted_apart h grant b e taken =
    let g = getmem_grants 24 h grant e in
    let at = g.address in
    let free : (x : ℕ) → grant.address ≤ x → x < grant.address + 24 → is_in_free x h ≡ true =
    λ x low high. (free_inside g.taken x (omega arith) (omega arith)).0 in
    ⊎_elim
    (λ (l : b < grant.address + 24).
    ⊎_elim
    (λ (m : grant.address < b + 24).
    ⊎_elim
    (λ (n : b < grant.address). absurd (true≢false (sym (free grant.address (omega arith) (omega arith)) ∙ taken.none_free grant.address (omega arith) m)))
    (λ (n : grant.address ≤ b). absurd (true≢false (sym (free b n l) ∙ taken.none_free b (omega arith) (omega arith))))
    (cases_lt b grant.address))
    (λ (m : b + 24 ≤ grant.address). inr m)
    (cases_lt grant.address (b + 24)))
    (λ (l : grant.address + 24 ≤ b). inl l)
    (cases_lt b (grant.address + 24))

-- what lies apart from cells that change stays taken
stays_taken : {kind : Bool} {start : ℕ} {h u : Heap} (a b : ℕ) → a ≡ h.low + 8 * start → AreMarked kind start 3 h u → AreApart a b → IsTaken h b → IsTaken u b
stays_taken {kind} {start} {h} a b at m apart taken = record {
  none_free = λ x low high. free_outside m x
      (⊎_elim (λ (l : a + 24 ≤ b). inr (omega arith)) (λ (l : b + 24 ≤ a). inl (omega arith)) apart)
      ∙ taken.none_free x low high;
}

-- a record that is granted goes after the others
pub records_take : (h u : Heap) (a : ℕ) (xs : List ℕ) → AreRecords h xs → take_memory 24 h ≡ Some (record { address = a; heap = u })
    → All (AreApart a) xs × AreRecords u (xs ++ a ∷ [])
records_take h u a xs r e =
    let grant : Grant = record { address = a; heap = u } in
    let g = getmem_grants 24 h grant e in
    let at = g.address in
    let apart : All (AreApart a) xs = λ k d lt. granted_apart h grant (get_or xs k d) e (r.taken k d lt) in (
      apart,
      record {
        low = g.taken.low ∙ r.low;
        taken = All-push (IsTaken u) xs a
            (λ k d lt. stays_taken a (get_or xs k d) at g.taken (apart k d lt) (r.taken k d lt))
            (record { none_free = λ x low high. (free_inside g.taken x (omega arith) (omega arith)).1 });
        apart = all_pairs_push AreApart xs a r.apart (λ k d lt. ⊎_elim (λ l. inr l) (λ l. inl l) (apart k d lt));
      },
    )

-- records that are left out of the list leave the others as they are
pub records_drop : (h : Heap) (p : ℕ → Bool) (xs : List ℕ) → AreRecords h xs → AreRecords h (filter p xs)
records_drop h p xs r = record { low = r.low; taken = All-filter p (IsTaken h) xs r.taken; apart = AllPairs-filter AreApart p xs r.apart }

-- a record of the list shares no byte with another
others_apart : (xs : List ℕ) (a : ℕ) → AllPairs AreApart xs → Contains xs a → All (λ b. b ≢ a → AreApart a b) xs
others_apart xs a pairs (i, lt, is) k d within other =
    let b = get_or xs k d in
    let at : get_or xs i d ≡ a = get_or_default xs i d a lt ∙ is in
    ⊎_elim
    (λ (l : k < i). ⊎_elim (λ m. inr m) (λ m. inl m) (subst (AreApart b) at (pairs k i d l lt)))
    (λ (l : i ≤ k). ⊎_elim
    (λ (m : i < k). subst (λ x. AreApart x b) at (pairs i k d m within))
    (λ (m : k ≤ i). let same : k ≡ i = omega arith in absurd (other (ap (λ j. get_or xs j d) same ∙ at)))
    (cases_lt i k))
    (cases_lt k i)

-- what a test for equality found
there : (xs : List ℕ) (a : ℕ) → list_any (λ b. b == a) xs ≡ true → Contains xs a
there xs a = Contains-from_any {eq = λ x y. y == x} (λ x y e. sym (eqb-true y x e)) a xs

-- the records that stay when one is given back, whatever the heap answers
records_given : (h : Heap) (a : ℕ) (xs : List ℕ) (after : Option Heap) → free_memory a 24 h ≡ after → AreRecords h xs → Contains xs a
    → AreRecords (unwrap_or after h) (filter (λ b. not (b == a)) xs)
records_given h a xs None e r at = records_drop h (λ b. not (b == a)) xs r
records_given h a xs (Some u) e r at =
    let p : ℕ → Bool = λ b. not (b == a) in
    let f = freemem_frees a 24 h u (ap (λ n. n % 8) r.low) e in
    let kept = records_drop h p xs r in
    let apart = All-filter p (λ b. b ≢ a → AreApart a b) xs (others_apart xs a r.apart at) in
    let other = filter_passes p xs in
    record {
      low = f.freed.low ∙ r.low;
      taken = λ k d lt. let b = get_or (filter p xs) k d in
          stays_taken a b f.place f.freed (apart k d lt (eqb-false b a (not-true (b == a) (other k d lt)))) (kept.taken k d lt);
      apart = kept.apart;
    }

-- a record that is on the list is given back
pub records_give : (h : Heap) (a : ℕ) (xs : List ℕ) → AreRecords h xs → list_any (λ b. b == a) xs ≡ true
    → AreRecords (unwrap_or (free_memory a 24 h) h) (filter (λ b. not (b == a)) xs)
records_give h a xs r e = records_given h a xs (free_memory a 24 h) refl r (there xs a e)
