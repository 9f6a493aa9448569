-- A detector knows no more than the moments so far.
use Rattle.std.proofs.Common.{◌≡◌, ◌↔◌, ℕ, zero, suc, ◌≤◌, ◌<◌, List, [], ◌∷◌, ◌++◌, length, Some, inl, inr, refl, sym, ap, subst, ◌∙◌, arith}
use Rattle.std.specs.Prelude.{slice_get}
use Rattle.std.proofs.Math.Seq.{get_or-append_seam}
use Rattle.std.proofs.lemmas.Bool.{cases_lt}
use Rattle.std.proofs.lemmas.List.{get_or_append_left, get_or_past}
use Rattle.happens_before.specs.Clocks.{Clocks, clocks_after, clocks_next}
use Rattle.happens_before.specs.Histories.{Accessed, Moment, moment_of, nothing_happens}
use Rattle.happens_before.specs.Races.{IsMade, Made}
use Rattle.happens_before.specs.Told.{Entries, IsTold, entries_after, entries_at, entries_in}

-- Histories that agree so far lead to the same clocks and entries.
module _ (g h : List Moment) where
  Agree : ℕ → Type 0
  Agree n = (k : ℕ) → k ≤ n → moment_of g k ≡ moment_of h k

  less : (n : ℕ) → Agree (suc n) → Agree n
  unfolding Agree
  less n agree k upto = agree k (omega arith)

  clocks_agree : (n : ℕ) → Agree n → clocks_after g n ≡ clocks_after h n
  unfolding Agree clocks_after
  clocks_agree zero agree = refl
  clocks_agree (suc n) agree =
      ap (λ m. clocks_next (suc n) m (clocks_after g n)) (agree (suc n) (omega arith)) ∙ ap (clocks_next (suc n) (moment_of h (suc n))) (clocks_agree n (less n agree))

  entries_agree : (n : ℕ) → Agree n → entries_after g n ≡ entries_after h n
  unfolding Agree entries_after
  entries_agree zero agree = refl
  entries_agree (suc n) agree =
      ap (λ (m : Moment). entries_in m.deeds (suc n) (entries_after g n) (length m.deeds)) (agree (suc n) (omega arith))
      ∙ ap (λ (last : Entries). entries_in (moment_of h (suc n)).deeds (suc n) last (length (moment_of h (suc n)).deeds)) (entries_agree n (less n agree))

  entries_at_agree : (n turn : ℕ) → Agree n → entries_at g n turn ≡ entries_at h n turn
  unfolding Agree entries_at
  entries_at_agree zero turn agree = refl
  entries_at_agree (suc n) turn agree =
      ap (λ (m : Moment). entries_in m.deeds (suc n) (entries_after g n) turn) (agree (suc n) (omega arith))
      ∙ ap (λ (last : Entries). entries_in (moment_of h (suc n)).deeds (suc n) last turn) (entries_agree n (less n agree))

  told_agree : (x y : Made) → Agree y.time.event → IsTold g x y → IsTold h x y
  unfolding Agree
  told_agree x y agree told = record {
    made = subst (λ (m : Moment). slice_get m.deeds y.time.turn ≡ Some (Accessed y.access)) (agree y.time.event (omega arith)) told.made;
    entry = subst (λ (last : Entries). last x.access.stores y.access.byte x.access.process ≡ Some x) (entries_at_agree y.time.event y.time.turn agree) told.entry;
    others = told.others;
    store = told.store;
    unknown = subst (λ (c : Clocks). c.kept y.time.event y.access.process x.access.process < x.time.event) (clocks_agree y.time.event agree) told.unknown;
  }

module _ (h : List Moment) (m : Moment) where
  moments_stay : (n k : ℕ) → n ≤ length h → k ≤ n → moment_of (h ++ m ∷ []) k ≡ moment_of h k
  moments_stay n zero within upto = refl
  moments_stay n (suc k) within upto = get_or_append_left h (m ∷ []) nothing_happens k (omega arith)

  moment_new : moment_of (h ++ m ∷ []) (suc (length h)) ≡ m
  moment_new = get_or-append_seam h m [] nothing_happens

  made_within : (y : Made) → IsMade h y → y.time.event ≤ length h
  made_within y made = within y.time.event made where
    within : (n : ℕ) → slice_get (moment_of h n).deeds y.time.turn ≡ Some (Accessed y.access) → n ≤ length h
    within zero made = omega arith
    within (suc n) made = elim (cases_lt n (length h)) [
      | inl less ↦ omega arith
      | inr past ↦
          let none : moment_of h (suc n) ≡ nothing_happens = get_or_past h n nothing_happens past in
          let nothing : slice_get nothing_happens.deeds y.time.turn ≡ Some (Accessed y.access) =
          subst (λ (n : Moment). slice_get n.deeds y.time.turn ≡ Some (Accessed y.access)) none made in
          absurd (cc nothing)
    ]

  agree : (n : ℕ) → n ≤ length h → Agree (h ++ m ∷ []) h n
  unfolding Agree
  agree n within k upto = moments_stay n k within upto

  agree_back : (n : ℕ) → n ≤ length h → Agree h (h ++ m ∷ []) n
  unfolding Agree
  agree_back n within k upto = sym (moments_stay n k within upto)

  -- what comes of one more moment
  pub clocks_come : clocks_after (h ++ m ∷ []) (suc (length h)) ≡ clocks_next (suc (length h)) m (clocks_after h (length h))
  unfolding clocks_after
  clocks_come =
      ap (λ n. clocks_next (suc (length h)) n (clocks_after (h ++ m ∷ []) (length h))) moment_new
      ∙ ap (clocks_next (suc (length h)) m) (clocks_agree (h ++ m ∷ []) h (length h) (agree (length h) (omega arith)))

  pub entries_come : (turn : ℕ) → entries_at (h ++ m ∷ []) (suc (length h)) turn ≡ entries_in m.deeds (suc (length h)) (entries_after h (length h)) turn
  unfolding entries_at
  entries_come turn =
      ap (λ (n : Moment). entries_in n.deeds (suc (length h)) (entries_after (h ++ m ∷ []) (length h)) turn) moment_new
      ∙ ap (λ (last : Entries). entries_in m.deeds (suc (length h)) last turn) (entries_agree (h ++ m ∷ []) h (length h) (agree (length h) (omega arith)))

  pub all_entries_come : entries_after (h ++ m ∷ []) (suc (length h)) ≡ entries_in m.deeds (suc (length h)) (entries_after h (length h)) (length m.deeds)
  unfolding entries_after
  all_entries_come =
      ap (λ (n : Moment). entries_in n.deeds (suc (length h)) (entries_after (h ++ m ∷ []) (length h)) (length n.deeds)) moment_new
      ∙ ap (λ (last : Entries). entries_in m.deeds (suc (length h)) last (length m.deeds)) (entries_agree (h ++ m ∷ []) h (length h) (agree (length h) (omega arith)))

  pub clocks_stay : (n : ℕ) → n ≤ length h → clocks_after (h ++ m ∷ []) n ≡ clocks_after h n
  clocks_stay n within = clocks_agree (h ++ m ∷ []) h n (agree n within)

  pub entries_stay : (n : ℕ) → n ≤ length h → entries_after (h ++ m ∷ []) n ≡ entries_after h n
  entries_stay n within = entries_agree (h ++ m ∷ []) h n (agree n within)

  pub told_stays : (x y : Made) → IsMade h y → IsTold (h ++ m ∷ []) x y ↔ IsTold h x y
  told_stays x y made =
      let within : y.time.event ≤ length h = made_within y made in
      (told_agree (h ++ m ∷ []) h x y (agree y.time.event within), told_agree h (h ++ m ∷ []) x y (agree_back y.time.event within))
