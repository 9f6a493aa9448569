-- Those whose tick has come become ready, whether or not they have left the sleepers before.
use Rattle.std.proofs.Common.{◌≡◌, ◌∙◌, ℕ, Bool, true, false, not, cond, eqb, List, [], ◌∷◌, map, refl, sym, ap, inl, inr, arith}
use Rattle.std.specs.List.{AllByRecursion, filter}
use Rattle.std.proofs.lemmas.Bool.{cases_Bool, cases_eq, false≢true}
use Rattle.std.proofs.lemmas.Bool.Decides.{nat_tests}
use Rattle.xinu_model.specs.Clock.{due}
use Rattle.xinu_model.specs.Process.Scheduling.{ready, ready_all}
use Rattle.xinu_model.specs.Tables.{Tables, entries_without}
use Rattle.delta_clock.specs.Wakeups.{not_due}

-- the sleepers but these
abbrev without_all : List ℕ → List (ℕ × ℕ) → List (ℕ × ℕ)
without_all [] l = l
without_all (p ∷ ps) l = without_all ps (entries_without p l)

-- whether p is among these
abbrev among : ℕ → List ℕ → Bool
among p [] = false
among p (q ∷ ps) = cond (eqb p q) true (among p ps)

-- processes become ready whoever sleeps, and whatever the tick is
ready-sleepers : (ps : List ℕ) (t : Tables) (l : List (ℕ × ℕ)) (n : ℕ)
    → ready_all ps (record t { sleepers = l; ticks = n }) ≡ record (ready_all ps t) { sleepers = without_all ps l; ticks = n }
ready-sleepers [] t l n = refl
ready-sleepers (p ∷ ps) t l n = ready-sleepers ps (ready p t) (entries_without p l) n

-- they sleep no more then
ready-awake : (ps : List ℕ) (t : Tables) → (ready_all ps t).sleepers ≡ without_all ps t.sleepers
ready-awake [] t = refl
ready-awake (p ∷ ps) t = ready-awake ps (ready p t)

-- whether the first sleeper is left
without-first : (ps : List ℕ) (e : ℕ × ℕ) (l : List (ℕ × ℕ))
    → without_all ps (e ∷ l) ≡ cond (among e.0 ps) (without_all ps l) (e ∷ without_all ps l)
without-first [] e l = refl
without-first (p ∷ ps) e l = elim (cases_eq e.0 p) [
  | inl i ↦ (let b : eqb e.0 p ≡ true = grind (arith, nat_tests) in
      ap (λ b. without_all ps (cond (not b) (e ∷ entries_without p l) (entries_without p l))) b
      ∙ sym (ap (λ b. cond (cond b true (among e.0 ps)) (without_all ps (entries_without p l))
      (e ∷ without_all ps (entries_without p l))) b))
  | inr n ↦ (let b : eqb e.0 p ≡ false = grind (arith, nat_tests) in
      ap (λ b. without_all ps (cond (not b) (e ∷ entries_without p l) (entries_without p l))) b
      ∙ without-first ps e (entries_without p l)
      ∙ sym (ap (λ b. cond (cond b true (among e.0 ps)) (without_all ps (entries_without p l))
      (e ∷ without_all ps (entries_without p l))) b))
]

-- whoever of these sleepers wakes at a tick is among those
abbrev HasAllDue : ℕ → List ℕ → List (ℕ × ℕ) → Type 0
HasAllDue tick ps l = AllByRecursion (λ (e : ℕ × ℕ). eqb e.1 tick ≡ true → among e.0 ps ≡ true) l

-- one more among those
more_due : (tick p : ℕ) (ps : List ℕ) (l : List (ℕ × ℕ)) → HasAllDue tick ps l → HasAllDue tick (p ∷ ps) l
more_due tick p ps [] h = tt
more_due tick p ps (e ∷ l) h = (λ is. go (eqb e.0 p) (h.0 is), more_due tick p ps l h.1)
  where
    go : (b : Bool) → among e.0 ps ≡ true → cond b true (among e.0 ps) ≡ true
    go true a = refl
    go false a = a

-- the list of those who are due has them all
all_due : (tick : ℕ) (l : List (ℕ × ℕ)) → HasAllDue tick (due tick l) l
all_due tick [] = tt
all_due tick (e ∷ l) = go (all_due tick l) (eqb e.1 tick) refl
  where
    go : HasAllDue tick (due tick l) l → (b : Bool) → eqb e.1 tick ≡ b
        → HasAllDue tick (map (λ (x : ℕ × ℕ). x.0)
        (cond b (e ∷ filter (λ (x : ℕ × ℕ). eqb x.1 tick) l) (filter (λ (x : ℕ × ℕ). eqb x.1 tick) l))) (e ∷ l)
    go i true is =
        let s : eqb e.0 e.0 ≡ true = grind (arith, nat_tests) in
        (λ h. ap (λ b. cond b true (among e.0 (due tick l))) s, more_due tick e.0 (due tick l) l i)
    go i false is = (λ h. absurd (false≢true (sym is ∙ h)), i)

-- the sleepers without those who are due, once these have left
without-due : (tick : ℕ) (ps : List ℕ) (l : List (ℕ × ℕ)) → HasAllDue tick ps l → without_all ps (not_due tick l) ≡ without_all ps l
without-due tick ps [] h = refl
without-due tick ps (e ∷ l) h = elim (cases_Bool (eqb e.1 tick)) [
  | inl is ↦ ap (λ b. without_all ps (cond (not b) (e ∷ not_due tick l) (not_due tick l))) is ∙ without-due tick ps l h.1
      ∙ sym (without-first ps e l ∙ ap (λ b. cond b (without_all ps l) (e ∷ without_all ps l)) (h.0 is))
  | inr d ↦ ap (λ b. without_all ps (cond (not b) (e ∷ not_due tick l) (not_due tick l))) d
      ∙ without-first ps e (not_due tick l)
      ∙ ap (λ m. cond (among e.0 ps) m (e ∷ m)) (without-due tick ps l h.1)
      ∙ sym (without-first ps e l)
]

-- Those who are due become ready: whether they have left the sleepers before makes no difference, nor does the tick.
pub ready_due : (tick n : ℕ) (t : Tables)
    → ready_all (due tick t.sleepers) (record t { sleepers = not_due tick t.sleepers; ticks = n })
    ≡ record (ready_all (due tick t.sleepers) t) { ticks = n }
ready_due tick n t =
    let ps = due tick t.sleepers in
    ready-sleepers ps t (not_due tick t.sleepers) n
    ∙ ap (λ l. record (ready_all ps t) { sleepers = l; ticks = n })
    (without-due tick ps t.sleepers (all_due tick t.sleepers) ∙ sym (ready-awake ps t))
