-- Edges are learnt one by one.
use Rattle.std.proofs.Common.{◌≡◌, ◌≢◌, ◌∙◌, ◌++◌, ◌==◌, ℕ, true, false, List, [], ◌∷◌, max, if◌then◌else◌, ap, refl, sym, inl, inr}
use Rattle.std.proofs.lemmas.Bool.{eq-eqb}
use Rattle.std.proofs.lemmas.Bool.Decides.{eqb_tells}
use Rattle.happens_before.specs.Clocks.{Clock, join, learnt}
use Rattle.happens_before.specs.Histories.{Edge}
use Rattle.race_clocks.specs.Rows.{Held, kept, knows}

-- the last edge comes to its target
learnt_more : (parts : ℕ → ℕ → Clock) (edges : List Edge) (e : Edge) (v : ℕ) (c : Clock)
    → learnt parts (edges ++ e ∷ []) v c
    ≡ (if e.target == v then join (learnt parts edges v c) (parts e.event e.source) else learnt parts edges v c)
learnt_more parts [] e v c = refl
learnt_more parts (d ∷ edges) e v c = learnt_more parts edges e v (if d.target == v then join c (parts d.event d.source) else c)

more_here : (parts : ℕ → ℕ → Clock) (edges : List Edge) (e : Edge) (v : ℕ) (c : Clock) (u : ℕ) → (e.target == v) ≡ true
    → learnt parts (edges ++ e ∷ []) v c u ≡ max (learnt parts edges v c u) (parts e.event e.source u)
more_here parts edges e v c u test = ap (λ (d : Clock). d u)
    (learnt_more parts edges e v c ∙ ap (λ b. if b then join (learnt parts edges v c) (parts e.event e.source) else learnt parts edges v c) test)

more_else : (parts : ℕ → ℕ → Clock) (edges : List Edge) (e : Edge) (v : ℕ) (c : Clock) (u : ℕ) → (e.target == v) ≡ false
    → learnt parts (edges ++ e ∷ []) v c u ≡ learnt parts edges v c u
more_else parts edges e v c u test = ap (λ (d : Clock). d u)
    (learnt_more parts edges e v c ∙ ap (λ b. if b then join (learnt parts edges v c) (parts e.event e.source) else learnt parts edges v c) test)

pub ne-eqb : (a b : ℕ) → a ≢ b → (a == b) ≡ false
ne-eqb a b other = elim (eqb_tells a b) [
  | inl (_, same) ↦ absurd (other same)
  | inr (test, _) ↦ test
]

pub learnt_one : (before : ℕ → Clock) (parts : ℕ → ℕ → Clock) (edges : List Edge) (e : Edge) (old new : Held) (name : ℕ)
    → ((w u : ℕ) → knows old w u ≡ learnt parts edges w (before w) u)
    → ((u : ℕ) → kept old name u ≡ parts e.event e.source u)
    → ((w u : ℕ) → knows new w u ≡ (if w == e.target then join (knows old e.target) (kept old name) u else knows old w u))
    → (w u : ℕ) → knows new w u ≡ learnt parts (edges ++ e ∷ []) w (before w) u
learnt_one before parts edges e old new name so_far source learns w u = elim (eqb_tells w e.target) [
  | inl (test, same) ↦
      learns w u ∙ ap (λ b. if b then join (knows old e.target) (kept old name) u else knows old w u) test
      ∙ ap (λ v. max (knows old v u) (kept old name u)) (sym same)
      ∙ ap (λ n. max n (kept old name u)) (so_far w u)
      ∙ ap (λ n. max (learnt parts edges w (before w) u) n) (source u)
      ∙ sym (more_here parts edges e w (before w) u (eq-eqb e.target w (sym same)))
  | inr (test, other) ↦
      learns w u ∙ ap (λ b. if b then join (knows old e.target) (kept old name) u else knows old w u) test
      ∙ so_far w u
      ∙ sym (more_else parts edges e w (before w) u (ne-eqb e.target w (λ same. other (sym same))))
]
