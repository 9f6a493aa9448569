-- What a process learns of the edges to some.
use Rattle.std.proofs.Common.{◌≡◌, ◌≢◌, ◌∙◌, ◌==◌, ℕ, Bool, true, false, cond, not, List, [], ◌∷◌, if◌then◌else◌, ap, refl, sym, inl, inr}
use Rattle.std.proofs.lemmas.Bool.{cases_Bool}
use Rattle.std.specs.List.{filter}
use Rattle.happens_before.specs.Clocks.{Clock, join, knows_after, learnt}
use Rattle.happens_before.specs.Histories.{Edge, Moment, is_stepper}
use Rattle.race_clocks.specs.Edges.{edges_past, edges_to}
use Rattle.race_clocks.proofs.Learning.{ne-eqb}

-- the edges to the processes of a test
abbrev some : (ℕ → Bool) → List Edge → List Edge
some p edges = filter (λ (e : Edge). p e.target) edges

-- an edge to another process tells nothing
other_edge : (parts : ℕ → ℕ → Clock) (d : Edge) (edges : List Edge) (w : ℕ) (c : Clock) → d.target ≢ w
    → learnt parts (d ∷ edges) w c ≡ learnt parts edges w c
other_edge parts d edges w c other =
    ap (λ b. learnt parts edges w (if b then join c (parts d.event d.source) else c)) (ne-eqb d.target w other)

apart : (p : ℕ → Bool) (v w : ℕ) → p v ≡ true → p w ≡ false → v ≢ w
apart p v w here there same = absurd (cc (sym here ∙ ap p same ∙ there))

-- to one that passes they are all
some_all : (parts : ℕ → ℕ → Clock) (p : ℕ → Bool) (edges : List Edge) (w : ℕ) (c : Clock) → p w ≡ true
    → learnt parts (some p edges) w c ≡ learnt parts edges w c
some_all parts p [] w c is = refl
some_all parts p (d ∷ edges) w c is = elim (cases_Bool (p d.target)) [
  | inl to ↦ ap (λ b. learnt parts (cond b (d ∷ some p edges) (some p edges)) w c) to
      ∙ some_all parts p edges w (if d.target == w then join c (parts d.event d.source) else c) is
  | inr past ↦ ap (λ b. learnt parts (cond b (d ∷ some p edges) (some p edges)) w c) past
      ∙ some_all parts p edges w c is
      ∙ sym (other_edge parts d edges w c (λ same. apart p w d.target is past (sym same)))
]

-- to one that doesn't there is none
some_none : (parts : ℕ → ℕ → Clock) (p : ℕ → Bool) (edges : List Edge) (w : ℕ) (c : Clock) → p w ≡ false
    → learnt parts (some p edges) w c ≡ c
some_none parts p [] w c is = refl
some_none parts p (d ∷ edges) w c is = elim (cases_Bool (p d.target)) [
  | inl to ↦ ap (λ b. learnt parts (cond b (d ∷ some p edges) (some p edges)) w c) to
      ∙ other_edge parts d (some p edges) w c (apart p d.target w to is)
      ∙ some_none parts p edges w c is
  | inr past ↦ ap (λ b. learnt parts (cond b (d ∷ some p edges) (some p edges)) w c) past
      ∙ some_none parts p edges w c is
]

pub learnt_first : (m : Moment) (parts : ℕ → ℕ → Clock) (before : ℕ → Clock) (w : ℕ)
    → learnt parts (edges_to m) w (before w) ≡ (if is_stepper m.stepper w then learnt parts m.edges w (before w) else before w)
learnt_first m parts before w = elim (cases_Bool (is_stepper m.stepper w)) [
  | inl is ↦ some_all parts (is_stepper m.stepper) m.edges w (before w) is
      ∙ sym (ap (λ b. if b then learnt parts m.edges w (before w) else before w) is)
  | inr other ↦ some_none parts (is_stepper m.stepper) m.edges w (before w) other
      ∙ sym (ap (λ b. if b then learnt parts m.edges w (before w) else before w) other)
]

pub learnt_after : (m : Moment) (parts : ℕ → ℕ → Clock) (before : ℕ → Clock) (w : ℕ)
    → learnt parts (edges_past m) w (before w) ≡ knows_after m parts before w
learnt_after m parts before w = elim (cases_Bool (is_stepper m.stepper w)) [
  | inl is ↦ some_none parts (λ v. not (is_stepper m.stepper v)) m.edges w (before w) (ap not is)
      ∙ sym (ap (λ b. if b then before w else learnt parts m.edges w (before w)) is)
  | inr other ↦ some_all parts (λ v. not (is_stepper m.stepper v)) m.edges w (before w) (ap not other)
      ∙ sym (ap (λ b. if b then before w else learnt parts m.edges w (before w)) other)
]
