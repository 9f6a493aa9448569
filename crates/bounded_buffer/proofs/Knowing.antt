-- What is known stays known as registers change: a test, and what it shows.
use Rattle.std.proofs.Common.{◌≡◌, ◌≢◌, ◌∙◌, ℕ, ◌+◌, ◌<◌, ◌%◌, ◌^◌, ◌==◌, ◌&&◌, ◌||◌, not, Bool, true, false, List, [], ◌∷◌, length, set, refl, ap, subst, arith, Option, Some, None, ◌⊎◌, ⊎_elim, inl, inr}
use Rattle.std.proofs.lemmas.Bool.{and_parts, eqb-false, eqb-true, or_cases}
use Rattle.std.proofs.lemmas.List.{get_or-set_other, get_or-set_same}
use Rattle.std.specs.Prelude.{slice_index}
use Rattle.bounded_buffer.specs.Places.{All, Bare, Counts, Done, Holding, Holds, Known, Number, Outside, Phase, Row, Says, Single, known_in}

-- whether two facts are the same
abbrev pub same : Known → Known → Bool
same (Number i x) (Number j y) = (i == j) && (x == y)
same (Counts i x) (Counts j y) = (i == j) && (x == y)
same _ _ = false

-- whether a fact is one of these
abbrev pub is_in : Known → List Known → Bool
is_in x [] = false
is_in x (y ∷ ys) = same y x || is_in x ys

-- whether these facts are among those
abbrev pub covers : List Known → List Known → Bool
covers xs [] = true
covers xs (y ∷ ys) = is_in y xs && covers xs ys

abbrev pub register_of : Known → ℕ
register_of (Number i x) = i
register_of (Counts i x) = i

-- whether these facts are known once a register took a value, of which a new fact is known
abbrev pub follows : ℕ → Known → List Known → List Known → Bool
follows i x xs [] = true
follows i x xs (y ∷ ys) = (same x y || (not (register_of y == i) && is_in y xs)) && follows i x xs ys

-- the same of what is known at two places in each phase
abbrev pub passes : (List Known → List Known → Bool) → Option (List Known) → Option (List Known) → Bool
passes t None o = true
passes t (Some xs) None = false
passes t (Some xs) (Some ys) = t xs ys

abbrev pub all_pass : (List Known → List Known → Bool) → Row → Row → Bool
all_pass t r next =
    (r.slot == next.slot)
    && (passes t r.bare next.bare && (passes t r.single next.single && (passes t r.outside next.outside && (passes t r.holding next.holding && passes t r.done next.done))))

-- ---- what the tests show

same_holds : (c : ℕ) (regs : List ℕ) (x y : Known) → same x y ≡ true → Holds c regs x → Holds c regs y
same_holds c regs (Number i x) (Number j y) is holds =
    let a = and_parts (i == j) (x == y) is in
    subst (λ k. slice_index regs k ≡ y) (eqb-true i j a.0) (holds ∙ eqb-true x y a.1)
same_holds c regs (Counts i x) (Counts j y) is holds =
    let a = and_parts (i == j) (x == y) is in
    subst (λ k. slice_index regs k ≡ (c + y) % 2 ^ 32) (eqb-true i j a.0) (holds ∙ ap {B = ℕ} (λ m. (c + m) % 2 ^ 32) (eqb-true x y a.1))
same_holds c regs (Number i x) (Counts j y) is holds = absurd (cc)
same_holds c regs (Counts i x) (Number j y) is holds = absurd (cc)

in_holds : (c : ℕ) (regs : List ℕ) (x : Known) (ys : List Known) → is_in x ys ≡ true → All c regs ys → Holds c regs x
in_holds c regs x [] is all = absurd (cc)
in_holds c regs x (y ∷ ys) is all =
    ⊎_elim (λ (e : same y x ≡ true). same_holds c regs y x e all.0) (λ (e : is_in x ys ≡ true). in_holds c regs x ys e all.1) (or_cases (same y x) (is_in x ys) is)

pub covered : (c : ℕ) (regs : List ℕ) (xs ys : List Known) → covers xs ys ≡ true → All c regs xs → All c regs ys
covered c regs xs [] is all = tt
covered c regs xs (y ∷ ys) is all =
    let a = and_parts (is_in y xs) (covers xs ys) is in (in_holds c regs y xs a.0 all, covered c regs xs ys a.1 all)

-- a fact of another register stays
other_holds : (c : ℕ) (regs : List ℕ) (i v : ℕ) (x : Known) → register_of x ≢ i → Holds c regs x → Holds c (set regs i v) x
other_holds c regs i v (Number j x) other holds = get_or-set_other regs i j v 0 other ∙ holds
other_holds c regs i v (Counts j x) other holds = get_or-set_other regs i j v 0 other ∙ holds

pub followed : (c : ℕ) (regs : List ℕ) (i v : ℕ) (x : Known) (xs ys : List Known) → follows i x xs ys ≡ true → All c regs xs → Holds c (set regs i v) x
    → All c (set regs i v) ys
followed c regs i v x xs [] is all new = tt
followed c regs i v x xs (y ∷ ys) is all new =
    let a = and_parts (same x y || (not (register_of y == i) && is_in y xs)) (follows i x xs ys) is in
    (by (or_cases (same x y) (not (register_of y == i) && is_in y xs) a.0), followed c regs i v x xs ys a.1 all new)
  where
    no : (b : Bool) → not b ≡ true → b ≡ false
    no true e = absurd (cc)
    no false e = refl

    by : (same x y ≡ true) ⊎ ((not (register_of y == i) && is_in y xs) ≡ true) → Holds c (set regs i v) y
    by (inl e) = same_holds c (set regs i v) x y e new
    by (inr e) =
        let a = and_parts (not (register_of y == i)) (is_in y xs) e in
        other_holds c regs i v y (eqb-false (register_of y) i (no (register_of y == i) a.0)) (in_holds c regs y xs a.1 all)

-- what is known at the next place, if the test passes
pub said : (t : List Known → List Known → Bool) (a b : Option (List Known)) (c : ℕ) (old new : List ℕ)
    → ((xs ys : List Known) → t xs ys ≡ true → All c old xs → All c new ys) → passes t a b ≡ true → Says a c old → Says b c new
said t None b c old new shows is may = absurd may
said t (Some xs) None c old new shows is may = absurd (cc)
said t (Some xs) (Some ys) c old new shows is may = shows xs ys is may

-- both places are of one slot, and the test passes in each phase
pub each_passes : (t : List Known → List Known → Bool) (r next : Row) → all_pass t r next ≡ true
    → (r.slot ≡ next.slot) × ((f : Phase) → passes t (known_in f r) (known_in f next) ≡ true)
each_passes t r next is =
    let a = and_parts (r.slot == next.slot) _ is in
    let b = and_parts (passes t r.bare next.bare) _ a.1 in
    let c = and_parts (passes t r.single next.single) _ b.1 in
    let d = and_parts (passes t r.outside next.outside) _ c.1 in
    let e = and_parts (passes t r.holding next.holding) (passes t r.done next.done) d.1 in
    (eqb-true r.slot next.slot a.0, by b.0 c.0 d.0 e.0 e.1)
  where
    by : passes t r.bare next.bare ≡ true → passes t r.single next.single ≡ true → passes t r.outside next.outside ≡ true
        → passes t r.holding next.holding ≡ true → passes t r.done next.done ≡ true → (f : Phase) → passes t (known_in f r) (known_in f next) ≡ true
    by b c d e g Bare = b
    by b c d e g Single = c
    by b c d e g Outside = d
    by b c d e g Holding = e
    by b c d e g Done = g

-- a register that took a value
pub here : (regs : List ℕ) (i x : ℕ) → length regs ≡ 32 → i < 32 → slice_index (set regs i x) i ≡ x
here regs i x many few = get_or-set_same regs i x 0 (omega arith)
