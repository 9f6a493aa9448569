-- The elements of what a test keeps, and of what a function makes of a list.
use Rattle.std.proofs.Common.{◌≡◌, ◌⊎◌, ◌∙◌, suc, Bool, true, false, cond, List, [], ◌∷◌, map, inl, inr, ap, arith, refl, subst, sym}
use Rattle.std.specs.List.{Contains, filter}
use Rattle.std.proofs.lemmas.Bool.{cases_Bool}
use Rattle.happens_before.proofs.Joins.{first_or_rest}

first : {A : Type 0} (x : A) (xs : List A) → Contains (x ∷ xs) x
first x xs = (0, omega arith, refl)

rest : {A : Type 0} (x : A) (xs : List A) (y : A) → Contains xs y → Contains (x ∷ xs) y
rest x xs y held = (suc held.0, omega (arith, held.1), held.2)

none : {A : Type 0} (y : A) → Contains [] y → ⊥
none y held = omega (arith, held.1)

pub map_has : {A B : Type 0} (f : A → B) (xs : List A) (x : A) → Contains xs x → Contains (map f xs) (f x)
map_has f [] x held = absurd (none x held)
map_has f (a ∷ xs) x held = elim (first_or_rest a xs x held) [
  | inl is ↦ subst (λ z. Contains (f a ∷ map f xs) (f z)) is (first (f a) (map f xs))
  | inr more ↦ rest (f a) (map f xs) (f x) (map_has f xs x more)
]

pub map_from : {A B : Type 0} (f : A → B) (xs : List A) (y : B) → Contains (map f xs) y → (x : A) × (Contains xs x × (f x ≡ y))
map_from f [] y held = absurd (none y held)
map_from f (a ∷ xs) y held = elim (first_or_rest (f a) (map f xs) y held) [
  | inl is ↦ (a, (first a xs, is))
  | inr more ↦ let (x, (has, is)) = map_from f xs y more in (x, (rest a xs x has, is))
]

-- the elements that are kept, once the first is
kept_cases : {A : Type 0} (q : A → Bool) (a : A) (xs : List A) (x : A) → Contains (filter q (a ∷ xs)) x
    → ((a ≡ x) × (q a ≡ true)) ⊎ Contains (filter q xs) x
kept_cases q a xs x held = elim (cases_Bool (q a)) [
  | inl yes1 ↦ elim (first_or_rest a (filter q xs) x (subst (λ b. Contains (cond b (a ∷ filter q xs) (filter q xs)) x) yes1 held)) [
    | inl is ↦ inl (is, yes1)
    | inr more ↦ inr more
  ]
  | inr no1 ↦ inr (subst (λ b. Contains (cond b (a ∷ filter q xs) (filter q xs)) x) no1 held)
]

pub kept_from : {A : Type 0} (q : A → Bool) (xs : List A) (x : A) → Contains (filter q xs) x → Contains xs x × (q x ≡ true)
kept_from q [] x held = absurd (none x held)
kept_from q (a ∷ xs) x held = elim (kept_cases q a xs x held) [
  | inl is ↦ (subst (λ z. Contains (a ∷ xs) z) is.0 (first a xs), ap q (sym is.0) ∙ is.1)
  | inr more ↦ let both = kept_from q xs x more in (rest a xs x both.0, both.1)
]

-- what is kept of the rest is kept
kept_rest : {A : Type 0} (q : A → Bool) (a : A) (xs : List A) (x : A) → Contains (filter q xs) x → Contains (filter q (a ∷ xs)) x
kept_rest q a xs x held =
    elim (q a) as (λ b. Contains (cond b (a ∷ filter q xs) (filter q xs)) x) [
      | true ↦ rest a (filter q xs) x held
      | false ↦ held
    ]

pub kept_has : {A : Type 0} (q : A → Bool) (xs : List A) (x : A) → Contains xs x → q x ≡ true → Contains (filter q xs) x
kept_has q [] x held is = absurd (none x held)
kept_has q (a ∷ xs) x held is = elim (first_or_rest a xs x held) [
  | inl same ↦ subst (λ b. Contains (cond b (a ∷ filter q xs) (filter q xs)) x) (sym is ∙ ap q (sym same))
      (subst (λ z. Contains (a ∷ filter q xs) z) same (first a (filter q xs)))
  | inr more ↦ kept_rest q a xs x (kept_has q xs x more is)
]
