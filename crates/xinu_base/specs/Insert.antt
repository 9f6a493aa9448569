-- The two insertions of the kernel's lists.
use Rattle.std.specs.Prelude.{ℕ, Bool, not, List, ◌∷◌, ◌++◌, filter, nat_le, ℤ, int_lt}

-- e after the entries of l that go before it and before the others, each part in its old order
abbrev pub insert : {A : Type 0} → (A → Bool) → A → List A → List A
insert before e l = filter before l ++ (e ∷ filter (λ x. not (before x)) l)

-- p with key k in the ready list, after all keys that are not less
abbrev pub ready_insert : ℕ → ℤ → List (ℕ × ℤ) → List (ℕ × ℤ)
ready_insert p k l = insert (λ x. not (int_lt x.1 k)) (p, k) l

-- p with wake tick w among the sleepers, after all that wake at most as late
abbrev pub sleeper_insert : ℕ → ℕ → List (ℕ × ℕ) → List (ℕ × ℕ)
sleeper_insert p w l = insert (λ x. nat_le x.1 w) (p, w) l
