-- Whether a prefix begins a name, and the first row whose prefix does.
use Rattle.std.proofs.Common.{◌≡◌, ℕ, suc, ◌+◌, ◌<◌, Bool, true, false, List, ◌∷◌, length, get_or, drop, map, sym, ap, add-one, drop-cons, Some, cond}
use Rattle.std.specs.List.{find}

-- a row that doesn't fit is passed over
pub find_later : {A B : Type 0} (f : A → B) (test : B → Bool) (xs : List A) (i : ℕ) (d : A) → i < length xs →
    test (f (get_or xs i d)) ≡ false → find test (map f (drop (i + 1) xs)) ≡ find test (map f (drop i xs))
find_later f test xs i d h misses =
    let e : drop i xs ≡ get_or xs i d ∷ drop (suc i) xs = drop-cons xs i d h in
    rw (e, add-one) (ap (λ b. cond b (Some (f (get_or xs i d))) (find test (map f (drop (suc i) xs)))) (sym misses))

-- a row that fits is the first
pub find_here : {A B : Type 0} (f : A → B) (test : B → Bool) (xs : List A) (i : ℕ) (d : A) → i < length xs →
    test (f (get_or xs i d)) ≡ true → find test (map f (drop i xs)) ≡ Some (f (get_or xs i d))
find_here f test xs i d h fits =
    let e : drop i xs ≡ get_or xs i d ∷ drop (suc i) xs = drop-cons xs i d h in
    rw e (ap (λ b. cond b (Some (f (get_or xs i d))) (find test (map f (drop (suc i) xs)))) fits)
