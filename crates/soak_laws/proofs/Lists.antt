-- What holds of all elements of a list, after a write and after others were taken out.
use Rattle.std.proofs.Common.{ℕ, zero, suc, Bool, List, [], ◌∷◌, ◌++◌, filter, set, get_or}
use Rattle.std.specs.List.{AllByRecursion}
use Rattle.std.proofs.lemmas.Bool.{cond_both}

-- What holds of the elements by their places holds after a write of one of which it holds.
pub each_set : {A : Type 0} (P : ℕ → A → Type 0) (l : List A) (p : ℕ) (x d : A) → ((q : ℕ) → P q (get_or l q d)) → P p x
    → (q : ℕ) → P q (get_or (set l p x) q d)
each_set P [] p x d all one q = all q
each_set P (y ∷ l) zero x d all one zero = one
each_set P (y ∷ l) zero x d all one (suc q) = all (suc q)
each_set P (y ∷ l) (suc p) x d all one zero = all zero
each_set P (y ∷ l) (suc p) x d all one (suc q) = each_set (λ k. P (suc k)) l p x d (λ k. all (suc k)) one q

-- it holds of those that pass a test
pub all_filter : {A : Type 0} (P : A → Type 0) (test : A → Bool) (l : List A) → AllByRecursion P l → AllByRecursion P (filter test l)
all_filter P test [] all = tt
all_filter P test (x ∷ l) all =
    cond_both (test x) (x ∷ filter test l) (filter test l) (AllByRecursion P)
    (λ _. (all.0, all_filter P test l all.1)) (λ _. all_filter P test l all.1)

-- and of two lists together
pub all_append : {A : Type 0} (P : A → Type 0) (l m : List A) → AllByRecursion P l → AllByRecursion P m → AllByRecursion P (l ++ m)
all_append P [] m all more = more
all_append P (x ∷ l) m all more = (all.0, all_append P l m all.1 more)
