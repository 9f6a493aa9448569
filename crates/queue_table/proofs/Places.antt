-- In which list a process is, before and after a change of one list.
use Rattle.std.proofs.Common.{◌≡◌, ◌≢◌, ℕ, ◌+◌, ◌<◌, ℤ, zero, suc, Bool, true, false, cond, not, eqb, List, [], ◌∷◌, ◌++◌, length, map, Some, None, refl, sym, ap, ◌∙◌, subst, inl, inr, arith}
use Rattle.std.proofs.lemmas.Bool.{cases_Bool, false≢true}
use Rattle.std.proofs.lemmas.Bool.Decides.{nat_tests}
use Rattle.std.proofs.lemmas.List.Elements.{filter-append}
use Rattle.queue_table.specs.Lists.{Entry, is_listed, list_at, list_of, place, place_from, with_list, without}
use Rattle.queue_table.proofs.Paths.{is_listed-cases}

-- without and with the first list
step : (from : ℕ) (l : List Entry) (ls : List (List Entry)) (p : ℕ) (b : Bool) → is_listed p l ≡ b → place_from from (l ∷ ls) p ≡ cond b (Some from) (place_from (from + 1) ls p)
step from l ls p b h = ap (λ b. cond b (Some from) (place_from (from + 1) ls p)) h

-- a process without a place in the lists is in none of them
place_from-none : (from : ℕ) (ls : List (List Entry)) (p : ℕ) → place_from from ls p ≡ None → (i : ℕ) → is_listed p (list_at ls i) ≡ false
place_from-none from [] p h i = refl
place_from-none from (l ∷ ls) p h zero = elim (cases_Bool (is_listed p l)) [
  | inl t ↦ (let e : Some from ≡ None = sym (step from l ls p true t) ∙ h in absurd (cc))
  | inr f ↦ f
]
place_from-none from (l ∷ ls) p h (suc i) = elim (cases_Bool (is_listed p l)) [
  | inl t ↦ (let e : Some from ≡ None = sym (step from l ls p true t) ∙ h in absurd (cc))
  | inr f ↦ place_from-none (from + 1) ls p (sym (step from l ls p false f) ∙ h) i
]

-- a process that is in none of the lists has no place in them
none-place_from : (from : ℕ) (ls : List (List Entry)) (p : ℕ) → ((i : ℕ) → is_listed p (list_at ls i) ≡ false) → place_from from ls p ≡ None
none-place_from from [] p h = refl
none-place_from from (l ∷ ls) p h = step from l ls p false (h 0) ∙ none-place_from (from + 1) ls p (λ i. h (suc i))

-- a process with a place in the lists is in the list there
place_from-some : (from : ℕ) (ls : List (List Entry)) (p q : ℕ) → place_from from ls p ≡ Some q → (i : ℕ) × (q ≡ from + i) × (i < length ls) × (is_listed p (list_at ls i) ≡ true)
place_from-some from [] p q h = let e : None ≡ Some q = h in absurd (cc)
place_from-some from (l ∷ ls) p q h = elim (cases_Bool (is_listed p l)) [
  | inl t ↦ (let e : Some from ≡ Some q = sym (step from l ls p true t) ∙ h in let e' : from ≡ q = cc in (0, omega arith, omega arith, t))
  | inr f ↦ (let r = place_from-some (from + 1) ls p q (sym (step from l ls p false f) ∙ h) in (suc r.0, omega (arith, r.1), omega (arith, r.2), r.3))
]

-- the place of a process is the first list that has it
some-place_from : (from : ℕ) (ls : List (List Entry)) (p i : ℕ) → ((j : ℕ) → j < i → is_listed p (list_at ls j) ≡ false) → is_listed p (list_at ls i) ≡ true → place_from from ls p ≡ Some (from + i)
some-place_from from [] p i h t = absurd (false≢true t)
some-place_from from (l ∷ ls) p zero h t = step from l ls p true t ∙ ap Some (omega arith)
some-place_from from (l ∷ ls) p (suc i) h t =
    let e : from + 1 + i ≡ from + suc i = omega arith in
    step from l ls p false (h 0 (omega arith)) ∙ some-place_from (from + 1) ls p i (λ j lt. h (suc j) (omega arith)) t ∙ ap Some e

-- a change of one list leaves the place of a process that it neither adds nor takes
place_from-with : (from : ℕ) (ls : List (List Entry)) (q : ℕ) (l' : List Entry) (r : ℕ) → is_listed r l' ≡ is_listed r (list_at ls q) → place_from from (with_list ls q l') r ≡ place_from from ls r
place_from-with from [] q l' r h = refl
place_from-with from (l ∷ ls) zero l' r h = ap (λ b. cond b (Some from) (place_from (from + 1) ls r)) h
place_from-with from (l ∷ ls) (suc q) l' r h = ap (λ o. cond (is_listed r l) (Some from) o) (place_from-with (from + 1) ls q l' r h)

-- a process that is nowhere is in no list
pub place-none : (ls : List (List Entry)) (p : ℕ) → place ls p ≡ None → (i : ℕ) → is_listed p (list_at ls i) ≡ false
unfolding place
place-none ls p h = place_from-none 0 ls p h

-- a process that is in no list is nowhere
pub none-place : (ls : List (List Entry)) (p : ℕ) → ((i : ℕ) → is_listed p (list_at ls i) ≡ false) → place ls p ≡ None
unfolding place
none-place ls p h = none-place_from 0 ls p h

-- p is in list q
pub place-some : (ls : List (List Entry)) (p q : ℕ) → place ls p ≡ Some q → (q < length ls) × (is_listed p (list_at ls q) ≡ true)
unfolding place
place-some ls p q h =
    let r = place_from-some 0 ls p q h in
    let e : q ≡ r.0 = omega (arith, r.1) in
    let F : ℕ → Type 0 = λ q. (q < length ls) × (is_listed p (list_at ls q) ≡ true) in subst F (sym e) (r.2, r.3)

-- the place of a process is the first queue whose list has it
pub some-place : (ls : List (List Entry)) (p q : ℕ) → ((j : ℕ) → j < q → is_listed p (list_at ls j) ≡ false) → is_listed p (list_at ls q) ≡ true → place ls p ≡ Some q
unfolding place
some-place ls p q h t = some-place_from 0 ls p q h t ∙ ap Some (omega arith)

-- the list of the first queue that has p, if the lists are those of queue `from` and the queues after it
list_of-from : (from : ℕ) (ls : List (List Entry)) (p q : ℕ) → place_from from ls p ≡ Some q → (i : ℕ) × (q ≡ from + i) × (list_of ls p ≡ list_at ls i)
list_of-from from [] p q h = let e : None ≡ Some q = h in absurd (cc)
list_of-from from (l ∷ ls) p q h = elim (cases_Bool (is_listed p l)) [
  | inl t ↦ (let e : Some from ≡ Some q = sym (step from l ls p true t) ∙ h in let e' : from ≡ q = cc in (0, omega arith, ap (λ b. cond b l (list_of ls p)) t))
  | inr f ↦ (let r = list_of-from (from + 1) ls p q (sym (step from l ls p false f) ∙ h) in (suc r.0, omega (arith, r.1), ap (λ b. cond b l (list_of ls p)) f ∙ r.2))
]

-- the list in which p is, is that of its queue
pub list_of-placed : (ls : List (List Entry)) (p q : ℕ) → place ls p ≡ Some q → list_of ls p ≡ list_at ls q
unfolding place
list_of-placed ls p q h =
    let r = list_of-from 0 ls p q h in
    let e : r.0 ≡ q = omega (arith, r.1) in
    r.2 ∙ ap (list_at ls) e

-- a change of one list leaves the places of processes that it neither adds nor takes
pub place-with : (ls : List (List Entry)) (q : ℕ) (l' : List Entry) (r : ℕ) → is_listed r l' ≡ is_listed r (list_at ls q) → place (with_list ls q l') r ≡ place ls r
unfolding place
place-with ls q l' r h = place_from-with 0 ls q l' r h

-- a list at a process that is in it
pub split_in : (p : ℕ) (l : List Entry) → is_listed p l ≡ true → (pre : List Entry) × (k : ℤ) × (post : List Entry) × (l ≡ pre ++ (p, k) ∷ post)
split_in p [] h = absurd (false≢true h)
split_in p (e ∷ l) h = elim (is_listed-cases p e l h) [
  | inl s ↦ (let F : ℕ → Type 0 = λ n. e ∷ l ≡ (n, e.1) ∷ l in ([], e.1, l, subst F (sym s) refl))
  | inr i ↦ (let r = split_in p l i in (e ∷ r.0, r.1, r.2, ap (λ l. e ∷ l) r.3))
]

-- taking out a process that isn't in the list leaves the list
pub without-absent : (p : ℕ) (l : List Entry) → is_listed p l ≡ false → without p l ≡ l
without-absent p [] h = refl
without-absent p (e ∷ l) h =
    let t : is_listed p l ≡ false = grind (arith, nat_tests) in
    let n : eqb p e.0 ≡ false = grind (arith, nat_tests) in
    let i : without p l ≡ l = without-absent p l t in
    ap (λ b. cond (not b) (e ∷ without p l) (without p l)) n ∙ ap (λ l. e ∷ l) i

-- a process is taken out of two lists put together as out of each
pub without-append : (p : ℕ) (l m : List Entry) → without p (l ++ m) ≡ without p l ++ without p m
without-append p l m = filter-append (λ e. not (eqb p e.0)) l m

-- taking out a process that is in the list once leaves the parts ahead of it and after it
pub without-split : (p : ℕ) (pre : List Entry) (k : ℤ) (post : List Entry) → is_listed p pre ≡ false → is_listed p post ≡ false → without p (pre ++ (p, k) ∷ post) ≡ pre ++ post
without-split p pre k post a b =
    let e : eqb p p ≡ true = grind (arith, nat_tests) in
    let here : without p ((p, k) ∷ post) ≡ post = ap (λ b. cond (not b) ((p, k) ∷ without p post) (without p post)) e ∙ without-absent p post b in
    without-append p pre ((p, k) ∷ post) ∙ ap (λ l. l ++ without p ((p, k) ∷ post)) (without-absent p pre a) ∙ ap (λ l. pre ++ l) here

-- a change that leaves each list leaves the lists
pub map-same : (f : List Entry → List Entry) (ls : List (List Entry)) → ((i : ℕ) → f (list_at ls i) ≡ list_at ls i) → map f ls ≡ ls
map-same f [] k = refl
map-same f (l ∷ ls) k = ap (λ l. l ∷ map f ls) (k 0) ∙ ap (λ ls. l ∷ ls) (map-same f ls (λ i. k (suc i)))

-- a change of each list that leaves all but queue q's is a change of queue q's
pub map-with : (f : List Entry → List Entry) (ls : List (List Entry)) (q : ℕ) (l' : List Entry) → q < length ls → f (list_at ls q) ≡ l' → ((i : ℕ) → i ≢ q → f (list_at ls i) ≡ list_at ls i) → map f ls ≡ with_list ls q l'
map-with f [] q l' lt h k = absurd (omega arith)
map-with f (l ∷ ls) zero l' lt h k = ap (λ l. l ∷ map f ls) h ∙ ap (λ ls. l' ∷ ls) (map-same f ls (λ i. k (suc i) (omega arith)))
map-with f (l ∷ ls) (suc q) l' lt h k = ap (λ l. l ∷ map f ls) (k 0 (omega arith)) ∙ ap (λ ls. l ∷ ls) (map-with f ls q l' (omega arith) h (λ i n. k (suc i) (omega arith)))
