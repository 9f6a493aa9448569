-- Files in the order of their names: the k-th is the one that exactly k names come before.
use Rattle.std.proofs.Common.{◌≡◌, ℕ, zero, suc, ◌+◌, ◌<◌, ◌≤◌, Bool, true, false, cond, not, ◌&&◌, ◌||◌, nat_eq, nat_lt, List, [], ◌∷◌, ◌++◌, refl, sym, ap, ◌∙◌, arith, Some, None, bytes_eq, count_by, slice_get, ⊎_elim, ◌⊎◌, inl, inr}
use Rattle.lfs_check.proofs.KeepsAll.{either-way}
use Rattle.std.specs.List.{list_all, find}
use Rattle.std.proofs.lemmas.Bool.{cases_lt, false≢true, and_parts, and_from, not-true, or_left, or_parts, or_right}
use Rattle.std.proofs.lemmas.Bool.Decides.{nat_tests}
use Rattle.std.proofs.lemmas.List.Folds.{list_any-append}
use Rattle.std.proofs.lemmas.List.Sums.{sum_by-cons}
use Rattle.std.proofs.lemmas.Slice.Eq.{bytes_eq-Decides}
use Rattle.lfs_check.specs.Rules.{is_name}
use Rattle.lfs_layout.specs.Files.{File, is_before, with_file, sorted, is_among, names_right, names_of}

-- The order of names.

-- the names begin alike, and the rest decides; or the first bytes decide
before-step : (x y : ℕ) (xs ys : List ℕ) → is_before (x ∷ xs) (y ∷ ys) ≡ true → (x < y) ⊎ ((x ≡ y) × (is_before xs ys ≡ true))
before-step x y xs ys e =
    either-way (nat_eq x y) (λ v. cond v (is_before xs ys) (nat_lt x y) ≡ true → (x < y) ⊎ ((x ≡ y) × (is_before xs ys ≡ true)))
    (λ s t. inr (let q : x ≡ y = grind (arith, nat_tests) in q, t))
    (λ s t. inl (let q : x < y = grind (arith, nat_tests) in q))
    e

-- a smaller first byte comes before
before-less : (x y : ℕ) (xs ys : List ℕ) → x < y → is_before (x ∷ xs) (y ∷ ys) ≡ true
before-less x y xs ys h =
    let e : nat_eq x y ≡ false = grind (arith, nat_tests) in let l : nat_lt x y ≡ true = grind (arith, nat_tests) in
    ap (λ v. cond v (is_before xs ys) (nat_lt x y)) e ∙ l

-- of names with the same first byte the rest decides
before-same : (x y : ℕ) (xs ys : List ℕ) → x ≡ y → is_before (x ∷ xs) (y ∷ ys) ≡ is_before xs ys
before-same x y xs ys h = let e : nat_eq x y ≡ true = grind (arith, nat_tests) in ap (λ v. cond v (is_before xs ys) (nat_lt x y)) e

-- no name comes before itself
pub before-self : (a : List ℕ) → is_before a a ≡ false
before-self [] = refl
before-self (x ∷ a) = before-same x x a a refl ∙ before-self a

-- the order of names is transitive
pub before-trans : (a b c : List ℕ) → is_before a b ≡ true → is_before b c ≡ true → is_before a c ≡ true
before-trans a b [] p q = absurd (no-end b q)
  where
    no-end : (b : List ℕ) → is_before b [] ≡ true → ⊥
    no-end [] q = false≢true q
    no-end (y ∷ b) q = false≢true q
before-trans [] b (z ∷ c) p q = refl
before-trans (x ∷ a) [] (z ∷ c) p q = absurd (false≢true p)
before-trans (x ∷ a) (y ∷ b) (z ∷ c) p q =
    ⊎_elim
    (λ (h : x < y). ⊎_elim (λ (k : y < z). before-less x z a c (omega arith)) (λ (k : (y ≡ z) × (is_before b c ≡ true)). before-less x z a c (let e = k.0 in omega arith)) (before-step y z b c q))
    (λ (h : (x ≡ y) × (is_before a b ≡ true)).
    ⊎_elim (λ (k : y < z). before-less x z a c (let e = h.0 in omega arith))
    (λ (k : (y ≡ z) × (is_before b c ≡ true)). before-same x z a c (h.0 ∙ k.0) ∙ before-trans a b c h.1 k.1) (before-step y z b c q))
    (before-step x y a b p)

-- of two names at most one comes before the other
pub before-not : (a b : List ℕ) → is_before a b ≡ true → is_before b a ≡ false
before-not a b p = either-way (is_before b a) (λ v. v ≡ false) (λ q. absurd (false≢true (sym (before-self a) ∙ before-trans a b a p q))) (λ q. refl)

-- of two names that differ one comes before the other
pub before-total : (a b : List ℕ) → is_before a b ≡ false → bytes_eq a b ≡ false → is_before b a ≡ true
before-total [] [] p e = absurd (false≢true (sym e))
before-total [] (y ∷ b) p e = absurd (false≢true (sym p))
before-total (x ∷ a) [] p e = refl
before-total (x ∷ a) (y ∷ b) p e =
    ⊎_elim (λ (h : y < x). before-less y x b a h)
    (λ (h : x ≤ y). ⊎_elim (λ (k : x < y). absurd (false≢true (sym p ∙ before-less x y a b k)))
    (λ (k : y ≤ x). (let s : x ≡ y = omega arith in let t : nat_eq x y ≡ true = grind (arith, nat_tests) in
    before-same y x b a (sym s) ∙ before-total a b (sym (before-same x y a b s) ∙ p) (sym (ap (λ v. v && bytes_eq a b) t) ∙ e)))
    (cases_lt x y))
    (cases_lt y x)

-- the test for equal bytes is symmetric
pub bytes-swap : (a b : List ℕ) → bytes_eq a b ≡ bytes_eq b a
bytes-swap [] [] = refl
bytes-swap [] (y ∷ b) = refl
bytes-swap (x ∷ a) [] = refl
bytes-swap (x ∷ a) (y ∷ b) = let e : nat_eq x y ≡ nat_eq y x = grind (arith, nat_tests) in ap (λ v. v && bytes_eq a b) e ∙ ap (λ v. nat_eq y x && v) (bytes-swap a b)

-- Counts.

-- one file more is counted if it passes
count_more : (p : File → Bool) (f : File) (files : List File) → count_by p (f ∷ files) ≡ cond (p f) 1 0 + count_by p files
count_more p f files = sum_by-cons (λ (g : File). cond (p g) 1 0) f files

-- one file more before lists that count alike
count_same : (p : File → Bool) (f : File) (few many : List File) → count_by p few ≡ count_by p many → count_by p (f ∷ few) ≡ count_by p (f ∷ many)
count_same p f few many e = count_more p f few ∙ ap (λ n. cond (p f) 1 0 + n) e ∙ sym (count_more p f many)

-- a file that passes is counted
count_yes : (p : File → Bool) (f : File) (files : List File) → p f ≡ true → count_by p (f ∷ files) ≡ 1 + count_by p files
count_yes p f files e = count_more p f files ∙ ap (λ v. cond v 1 0 + count_by p files) e

-- a file that fails isn't
count_no : (p : File → Bool) (f : File) (files : List File) → p f ≡ false → count_by p (f ∷ files) ≡ count_by p files
count_no p f files e = count_more p f files ∙ ap (λ v. cond v 1 0 + count_by p files) e ∙ (let z : 0 + count_by p files ≡ count_by p files = omega arith in z)

-- two files in another order count alike
count_swap : (p : File → Bool) (f g : File) (files more : List File) → count_by p more ≡ count_by p (f ∷ files) → count_by p (g ∷ more) ≡ count_by p (f ∷ g ∷ files)
count_swap p f g files more i =
    let a = count_more p g more in let b = count_more p f files in let c = count_more p f (g ∷ files) in let d = count_more p g files in omega (arith, i, a, b, c, d)

-- A file among others in their order.

-- what is true of all files and of one more is true of them in order
all_with : (p : File → Bool) (f : File) (files : List File) → p f ≡ true → list_all p files ≡ true → list_all p (with_file f files) ≡ true
all_with p f [] h e = and_from (p f) true h refl
all_with p f (g ∷ files) h e =
    let two = and_parts (p g) (list_all p files) e in
    either-way (is_before f.name g.name) (λ v. list_all p (cond v (f ∷ g ∷ files) (g ∷ with_file f files)) ≡ true)
    (λ s. and_from (p f) (p g && list_all p files) h e)
    (λ s. and_from (p g) (list_all p (with_file f files)) two.0 (all_with p f files h two.1))

-- a file put in its place counts as at the front
pub count_with : (p : File → Bool) (f : File) (files : List File) → count_by p (with_file f files) ≡ count_by p (f ∷ files)
count_with p f [] = refl
count_with p f (g ∷ files) =
    either-way (is_before f.name g.name) (λ v. count_by p (cond v (f ∷ g ∷ files) (g ∷ with_file f files)) ≡ count_by p (f ∷ g ∷ files))
    (λ s. refl) (λ s. count_swap p f g files (with_file f files) (count_with p f files))

-- files in order count as before
pub count_sorted : (p : File → Bool) (files : List File) → count_by p (sorted files) ≡ count_by p files
count_sorted p [] = refl
count_sorted p (f ∷ files) = count_with p f (sorted files) ∙ count_same p f (sorted files) files (count_sorted p files)

-- the names of files in order are their names
among_sorted : (files : List File) (x : List ℕ) → is_among (names_of (sorted files)) x ≡ is_among (names_of files) x
among_sorted [] x = refl
among_sorted (f ∷ files) x = among_with f (sorted files) x ∙ ap (λ v. bytes_eq f.name x || v) (among_sorted files x)
  where
    or_swap : (a b c : Bool) → a || (b || c) ≡ b || (a || c)
    or_swap true true c = refl
    or_swap true false c = refl
    or_swap false b c = refl

    among_with : (f : File) (files : List File) (x : List ℕ) → is_among (names_of (with_file f files)) x ≡ bytes_eq f.name x || is_among (names_of files) x
    among_with f [] x = refl
    among_with f (g ∷ files) x =
        either-way (is_before f.name g.name) (λ v. is_among (names_of (cond v (f ∷ g ∷ files) (g ∷ with_file f files))) x ≡ bytes_eq f.name x || (bytes_eq g.name x || is_among (names_of files) x))
        (λ s. refl) (λ s. ap (λ v. bytes_eq g.name x || v) (among_with f files x) ∙ or_swap (bytes_eq g.name x) (bytes_eq f.name x) (is_among (names_of files) x))

-- whether each file's name comes before those of the files after it
abbrev ascends : List File → Bool
ascends [] = true
ascends (f ∷ files) = list_all (λ (g : File). is_before f.name g.name) files && ascends files

-- what comes before all of some files comes before them if it comes before what does
all_after : (a b : List ℕ) (files : List File) → is_before a b ≡ true → list_all (λ (g : File). is_before b g.name) files ≡ true → list_all (λ (g : File). is_before a g.name) files ≡ true
all_after a b [] h e = refl
all_after a b (g ∷ files) h e =
    let two = and_parts (is_before b g.name) (list_all (λ (g : File). is_before b g.name) files) e in
    and_from (is_before a g.name) (list_all (λ (g : File). is_before a g.name) files) (before-trans a b g.name h two.0) (all_after a b files h two.1)

-- a file with a new name, put in its place, keeps the order
ascends_with : (f : File) (files : List File) → ascends files ≡ true → is_among (names_of files) f.name ≡ false → ascends (with_file f files) ≡ true
ascends_with f [] e n = refl
ascends_with f (g ∷ files) e n =
    let two = and_parts (list_all (λ (h : File). is_before g.name h.name) files) (ascends files) e in
    let apart = or_parts (bytes_eq g.name f.name) (is_among (names_of files) f.name) n in
    either-way (is_before f.name g.name) (λ v. is_before f.name g.name ≡ v → ascends (cond v (f ∷ g ∷ files) (g ∷ with_file f files)) ≡ true)
    (λ _ s. and_from (is_before f.name g.name && list_all (λ (h : File). is_before f.name h.name) files) (list_all (λ (h : File). is_before g.name h.name) files && ascends files)
    (and_from (is_before f.name g.name) (list_all (λ (h : File). is_before f.name h.name) files) s (all_after f.name g.name files s two.0)) e)
    (λ _ s. and_from (list_all (λ (h : File). is_before g.name h.name) (with_file f files)) (ascends (with_file f files))
    (all_with (λ (h : File). is_before g.name h.name) f files (before-total f.name g.name s (bytes-swap f.name g.name ∙ apart.0)) two.0) (ascends_with f files two.1 apart.1))
    refl

-- names that are right are apart
right_apart : (longest : ℕ) (before names : List (List ℕ)) (x : List ℕ) → is_among before x ≡ true → names_right longest before names ≡ true → is_among names x ≡ false
right_apart longest before [] x a e = refl
right_apart longest before (n ∷ names) x a e =
    let one = and_parts (is_name longest n && not (is_among before n)) (names_right longest (before ++ n ∷ []) names) e in
    let new = not-true (is_among before n) (and_parts (is_name longest n) (not (is_among before n)) one.0).1 in
    either-way (bytes_eq n x) (λ v. v || is_among names x ≡ false)
    (λ s. absurd (false≢true (sym new ∙ ap (is_among before) ((bytes_eq-Decides n x).0 s) ∙ a)))
    (λ s. right_apart longest (before ++ n ∷ []) names x (list_any-append (λ m. bytes_eq m x) before (n ∷ []) ∙ or_left (is_among before x) (bytes_eq n x || false) a) one.1)

-- files in order ascend if no two have the same name
sorted_ascends : (longest : ℕ) (before : List (List ℕ)) (files : List File) → names_right longest before (names_of files) ≡ true → ascends (sorted files) ≡ true
sorted_ascends longest before [] e = refl
sorted_ascends longest before (f ∷ files) e =
    let n = f.name in
    let rest = (and_parts (is_name longest n && not (is_among before n)) (names_right longest (before ++ n ∷ []) (names_of files)) e).1 in
    let here : is_among (before ++ n ∷ []) n ≡ true = list_any-append (λ m. bytes_eq m n) before (n ∷ []) ∙ or_right (is_among before n) (bytes_eq n n || false) (or_left (bytes_eq n n) false ((bytes_eq-Decides n n).1 refl)) in
    ascends_with f (sorted files) (sorted_ascends longest (before ++ n ∷ []) files rest) (among_sorted files n ∙ right_apart longest (before ++ n ∷ []) (names_of files) n here rest)

-- The k-th.

-- how many names come before the file's
abbrev rank : List File → List ℕ → ℕ
rank files name = count_by (λ (g : File). is_before g.name name) files

-- whether exactly k names come before a file's
abbrev has_rank : List File → ℕ → File → Bool
has_rank files k f = nat_eq (rank files f.name) k

-- two tests that agree at what another lets through
find_same : (p q t : File → Bool) (files : List File) → ((f : File) → t f ≡ true → p f ≡ q f) → list_all t files ≡ true → (find p files ≡ find q files) × (count_by p files ≡ count_by q files)
find_same p q t [] h e = (refl, refl)
find_same p q t (f ∷ files) h e =
    let two = and_parts (t f) (list_all t files) e in let i = find_same p q t files h two.1 in let s = h f two.0 in (
      ap (λ v. cond v (Some f) (find p files)) s ∙ ap (λ o. cond (q f) (Some f) o) i.0,
      count_more p f files ∙ ap (λ v. cond v 1 0 + count_by p files) s ∙ ap (λ n. cond (q f) 1 0 + n) i.1 ∙ sym (count_more q f files),
    )

-- nothing comes before what comes before all
none_before : (f : File) (files : List File) → list_all (λ (g : File). is_before f.name g.name) files ≡ true → count_by (λ (g : File). is_before g.name f.name) files ≡ 0
none_before f [] e = refl
none_before f (g ∷ files) e =
    let two = and_parts (is_before f.name g.name) (list_all (λ (g : File). is_before f.name g.name) files) e in
    count_no (λ (h : File). is_before h.name f.name) g files (before-not f.name g.name two.0) ∙ none_before f files two.1

-- a test that always fails finds and counts none
none_found : (files : List File) → (find (λ (f : File). false) files ≡ None) × (count_by (λ (f : File). false) files ≡ 0)
none_found [] = (refl, refl)
none_found (f ∷ files) = let i = none_found files in (i.0, count_no (λ (g : File). false) f files refl ∙ i.1)

-- the k-th file has rank k, and at most one has
record Ranked (files : List File) (k : ℕ) : Type 0 where
  found : find (has_rank files k) files ≡ slice_get files k
  once : count_by (has_rank files k) files ≤ 1

-- the first file has rank 0
rank_first : (f : File) (files : List File) → list_all (λ (g : File). is_before f.name g.name) files ≡ true → rank (f ∷ files) f.name ≡ 0
rank_first f files e = count_no (λ (h : File). is_before h.name f.name) f files (before-self f.name) ∙ none_before f files e

-- each later file has one more before it
rank_later : (f : File) (files : List File) (g : File) → is_before f.name g.name ≡ true → rank (f ∷ files) g.name ≡ 1 + rank files g.name
rank_later f files g h = count_yes (λ (x : File). is_before x.name g.name) f files h

-- the first file is the only one of rank 0
ranked_first : (f : File) (files : List File) → list_all (λ (g : File). is_before f.name g.name) files ≡ true → Ranked (f ∷ files) 0
ranked_first f files e =
    let all = f ∷ files in let r = rank_first f files e in
    let t : has_rank all 0 f ≡ true = grind (arith, nat_tests) in
    let s = find_same (has_rank all 0) (λ (g : File). false) (λ (g : File). is_before f.name g.name) files (λ g h. (let m = rank_later f files g h in grind (arith, nat_tests))) e in
    let c = count_yes (has_rank all 0) f files t ∙ ap (λ n. 1 + n) (s.1 ∙ (none_found files).1) in
    record { found = ap (λ b. cond b (Some f) (find (has_rank all 0) files)) t; once = omega (arith, c) }

-- a file of rank k + 1 is one of rank k among those after the first
ranked_later : (f : File) (files : List File) (k : ℕ) → list_all (λ (g : File). is_before f.name g.name) files ≡ true → Ranked files k → Ranked (f ∷ files) (suc k)
ranked_later f files k e i =
    let all = f ∷ files in let r = rank_first f files e in
    let t : has_rank all (suc k) f ≡ false = grind (arith, nat_tests) in
    let s = find_same (has_rank all (suc k)) (has_rank files k) (λ (g : File). is_before f.name g.name) files (λ g h. (let m = rank_later f files g h in grind (arith, nat_tests))) e in
    let c = count_no (has_rank all (suc k)) f files t ∙ s.1 in let o = i.once in
    record { found = ap (λ b. cond b (Some f) (find (has_rank all (suc k)) files)) t ∙ s.0 ∙ i.found; once = omega (arith, c, o) }

-- among files in order the k-th has k before it, and no other has
ranked : (files : List File) (k : ℕ) → ascends files ≡ true → Ranked files k
ranked [] k e = record { found = refl; once = omega arith }
ranked (f ∷ files) zero e = ranked_first f files (and_parts (list_all (λ (g : File). is_before f.name g.name) files) (ascends files) e).0
ranked (f ∷ files) (suc k) e =
    let two = and_parts (list_all (λ (g : File). is_before f.name g.name) files) (ascends files) e in
    ranked_later f files k two.0 (ranked files k two.1)

-- what one file alone passes is found in every order

-- a file that is found is found after one that isn't
find_after : (p : File → Bool) (f g : File) (files more : List File) → count_by p (f ∷ g ∷ files) ≤ 1 → (count_by p (f ∷ files) ≤ 1 → find p more ≡ find p (f ∷ files)) → find p (g ∷ more) ≡ find p (f ∷ g ∷ files)
find_after p f g files more h i = cases (p f) (p g) refl refl
  where
    cases : (a b : Bool) → p f ≡ a → p g ≡ b → find p (g ∷ more) ≡ find p (f ∷ g ∷ files)
    cases true true a b = let c = count_yes p f (g ∷ files) a in let d = count_yes p g files b in absurd (omega (arith, h, c, d))
    cases false true a b = ap (λ v. cond v (Some g) (find p more)) b ∙ sym (ap (λ v. cond v (Some f) (cond (p g) (Some g) (find p files))) a ∙ ap (λ v. cond v (Some g) (find p files)) b)
    cases x false a b =
        let c : count_by p (f ∷ g ∷ files) ≡ count_by p (f ∷ files) = count_same p f (g ∷ files) files (count_no p g files b) in
        ap (λ v. cond v (Some g) (find p more)) b ∙ i (omega (arith, h, c)) ∙ ap (λ o. cond (p f) (Some f) o) (sym (ap (λ v. cond v (Some g) (find p files)) b))

-- a file put in its place is found as at the front
find_with : (p : File → Bool) (f : File) (files : List File) → count_by p (f ∷ files) ≤ 1 → find p (with_file f files) ≡ find p (f ∷ files)
find_with p f [] h = refl
find_with p f (g ∷ files) h =
    either-way (is_before f.name g.name) (λ v. find p (cond v (f ∷ g ∷ files) (g ∷ with_file f files)) ≡ find p (f ∷ g ∷ files))
    (λ s. refl) (λ s. find_after p f g files (with_file f files) h (find_with p f files))

-- fewer files count no more
count_less : (p : File → Bool) (f : File) (files : List File) → count_by p (f ∷ files) ≤ 1 → count_by p files ≤ 1
count_less p f files h = let m = count_more p f files in omega (arith, m, h)

-- what one file alone passes is found among files in order
find_sorted : (p : File → Bool) (files : List File) → count_by p files ≤ 1 → find p (sorted files) ≡ find p files
find_sorted p [] h = refl
find_sorted p (f ∷ files) h =
    let s : count_by p (f ∷ sorted files) ≡ count_by p (f ∷ files) = count_same p f (sorted files) files (count_sorted p files) in
    find_with p f (sorted files) (omega (arith, h, s)) ∙ ap (λ o. cond (p f) (Some f) o) (find_sorted p files (count_less p f files h))

-- the k-th in the order of names is the one that exactly k names come before
pub sorted_at : (longest : ℕ) (files : List File) (k : ℕ) → names_right longest [] (names_of files) ≡ true → slice_get (sorted files) k ≡ find (has_rank files k) files
sorted_at longest files k e =
    let s = sorted files in
    let r = ranked s k (sorted_ascends longest [] files e) in
    let same : (f : File) → has_rank s k f ≡ has_rank files k f = λ f. ap (λ c. nat_eq c k) (count_sorted (λ (g : File). is_before g.name f.name) files) in
    let a = find_same (has_rank s k) (has_rank files k) (λ (f : File). true) s (λ f h. same f) (everything s) in
    let c = r.once in let d = a.1 in let n = count_sorted (has_rank files k) files in
    sym r.found ∙ a.0 ∙ find_sorted (has_rank files k) files (omega (arith, c, d, n))
  where
    everything : (files : List File) → list_all (λ (f : File). true) files ≡ true
    everything [] = refl
    everything (f ∷ files) = everything files
