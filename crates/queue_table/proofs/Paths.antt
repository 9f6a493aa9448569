-- Paths over entries: what is between two entries, that no process is there twice, and what is read off.
use Rattle.std.proofs.Common.{◌≡◌, ◌≢◌, ℕ, ◌+◌, ◌<◌, ◌≤◌, zero, suc, Bool, true, false, cond, ◌||◌, eqb, ltb, List, [], ◌∷◌, ◌++◌, length, map, get_or, refl, sym, ap, ◌∙◌, subst, inl, inr, ◌⊎◌, arith, zero-add}
use Rattle.std.proofs.lemmas.Bool.Decides.{nat_tests}
use mathlib.Core.List.{reverse, reverse_aux}
use Rattle.std.proofs.lemmas.List.{length-reverse}
use Rattle.std.specs.List.{IsDistinct, AllByRecursion, list_any, range_with_len}
use Rattle.std.proofs.lemmas.Map.Steps.{length-le_from_distinct_below}
use Rattle.queue_table.specs.declared.links.Links.{Links}
use Rattle.queue_table.specs.Lists.{Entry, is_listed, list_at}
use Rattle.queue_table.specs.Entries.{Chain, Chained, Path, Tied, follow, follow_back, head_of, key_at, last_from, lists_of, next_at, prev_at, tail_of}

-- two paths, the second from the end of the first, are one
pub Path-append : (P : ℕ) (es : List Links) (a : ℕ) (l m : List Entry) → Path P es a l → Path P es (last_from a l) m → Path P es a (l ++ m)
Path-append P es a [] m h k = k
Path-append P es a (e ∷ l) m h k = (h.0, h.1, h.2, Path-append P es e.0 l m h.3 k)

-- the first part of a path is a path
pub Path-front : (P : ℕ) (es : List Links) (a : ℕ) (l m : List Entry) → Path P es a (l ++ m) → Path P es a l
Path-front P es a [] m h = tt
Path-front P es a (e ∷ l) m h = (h.0, h.1, h.2, Path-front P es e.0 l m h.3)

-- the second part is a path from the end of the first
pub Path-rest : (P : ℕ) (es : List Links) (a : ℕ) (l m : List Entry) → Path P es a (l ++ m) → Path P es (last_from a l) m
Path-rest P es a [] m h = h
Path-rest P es a (e ∷ l) m h = Path-rest P es e.0 l m h.3

-- the last of two lists put together is the last of the second, or of the first if that is empty
pub last_from-append : (a : ℕ) (l m : List Entry) → last_from a (l ++ m) ≡ last_from (last_from a l) m
last_from-append a [] m = refl
last_from-append a (e ∷ l) m = last_from-append e.0 l m

-- back from entry n come the entries of r, the nearest first, and then h
abbrev pub Back : ℕ → List Links → ℕ → List Entry → ℕ → Type 0
Back P es h [] n = n ≡ h
Back P es h (e ∷ r) n = (n ≡ e.0) × (e.0 < P) × Back P es h r (prev_at es n) × (key_at es e.0 ≡ e.1)

-- one entry more, tied after those that are met going back
pub Back-more : (P : ℕ) (es : List Links) (h a : ℕ) (e : Entry) (r : List Entry) → Back P es h r a → Tied es a e.0 → key_at es e.0 ≡ e.1 → e.0 < P → Back P es h (e ∷ r) e.0
Back-more P es h a e r b t k lt =
    (refl, lt, (let F : ℕ → Type 0 = λ n. Back P es h r n in subst F (sym t.1) b), k)

-- back from the end of a path come its entries reversed, and then what was ahead of it
pub Back-path : (P : ℕ) (es : List Links) (h a : ℕ) (r l : List Entry) → Back P es h r a → Path P es a l → Back P es h (reverse_aux l r) (last_from a l)
Back-path P es h a r [] b p = b
Back-path P es h a r (e ∷ l) b p = Back-path P es h e.0 (e ∷ r) l (Back-more P es h a e r b p.0 p.1 p.2) p.3

-- the way back from an entry is one
pub Back-unique : (P : ℕ) (es : List Links) (h h' : ℕ) (r r' : List Entry) (n : ℕ) → P ≤ h → P ≤ h' → Back P es h r n → Back P es h' r' n → (h ≡ h') × (length r ≡ length r')
Back-unique P es h h' [] [] n le le' b b' = (sym b ∙ b', refl)
Back-unique P es h h' [] (e ∷ r') n le le' b b' = absurd (omega (arith, b, b'.0, b'.1))
Back-unique P es h h' (e ∷ r) [] n le le' b b' = absurd (omega (arith, b', b.0, b.1))
Back-unique P es h h' (e ∷ r) (e' ∷ r') n le le' b b' =
    let i : (h ≡ h') × (length r ≡ length r') = Back-unique P es h h' r r' (prev_at es n) le le' b.2 b'.2 in
    (i.0, omega (arith, i.1))

-- a process that is neither the first of a list nor in the rest isn't in it
pub is_listed-cons : (x : ℕ) (e : Entry) (l : List Entry) → x ≢ e.0 → is_listed x l ≡ false → is_listed x (e ∷ l) ≡ false
is_listed-cons x e l n h = grind (arith, nat_tests)

-- x, which is after the entries of r0, isn't met on a path at other places
pub never_met : (P : ℕ) (es : List Links) (h x : ℕ) (r0 : List Entry) → P ≤ h → Back P es h r0 x
    → (h' a : ℕ) (r l : List Entry) → P ≤ h' → Back P es h' r a → Path P es a l
    → ((j : ℕ) → length r < j → j ≤ length r + length l → h ≡ h' → j ≢ length r0)
    → is_listed x l ≡ false
never_met P es h x r0 le b h' a r [] le' b' p away = refl
never_met P es h x r0 le b h' a r (e ∷ l) le' b' p away =
    let b'' : Back P es h' (e ∷ r) e.0 = Back-more P es h' a e r b' p.0 p.1 p.2 in
    let differs : x ≢ e.0 = λ same. (let F : ℕ → Type 0 = λ n. Back P es h r0 n in
    let u : (h ≡ h') × (length r0 ≡ length (e ∷ r)) = Back-unique P es h h' r0 (e ∷ r) e.0 le le' (subst F same b) b'' in
    away (length (e ∷ r)) (omega arith) (omega arith) u.0 (sym u.1)) in
    is_listed-cons x e l differs (never_met P es h x r0 le b h' e.0 (e ∷ r) l le' b'' p.3 (λ j lo hi. away j (omega (arith, lo)) (omega (arith, hi))))

-- the processes of a list
abbrev pub procs : List Entry → List ℕ
procs l = map (λ e. e.0) l

-- a process that isn't in a list differs from each in it
pub AllByRecursion-from_is_in : (x : ℕ) (l : List Entry) → is_listed x l ≡ false → AllByRecursion (λ y. eqb x y ≡ false) (procs l)
AllByRecursion-from_is_in x [] h = tt
AllByRecursion-from_is_in x (e ∷ l) h = (grind (arith, nat_tests), AllByRecursion-from_is_in x l (grind (arith, nat_tests)))

-- a path from a head has no process twice
pub Path-distinct : (P : ℕ) (es : List Links) (h a : ℕ) (r l : List Entry) → P ≤ h → Back P es h r a → Path P es a l → IsDistinct eqb (procs l)
unfolding IsDistinct
Path-distinct P es h a r [] le b p = tt
Path-distinct P es h a r (e ∷ l) le b p =
    let b' : Back P es h (e ∷ r) e.0 = Back-more P es h a e r b p.0 p.1 p.2 in
    (AllByRecursion-from_is_in e.0 l (never_met P es h e.0 (e ∷ r) le b' h e.0 (e ∷ r) l le b' p.3 (λ j lo hi same at. omega (arith, lo, at))), Path-distinct P es h e.0 (e ∷ r) l le b' p.3)

-- a process that is in a list is its first, or in the rest
pub is_listed-cases : (x : ℕ) (e : Entry) (l : List Entry) → is_listed x (e ∷ l) ≡ true → (x ≡ e.0) ⊎ (is_listed x l ≡ true)
is_listed-cases x e l h = grind (arith, nat_tests)

-- the processes of a path are below P
pub Path-below : (P : ℕ) (es : List Links) (a : ℕ) (l : List Entry) → Path P es a l → (x : ℕ) → is_listed x l ≡ true → x < P
Path-below P es a [] p x h = absurd (cc)
Path-below P es a (e ∷ l) p x h =
    elim (is_listed-cases x e l h) [ inl s ↦ omega (arith, s, p.2) | inr i ↦ Path-below P es e.0 l p.3 x i ]

-- one of two tests holds, said by cases
or_cond : (a b : Bool) → (a || b) ≡ cond a true b
or_cond true b = refl
or_cond false b = refl

-- that some process of a list is q, said by a test over the list
pub list_any-is_listed : (q : ℕ) (l : List Entry) → list_any (eqb q) (procs l) ≡ is_listed q l
list_any-is_listed q [] = refl
list_any-is_listed q (e ∷ l) = or_cond (eqb q e.0) (list_any (eqb q) (procs l)) ∙ ap (λ b. cond (eqb q e.0) true b) (list_any-is_listed q l)

-- a list has as many processes as entries
pub length-procs : (l : List Entry) → length (procs l) ≡ length l
length-procs [] = refl
length-procs (e ∷ l) = ap suc (length-procs l)

-- a path from a head has at most P entries
pub Path-short : (P : ℕ) (es : List Links) (h : ℕ) (l : List Entry) → P ≤ h → Path P es h l → length l ≤ P
Path-short P es h l le p =
    let d : IsDistinct eqb (procs l) = Path-distinct P es h h [] l le refl p in
    let n : length (procs l) ≤ P = length-le_from_distinct_below (procs l) P d (λ q m. Path-below P es h l p q (sym (list_any-is_listed q l) ∙ m)) in
    omega (arith, length-procs l)

-- along a path to an entry that is no process its processes are read off
pub follow-path : (P : ℕ) (es : List Links) (a b fuel : ℕ) (l : List Entry) → length l ≤ fuel → Path P es a l → Tied es (last_from a l) b → P ≤ b → follow fuel P es (next_at es a) ≡ l
follow-path P es a b zero [] f p t le = refl
follow-path P es a b (suc fuel) [] f p t le = rw t.0 (grind (arith, nat_tests))
follow-path P es a b zero (e ∷ l) f p t le = absurd (omega arith)
follow-path P es a b (suc fuel) (e ∷ l) f p t le =
    let i : follow fuel P es (next_at es e.0) ≡ l = follow-path P es e.0 b fuel l (omega arith) p.3 t le in
    let below : ltb e.0 P ≡ true = grind (arith, nat_tests) in
    rw (p.0.0, below, p.1, i) refl

-- what is at a place of the lists that are read off
pub map-range : {X : Type 0} (f : ℕ → X) (d : X) (n a : ℕ) (xs : List X) → length xs ≡ n → ((i : ℕ) → i < n → f (a + i) ≡ get_or xs i d) → map f (range_with_len a n) ≡ xs
map-range f d zero a [] s h = refl
map-range f d zero a (x ∷ xs) s h = absurd (omega arith)
map-range f d (suc n) a [] s h = absurd (omega arith)
map-range f d (suc n) a (x ∷ xs) s h =
    let e : a ≡ a + 0 = omega arith in
    let first : f a ≡ x = ap f e ∙ h 0 (omega arith) in
    let rest : map f (range_with_len (a + 1) n) ≡ xs = map-range f d n (a + 1) xs (omega arith)
    (λ i lt. (let e' : a + 1 + i ≡ a + suc i = omega arith in ap f e' ∙ h (suc i) (omega arith))) in
    cc

-- a chain is what is read off
pub Chain-read : (P : ℕ) (es : List Links) (a : ℕ) (l : List Entry) (b : ℕ) → P ≤ a → P ≤ b → Chain P es a l b → follow P P es (next_at es a) ≡ l
Chain-read P es a l b le le' c = follow-path P es a b P l (Path-short P es a l le c.path) c.path c.tied le'

-- back from an entry the processes are read that are ahead of it, the nearest first
follow_back-reads : (P : ℕ) (es : List Links) (h fuel : ℕ) (r : List Entry) (n : ℕ) → length r ≤ fuel → P ≤ h → Back P es h r n → follow_back fuel P es n ≡ r
follow_back-reads P es h zero [] n f le b = refl
follow_back-reads P es h (suc fuel) [] n f le b = let above : ltb n P ≡ false = grind (arith, nat_tests) in rw above refl
follow_back-reads P es h zero (e ∷ r) n f le b = absurd (omega arith)
follow_back-reads P es h (suc fuel) (e ∷ r) n f le b =
    let B : ℕ → Type 0 = λ m. Back P es h r (prev_at es m) in
    let i : follow_back fuel P es (prev_at es e.0) ≡ r = follow_back-reads P es h fuel r (prev_at es e.0) (omega arith) le (subst B b.0 b.2) in
    let below : ltb e.0 P ≡ true = grind (arith, nat_tests) in
    rw (b.0, below, b.3, i) refl

-- back from the tail a chain is read reversed
pub Chain-read_back : (P : ℕ) (es : List Links) (a : ℕ) (l : List Entry) (b : ℕ) → P ≤ a → Chain P es a l b → follow_back P P es (prev_at es b) ≡ reverse l
Chain-read_back P es a l b le c =
    let short : length (reverse l) ≤ P = omega (arith, length-reverse l, Path-short P es a l le c.path) in
    let B : ℕ → Type 0 = λ n. Back P es a (reverse l) n in
    follow_back-reads P es a P (reverse l) (prev_at es b) short le (subst B (sym c.tied.1) (Back-path P es a a [] l refl c.path))

-- the lists of linked entries are those that are read off
pub Chained-read : (P Q : ℕ) (es : List Links) (ls : List (List Entry)) → Chained P Q es ls → lists_of P Q es ≡ ls
unfolding lists_of
Chained-read P Q es ls k = map-range (λ q. follow P P es (next_at es (head_of P q))) [] Q 0 ls k.queues
    (λ i lt. rw zero-add (Chain-read P es (head_of P i) (list_at ls i) (tail_of P i) (omega arith) (omega arith) (k.chains i lt)))
