-- The insertion as two filters, and as one entry between two parts of a list.
use Rattle.std.proofs.Common.{◌≡◌, ◌≢◌, ℕ, Bool, true, false, cond, not, eqb, List, [], ◌∷◌, ◌++◌, refl, sym, ap, ◌∙◌, inl, inr, arith}
use Rattle.std.specs.List.{filter}
use Rattle.std.proofs.lemmas.List.{append-nil}
use Rattle.std.proofs.lemmas.List.Elements.{filter-append}
use Rattle.std.proofs.lemmas.Bool.{cases_Bool}
use Rattle.std.proofs.lemmas.Bool.Decides.{nat_tests}
use Rattle.xinu_base.specs.Insert.{insert}
use Rattle.queue_table.specs.Lists.{Entry, is_listed}

-- the test says b of each entry of the list
abbrev pub AllAre : (Entry → Bool) → Bool → List Entry → Type 0
AllAre test b [] = Unit {0}
AllAre test b (e ∷ l) = (test e ≡ b) × AllAre test b l

-- a filter keeps the first entry, if the test holds of it
pub filter-keeps : (test : Entry → Bool) (e : Entry) (l m : List Entry) → test e ≡ true → filter test l ≡ m → filter test (e ∷ l) ≡ e ∷ m
filter-keeps test e l m t h = ap (λ b. cond b (e ∷ filter test l) (filter test l)) t ∙ ap (λ l. e ∷ l) h

-- a filter drops the first entry, if the test fails of it
pub filter-drops : (test : Entry → Bool) (e : Entry) (l m : List Entry) → test e ≡ false → filter test l ≡ m → filter test (e ∷ l) ≡ m
filter-drops test e l m t h = ap (λ b. cond b (e ∷ filter test l) (filter test l)) t ∙ h

-- a filter keeps a list of which the test holds throughout
filter-all : (test : Entry → Bool) (l : List Entry) → AllAre test true l → filter test l ≡ l
filter-all test [] h = refl
filter-all test (e ∷ l) h = filter-keeps test e l l h.0 (filter-all test l h.1)

-- a filter drops a list of which the test fails throughout
filter-none : (test : Entry → Bool) (l : List Entry) → AllAre test false l → filter test l ≡ []
filter-none test [] h = refl
filter-none test (e ∷ l) h = filter-drops test e l [] h.0 (filter-none test l h.1)

-- the opposite test says the opposite of each entry
AllAre-not : (test : Entry → Bool) (b : Bool) (l : List Entry) → AllAre test b l → AllAre (λ e. not (test e)) (not b) l
AllAre-not test b [] h = tt
AllAre-not test b (e ∷ l) h = (ap not h.0, AllAre-not test b l h.1)

-- if a list falls into entries that go before the new one and entries that don't, the new one goes in between
pub insert-split : (test : Entry → Bool) (e : Entry) (pre post : List Entry) → AllAre test true pre → AllAre test false post → insert test e (pre ++ post) ≡ pre ++ e ∷ post
insert-split test e pre post a b =
    let other : Entry → Bool = λ x. not (test x) in
    let front : filter test (pre ++ post) ≡ pre =
    filter-append test pre post ∙ ap (λ l. l ++ filter test post) (filter-all test pre a) ∙ ap (λ l. pre ++ l) (filter-none test post b) ∙ append-nil pre in
    let rest : filter other (pre ++ post) ≡ post =
    filter-append other pre post ∙ ap (λ l. l ++ filter other post) (filter-none other pre (AllAre-not test true pre a)) ∙ filter-all other post (AllAre-not test false post b) in
    ap (λ l. l ++ e ∷ filter other (pre ++ post)) front ∙ ap (λ l. pre ++ e ∷ l) rest

-- of three tests of which one is to hold, any two may come first
or-assoc : (a b c : Bool) → cond a true (cond b true c) ≡ cond (cond a true b) true c
or-assoc true b c = refl
or-assoc false b c = refl

-- of three tests of which one is to hold, the first two may change places
pub or-swap : (a b c : Bool) → cond a true (cond b true c) ≡ cond b true (cond a true c)
or-swap true true c = refl
or-swap true false c = refl
or-swap false b c = refl

-- a process is in two lists put together if it is in one of them
pub is_listed-append : (x : ℕ) (l m : List Entry) → is_listed x (l ++ m) ≡ cond (is_listed x l) true (is_listed x m)
is_listed-append x [] m = refl
is_listed-append x (e ∷ l) m = let i : is_listed x (l ++ m) ≡ cond (is_listed x l) true (is_listed x m) = is_listed-append x l m in
    ap (λ b. cond (eqb x e.0) true b) i ∙ or-assoc (eqb x e.0) (is_listed x l) (is_listed x m)

-- the two filters of an insertion have together the processes of the list
in_parts : (test : Entry → Bool) (x : ℕ) (l : List Entry) → cond (is_listed x (filter test l)) true (is_listed x (filter (λ e. not (test e)) l)) ≡ is_listed x l
in_parts test x [] = refl
in_parts test x (e ∷ l) =
    let other : Entry → Bool = λ e. not (test e) in
    let i : cond (is_listed x (filter test l)) true (is_listed x (filter other l)) ≡ is_listed x l = in_parts test x l in
    elim (cases_Bool (test e)) [
      | inl t ↦ (
          let a : filter test (e ∷ l) ≡ e ∷ filter test l = filter-keeps test e l (filter test l) t refl in
          let b : filter other (e ∷ l) ≡ filter other l = filter-drops other e l (filter other l) (ap not t) refl in
          ap (λ m. cond (is_listed x m) true (is_listed x (filter other (e ∷ l)))) a ∙ ap (λ m. cond (is_listed x (e ∷ filter test l)) true (is_listed x m)) b
          ∙ sym (or-assoc (eqb x e.0) (is_listed x (filter test l)) (is_listed x (filter other l))) ∙ ap (λ b. cond (eqb x e.0) true b) i)
      | inr f ↦ (
          let a : filter test (e ∷ l) ≡ filter test l = filter-drops test e l (filter test l) f refl in
          let b : filter other (e ∷ l) ≡ e ∷ filter other l = filter-keeps other e l (filter other l) (ap not f) refl in
          ap (λ m. cond (is_listed x m) true (is_listed x (filter other (e ∷ l)))) a ∙ ap (λ m. cond (is_listed x (filter test l)) true (is_listed x m)) b
          ∙ or-swap (is_listed x (filter test l)) (eqb x e.0) (is_listed x (filter other l)) ∙ ap (λ b. cond (eqb x e.0) true b) i)
    ]

-- an insertion adds its entry and nothing else, wherever it goes in
pub is_listed-insert : (test : Entry → Bool) (e : Entry) (l : List Entry) (x : ℕ) → is_listed x (insert test e l) ≡ is_listed x (e ∷ l)
is_listed-insert test e l x =
    is_listed-append x (filter test l) (e ∷ filter (λ e. not (test e)) l)
    ∙ or-swap (is_listed x (filter test l)) (eqb x e.0) (is_listed x (filter (λ e. not (test e)) l))
    ∙ ap (λ b. cond (eqb x e.0) true b) (in_parts test x l)

-- an entry's own process is in a list that begins with it
pub is_listed-first : (e : Entry) (l : List Entry) → is_listed e.0 (e ∷ l) ≡ true
is_listed-first e l = grind (arith, nat_tests)

-- another process is in a list if it is in the rest
pub is_listed-rest : (x : ℕ) (e : Entry) (l : List Entry) → x ≢ e.0 → is_listed x (e ∷ l) ≡ is_listed x l
is_listed-rest x e l n = grind (arith, nat_tests)
