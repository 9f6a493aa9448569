-- Each block of the entries that are kept is in them once.
use Rattle.std.proofs.Common.{◌≡◌, ℕ, ◌+◌, ◌≤◌, Bool, true, false, cond, nat_eq, List, [], ◌∷◌, ◌++◌, refl, sym, ap, ◌∙◌, arith, ⊎_elim}
use Rattle.std.specs.List.{flat_map}
use Rattle.std.proofs.lemmas.Bool.{cases_lt, and_parts}
use Rattle.std.proofs.lemmas.Bool.Decides.{nat_tests}
use Rattle.lfs_format.specs.declared.Entry.{Entry}
use Rattle.lfs_format.specs.declared.Index.{Index}
use Rattle.lfs_check.specs.declared.geometry.Geometry.{Geometry}
use Rattle.lfs_check.specs.Meets.{times_met}
use Rattle.lfs_check.specs.Clean.{chain_in, data_in}
use Rattle.lfs_check.specs.Kept.{is_whole, is_kept, kept_from, stand_once, whole_chains, whole_datas}
use Rattle.lfs_check.proofs.Steps.{times-append}

-- a number of a list whose numbers stand once in another is there once
stand-at : (xs all : List ℕ) (n : ℕ) → stand_once xs all ≡ true → 1 ≤ times_met n xs → times_met n all ≡ 1
stand-at [] all n s h = absurd (omega (arith, h))
stand-at (x ∷ xs) all n s h =
    let both = and_parts (nat_eq (times_met x all) 1) (stand_once xs all) s in
    let P : Bool → Type 0 = λ b. nat_eq x n ≡ b → 1 ≤ cond b 1 0 + times_met n xs → times_met n all ≡ 1 in
    let yes : P true = λ t k. (let same : x ≡ n = grind (arith, nat_tests) in let one : times_met x all ≡ 1 = (let t = both.0 in grind (arith, nat_tests)) in ap (λ m. times_met m all) (sym same) ∙ one) in
    let no : P false = λ t k. stand-at xs all n both.1 (omega (arith, k)) in
    let split : (b : Bool) → P b = λ b. elim b as (λ b. P b) [ true ↦ yes | false ↦ no ] in
    split (nat_eq x n) refl h

-- the blocks of the whole entries among some
abbrev whole_part : Geometry → List Index → (Entry → List ℕ) → List Entry → List ℕ
whole_part g ix f es = flat_map (λ e. cond (is_whole g ix e) (f e) []) es

-- if the numbers of kept entries are once in a list, no number is twice in those of kept entries
kept-once : (g : Geometry) (ix : List Index) (f : Entry → List ℕ) (all : List ℕ) (es before rest : List Entry) (n : ℕ)
    → ((before : List Entry) (e : Entry) → is_kept g ix es before e ≡ true → (is_whole g ix e ≡ true) × (stand_once (f e) all ≡ true))
    → (times_met n (flat_map f (kept_from g ix es before rest)) ≤ times_met n (whole_part g ix f rest)) × (1 ≤ times_met n (flat_map f (kept_from g ix es before rest)) → times_met n all ≡ 1)
kept-once g ix f all es before [] n keeps = (omega arith, λ h. absurd (omega (arith, h)))
kept-once g ix f all es before (e ∷ rest) n keeps =
    let i = kept-once g ix f all es (before ++ e ∷ []) rest n keeps in
    let K = kept_from g ix es (before ++ e ∷ []) rest in
    let w = times-append n (cond (is_whole g ix e) (f e) []) (whole_part g ix f rest) in
    let P : Bool → Type 0 = λ b. is_kept g ix es before e ≡ b →
    (times_met n (flat_map f (cond b (e ∷ K) K)) ≤ times_met n (whole_part g ix f (e ∷ rest))) × (1 ≤ times_met n (flat_map f (cond b (e ∷ K) K)) → times_met n all ≡ 1) in
    let yes : P true = λ k. (let p = keeps before e k in let t = times-append n (f e) (flat_map f K) in
    let mine : times_met n (cond (is_whole g ix e) (f e) []) ≡ times_met n (f e) = ap (λ c. times_met n (cond c (f e) [])) p.0 in
    (omega (arith, w, t, mine, i.0), λ h. ⊎_elim (λ lt. i.1 (omega (arith, h, t, lt))) (λ ge. stand-at (f e) all n p.1 ge) (cases_lt (times_met n (f e)) 1))) in
    let no : P false = λ k. (omega (arith, w, i.0), i.1) in
    let split : (b : Bool) → P b = λ b. elim b as (λ b. P b) [ true ↦ yes | false ↦ no ] in
    split (is_kept g ix es before e) refl

-- a kept entry is whole, and its blocks stand once among those of the whole entries
kept-facts : (g : Geometry) (ix : List Index) (es before : List Entry) (e : Entry) → is_kept g ix es before e ≡ true
    → (is_whole g ix e ≡ true) × ((stand_once (chain_in g ix e) (whole_chains g ix es) ≡ true) × (stand_once (data_in g ix e) (whole_datas g ix es) ≡ true))
kept-facts g ix es before e k =
    let d = and_parts _ _ k in let c = and_parts _ _ d.0 in let h = and_parts _ _ c.0 in (h.0, (c.1, d.1))

-- No block is in the chains of two kept entries, nor twice in one.
pub kept_apart : (g : Geometry) (ix : List Index) (es : List Entry) (n : ℕ)
    → (times_met n (flat_map (chain_in g ix) (kept_from g ix es [] es)) ≤ 1) × (times_met n (flat_map (data_in g ix) (kept_from g ix es [] es)) ≤ 1)
kept_apart g ix es n =
    let c = kept-once g ix (chain_in g ix) (whole_chains g ix es) es [] es n (λ b e k. (let f = kept-facts g ix es b e k in (f.0, f.1.0))) in
    let d = kept-once g ix (data_in g ix) (whole_datas g ix es) es [] es n (λ b e k. (let f = kept-facts g ix es b e k in (f.0, f.1.1))) in
    (most _ _ c.0 c.1, most _ _ d.0 d.1)
  where
    most : (a b : ℕ) → a ≤ b → (1 ≤ a → b ≡ 1) → a ≤ 1
    most a b le one = ⊎_elim (λ lt. omega (arith, lt)) (λ ge. (let e = one ge in omega (arith, e, le))) (cases_lt a 1)
