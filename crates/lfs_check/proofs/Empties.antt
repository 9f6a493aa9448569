-- How files lie on a disk with no file.
use Rattle.std.proofs.Common.{◌≡◌, ℕ, zero, suc, ◌+◌, ◌-◌, ◌<◌, ◌≤◌, true, false, cond, not, ◌&&◌, nat_lt, nat_eq, List, [], ◌∷◌, length, replicate, slice_index, slice_index_or, refl, sym, ap, ◌∙◌, arith, ⊎_elim}
use Rattle.std.proofs.Math.Bool.{and-true}
use Rattle.std.proofs.lemmas.Bool.{cases_lt, cases_eq, false≢true}
use Rattle.std.proofs.lemmas.Bool.Decides.{nat_tests}
use Rattle.lfs_check.specs.declared.geometry.Geometry.{Geometry}
use Rattle.lfs_check.specs.Geometries.{index_count, first_data, IsGeometry}
use Rattle.lfs_check.specs.Meets.{null, times_met}
use Rattle.lfs_check.specs.Laid.{Shape, IsChain, index_in, numbers_at, times_in}
use Rattle.lfs_check.specs.Clean.{LaidIn}
use Rattle.lfs_check.specs.Empty.{upwards, IsEmpty, next_upwards, empty_places}

-- as many numbers as are wanted
pub length-upwards : (low many : ℕ) → length (upwards low many) ≡ many
length-upwards low zero = refl
length-upwards low (suc many) = (let i = length-upwards (suc low) many in omega (arith, i))

-- number j upwards is j after the first
pub upwards-at : (low many j d : ℕ) → j < many → slice_index_or (upwards low many) j d ≡ low + j
upwards-at low zero j d h = absurd (omega (arith, h))
upwards-at low (suc many) zero d h = omega arith
upwards-at low (suc many) (suc j) d h = upwards-at (suc low) many j d (omega arith) ∙ (let q : suc low + j ≡ low + suc j = omega arith in q)

-- after each number upwards comes its next, and null after the last
upwards-next_upwards : (low many j : ℕ) → j < many → slice_index_or (upwards low many) (suc j) null ≡ next_upwards (low + many) (low + j)
upwards-next_upwards low many j h = ⊎_elim
    (λ lt. (let t : nat_lt (suc (low + j)) (low + many) ≡ true = (let q : suc (low + j) < low + many = omega (arith, lt) in grind (arith, nat_tests)) in
    upwards-at low many (suc j) null lt ∙ (let q : low + suc j ≡ suc (low + j) = omega arith in q) ∙ sym (ap (λ b. cond b (suc (low + j)) null) t)))
    (λ ge. (let t : nat_lt (suc (low + j)) (low + many) ≡ false = (let q : low + many ≤ suc (low + j) = omega (arith, ge) in grind (arith, nat_tests)) in
    past (upwards low many) (suc j) (omega (arith, ge, length-upwards low many)) ∙ sym (ap (λ b. cond b (suc (low + j)) null) t)))
    (cases_lt (suc j) many)
  where
    past : (xs : List ℕ) (n : ℕ) → length xs ≤ n → slice_index_or xs n null ≡ null
    past [] n h = refl
    past (x ∷ xs) zero h = absurd (omega (arith, h))
    past (x ∷ xs) (suc n) h = past xs n (omega arith)

-- numbers upwards are a chain if each links to the next
pub upwards-chain : (next : ℕ → ℕ) (low many head : ℕ) → 0 < many → head ≡ low → ((j : ℕ) → j < many → next (low + j) ≡ next_upwards (low + many) (low + j)) → IsChain next head (upwards low many)
upwards-chain next low many head some e all = record {
  starts = e ∙ (let q : low ≡ low + 0 = omega arith in q) ∙ sym (upwards-at low many 0 null some);
  goes_on = λ j h. (let l = length-upwards low many in let lt : j < many = omega (arith, h, l) in
      ap next (upwards-at low many j 0 lt) ∙ all j lt ∙ sym (upwards-next_upwards low many j lt));
}

-- numbers upwards meet each of their range once
pub upwards-times : (low many n : ℕ) → times_met n (upwards low many) ≡ cond (nat_lt n (low + many) && not (nat_lt n low)) 1 0
upwards-times low zero n = ⊎_elim
    (λ lt. (let a : nat_lt n (low + 0) ≡ true = (let q : n < low + 0 = omega (arith, lt) in grind (arith, nat_tests)) in let b : nat_lt n low ≡ true = grind (arith, nat_tests) in rw (a, b) refl))
    (λ ge. (let a : nat_lt n (low + 0) ≡ false = (let q : low + 0 ≤ n = omega (arith, ge) in grind (arith, nat_tests)) in rw a refl)) (cases_lt n low)
upwards-times low (suc many) n =
    let i = upwards-times (suc low) many n in
    let e : nat_lt n (suc low + many) ≡ nat_lt n (low + suc many) = ap (nat_lt n) (let q : suc low + many ≡ low + suc many = omega arith in q) in
    ⊎_elim
    (λ (same : n ≡ low). (let a : nat_eq low n ≡ true = grind (arith, nat_tests) in let b : nat_lt n (low + suc many) ≡ true = (let q : n < low + suc many = omega (arith, same) in grind (arith, nat_tests)) in
    let c : nat_lt n low ≡ false = (let q : low ≤ n = omega (arith, same) in grind (arith, nat_tests)) in let d : nat_lt n (suc low) ≡ true = (let q : n < suc low = omega (arith, same) in grind (arith, nat_tests)) in
    let z : times_met n (upwards (suc low) many) ≡ 0 = i ∙ rw (e, b, d) refl in
    let l : cond (nat_eq low n) 1 0 + times_met n (upwards (suc low) many) ≡ 1 = rw a (omega (arith, z)) in
    l ∙ (let r : ◌≡◌ {A = ℕ} 1 (cond (nat_lt n (low + suc many) && not (nat_lt n low)) 1 0) = rw (b, c) refl in r)))
    (λ other. (let a : nat_eq low n ≡ false = (let ne : low ≡ n → ⊥ = λ s. other (sym s) in grind (arith, nat_tests)) in
    let same : nat_lt n (suc low) ≡ nat_lt n low = ⊎_elim (λ lt. (let x : nat_lt n low ≡ true = grind (arith, nat_tests) in let y : nat_lt n (suc low) ≡ true = (let q : n < suc low = omega (arith, lt) in grind (arith, nat_tests)) in y ∙ sym x))
    (λ ge. (let x : nat_lt n low ≡ false = grind (arith, nat_tests) in let y : nat_lt n (suc low) ≡ false = (let q : suc low ≤ n = omega (arith, ge, other) in grind (arith, nat_tests)) in y ∙ sym x)) (cases_lt n low) in
    let l : cond (nat_eq low n) 1 0 + times_met n (upwards (suc low) many) ≡ times_met n (upwards (suc low) many) = rw a (omega arith) in
    l ∙ i ∙ ap (λ x. cond (x && not (nat_lt n (suc low))) 1 0) e ∙ ap (λ x. cond (nat_lt n (low + suc many) && not x) 1 0) same))
    (cases_eq n low)

-- empty lists have no number
no-lists : (n k : ℕ) → times_in n (replicate k []) ≡ 0
no-lists n zero = refl
no-lists n (suc k) = (let i = no-lists n k in omega (arith, i))

-- each of several empty lists is empty
no-list : (k e : ℕ) → numbers_at (replicate k []) e ≡ []
no-list zero e = refl
no-list (suc k) zero = refl
no-list (suc k) (suc e) = no-list k e

-- as many empty lists as are wanted
length-lists : (k : ℕ) → length (replicate {A = List ℕ} k []) ≡ k
length-lists zero = refl
length-lists (suc k) = (let i = length-lists k in omega (arith, i))

-- On a disk with no file all blocks are free.
pub empty_lies : (g : Geometry) (d : Shape) → IsGeometry g → IsEmpty g d → LaidIn g d (empty_places g d)
empty_lies g d geo e =
    let few = geo.few in let most = geo.many in let dirs = geo.dirs in
    let up : first_data g + (g.blocks - first_data g) ≡ g.blocks = omega arith in
    record {
      chains = length-lists (length d.entries);
      datas = length-lists (length d.entries);
      file = λ k h u. absurd (false≢true (sym (e.unused k h) ∙ u));
      no_file = λ k h u. (no-list (length d.entries) k, no-list (length d.entries) k);
      free_index = upwards-chain (λ i. (index_in d i).next) 0 (index_count g) d.header.free_index (omega arith) e.index_head (λ j h. e.nexts (0 + j) (omega arith) ∙ ap (λ n. next_upwards n (0 + j)) (let q : index_count g ≡ 0 + index_count g = omega arith in q));
      free_data = upwards-chain (λ b. slice_index d.links b) (first_data g) (g.blocks - first_data g) d.header.free_data (omega arith) e.data_head
          (λ j h. e.links (first_data g + j) (omega arith) (omega (arith, h, up)) ∙ ap (λ n. next_upwards n (first_data g + j)) (sym up));
      one_index = λ i. (let t = upwards-times 0 (index_count g) i in let z = no-lists i (length d.entries) in
          let q : ◌≡◌ {A = ℕ} (cond (nat_lt i (0 + index_count g) && not (nat_lt i 0)) 1 0) (cond (nat_lt i (index_count g)) 1 0) =
          (let f : nat_lt i 0 ≡ false = grind (arith, nat_tests) in ap (λ n. cond (nat_lt i n && not (nat_lt i 0)) 1 0) (let s : 0 + index_count g ≡ index_count g = omega arith in s) ∙ ap (λ b. cond (nat_lt i (index_count g) && not b) 1 0) f ∙ ap (λ b. cond b 1 0) (and-true (nat_lt i (index_count g)))) in
          omega (arith, t, z, q));
      one_data = λ b. (let t = upwards-times (first_data g) (g.blocks - first_data g) b in let z = no-lists b (length d.entries) in
          let q : ◌≡◌ {A = ℕ} (cond (nat_lt b (first_data g + (g.blocks - first_data g)) && not (nat_lt b (first_data g))) 1 0) (cond (nat_lt b g.blocks && not (nat_lt b (first_data g))) 1 0) =
          ap (λ n. cond (nat_lt b n && not (nat_lt b (first_data g))) 1 0) up in omega (arith, t, z, q));
    }
