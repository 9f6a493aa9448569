-- How files lie on a disk that is built.
use Rattle.std.proofs.Common.{◌≡◌, ℕ, zero, suc, ◌+◌, ◌-◌, ◌<◌, ◌≤◌, true, false, cond, not, ◌&&◌, nat_lt, List, [], ◌∷◌, length, get_or, slice_index, refl, sym, ap, ◌∙◌, subst, arith, ⊎_elim}
use Rattle.std.proofs.Math.Bool.{and-true}
use Rattle.std.proofs.lemmas.Bool.{cases_lt}
use Rattle.std.proofs.lemmas.Bool.Decides.{nat_tests}
use Rattle.lfs_format.specs.declared.Entry.{Entry}
use Rattle.lfs_check.specs.declared.geometry.Geometry.{Geometry}
use Rattle.lfs_check.specs.Geometries.{index_count, first_data, IsGeometry}
use Rattle.lfs_check.specs.Rules.{entry_is_used}
use Rattle.lfs_format.specs.Directory.{void_entry}
use Rattle.lfs_check.specs.Meets.{null}
use Rattle.lfs_check.specs.Laid.{Shape, FileLies, IsChain, index_in, numbers_at, times_in}
use Rattle.lfs_check.specs.Clean.{LaidIn}
use Rattle.lfs_check.specs.Checks.{need_index, need_data}
use Rattle.lfs_check.specs.Empty.{upwards, next_upwards}
use Rattle.lfs_check.specs.Built.{index_need, data_need, runs, run_end, LieFrom, chain_head, IsBuilt, built_places}
use Rattle.lfs_check.proofs.Empties.{upwards-chain, upwards-times}

-- one list for each entry
length-runs : (need : Entry → ℕ) (a : ℕ) (es : List Entry) → length (runs need a es) ≡ length es
length-runs need a [] = refl
length-runs need a (e ∷ es) = (let i = length-runs need (a + need e) es in omega (arith, i))

-- a run ends no lower than it begins
run-up : (need : Entry → ℕ) (a : ℕ) (es : List Entry) → a ≤ run_end need a es
run-up need a [] = omega arith
run-up need a (e ∷ es) = (let i = run-up need (a + need e) es in omega (arith, i))

-- 1 if a number lies between two others, else 0
abbrev pub within : ℕ → ℕ → ℕ → ℕ
within low high n = cond (nat_lt n high && not (nat_lt n low)) 1 0

-- two ranges side by side
within-more : (a b c n : ℕ) → a ≤ b → b ≤ c → within a b n + within b c n ≡ within a c n
within-more a b c n p q = ⊎_elim
    (λ (lt : n < b). (let x : nat_lt n b ≡ true = grind (arith, nat_tests) in let y : nat_lt n c ≡ true = (let r : n < c = omega (arith, lt, q) in grind (arith, nat_tests)) in
    let z : within b c n ≡ 0 = rw (y, x) refl in let w : within a b n ≡ within a c n = ap (λ t. cond (t && not (nat_lt n a)) 1 0) (x ∙ sym y) in omega (arith, z, w)))
    (λ (ge : b ≤ n). (let x : nat_lt n b ≡ false = grind (arith, nat_tests) in let y : nat_lt n a ≡ false = (let r : a ≤ n = omega (arith, ge, p) in grind (arith, nat_tests)) in
    let z : within a b n ≡ 0 = rw x refl in let w : within b c n ≡ within a c n = ap (λ t. cond (nat_lt n c && not t) 1 0) (x ∙ sym y) in omega (arith, z, w)))
    (cases_lt n b)

-- the runs of entries meet each number between their ends once, and no other
times-runs : (need : Entry → ℕ) (a n : ℕ) (es : List Entry) → times_in n (runs need a es) ≡ within a (run_end need a es) n
times-runs need a n [] = (let u = upwards-times a 0 n in u ∙ ap (λ k. within a k n) (let q : a + 0 ≡ a = omega arith in q))
times-runs need a n (e ∷ es) =
    let i = times-runs need (a + need e) n es in
    let u = upwards-times a (need e) n in
    let m = within-more a (a + need e) (run_end need (a + need e) es) n (omega arith) (run-up need (a + need e) es) in
    omega (arith, i, u, m)

-- entries that lie one after another each lie as their runs say
lies-each : (d : Shape) (a b : ℕ) (es : List Entry) → LieFrom d a b es → (k : ℕ) → k < length es → entry_is_used (get_or es k void_entry) ≡ true
    → FileLies d (get_or es k void_entry) (numbers_at (runs index_need a es) k) (numbers_at (runs data_need b es) k)
lies-each d a b [] l k h u = absurd (omega (arith, h))
lies-each d a b (e ∷ es) l zero h u =
    let P : ℕ → Type 0 = λ n. FileLies d e (upwards a n) (upwards b (data_need e)) in
    let Q : ℕ → Type 0 = λ n. FileLies d e (upwards a (need_index e)) (upwards b n) in
    subst P (sym (ap (λ c. cond c (need_index e) 0) u)) (subst Q (sym (ap (λ c. cond c (need_data e) 0) u)) (l.0 u))
lies-each d a b (e ∷ es) l (suc k) h u = lies-each d (a + index_need e) (b + data_need e) es l.1 k (omega arith) u

-- an entry that needs nothing has an empty run
none-each : (need : Entry → ℕ) (a : ℕ) (es : List Entry) (k : ℕ) → k < length es → need (get_or es k void_entry) ≡ 0 → numbers_at (runs need a es) k ≡ []
none-each need a [] k h z = refl
none-each need a (e ∷ es) zero h z = ap (upwards a) z
none-each need a (e ∷ es) (suc k) h z = none-each need (a + need e) es k (omega arith) z

-- a free list that links upwards is a chain of its numbers
free-chain : (next : ℕ → ℕ) (low high head : ℕ) → low ≤ high → head ≡ chain_head low high → ((i : ℕ) → low ≤ i → i < high → next i ≡ next_upwards high i) → IsChain next head (upwards low (high - low))
free-chain next low high head le e all = ⊎_elim
    (λ (lt : low < high). (let t : nat_lt low high ≡ true = grind (arith, nat_tests) in
    let up : low + (high - low) ≡ high = omega (arith, le) in
    upwards-chain next low (high - low) head (omega (arith, lt)) (e ∙ ap (λ b. cond b low null) t)
    (λ j h. all (low + j) (omega arith) (omega (arith, h, up)) ∙ ap (λ n. next_upwards n (low + j)) (sym up))))
    (λ (ge : high ≤ low). (let t : nat_lt low high ≡ false = grind (arith, nat_tests) in
    let none : upwards low (high - low) ≡ [] = ap (upwards low) (let q : high - low ≡ 0 = omega (arith, ge) in q) in
    let P : List ℕ → Type 0 = λ xs. IsChain next head xs in
    let c : P [] = record { starts = e ∙ ap (λ b. cond b low null) t; goes_on = λ j h. absurd (omega (arith, h)) } in
    subst P (sym none) c))
    (cases_lt low high)

-- On such a disk files lie with nothing held.
pub built_lies : (g : Geometry) (d : Shape) → IsGeometry g → IsBuilt g d → LaidIn g d (built_places g d)
built_lies g d geo b =
    let es = d.entries in
    let A = run_end index_need 0 es in
    let B = run_end data_need (first_data g) es in
    let ra = b.index_room in let rb = b.data_room in
    record {
      chains = length-runs index_need 0 es;
      datas = length-runs data_need (first_data g) es;
      file = λ k h u. lies-each d 0 (first_data g) es b.files k h u;
      no_file = λ k h u. (none-each index_need 0 es k h (ap (λ c. cond c (need_index (get_or es k void_entry)) 0) u), none-each data_need (first_data g) es k h (ap (λ c. cond c (need_data (get_or es k void_entry)) 0) u));
      free_index = free-chain (λ i. (index_in d i).next) A (index_count g) d.header.free_index ra b.index_head b.nexts;
      free_data = free-chain (λ n. slice_index d.links n) B g.blocks d.header.free_data rb b.data_head b.links;
      one_index = λ i. (let t = times-runs index_need 0 i es in let u = upwards-times A (index_count g - A) i in let m = within-more 0 A (index_count g) i (omega arith) ra in
          let v : within A (A + (index_count g - A)) i ≡ within A (index_count g) i = ap (λ n. within A n i) (let q : A + (index_count g - A) ≡ index_count g = omega (arith, ra) in q) in
          let z : within 0 (index_count g) i ≡ cond (nat_lt i (index_count g)) 1 0 = (let f : nat_lt i 0 ≡ false = grind (arith, nat_tests) in ap (λ c. cond (nat_lt i (index_count g) && not c) 1 0) f ∙ ap (λ c. cond c 1 0) (and-true (nat_lt i (index_count g)))) in
          omega (arith, t, u, m, v, z));
      one_data = λ n. (let t = times-runs data_need (first_data g) n es in let u = upwards-times B (g.blocks - B) n in let m = within-more (first_data g) B g.blocks n (run-up data_need (first_data g) es) rb in
          let v : within B (B + (g.blocks - B)) n ≡ within B g.blocks n = ap (λ k. within B k n) (let q : B + (g.blocks - B) ≡ g.blocks = omega (arith, rb) in q) in
          omega (arith, t, u, m, v));
    }
