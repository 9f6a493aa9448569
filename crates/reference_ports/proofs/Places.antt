-- Buffers are in RAM, and the addresses of a pool's are listed one by one.
use Rattle.std.proofs.Common.{◌≡◌, ℕ, suc, ◌+◌, ◌*◌, ◌<◌, ◌≤◌, true, List, [], ◌∷◌, ◌++◌, ◌-◌, append_assoc, length, get_or, subst, sym, ap, ◌∙◌, arith}
use Rattle.std.specs.List.{AllByRecursion}
use Rattle.std.proofs.lemmas.Nat.{mul-le}
use Rattle.xinu_model.specs.Pools.Buffers.{BufferPool, addresses, buffers, is_in}
use Rattle.table_laws.proofs.Places.{at_in}

-- A buffer of a pool in RAM is in RAM.
pub buffer_within : (a : ℕ) (pool : BufferPool) → pool.base + pool.number * (pool.size + 4) ≤ 1048576 → is_in a (buffers pool) ≡ true
    → a ≤ 1048576
buffer_within a pool within h =
    let r = at_in a (pool.base + 4) (pool.size + 4) pool.number h in
    let few = r.1 in
    let e = r.2 in
    let m = mul-le (suc r.0) (pool.size + 4) pool.number (pool.size + 4) (omega arith) (omega arith) in
    omega arith

-- So is the first of its free buffers, which are its own.
pub first_within : (a : ℕ) (pool : BufferPool) → pool.base + pool.number * (pool.size + 4) ≤ 1048576
    → AllByRecursion (λ b. is_in b (buffers pool) ≡ true) pool.free → 0 < length pool.free → a ≡ get_or pool.free 0 a → a ≤ 1048576
first_within a pool within own some is = go pool.free own some is
  where
    go : (l : List ℕ) → AllByRecursion (λ b. is_in b (buffers pool) ≡ true) l → 0 < length l → a ≡ get_or l 0 a → a ≤ 1048576
    go [] own some is = absurd (omega (arith, some))
    go (b ∷ l) own some is = buffer_within a pool within (subst (λ x. is_in x (buffers pool) ≡ true) (sym is) own.0)

-- one address further is so many steps after the first
pub next_step : (first step i next : ℕ) → next ≡ first + i * step → next + step ≡ first + (i + 1) * step
next_step first step i next is =
    let e : suc i ≡ i + 1 = omega arith in
    let m : suc i * step ≡ (i + 1) * step = ap (λ k. k * step) e in
    omega (arith, is, m)

-- an address goes after those that are in
pub one_more_in : (list : List ℕ) (next step n i : ℕ) → i < n
    → (list ++ next ∷ []) ++ addresses (next + step) step (n - (i + 1)) ≡ list ++ addresses next step (n - i)
one_more_in list next step n i lt =
    let left : suc (n - (i + 1)) ≡ n - i = omega (arith, lt) in
    append_assoc list (next ∷ []) (addresses (next + step) step (n - (i + 1))) ∙ ap (λ k. list ++ addresses next step k) left
