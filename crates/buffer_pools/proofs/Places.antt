-- Where the buffers of a pool are in RAM: each after a word of its own.
use Rattle.std.proofs.Common.{◌≡◌, ℕ, suc, ◌+◌, ◌-◌, ◌*◌, ◌/◌, ◌%◌, ◌≤◌, ◌==◌, true, List, ap, ◌∙◌, arith}
use Rattle.std.proofs.Math.Nat.{mul-mod_right, mul_left_comm, div-add-mod}
use Rattle.std.proofs.lemmas.Bool.{and_from, eq-eqb, le-leb}
use Rattle.std.proofs.Math.Dec.{leb}
use Rattle.std.proofs.lemmas.Nat.{mul-le}
use Rattle.xinu_model.specs.Memory.{may_access}
use Rattle.xinu_model.specs.Pools.Buffers.{BufferPool, buffers, is_in}
use Rattle.table_laws.proofs.Places.{at_in}
use Rattle.buffer_pools.specs.Buffers.{IsPlaced}

-- where a pool is doesn't depend on which of its buffers are free
pub placed_with : (pool : BufferPool) (free : List ℕ) → IsPlaced pool → IsPlaced (record pool { free = free })
placed_with pool free p = record {
  size = p.size;
  number = p.number;
  in_ram = p.in_ram;
  base_aligned = p.base_aligned;
  size_aligned = p.size_aligned;
}

-- the word before a buffer is in RAM, at a multiple of 4
module _ (pool : BufferPool) (placed : IsPlaced pool) where
  -- a multiple of 4 plus steps of multiples of 4 is one
  steps_aligned : (base size k : ℕ) → base % 4 ≡ 0 → size % 4 ≡ 0 → (base + k * (size + 4)) % 4 ≡ 0
  steps_aligned base size k b s =
      let d = div-add-mod base 4 in
      let e = div-add-mod size 4 in
      let f : size + 4 ≡ 4 * (size / 4 + 1) = omega arith in
      let g : k * (size + 4) ≡ 4 * (k * (size / 4 + 1)) = ap (λ y. k * y) f ∙ mul_left_comm k 4 (size / 4 + 1) in
      let h : base + k * (size + 4) ≡ 4 * (base / 4 + k * (size / 4 + 1)) = omega arith in
      ap (λ y. y % 4) h ∙ mul-mod_right 4 (base / 4 + k * (size / 4 + 1))

  -- a buffer is after a word
  pub after_word : (a : ℕ) → is_in a (buffers pool) ≡ true → 4 ≤ a
  after_word a h = let r = at_in a (pool.base + 4) (pool.size + 4) pool.number h in let e = r.2 in omega arith

  -- that can be written
  pub word_before : (a : ℕ) → is_in a (buffers pool) ≡ true → may_access (a - 4) 4 ≡ true
  word_before a h =
      let r = at_in a (pool.base + 4) (pool.size + 4) pool.number h in
      let few = r.1 in
      let e = r.2 in
      let at : a - 4 ≡ pool.base + r.0 * (pool.size + 4) = omega arith in
      let m = mul-le (suc r.0) (pool.size + 4) pool.number (pool.size + 4) (omega arith) (omega arith) in
      let within = placed.in_ram in
      and_from ((a - 4) % 4 == 0) (leb (a - 4 + 4) 1048576)
      (eq-eqb ((a - 4) % 4) 0 (ap (λ y. y % 4) at ∙ steps_aligned pool.base pool.size r.0 placed.base_aligned placed.size_aligned))
      (le-leb (a - 4 + 4) 1048576 (omega arith))
