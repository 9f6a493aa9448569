-- Reading and writing one of the pools that are made.
use Rattle.std.proofs.Common.{◌≡◌, ℕ, ◌<◌, ◌≤◌, true, List, Some, length, take, drop, set, get_or, refl, sym, ap, ◌∙◌, ⊎_elim, arith, drop-cons}
use Rattle.std.proofs.Math.ListN.{get_or-eq_default}
use Rattle.std.proofs.Math.Seq.{take-set-lt}
use Rattle.std.proofs.lemmas.Bool.{cases_lt}
use Rattle.std.proofs.lemmas.List.{get_or-take, get_or_default, length-take}
use Rattle.xinu_model.specs.Pools.Buffers.{BufferPool, holder_from, is_held, no_pool, pool_at}

-- a pool that is made, read among all entries
pub made_at : (n i : ℕ) (pools : List BufferPool) (pool : BufferPool) → i < n → i < length pools → pool ≡ get_or pools i pool
    → pool ≡ pool_at (take n pools) i
made_at n i pools pool h within e = e ∙ get_or_default pools i pool no_pool within ∙ sym (get_or-take n pools i no_pool h)

-- one of the pools that are made changes
pub set_made : (n i j : ℕ) (pools made : List BufferPool) (old new : BufferPool) (change : BufferPool → BufferPool)
    → take n pools ≡ made → i < length made → j ≡ i → old ≡ get_or pools j old → new ≡ change old
    → take n (set pools j new) ≡ set made i (change (pool_at made i))
set_made n i j pools made old new change view h same was is =
    let len = ap length view in
    let least = length-take n pools in
    take-set-lt n pools j new (omega arith)
    ∙ ap (set (take n pools) j) (is ∙ ap change (made_at n j pools old (omega arith) (omega arith) was))
    ∙ ap (λ k. set (take n pools) k (change (pool_at (take n pools) k))) same
    ∙ ap (λ l. set l i (change (pool_at l i))) view

-- a pool with a free buffer is made
pub has_free_made : (i : ℕ) (pools : List BufferPool) → 0 < length (pool_at pools i).free → i < length pools
has_free_made i pools h = ⊎_elim (λ (l : i < length pools). l)
    (λ (l : length pools ≤ i). let none = ap (λ (x : BufferPool). length x.free) (get_or-eq_default pools no_pool l) in
    absurd (omega arith))
    (cases_lt i (length pools))

-- the first pool that is left to be looked at has the buffer
pub holder_here : (a k : ℕ) (pools : List BufferPool) → k < length pools → is_held a (pool_at pools k) ≡ true
    → holder_from a k (drop k pools) ≡ Some k
holder_here a k pools h e = rw (drop-cons pools k no_pool h) (rw e refl)
