-- What a search for the pool of a held buffer finds.
use Rattle.std.proofs.Common.{◌≡◌, ℕ, suc, ◌+◌, ◌<◌, true, List, [], ◌∷◌, length, Option, None, Some, refl, subst, arith}
use Rattle.std.proofs.lemmas.Bool.{cond_both}
use Rattle.xinu_model.specs.Machine.{CallState}
use Rattle.xinu_model.specs.Pools.Calls.{put_back, given_to, freed_buffer}
use Rattle.xinu_model.specs.Pools.Buffers.{BufferPool, pool_at, is_held, holder_from, holder}

-- A buffer at a is held, and is one of pool i.
pub record IsHolder (a i : ℕ) (pools : List BufferPool) : Type 0 where
  pub within : i < length pools
  pub held : is_held a (pool_at pools i) ≡ true

-- what a search among pools that are numbered from i on finds
holder_from_finds : (a i k : ℕ) (pools : List BufferPool) → holder_from a i pools ≡ Some k → (m : ℕ) × (k ≡ i + m) × IsHolder a m pools
holder_from_finds a i k [] e = cc
holder_from_finds a i k (pool ∷ pools) e =
    cond_both (is_held a pool) (Some i) (holder_from a (i + 1) pools)
    (λ o. o ≡ Some k → (m : ℕ) × (k ≡ i + m) × IsHolder a m (pool ∷ pools))
    (λ b f. let g : i ≡ k = cc in (0, omega arith, record { within = omega arith; held = b }))
    (λ _ f. let r = holder_from_finds a (i + 1) k pools f in (suc r.0, (let g = r.1 in omega arith), record { within = (let g = r.2.within in omega arith); held = r.2.held })) e

-- The pool that is found has the buffer.
pub holder_finds : (a i : ℕ) (pools : List BufferPool) → holder a pools ≡ Some i → IsHolder a i pools
holder_finds a i pools e = let r = holder_from_finds a 0 i pools e in subst (λ n. IsHolder a n pools) (let f = r.1 in omega arith) r.2

-- What holds if nothing is given back, and if a held buffer is put back, holds of what is given back to the pool that has it.
pub by_holder : (P : CallState → Type 0) (a : ℕ) (d : CallState) → P d → ((i : ℕ) → IsHolder a i d.state.parts.pools → P (put_back a i d))
    → P (freed_buffer a d)
by_holder P a d none some = given (holder a d.state.parts.pools) refl
  where
    given : (found : Option ℕ) → holder a d.state.parts.pools ≡ found → P (given_to found a d)
    given None e = none
    given (Some i) e = some i (holder_finds a i d.state.parts.pools e)
