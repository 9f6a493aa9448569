-- Sound pools: the free buffers of each are its own, and each can be signalled.
use Rattle.std.proofs.Common.{ℕ, ◌<◌, ◌≤◌, List, length, subst, sym, ⊎_elim}
use Rattle.std.proofs.Math.ListN.{get_or-eq_default}
use Rattle.std.proofs.lemmas.Bool.{cases_lt}
use Rattle.reference_ports.specs.FreeBuffers.{HasOwnFree}
use Rattle.xinu_model.specs.Pools.Buffers.{BufferPool, no_pool, pool_at}
use Rattle.xinu_model.specs.Sound.Pools.{ArePools}
use Rattle.xinu_model.specs.Tables.{Tables}

-- what isn't there reads as no pool, which has no buffers
pub own_free : (t : Tables) (pools : List BufferPool) (i : ℕ) → ArePools t pools → HasOwnFree (pool_at pools i)
own_free t pools i a = ⊎_elim
    (λ (l : i < length pools). record { own = (a.each i l).buffers })
    (λ (l : length pools ≤ i). subst HasOwnFree (sym (get_or-eq_default pools no_pool l)) (record { own = tt }))
    (cases_lt i (length pools))
