-- There is a buffer for whoever was released to take one.
use Rattle.std.proofs.Common.{◌≡◌, ◌∙◌, ℕ, ◌<◌, ◌-◌, Bool, true, false, cond, nat_lt, length, Some, None, ap, arith}
use Rattle.xinu_base.specs.declared.processes.Rest.TheVariants.{GetBuf}
use Rattle.xinu_laws.proofs.Pools.Steps.{promised_goes_on}
use Rattle.table_laws.proofs.Preserve.{current_within}
use Rattle.xinu_model.specs.Machine.{refused, Xinu}
use Rattle.xinu_model.specs.Messages.{held}
use Rattle.xinu_model.specs.Pools.Buffers.{pool_at}
use Rattle.xinu_model.specs.Pools.Calls.{getbuf, take_buffer}
use Rattle.xinu_model.specs.Semaphores.Counts.{with_tokens}
use Rattle.xinu_model.specs.Semaphores.Waiting.{await}
use Rattle.xinu_model.specs.Sound.Pools.{ArePools}
use Rattle.xinu_model.specs.Sound.Tables.{IsSoundTables}
use Rattle.xinu_model.specs.Tables.{process_at, semaphore_at, Tables}
use Rattle.core_calls.proofs.PortCalls.{token_taken}

-- The current process is to take a buffer of pool i: one is free.
pub buffer_is_free : (s : Xinu) (i : ℕ) → IsSoundTables s.tables → ArePools s.tables s.parts.pools
    → (process_at s.tables s.tables.current).rest ≡ GetBuf i → 0 < length (pool_at s.parts.pools i).free
buffer_is_free s i o k left =
    let t = s.tables in
    let pool = pool_at s.parts.pools i in
    let within = current_within t o in
    let many = o.inside.processes in
    let one = promised_goes_on i pool.semaphore (held s) s (omega (arith, within, many)) o.runs left in
    let enough = (k.each i (k.made t.current i left)).enough in
    omega (arith, one, enough)

-- the pool that a word names
pub pool_named : (i word : ℕ) → Some i ≡ cond (nat_lt word 20) (Some word) None → i ≡ word
pool_named i word h = by_test (nat_lt word 20) h
  where
    by_test : (b : Bool) → Some i ≡ cond b (Some word) None → i ≡ word
    by_test true h = cc
    by_test false h = absurd (cc)

-- If the pool has a token the caller takes it, and a buffer.
pub buffer_taken : (s : Xinu) (i word sem : ℕ) (u : Tables) → i ≡ word
    → Some sem ≡ cond (nat_lt i (length s.parts.pools)) (Some (pool_at s.parts.pools i).semaphore) None
    → true ≡ nat_lt 0 (semaphore_at s.tables sem).tokens → u ≡ with_tokens sem ((semaphore_at s.tables sem).tokens - 1) s.tables
    → take_buffer i (record s { tables = u }) ≡ getbuf word s
buffer_taken s i word sem u named made some is =
    ap (λ u. take_buffer i (record s { tables = u })) is
    ∙ token_taken (semaphore_at s.tables sem).tokens sem (GetBuf i) (take_buffer i) s some
    ∙ by_made (nat_lt i (length s.parts.pools)) made
    ∙ ap (λ w. getbuf w s) named
  where
    by_made : (b : Bool) → Some sem ≡ cond b (Some (pool_at s.parts.pools i).semaphore) None
        → await sem (GetBuf i) (take_buffer i) s
        ≡ cond b (await (pool_at s.parts.pools i).semaphore (GetBuf i) (take_buffer i) s) (refused s)
    by_made true h = let e : sem ≡ (pool_at s.parts.pools i).semaphore = cc in ap (λ x. await x (GetBuf i) (take_buffer i) s) e
    by_made false h = absurd (cc)
