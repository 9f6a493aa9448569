-- Who goes on with a call on a device, or to take a buffer, finds what it waited for.
use Rattle.std.proofs.Common.{◌≡◌, ◌<◌, ℕ, Bool, true, false, length, Option, Some, None, refl, subst, ap, arith, ℤ}
use Rattle.std.specs.Prelude.{IsSome}
use Rattle.xinu_base.specs.declared.processes.Rest.{Rest}
use Rattle.xinu_base.specs.declared.processes.Rest.TheVariants.{Disk, GetBuf}
use Rattle.xinu_model.specs.Console.Constants.{TY_OBUFLEN}
use Rattle.xinu_model.specs.Console.Taking.{console_of}
use Rattle.xinu_model.specs.Machine.{Xinu}
use Rattle.xinu_model.specs.Messages.{held}
use Rattle.xinu_model.specs.Pools.Buffers.{pool_at}
use Rattle.xinu_model.specs.Sound.Disks.{HasReply}
use Rattle.xinu_model.specs.Sound.Pools.{is_waiting}
use Rattle.xinu_model.specs.Sound.State.{IsSound}
use Rattle.xinu_model.specs.Sound.Tables.{asks_input, asks_output}
use Rattle.xinu_model.specs.Tables.{process_at, state_at}
use Rattle.xinu_laws.proofs.Consoles.Kept.{sound_holds, caller_within}
use Rattle.xinu_laws.proofs.Consoles.Promised.{promised_goes_on}
use Rattle.xinu_laws.proofs.Pools.Steps.{promised_goes_on as promised_buffer}

-- an item
pub item_found : (s : Xinu) → IsSound s → asks_input (process_at s.tables s.tables.current).rest ≡ true
    → 0 < length (console_of s).committed
item_found s k asked =
    let c = sound_holds s k in
    let f = promised_goes_on asks_input 0 (held s) s refl (caller_within s c) c.tables.runs asked in
    let items = k.devices.console.items in
    omega arith

-- room for a byte
pub room_found : (s : Xinu) → IsSound s → asks_output (process_at s.tables s.tables.current).rest ≡ true
    → length (console_of s).output < TY_OBUFLEN
room_found s k asked =
    let c = sound_holds s k in
    let f = promised_goes_on asks_output 1 (held s) s refl (caller_within s c) c.tables.runs asked in
    let room = k.devices.console.room in
    omega arith

-- its reply
reply_had : (reply : Option ℤ) → HasReply false (Disk reply) → IsSome reply
reply_had None e = absurd (cc)
reply_had (Some value) e = refl

pub reply_found : (reply : Option ℤ) (s : Xinu) → IsSound s → (process_at s.tables s.tables.current).rest ≡ Disk reply → IsSome reply
reply_found reply s k e =
    let t = s.tables in
    let h = k.devices.disk.replies t.current in
    let runs : is_waiting (state_at t t.current) ≡ false = ap is_waiting k.tables.runs in
    reply_had reply (subst (λ (left : Rest). HasReply false left) e (subst (λ (b : Bool). HasReply b (process_at t t.current).rest) runs h))

-- a free buffer
pub buffer_found : (i : ℕ) (s : Xinu) → IsSound s → (process_at s.tables s.tables.current).rest ≡ GetBuf i → 0 < length (pool_at s.parts.pools i).free
buffer_found i s k left =
    let t = s.tables in
    let c = sound_holds s k in
    let pool = k.pools.each i (k.pools.made t.current i left) in
    let f = promised_buffer i (pool_at s.parts.pools i).semaphore (held s) s (caller_within s c) c.tables.runs left in
    let enough = pool.enough in
    omega arith
