-- What a caller of the raw disk answers: -1 if it may not ask, and else the reply of the completion that serves its request.
use Rattle.std.proofs.Common.{◌≡◌, ℕ, ◌<◌, Bool, true, false, cond, ◌∷◌, ◌++◌, length, Some, None, sym, ap, subst, ◌∙◌, ℤ}
use Rattle.xinu_base.specs.declared.processes.Process.{Process}
use Rattle.xinu_base.specs.declared.processes.Rest.TheVariants.{Disk}
use Rattle.xinu_base.specs.declared.processes.State.TheVariants.{Ready}
use Rattle.xinu_model.specs.Files.Work.{copied}
use Rattle.xinu_model.specs.Machine.{Xinu, CallState, Waits, start, refused}
use Rattle.xinu_model.specs.Memory.{bytes_from}
use Rattle.xinu_model.specs.RawDisk.Callers.{living}
use Rattle.xinu_model.specs.RawDisk.Calls.{disk_of, with_disk, awaits_disk, may_request, disk_read, disk_write, keep_reply, reply_kept, after_served}
use Rattle.xinu_model.specs.RawDisk.Completions.{Served, raw_completed}
use Rattle.xinu_model.specs.RawDisk.Constants.{RD_BLKSIZ}
use Rattle.xinu_model.specs.RawDisk.Requests.{requesters}
use Rattle.xinu_model.specs.Sound.State.{IsSound}
use Rattle.xinu_model.specs.Sound.Tables.{count_in}
use Rattle.xinu_model.specs.Tables.{process_at, state_at, message_at, semaphore_at, InReady}
use Rattle.table_laws.proofs.Lists.Counts.{first_is_counted}
use Rattle.part_laws.proofs.RawDisks.Served.{serves_first}
use Rattle.table_laws.proofs.Tables.MoveTo.{process_move_same, within_table}
use Rattle.table_laws.proofs.Tables.Unblock.{waiter_waits}

-- who may not ask is refused,
pub asks_in_vain : (at block : ℕ) (s : Xinu) → may_request at block s ≡ false
    → (disk_read at block s ≡ refused s) × (disk_write at block s ≡ refused s)
asks_in_vain at block s e = (
  ap (λ b. cond b (awaits_disk None at block s) (refused s)) e,
  ap (λ b. cond b (awaits_disk (Some (bytes_from s.memory at RD_BLKSIZ)) at block s) (refused s)) e,
)

-- and who may waits.
pub asker_waits : (at block : ℕ) (s : Xinu) → may_request at block s ≡ true
    → ((disk_read at block s).answer ≡ Waits) × ((disk_write at block s).answer ≡ Waits)
asker_waits at block s e = (
  ap (λ b. (cond b (awaits_disk None at block s) (refused s)).answer) e,
  ap (λ b. (cond b (awaits_disk (Some (bytes_from s.memory at RD_BLKSIZ)) at block s) (refused s)).answer) e,
)

-- p is ready, and has a reply
abbrev HasBeenTold : ℕ → ℤ → CallState → Type 0
HasBeenTold p reply d = (state_at d.state.tables p ≡ Ready) × ((process_at d.state.tables p).rest ≡ Disk (Some reply))

reply_is_kept : (p : ℕ) (reply : ℤ) (s : Xinu) → length s.tables.processes ≡ 64 → p < 64
    → HasBeenTold p reply (keep_reply p reply (start s))
reply_is_kept p reply s many w =
    let t = s.tables in
    let x : Process = record (process_at t p) { state = Ready; rest = Disk (Some reply) } in
    let e = process_move_same t p x (message_at t p) InReady many w in
    (ap (λ (y : Process). y.state) e, ap (λ (y : Process). y.rest) e)

-- A completion makes the caller of the request that it serves ready, and its reply is the caller's.
pub caller_is_told : (good : Bool) (x : Served) (p : ℕ) (s : Xinu) → IsSound s → raw_completed good (disk_of s) ≡ Some x
    → x.request.caller ≡ Some p → HasBeenTold p x.reply (after_served x s)
caller_is_told good x p s k e some =
    let t = s.tables in
    let o = k.tables.inside in
    let l = requesters x.disk.requests in
    let v = record (with_disk x.disk s) { memory = copied x.request.caller x.request.at x.bytes s.memory } in
    let waiters : (semaphore_at t 2).waiters ≡ p ∷ l =
    k.devices.disk.waiters ∙ ap requesters (serves_first good (disk_of s) x e).first ∙ ap (λ caller. living caller ++ l) some in
    let waits = waiter_waits t 2 p o (subst (λ ws. 0 < count_in p ws) (sym waiters) (first_is_counted p l)) in
    let w = within_table t p o.processes (λ f. let g = sym waits ∙ f in cc) in
    subst (λ caller. HasBeenTold p x.reply (reply_kept caller x.reply (start v))) (sym some) (reply_is_kept p x.reply v o.processes w)
