-- Whose request a completion of the raw disk serves.
use Rattle.std.proofs.Common.{◌≡◌, ◌∙◌, ℕ, ◌++◌, Bool, Option, Some, ap, arith, sym}
use Rattle.xinu_base.specs.declared.processes.State.TheVariants.{Waiting}
use Rattle.xinu_laws.proofs.RawDisks.Moves.{first_waits}
use Rattle.part_laws.proofs.RawDisks.Served.{serves_first}
use Rattle.xinu_model.specs.RawDisk.Callers.{living}
use Rattle.xinu_model.specs.RawDisk.Completions.{raw_completed, Served}
use Rattle.xinu_model.specs.RawDisk.Requests.{RawDisk, requesters}
use Rattle.xinu_model.specs.Sound.Disks.{IsRawDisk}
use Rattle.xinu_model.specs.Sound.Tables.{IsSoundTables}
use Rattle.xinu_model.specs.Tables.{state_at, Tables}

-- The caller of the request that was served waits.
pub served_waits : (good : Bool) (x : Served) (p : ℕ) (t : Tables) (d : RawDisk) → IsSoundTables t → IsRawDisk t d
    → Some x ≡ raw_completed good d → x.request.caller ≡ Some p → state_at t p ≡ Waiting
served_waits good x p t d sound disk is caller =
    let l = requesters x.disk.requests in
    let first = (serves_first good d x (sym is)).first in
    first_waits 0 p x.reply l t (omega arith) sound (disk.waiters ∙ ap requesters first ∙ ap (λ (o : Option ℕ). living o ++ l) caller)
