-- A call is made while none is under way: it becomes the first, and may take effect at once.
use Rattle.std.proofs.Common.{◌≡◌, ℕ, ◌≤◌, if◌then◌else◌, List, [], ◌∷◌, length, refl, ap, sym, ◌∙◌, arith, Option, Some, None, ℤ}
use Rattle.file_server.specs.DiskStates.{HeldCall, DiskState, IsDone, bytes_held}
use Rattle.file_server.specs.Requests.{IsRequest, call_with, request_of}
use Rattle.file_server.specs.ServerStates.{IsIssued}
use Rattle.file_server.specs.Servers.{FirstIsHeld, work_of}
use Rattle.file_server.specs.declared.requests.FileRequest as declared_request
use Rattle.file_server.proofs.Starts.{effect_made, memory_made}
use Rattle.local_files.specs.Standing.{call_of, given_bytes}
use Rattle.xinu_base.specs.declared.lines.FileMoment.TheVariants.{Finished}
use Rattle.xinu_model.specs.Files.Systems.{FileEffect}
use Rattle.xinu_model.specs.Files.Work.{FileStep, bytes_written, copied, took_effect}
use Rattle.xinu_model.specs.Memory.{in_ram}

-- the disk has no call in hand if none is under way, and no turns are counted
pub record IsFree (d : DiskState) (turns : ℕ) : Type 0 where
  pub hand : d.hand ≡ None
  pub turns_is : turns ≡ 0

pub none_held : (d : DiskState) (turns : ℕ) → FirstIsHeld d.hand [] turns d.system → IsFree d turns
none_held d turns f = by_hand d.hand refl f
  where
    by_hand : (hand : Option HeldCall) → d.hand ≡ hand → FirstIsHeld hand [] turns d.system → IsFree d turns
    by_hand None is g = record { hand = is; turns_is = g }
    by_hand (Some h) is g = absurd g

-- it takes effect at once
pub at_once : (d d' : DiskState) (r : declared_request.FileRequest) (turns : ℕ) (memory memory' b : List ℕ) (reply : ℤ) → turns ≡ 0 → IsRequest r
    → b ≡ bytes_written (call_with r.call r.count) r.at memory
    → IsDone (call_of r.call (given_bytes r.call b)) (given_bytes r.call b) reply d d'
    → memory' ≡ (if in_ram r.at (length d'.given) then copied r.caller r.at d'.given memory else memory)
    → (let after : FileStep = record { work = work_of d' [] turns; memory = memory'; notes = took_effect (request_of r) Finished reply ∷ [] } in
    IsIssued 1 (request_of r) memory (work_of d [] turns) after)
at_once d d' r turns memory memory' b reply none right is done m =
    let a = request_of r in
    let e = effect_made r memory b reply d d' is done in
    let here : memory' ≡ copied a.caller a.at d'.given memory = m ∙ memory_made r memory b reply d d' right is done in
    record {
      may = omega arith;
      happens = ap (λ (x : FileEffect). let s : FileStep = record { work = record { system = x.system; calls = []; turns = 0; bytes = [] }; memory = copied a.caller a.at x.bytes memory; notes = took_effect a Finished x.reply ∷ [] } in s) e
          ∙ ap (λ (k : List ℕ). let s : FileStep = record { work = record { system = d'.system; calls = []; turns = 0; bytes = [] }; memory = k; notes = took_effect a Finished reply ∷ [] } in s) (sym here)
          ∙ ap (λ (n : ℕ). let s : FileStep = record { work = record { system = d'.system; calls = []; turns = n; bytes = [] }; memory = memory'; notes = took_effect a Finished reply ∷ [] } in s) (sym none)
          ∙ ap (λ (o : Option HeldCall). let s : FileStep = record { work = record { system = d'.system; calls = []; turns = turns; bytes = bytes_held o }; memory = memory'; notes = took_effect a Finished reply ∷ [] } in s) (sym done.hand);
    }

-- no call is under way
pub none_listed : (items : List declared_request.FileRequest) → length items ≤ 0 → items ≡ []
none_listed [] few = refl
none_listed (x ∷ items) few = absurd (omega (arith, few))
