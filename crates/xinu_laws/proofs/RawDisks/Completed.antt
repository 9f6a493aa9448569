-- A completion of the raw disk keeps what holds of the disks, of tables and of registers, and touches nothing else.
use Rattle.std.proofs.Common.{◌≡◌, ℕ, Bool, length, ◌∷◌, ◌++◌, Option, Some, None, refl, ap, ◌∙◌, arith, List, ℤ}
use Rattle.table_laws.specs.Preserve.{AreAlive}
use Rattle.xinu_laws.specs.Touches.{reach, Touches}
use Rattle.xinu_model.specs.Files.Work.{copied}
use Rattle.xinu_model.specs.Footprints.{on_completion}
use Rattle.xinu_model.specs.Machine.{Xinu, CallState, start}
use Rattle.xinu_model.specs.Memory.{ram_size}
use Rattle.xinu_model.specs.RawDisk.Callers.{living}
use Rattle.xinu_model.specs.RawDisk.Calls.{disk_of, with_disk, reply_kept, after_served}
use Rattle.xinu_model.specs.RawDisk.Completions.{Served, raw_completed}
use Rattle.xinu_model.specs.RawDisk.Constants.{RD_BLKSIZ}
use Rattle.xinu_model.specs.RawDisk.Requests.{requesters}
use Rattle.xinu_model.specs.Sound.State.{AreHarts}
use Rattle.xinu_model.specs.Sound.Tables.{IsSoundTables}
use Rattle.xinu_model.specs.Tables.{semaphore_at}
use Rattle.xinu_laws.proofs.Consoles.Kept.{Holds, HasSize}
use Rattle.xinu_laws.proofs.RawDisks.Kept.{disk_touches}
use Rattle.xinu_laws.proofs.RawDisks.Moves.{HasDisks, first_replied, replied_touches}
use Rattle.part_laws.proofs.FileWork.Sizes.{copied_size}
use Rattle.part_laws.proofs.RawDisks.Served.{ServesFirst, serves_first}
use Rattle.xinu_laws.proofs.Touches.{named, touches_trans}

-- What holds inside an event after a completion: it touches the raw disk and RAM alone, keeps what holds of both disks, and leaves RAM its size.
pub record Completes (s : Xinu) (d : CallState) : Type 0 where
  pub tables : IsSoundTables d.state.tables
  pub harts : AreHarts d.state.harts
  pub released : AreAlive d.state.tables d.released
  pub touches : Touches (reach on_completion) s d.state
  pub disks : HasDisks d.state
  pub ram : HasSize s → HasSize d.state

-- a request without a caller is served
nobody_told : (x : Served) (s : Xinu) (memory : List ℕ) → Holds s → HasDisks s → ServesFirst (disk_of s) x → x.request.caller ≡ None
    → (HasSize s → length memory ≡ ram_size) → Completes s (start (record (with_disk x.disk s) { memory = memory }))
nobody_told x s memory c k f none size = record {
  tables = c.tables;
  harts = c.harts;
  released = tt;
  touches = disk_touches refl s (record (with_disk x.disk s) { memory = memory }) x.disk refl refl (named refl) refl;
  ram = size;
  disks = record {
    raw = record {
      itself = f.sound k.raw.itself;
      waiters = k.raw.waiters ∙ ap requesters f.first ∙ ap (λ o. living o ++ requesters x.disk.requests) none;
      tokens = k.raw.tokens;
      replies = k.raw.replies;
    };
    files = record { itself = k.files.itself; waiters = k.files.waiters; tokens = k.files.tokens };
  };
}

-- a request of p is served: p becomes ready with its reply
caller_told : (p : ℕ) (reply : ℤ) (x : Served) (s : Xinu) (memory : List ℕ) → Holds s → HasDisks s → ServesFirst (disk_of s) x
    → x.request.caller ≡ Some p → (HasSize s → length memory ≡ ram_size)
    → Completes s (reply_kept (Some p) reply (start (record (with_disk x.disk s) { memory = memory })))
caller_told p reply x s memory c k f some size =
    let t = s.tables in
    let l = requesters x.disk.requests in
    let v = record (with_disk x.disk s) { memory = memory } in
    let waiters : (semaphore_at t 2).waiters ≡ p ∷ l = k.raw.waiters ∙ ap requesters f.first ∙ ap (λ o. living o ++ l) some in
    let r = first_replied 0 p reply l t (omega arith) c.tables waiters in
    record {
      tables = r.tables;
      harts = c.harts;
      released = tt;
      ram = size;
      touches = touches_trans (disk_touches refl s v x.disk refl refl (named refl) refl) (replied_touches (λ _. refl) 0 p reply l v (omega arith) c.tables waiters);
      disks = record {
        raw = record {
          itself = f.sound k.raw.itself;
          waiters = r.waiters;
          tokens = r.tokens 2 ∙ k.raw.tokens;
          replies = r.replies k.raw.replies;
        };
        files = record { itself = k.files.itself; waiters = r.others 3 (λ e. cc) ∙ k.files.waiters; tokens = r.tokens 3 ∙ k.files.tokens };
      };
    }

-- A request is served.
pub served_completes : (good : Bool) (x : Served) (s : Xinu) → raw_completed good (disk_of s) ≡ Some x → Holds s → HasDisks s
    → Completes s (after_served x s)
served_completes good x s e c k = by_caller x.request.caller refl
  where
    first : ServesFirst (disk_of s) x
    first = serves_first good (disk_of s) x e

    size : HasSize s → length (copied x.request.caller x.request.at x.bytes s.memory) ≡ ram_size
    size z =
        let range = first.range k.raw.itself in
        copied_size x.request.caller x.request.at RD_BLKSIZ x.bytes s.memory (first.few k.raw.itself) (omega (arith, range, z)) ∙ z

    by_caller : (caller : Option ℕ) → x.request.caller ≡ caller
        → Completes s (reply_kept caller x.reply (start (record (with_disk x.disk s) { memory = copied x.request.caller x.request.at x.bytes s.memory })))
    by_caller None none =
        nobody_told x s (copied x.request.caller x.request.at x.bytes s.memory) c k first none size
    by_caller (Some p) some =
        caller_told p x.reply x s (copied x.request.caller x.request.at x.bytes s.memory) c k first some size
