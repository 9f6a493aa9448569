-- Whom a completion of the files' disk tells, and what it changes of the disk.
use Rattle.std.proofs.Common.{◌≡◌, ◌∙◌, ℕ, suc, ◌+◌, ◌<◌, List, [], ◌∷◌, ◌++◌, length, map, drop, get_or, add-one, drop-cons, Option, Some, None, refl, sym, ap, subst, arith, ℤ}
use Rattle.file_server.specs.Requests.{note_of}
use Rattle.file_server.specs.ServerStates.{IsCompleted}
use Rattle.file_server.specs.declared.requests.FileNote as note
use Rattle.io_calls.specs.Files.{AreTold, WaitsFor}
use Rattle.lfs_check.specs.Rules.{block_in}
use Rattle.local_files.specs.Resting.{ServesDisk}
use Rattle.xinu_laws.proofs.FileSyscalls.Completed.{told_and_left, told_living}
use Rattle.xinu_laws.proofs.RawDisks.Moves.{first_replied, first_waits}
use Rattle.part_laws.specs.FileWork.{caller_first, callers_told}
use Rattle.xinu_model.specs.Files.Syscalls.{told}
use Rattle.xinu_model.specs.Files.Work.{callers_waiting, calls_completed, FileNote, FileStep, FileWork}
use Rattle.xinu_model.specs.Machine.{CallState}
use Rattle.xinu_model.specs.RawDisk.Callers.{callers}
use Rattle.xinu_model.specs.Sound.Disks.{IsFileDisk}
use Rattle.xinu_model.specs.Sound.Tables.{IsSoundTables}
use Rattle.xinu_model.specs.Tables.{semaphore_at, Tables}

-- the notes from a place on begin with the one that is there
pub notes_from : (notes : List note.FileNote) (i : ℕ) (n : note.FileNote) → i < length notes → n ≡ get_or notes i n
    → map note_of (drop i notes) ≡ note_of n ∷ map note_of (drop (i + 1) notes)
notes_from notes i n low is =
    ap (map note_of) (drop-cons notes i n low ∙ ap (λ x. x ∷ drop (suc i) notes) (sym is) ∙ ap (λ k. n ∷ drop k notes) (sym (add-one i)))

-- who is told of waits for it
pub next_waits : (n : FileNote) (notes : List FileNote) (t : Tables) → AreTold (n ∷ notes) t → WaitsFor n.reply n.caller t
next_waits n notes t a = by_note n.reply n.caller a.waiters
  where
    by_note : (reply : Option ℤ) (caller : Option ℕ)
        → (semaphore_at t 3).waiters ≡ callers (λ (o : Option ℕ). o) (caller_first reply caller (callers_told notes)) ++ a.others
        → WaitsFor reply caller t
    by_note None caller e = tt
    by_note (Some reply) None e = tt
    by_note (Some reply) (Some p) e = first_waits 1 p reply (told_living notes ++ a.others) t (omega arith) a.tables e

-- and the others after it
pub others_wait : (n : FileNote) (notes : List FileNote) (d : CallState) → AreTold (n ∷ notes) d.state.tables
    → AreTold notes (told n.reply n.caller d).state.tables
others_wait n notes d a = by_note n.reply n.caller a.waiters
  where
    by_note : (reply : Option ℤ) (caller : Option ℕ)
        → (semaphore_at d.state.tables 3).waiters ≡ callers (λ (o : Option ℕ). o) (caller_first reply caller (callers_told notes)) ++ a.others
        → AreTold notes (told reply caller d).state.tables
    by_note None caller e = record { tables = a.tables; others = a.others; waiters = e }
    by_note (Some reply) None e = record { tables = a.tables; others = a.others; waiters = e }
    by_note (Some reply) (Some p) e =
        let r = first_replied 1 p reply (told_living notes ++ a.others) d.state.tables (omega arith) a.tables e in
        record { tables = r.tables; others = a.others; waiters = r.waiters }

-- The callers of the calls that took effect are the first who wait for files.
pub completed_told : (t : Tables) (w : FileWork) (memory : List ℕ) (after : FileStep) → IsSoundTables t → IsFileDisk t w → IsCompleted w memory after
    → AreTold after.notes t
completed_told t w memory after sound files c =
    let before : FileStep = record { work = w; memory = memory; notes = [] } in
    subst (λ (x : FileStep). AreTold x.notes t) c.happens (record {
      tables = sound;
      others = callers_waiting (calls_completed c.effects before).work.calls;
      waiters = files.waiters ∙ told_and_left c.effects before refl;
    })

-- No block changes of a disk that stays as it is.
pub stays : (w : FileWork) {old new : List ℕ} → new ≡ old → ServesDisk w old new
stays w e = record { one = record { block = 0; long = ap length e; others = λ m other. ap (λ image. block_in image m) e }; still = λ _. e; reads = λ _. e }
