-- A good completion of the files' disk keeps what holds of files and of those who wait for them, and touches nothing else.
use Rattle.std.proofs.Common.{◌≡◌, ℕ, zero, suc, ◌≤◌, List, [], ◌∷◌, ◌++◌, length, map, take, drop, Option, Some, None, refl, sym, ap, subst, ◌∙◌, arith, append_assoc, ℤ}
use Rattle.part_laws.specs.FileWork.{caller_first, callers_told}
use Rattle.table_laws.specs.Preserve.{AreAlive}
use Rattle.xinu_laws.specs.Touches.{reach, Touches}
use Rattle.xinu_model.specs.Files.Syscalls.{files_of, file_step, with_step, told, all_told, after_step}
use Rattle.xinu_model.specs.Files.Work.{FileRequest, FileNote, FileStep, calls_completed, least_effects, callers_waiting}
use Rattle.xinu_model.specs.Footprints.{on_effects, on_files}
use Rattle.xinu_model.specs.Machine.{Xinu, Parts, CallState, start}
use Rattle.xinu_model.specs.RawDisk.Callers.{living, callers}
use Rattle.xinu_model.specs.RawDisk.Calls.{keep_reply}
use Rattle.xinu_model.specs.Sound.State.{AreHarts}
use Rattle.xinu_model.specs.Sound.Tables.{IsSoundTables}
use Rattle.xinu_model.specs.Tables.{semaphore_at}
use Rattle.xinu_laws.proofs.Consoles.Kept.{Holds, HasSize}
use Rattle.xinu_laws.proofs.FileSyscalls.Asked.{files_touches}
use Rattle.part_laws.proofs.FileWork.Order.{calls_left, calls_told}
use Rattle.part_laws.proofs.FileWork.Sound.{sound_completed, works_completed}
use Rattle.xinu_laws.proofs.RawDisks.Framed.{AreDisks}
use Rattle.xinu_laws.proofs.RawDisks.Moves.{HasDisks, HaveReplies, first_replied, replied_touches}
use Rattle.table_laws.proofs.Tables.Harts.{harts_same}
use Rattle.xinu_laws.proofs.Touches.{named, touches_refl, touches_trans}
use Rattle.xinu_laws.proofs.Touches.Kept.{touches_below}

-- the living callers of the calls that took effect
abbrev pub told_living : List FileNote → List ℕ
told_living notes = callers (λ (o : Option ℕ). o) (callers_told notes)

-- From d to e the first waiters for files have their replies, and these still wait.
pub record Tells (l : List ℕ) (d e : CallState) : Type 0 where
  pub tables : IsSoundTables e.state.tables
  pub harts : e.state.harts ≡ d.state.harts
  pub released : e.released ≡ d.released
  pub parts : e.state.parts ≡ d.state.parts
  pub waiters : (semaphore_at e.state.tables 3).waiters ≡ l
  pub raw : (semaphore_at e.state.tables 2).waiters ≡ (semaphore_at d.state.tables 2).waiters
  pub tokens : (sem : ℕ) → (semaphore_at e.state.tables sem).tokens ≡ (semaphore_at d.state.tables sem).tokens
  pub replies : HaveReplies d.state.tables → HaveReplies e.state.tables
  pub touches : Touches (reach on_files) d.state e.state

-- p is the first of them, and then others are
first_told : (p : ℕ) (reply : ℤ) (rest l : List ℕ) (d : CallState) → IsSoundTables d.state.tables
    → (semaphore_at d.state.tables 3).waiters ≡ p ∷ rest → (e : CallState)
    → (IsSoundTables (keep_reply p reply d).state.tables → (semaphore_at (keep_reply p reply d).state.tables 3).waiters ≡ rest → Tells l (keep_reply p reply d) e)
    → Tells l d e
first_told p reply rest l d sound first e go =
    let one = first_replied 1 p reply rest d.state.tables (omega arith) sound first in
    let more = go one.tables one.waiters in
    record {
      tables = more.tables;
      harts = more.harts;
      released = more.released;
      parts = more.parts;
      waiters = more.waiters;
      raw = more.raw ∙ one.others 2 (λ h. cc);
      tokens = λ sem. more.tokens sem ∙ one.tokens sem;
      replies = λ h. more.replies (one.replies h);
      touches = touches_trans (replied_touches (λ _. refl) 1 p reply rest d.state (omega arith) sound first) more.touches;
    }

-- Those of whom notes tell have their replies.
pub all_tells : (notes : List FileNote) (l : List ℕ) (d : CallState) → IsSoundTables d.state.tables
    → (semaphore_at d.state.tables 3).waiters ≡ told_living notes ++ l → Tells l d (all_told notes d)
all_tells [] l d sound e = record {
  tables = sound;
  harts = refl;
  released = refl;
  parts = refl;
  waiters = e;
  raw = refl;
  tokens = λ sem. refl;
  replies = λ h. h;
  touches = touches_refl d.state;
}
all_tells (n ∷ notes) l d sound e = by_note (λ x k f. all_tells notes l x k f) n.reply n.caller e
  where
    by_note : ((x : CallState) → IsSoundTables x.state.tables → (semaphore_at x.state.tables 3).waiters ≡ told_living notes ++ l → Tells l x (all_told notes x))
        → (reply : Option ℤ) (caller : Option ℕ)
        → (semaphore_at d.state.tables 3).waiters ≡ callers (λ (o : Option ℕ). o) (caller_first reply caller (callers_told notes)) ++ l
        → Tells l d (all_told notes (told reply caller d))
    by_note go None caller e = go d sound e
    by_note go (Some reply) None e = go d sound e
    by_note go (Some reply) (Some p) e =
        first_told p reply (told_living notes ++ l) l d sound e (all_told notes (keep_reply p reply d)) (go (keep_reply p reply d))

-- those who made the first k calls, and those who made the others
split_callers : (k : ℕ) (l : List FileRequest)
    → callers (λ (o : Option ℕ). o) (map (λ (a : FileRequest). a.caller) (take k l)) ++ callers_waiting (drop k l) ≡ callers_waiting l
split_callers zero l = refl
split_callers (suc k) [] = refl
split_callers (suc k) (a ∷ l) =
    append_assoc (living a.caller) (callers (λ (o : Option ℕ). o) (map (λ (b : FileRequest). b.caller) (take k l)))
    (callers_waiting (drop k l))
    ∙ ap (λ m. living a.caller ++ m) (split_callers k l)

pub told_and_left : (k : ℕ) (x : FileStep) → x.notes ≡ []
    → callers_waiting x.work.calls ≡ told_living (calls_completed k x).notes ++ callers_waiting (calls_completed k x).work.calls
told_and_left k x none =
    let a : callers_told (calls_completed k x).notes ≡ map (λ (a : FileRequest). a.caller) (take k x.work.calls) =
    calls_told k x ∙ ap (λ n. callers_told n ++ map (λ (a : FileRequest). a.caller) (take k x.work.calls)) none in
    sym (ap (λ m. callers (λ (o : Option ℕ). o) m ++ callers_waiting (calls_completed k x).work.calls) a
    ∙ ap (λ m. callers (λ (o : Option ℕ). o) (map (λ (a : FileRequest). a.caller) (take k x.work.calls)) ++ callers_waiting m)
    (calls_left k x)
    ∙ split_callers k x.work.calls)

-- What holds inside an event after a completion: it touches files and RAM alone, keeps what holds of both disks, and leaves RAM its size.
pub record FilesComplete (s : Xinu) (d : CallState) : Type 0 where
  pub tables : IsSoundTables d.state.tables
  pub harts : AreHarts d.state.harts
  pub released : AreAlive d.state.tables d.released
  pub touches : Touches (reach on_effects) s d.state
  pub disks : HasDisks d.state
  pub ram : HasSize s → HasSize d.state

-- So many calls take effect, as have to.
pub step_completes : (k : ℕ) (s : Xinu) → least_effects (files_of s).calls (files_of s) ≤ k → Holds s → HasDisks s
    → FilesComplete s (after_step (calls_completed k (file_step s)) s)
step_completes k s may c h =
    let x = calls_completed k (file_step s) in
    let u = with_step x s in
    let t = all_tells x.notes (callers_waiting x.work.calls) (start u) c.tables (h.files.waiters ∙ told_and_left k (file_step s) refl) in
    let after = after_step x s in
    record {
      tables = t.tables;
      harts = harts_same s.harts after.state.harts t.harts c.harts;
      released = subst (AreAlive after.state.tables) (sym t.released) tt;
      touches = touches_trans (files_touches refl s u x.work refl refl (named refl) refl)
          (touches_below (record { heap = λ e. e; stacks = λ e. e; ranges = λ e. e; pools = λ e. e; ports = λ e. e; console = λ e. e; names = λ e. e; disk = λ e. e; files = λ e. e; ram = λ e. refl }) t.touches);
      ram = λ z. ap (λ (l : List ℕ). length l) (t.touches.ram refl) ∙ (sound_completed k (file_step s) may (record { work = h.files.itself; memory = z })).memory;
      disks = subst (λ (p : Parts). AreDisks after.state.tables p.devices) (sym t.parts) (record {
        raw = record {
          itself = h.raw.itself;
          waiters = t.raw ∙ h.raw.waiters;
          tokens = t.tokens 2 ∙ h.raw.tokens;
          replies = t.replies h.raw.replies;
        };
        files = record { itself = works_completed k (file_step s) may h.files.itself; waiters = t.waiters; tokens = t.tokens 3 ∙ h.files.tokens };
      });
    }
