-- What a caller of files answers: what its call replies as it takes effect, at a completion or as it is made.
use Rattle.std.proofs.Common.{◌≡◌, ℕ, suc, ◌==◌, cond, List, [], ◌∷◌, ◌++◌, Option, Some, None, refl, sym, ap, subst, ◌∙◌, arith, append_assoc, ℤ}
use Rattle.std.proofs.lemmas.Bool.{cond_both, eq-eqb}
use Rattle.xinu_base.specs.Constants.{SYSERR}
use Rattle.xinu_base.specs.declared.lines.FileMoment.{FileMoment}
use Rattle.xinu_base.specs.declared.processes.Process.{Process}
use Rattle.xinu_base.specs.declared.processes.Rest.TheVariants.{Disk}
use Rattle.xinu_base.specs.declared.processes.State.TheVariants.{Ready}
use Rattle.part_laws.specs.FileWork.{caller_first, callers_told}
use Rattle.xinu_model.specs.Files.Calls.{file_effect}
use Rattle.xinu_model.specs.Files.Sound.{IsFirst, IsSoundWork}
use Rattle.xinu_model.specs.Files.Syscalls.{files_of, file_step, with_step, told, all_told, after_step, at_once}
use Rattle.xinu_model.specs.Files.Systems.{FileEffect, replies}
use Rattle.xinu_model.specs.Files.Work.{FileRequest, FileWork, FileNote, bytes_written, copied, calls_completed, queued_after, enqueued, issued, callers_waiting}
use Rattle.xinu_model.specs.Machine.{Xinu, CallState, Returns, start}
use Rattle.xinu_model.specs.RawDisk.Callers.{living, callers}
use Rattle.xinu_model.specs.RawDisk.Calls.{keep_reply}
use Rattle.xinu_model.specs.Sound.State.{IsSound}
use Rattle.xinu_model.specs.Sound.Tables.{count_in, IsSoundTables}
use Rattle.xinu_model.specs.Tables.{process_at, state_at, message_at, semaphore_at, InReady}
use Rattle.xinu_laws.proofs.FileSyscalls.Completed.{told_living, all_tells, told_and_left}
use Rattle.part_laws.proofs.FileSystems.Refusals.{effect_spares}
use Rattle.part_laws.proofs.FileWork.Order.{told_append}
use Rattle.table_laws.proofs.Lists.Counts.{times-append}
use Rattle.xinu_laws.proofs.RawDisks.Moves.{first_once, first_within}
use Rattle.table_laws.proofs.Tables.MoveTo.{by_number, process_move_same, process_move_other}
use Rattle.xinu_model.proofs.FileOutcomes.{nothing_brought}

-- p is ready, and has a reply
abbrev pub HasBeenTold : ℕ → ℤ → CallState → Type 0
HasBeenTold p reply d = (state_at d.state.tables p ≡ Ready) × ((process_at d.state.tables p).rest ≡ Disk (Some reply))

-- who isn't told stays as he is
others_told : (p : ℕ) (notes : List FileNote) (d : CallState) → count_in p (told_living notes) ≡ 0
    → process_at (all_told notes d).state.tables p ≡ process_at d.state.tables p
others_told p [] d none = refl
others_told p (n ∷ notes) d none = by_note (λ x f. others_told p notes x f) n.reply n.caller none
  where
    by_note : ((x : CallState) → count_in p (told_living notes) ≡ 0 → process_at (all_told notes x).state.tables p ≡ process_at x.state.tables p)
        → (reply : Option ℤ) (caller : Option ℕ)
        → count_in p (callers (λ (o : Option ℕ). o) (caller_first reply caller (callers_told notes))) ≡ 0
        → process_at (all_told notes (told reply caller d)).state.tables p ≡ process_at d.state.tables p
    by_note go None caller none = go d none
    by_note go (Some reply) None none = go d none
    by_note go (Some reply) (Some q) none =
        let t = d.state.tables in
        let y : Process = record (process_at t q) { state = Ready; rest = Disk (Some reply) } in
        by_number p q (λ r. count_in r
        (q ∷ told_living notes) ≡ 0 → (count_in r (told_living notes) ≡ 0 → process_at
        (all_told notes (keep_reply q reply d)).state.tables r ≡ process_at (keep_reply q reply d).state.tables r)
        → process_at (all_told notes (keep_reply q reply d)).state.tables r ≡ process_at t r)
        (λ f _. absurd (let g : count_in q (q ∷ told_living notes) ≡ suc
        (count_in q (told_living notes)) = ap (λ b. cond b (suc (count_in q (told_living notes))) (count_in q (told_living notes)))
        (eq-eqb q q refl) in omega (arith, f, g)))
        (λ n f rest. rest (cond_both (q == p) (suc (count_in p (told_living notes))) (count_in p (told_living notes))
        (λ m. m ≡ 0 → count_in p (told_living notes) ≡ 0) (λ _ h. absurd (omega (arith, h))) (λ _ h. h) f)
        ∙ process_move_other t p q y (message_at t q) InReady n)
        none (go (keep_reply q reply d))

-- notes are told one after another
all_told_append : (notes more : List FileNote) (d : CallState) → all_told (notes ++ more) d ≡ all_told more (all_told notes d)
all_told_append [] more d = refl
all_told_append (n ∷ notes) more d = all_told_append notes more (told n.reply n.caller d)

living_append : (xs ys : List (Option ℕ))
    → callers (λ (o : Option ℕ). o) (xs ++ ys) ≡ callers (λ (o : Option ℕ). o) xs ++ callers (λ (o : Option ℕ). o) ys
living_append [] ys = refl
living_append (x ∷ xs) ys =
    ap (λ l. living x ++ l) (living_append xs ys)
    ∙ sym (append_assoc (living x) (callers (λ (o : Option ℕ). o) xs) (callers (λ (o : Option ℕ). o) ys))

-- the first of those who are told
first_is_told : (p : ℕ) (reply : ℤ) (notes : List FileNote) (l : List ℕ) (d : CallState) → IsSoundTables d.state.tables
    → (semaphore_at d.state.tables 3).waiters ≡ p ∷ (told_living notes ++ l) → HasBeenTold p reply (all_told notes (keep_reply p reply d))
first_is_told p reply notes l d sound first =
    let t = d.state.tables in
    let y : Process = record (process_at t p) { state = Ready; rest = Disk (Some reply) } in
    let once = first_once 1 p reply (told_living notes ++ l) t (omega arith) sound first in
    let parts = times-append (λ x. x == p) (told_living notes) l in
    let e = others_told p notes (keep_reply p reply d) (omega (arith, once, parts))
    ∙ process_move_same t p y (message_at t p) InReady sound.inside.processes
    (first_within 1 p reply (told_living notes ++ l) t (omega arith) sound first) in
    (ap (λ (x : Process). x.state) e, ap (λ (x : Process). x.rest) e)

-- Each caller of whom a completion tells is ready, and what its call replied is its reply.
pub callers_are_told : (k p : ℕ) (moment : FileMoment) (reply : ℤ) (before after : List FileNote) (s : Xinu) → IsSound s
    → (calls_completed k (file_step s)).notes ≡ before ++ record { caller = Some p; moment = moment; reply = Some reply } ∷ after
    → HasBeenTold p reply (after_step (calls_completed k (file_step s)) s)
callers_are_told k p moment reply before after s sound e =
    let x = calls_completed k (file_step s) in
    let note : FileNote = record { caller = Some p; moment = moment; reply = Some reply } in
    let l = callers_waiting x.work.calls in
    let d = start (with_step x s) in
    let living_in : told_living (before ++ note ∷ after) ≡ told_living before ++ p ∷ told_living after =
    ap (callers (λ (o : Option ℕ). o)) (told_append before (note ∷ after))
    ∙ living_append (callers_told before) (callers_told (note ∷ after)) in
    let waiters : (semaphore_at s.tables 3).waiters ≡ told_living before ++ (p ∷ (told_living after ++ l)) =
    sound.devices.files.waiters ∙ told_and_left k (file_step s) refl ∙ ap (λ n. told_living n ++ l) e ∙ ap (λ m. m ++ l) living_in
    ∙ append_assoc (told_living before) (p ∷ told_living after) l in
    let one = all_tells before (p ∷ (told_living after ++ l)) d sound.tables waiters in
    subst (HasBeenTold p reply) (sym (ap (λ n. all_told n d) e ∙ all_told_append before (note ∷ after) d))
    (first_is_told p reply after l (all_told before d) one.tables one.waiters)

-- the files are the same after a call was queued
queued_system : (calls : List FileRequest) (a : FileRequest) (memory : List ℕ) (w : FileWork)
    → (queued_after calls a memory w).system ≡ w.system
queued_system [] a memory w = refl
queued_system (b ∷ calls) a memory w = refl

-- A call that takes effect as it is made answers what it replies.
pub answered_at_once : (a : FileRequest) (s : Xinu) → (files_of s).calls ≡ []
    → (at_once a s).answer ≡ Returns (file_effect a.call (bytes_written a.call a.at s.memory) (files_of s).system).reply
answered_at_once a s none =
    ap (λ l. Returns (file_effect a.call (queued_after l a s.memory (files_of s)).bytes
    (queued_after l a s.memory (files_of s)).system).reply) none

-- A call that waits goes after the others.
pub call_queued : (calls : List FileRequest) (a : FileRequest) (memory : List ℕ) (w : FileWork) → w.calls ≡ calls
    → (queued_after calls a memory w).calls ≡ w.calls ++ a ∷ []
call_queued [] a memory w e = ap (λ l. l ++ a ∷ []) (sym e)
call_queued (b ∷ calls) a memory w e = ap (λ l. l ++ a ∷ []) (sym e)

-- no call is under way
no_calls : (w : FileWork) → w.calls ≡ [] → w.turns ≡ 0 → w.bytes ≡ []
    → ◌≡◌ {A = FileWork} (record { system = w.system; calls = []; turns = 0; bytes = [] }) w
no_calls w calls turns bytes =
    ap (λ l. record { system = w.system; calls = l; turns = 0; bytes = [] }) (sym calls)
    ∙ ap (λ n. record { system = w.system; calls = w.calls; turns = n; bytes = [] }) (sym turns)
    ∙ ap (λ b. record { system = w.system; calls = w.calls; turns = w.turns; bytes = b }) (sym bytes)

-- What a call that is refused as it is made, by its effect, leaves: all that there was, and the answer.
pub record LeavesAll (s x : Xinu) : Type 0 where
  pub tables : x.tables ≡ s.tables
  pub harts : x.harts ≡ s.harts
  pub parts : x.parts ≡ s.parts
  pub memory : x.memory ≡ s.memory

pub refused_leaves_all : (a : FileRequest) (s : Xinu) → IsSoundWork (files_of s) → (files_of s).calls ≡ []
    → (at_once a s).answer ≡ Returns SYSERR → LeavesAll s (at_once a s).call.state
refused_leaves_all a s sound none refused =
    let w = files_of s in
    let queued = enqueued a s.memory w in
    let e = file_effect a.call queued.bytes queued.system in
    let is : e ≡ replies SYSERR queued.system = (effect_spares a.call queued.bytes queued.system).unchanged
    (let r : e.reply ≡ SYSERR = cc in r) in
    let first : (w.turns ≡ 0) × (w.bytes ≡ []) = subst (λ l. IsFirst l w) none sound.first in
    let system : e.system ≡ w.system = ap (λ (x : FileEffect). x.system) is ∙ queued_system w.calls a s.memory w in
    let work : (issued 1 a s.memory w).work ≡ w =
    ap (λ f. record { system = f; calls = []; turns = 0; bytes = [] }) system ∙ no_calls w none first.0 first.1 in
    record {
      tables = refl;
      harts = refl;
      parts = ap (λ v. record s.parts { devices = record s.parts.devices { files = v } }) work;
      memory = ap (λ (x : FileEffect). copied a.caller a.at x.bytes s.memory) is ∙ nothing_brought a.caller a.at s.memory;
    }
