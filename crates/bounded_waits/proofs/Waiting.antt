-- Who has the answer of a disk keeps it in each event in which no process runs.
use Rattle.std.proofs.Common.{◌≡◌, ◌≢◌, ℕ, suc, ◌+◌, ◌<◌, ◌==◌, Bool, false, List, [], ◌∷◌, ◌++◌, Option, Some, None, ℤ, refl, sym, ap, subst, ◌∙◌, arith, take}
use Rattle.std.proofs.lemmas.Bool.{cond_both}
use Rattle.xinu_base.specs.declared.processes.Process.{Process}
use Rattle.xinu_base.specs.declared.processes.Rest.TheVariants.{Disk, Nothing}
use Rattle.xinu_base.specs.declared.processes.State.{State}
use Rattle.xinu_base.specs.declared.processes.State.TheVariants.{Current, Free, Ready, Receiving, Sleeping, Suspended, Timed, Waiting}
use Rattle.xinu_model.specs.Clock.{due, ticked}
use Rattle.xinu_model.specs.Console.Signals.{receiving, keyed, sending, sent_in}
use Rattle.xinu_model.specs.Console.Receiving.{received}
use Rattle.xinu_model.specs.Console.Taking.{console_of, with_console}
use Rattle.xinu_model.specs.Console.Transmitting.{Sent}
use Rattle.xinu_model.specs.Files.Syscalls.{files_of, file_step, with_step, told, all_told, completing, completed_in}
use Rattle.xinu_model.specs.Files.Work.{FileRequest, FileNote, copied, calls_completed, callers_waiting, least_effects}
use Rattle.xinu_model.specs.Machine.{Xinu, CallState, start, unblock_all}
use Rattle.xinu_model.specs.Process.Scheduling.{in_state}
use Rattle.xinu_model.specs.RawDisk.Callers.{living, callers}
use Rattle.xinu_model.specs.RawDisk.Calls.{disk_of, with_disk, keep_reply, reply_kept, serving, served_in}
use Rattle.xinu_model.specs.RawDisk.Completions.{Served, raw_completed}
use Rattle.xinu_model.specs.RawDisk.Requests.{requesters}
use Rattle.xinu_model.specs.Semaphores.Waiting.{signal_first, signalled}
use Rattle.xinu_model.specs.Sound.Disks.{HasReply}
use Rattle.xinu_model.specs.Sound.Pools.{is_waiting}
use Rattle.xinu_model.specs.Sound.State.{IsSound}
use Rattle.xinu_model.specs.Sound.Tables.{count_in, waiting_places, IsSoundTables}
use Rattle.xinu_model.specs.Tables.{process_at, state_at, message_at, semaphore_at, InReady}
use Rattle.part_laws.specs.FileWork.{caller_first, callers_told}
use Rattle.part_laws.proofs.RawDisks.Served.{serves_first}
use Rattle.table_laws.proofs.Lists.Counts.{first_is_counted, times-append}
use Rattle.table_laws.proofs.Tables.MoveTo.{within_table, process_move_other}
use Rattle.table_laws.proofs.Tables.Unblock.{unblock_all_ready}
use Rattle.xinu_laws.proofs.FileSyscalls.Completed.{told_living, told_and_left}
use Rattle.scheduling_laws.proofs.Resched.{by_tick}
use Rattle.scheduling_laws.proofs.Waiters.{not_waiting}
use Rattle.bounded_waits.proofs.Rests.{SameRests, rests_move, rests_resched, rests_ready, rests_closed}

-- who doesn't wait has no place among waiters
no_place : (s : State) → is_waiting s ≡ false → waiting_places s ≡ 0
no_place Waiting e = absurd (cc)
no_place Free e = refl
no_place Current e = refl
no_place Ready e = refl
no_place Receiving e = refl
no_place Sleeping e = refl
no_place Suspended e = refl
no_place Timed e = refl

-- What is known of a process that has its answer between two events: it waits nowhere, and lives.
pub record IsAnswered (p : ℕ) (s : Xinu) : Type 0 where
  pub nowhere : (sem : ℕ) → count_in p (semaphore_at s.tables sem).waiters ≡ 0
  pub lives : state_at s.tables p ≢ Free
  pub within : p < 64

pub is_answered : (p : ℕ) (reply : ℤ) (s : Xinu) → IsSound s → (process_at s.tables p).rest ≡ Disk (Some reply) → IsAnswered p s
is_answered p reply s k left =
    let o = k.tables.inside in
    let idle : is_waiting (state_at s.tables p) ≡ false =
    subst (HasReply (is_waiting (state_at s.tables p))) left (k.devices.disk.replies p) in
    let lives : state_at s.tables p ≢ Free =
    λ e. (let f : Nothing ≡ Disk (Some reply) = sym (ap (λ (x : Process). x.rest) (o.free p e).0) ∙ left in absurd (cc)) in
    record {
      nowhere = λ sem. not_waiting s.tables p sem o (no_place (state_at s.tables p) idle);
      lives = lives;
      within = within_table s.tables p o.processes lives;
    }

-- waiters become ready, which changes nothing that is left
rests_unblocked : (ps : List ℕ) (d : CallState) → SameRests d.state.tables (unblock_all ps d).state.tables
rests_unblocked ps d p = ap (λ (x : Xinu). (process_at x.tables p).rest) (unblock_all_ready ps d) ∙ rests_ready ps d.state.tables p

rests_first : (sem : ℕ) (ps : List ℕ) (d : CallState) → SameRests d.state.tables (signal_first sem ps d).state.tables
rests_first sem [] d p = refl
rests_first sem (q ∷ ps) d p =
    let t = d.state.tables in rests_move t q (in_state Ready (process_at t q)) (message_at t q) InReady refl p

module _ (p : ℕ) where
  -- what is left of p's call is the same
  abbrev pub Same : Xinu → Xinu → Type 0
  Same s u = (process_at u.tables p).rest ≡ (process_at s.tables p).rest

  -- a tick
  pub same_ticked : (s : Xinu) → IsSoundTables s.tables → Same s (ticked s).state
  same_ticked s k =
      by_tick (λ t. (process_at t p).rest ≡ (process_at s.tables p).rest) s k (λ t quantum ticks h. h)
      (λ t o h. rests_resched t p ∙ h) (rests_ready (due (s.tables.ticks + 1) s.tables.sleepers) s.tables p)

  -- a received character, and a byte that is sent
  pub same_keyed : (b : ℕ) (s : Xinu) → Same s (keyed b s).state
  same_keyed b s =
      let m = received b (console_of s) in
      let d = record (start s) { state = with_console m.console s } in
      rests_closed (receiving b s) p ∙ rests_unblocked (take m.count (semaphore_at s.tables 0).waiters) d p

  pub same_sent : (found : Option Sent) (s : Xinu) → Same s (sent_in found s).state
  same_sent None s = refl
  same_sent (Some sent) s =
      let d = start (with_console sent.console s) in
      rests_closed (sending sent s) p
      ∙ cond_both sent.is_output (signalled 1 d) d (λ e. (process_at e.state.tables p).rest ≡ (process_at s.tables p).rest)
      (λ _. rests_first 1 (semaphore_at s.tables 1).waiters d p) (λ _. refl)

  -- another process is told
  same_kept : (q : ℕ) (reply : ℤ) (d : CallState) → p ≢ q → (process_at (keep_reply q reply d).state.tables p).rest ≡ (process_at d.state.tables p).rest
  same_kept q reply d n =
      let t = d.state.tables in
      ap (λ (x : Process). x.rest) (process_move_other t p q (record (process_at t q) { state = Ready; rest = Disk (Some reply) }) (message_at t q) InReady n)

  -- who isn't counted isn't the first
  differs : (q : ℕ) (l : List ℕ) → count_in p (q ∷ l) ≡ 0 → p ≢ q
  differs q l none e = let some = first_is_counted p l in absurd (omega (arith, some, subst (λ r. count_in p (r ∷ l) ≡ 0) (sym e) none))

  later_none : (q : ℕ) (l : List ℕ) → count_in p (q ∷ l) ≡ 0 → count_in p l ≡ 0
  later_none q l =
      cond_both (q == p) (suc (count_in p l)) (count_in p l) (λ n. n ≡ 0 → count_in p l ≡ 0) (λ _ e. absurd (omega (arith, e))) (λ _ e. e)

  -- a request of the raw disk is served
  pub same_served : (good : Bool) (found : Option Served) (s : Xinu) → raw_completed good (disk_of s) ≡ found → IsSound s → IsAnswered p s
      → Same s (served_in found s).state
  same_served good None s e k a = refl
  same_served good (Some x) s e k a = rests_closed (serving x s) p ∙ by_caller x.request.caller refl
    where
      by_caller : (caller : Option ℕ) → x.request.caller ≡ caller
          → (process_at (reply_kept caller x.reply (start (record (with_disk x.disk s) { memory = copied x.request.caller x.request.at x.bytes s.memory }))).state.tables p).rest
          ≡ (process_at s.tables p).rest
      by_caller None f = refl
      by_caller (Some q) f =
          let l = requesters x.disk.requests in
          let waiters : (semaphore_at s.tables 2).waiters ≡ q ∷ l =
          k.devices.disk.waiters ∙ ap requesters (serves_first good (disk_of s) x e).first ∙ ap (λ o. living o ++ l) f in
          same_kept q x.reply (start (record (with_disk x.disk s) { memory = copied x.request.caller x.request.at x.bytes s.memory })) (differs q l (ap (count_in p) (sym waiters) ∙ a.nowhere 2))

  -- calls on files take effect
  same_told : (notes : List FileNote) (d : CallState) → count_in p (told_living notes) ≡ 0
      → (process_at (all_told notes d).state.tables p).rest ≡ (process_at d.state.tables p).rest
  same_told [] d none = refl
  same_told (n ∷ notes) d none = by_note (λ x f. same_told notes x f) n.reply n.caller none
    where
      by_note : ((x : CallState) → count_in p (told_living notes) ≡ 0 → (process_at (all_told notes x).state.tables p).rest ≡ (process_at x.state.tables p).rest)
          → (reply : Option ℤ) (caller : Option ℕ)
          → count_in p (callers (λ (o : Option ℕ). o) (caller_first reply caller (callers_told notes))) ≡ 0
          → (process_at (all_told notes (told reply caller d)).state.tables p).rest ≡ (process_at d.state.tables p).rest
      by_note go None caller f = go d f
      by_note go (Some reply) None f = go d f
      by_note go (Some reply) (Some q) f =
          go (keep_reply q reply d) (later_none q (told_living notes) f) ∙ same_kept q reply d (differs q (told_living notes) f)

  pub same_completed : (calls_ : List FileRequest) (choice : ℕ) (s : Xinu) → IsSound s → IsAnswered p s → Same s (completed_in calls_ choice s).state
  same_completed [] choice s k a = refl
  same_completed (b ∷ calls_) choice s k a =
      let n = least_effects (b ∷ calls_) (files_of s) + choice in
      let x = calls_completed n (file_step s) in
      let all = k.devices.files.waiters ∙ told_and_left n (file_step s) refl in
      let parts = times-append (λ r. r == p) (told_living x.notes) (callers_waiting x.work.calls) in
      let none = ap (count_in p) (sym all) ∙ a.nowhere 3 in
      rests_closed (completing x s) p ∙ same_told x.notes (start (with_step x s)) (omega (arith, parts, none))
