-- Who is stuck stays so: no event moves a process.
use Rattle.std.proofs.Common.{◌≡◌, ◌≢◌, ⊎_elim, ℕ, zero, suc, ◌+◌, ◌-◌, ◌<◌, ◌==◌, ◌||◌, Bool, true, false, cond, List, [], ◌∷◌, ◌++◌, length, map, take, Option, Some, None, refl, sym, ap, subst, ◌∙◌, arith, ℤ}
use Rattle.std.specs.Prelude.{nat_lt, drop, slice_index_or}
use Rattle.std.specs.List.{list_all}
use Rattle.std.proofs.Math.Seq.{take-nil}
use Rattle.std.proofs.lemmas.Bool.{cond_both, cond-true, cases_eq, eq-eqb}
use Rattle.xinu_base.specs.declared.events.End.{End}
use Rattle.xinu_base.specs.declared.events.End.TheVariants.{Schedule}
use Rattle.xinu_base.specs.declared.events.Event.{Event}
use Rattle.xinu_base.specs.declared.events.Event.TheVariants.{Step, Tick, Key, Tx, Disk0, Disk1, Fail0}
use Rattle.xinu_base.specs.declared.lines.TranscriptLine.{TranscriptLine}
use Rattle.xinu_base.specs.declared.lines.TranscriptLine.TheVariants as line
use Rattle.xinu_base.specs.declared.processes.Process.{Process}
use Rattle.xinu_base.specs.declared.processes.State.{State}
use Rattle.xinu_base.specs.declared.processes.State.TheVariants.{Free, Current, Ready, Receiving, Sleeping, Suspended, Waiting, Timed}
use Rattle.xinu_model.specs.Calls.{continued}
use Rattle.xinu_model.specs.Clock.{a_tick_later, due, quantum_falls, ticked}
use Rattle.xinu_model.specs.Console.Receiving.{received}
use Rattle.xinu_model.specs.Console.Signals.{after_sent, committed, keyed, sent_in}
use Rattle.xinu_model.specs.Console.Taking.{console_of, with_console}
use Rattle.xinu_model.specs.Console.Transmitting.{Sent, transmitted}
use Rattle.xinu_model.specs.Events.{effect_of, instruction_step, is_done, next_file_call, panics_in, step_with, stepped, Happens}
use Rattle.xinu_model.specs.Files.Syscalls.{after_step, all_told, completed_in, file_line, file_step, files_of, told, with_step}
use Rattle.xinu_model.specs.Files.Work.{calls_completed, callers_waiting, copied, FileNote, FileRequest, least_effects}
use Rattle.xinu_model.specs.Machine.{Xinu, Silent, CallState, EventResult, closed, end_of_event, event_result, nothing_happens, start, unblock_all, with_replies, with_tables}
use Rattle.xinu_model.specs.Process.Scheduling.{resched, dispatch_first, keeps_cpu, preempt}
use Rattle.xinu_model.specs.RawDisk.Callers.{callers, living}
use Rattle.xinu_model.specs.RawDisk.Calls.{disk_of, reply_kept, served_in, with_disk}
use Rattle.xinu_model.specs.RawDisk.Completions.{raw_completed, Served}
use Rattle.xinu_model.specs.RawDisk.Requests.{requesters}
use Rattle.xinu_model.specs.Runs.{end_with, is_over, Follows, RunsTo}
use Rattle.xinu_model.specs.Semaphores.Counts.{with_tokens}
use Rattle.xinu_model.specs.Semaphores.Waiting.{signal_first, signalled, signalled_times}
use Rattle.xinu_model.specs.Sound.State.{IsSound}
use Rattle.xinu_model.specs.Sound.Tables.{entries_of, ready_places, sleeping_places, IsSoundTables}
use Rattle.xinu_model.specs.Tables.{no_process, Tables, is_free, process_at, semaphore_at, state_at}
use Rattle.part_laws.proofs.RawDisks.Served.{serves_first}
use Rattle.part_laws.specs.FileWork.{caller_first, callers_told}
use Rattle.table_laws.proofs.Lists.Counts.{first_has_entry}
use Rattle.xinu_laws.proofs.FileSyscalls.AtOnce.{not_null_makes}
use Rattle.xinu_laws.proofs.FileSyscalls.Completed.{told_living, told_and_left}
use Rattle.xinu_laws.proofs.Preserve.Events.{sound_happens}
use Rattle.xinu_laws.proofs.RawDisks.Framed.{disks_in}
use Rattle.scheduling_laws.specs.Stuck.{is_held, IsStuck, IsUnmoved}
use Rattle.scheduling_laws.proofs.Waiters.{waiters_given}

-- who is held is neither ready nor asleep, nor does it run
held_unready : (s : State) → is_held s ≡ true → ready_places s ≡ 0
held_unready Free h = refl
held_unready Suspended h = refl
held_unready Receiving h = refl
held_unready Waiting h = refl
held_unready Ready h = cc
held_unready Current h = cc
held_unready Sleeping h = cc
held_unready Timed h = cc

held_awake : (s : State) → is_held s ≡ true → sleeping_places s ≡ 0
held_awake Free h = refl
held_awake Suspended h = refl
held_awake Receiving h = refl
held_awake Waiting h = refl
held_awake Ready h = cc
held_awake Current h = cc
held_awake Sleeping h = cc
held_awake Timed h = cc

-- a list without entries
no_entries : {K : Type 0} (l : List (ℕ × K)) → ((p : ℕ) → entries_of p l ≡ 0) → l ≡ []
no_entries [] h = refl
no_entries (e ∷ es) h = let some = first_has_entry e es in let none = h e.0 in absurd (omega arith)

-- In stuck tables the null process runs, nobody is ready and nobody sleeps.
null_runs : (t : Tables) → IsSoundTables t → IsStuck t → t.current ≡ 0
null_runs t k z =
    ⊎_elim (λ (e : t.current ≡ 0). e) (λ (n : t.current ≢ 0). let h = z.held t.current n in let g = ap is_held k.runs in absurd (cc))
    (cases_eq t.current 0)

runs_at : (t : Tables) → IsSoundTables t → t.current ≡ 0 → state_at t 0 ≡ Current
runs_at t k e = subst (λ p. state_at t p ≡ Current) e k.runs

none_ready : (t : Tables) → IsSoundTables t → IsStuck t → t.ready ≡ []
none_ready t k z = no_entries t.ready (λ p. ⊎_elim
    (λ (e : p ≡ 0). subst (λ q. entries_of q t.ready ≡ 0) (sym e) (k.inside.ready 0 ∙ ap ready_places (runs_at t k (null_runs t k z))))
    (λ (n : p ≢ 0). k.inside.ready p ∙ held_unready (state_at t p) (z.held p n))
    (cases_eq p 0))

none_sleeps : (t : Tables) → IsSoundTables t → IsStuck t → t.sleepers ≡ []
none_sleeps t k z = no_entries t.sleepers (λ p. ⊎_elim
    (λ (e : p ≡ 0). subst (λ q. entries_of q t.sleepers ≡ 0) (sym e) (k.inside.sleeping 0 ∙ ap sleeping_places (runs_at t k (null_runs t k z))))
    (λ (n : p ≢ 0). k.inside.sleeping p ∙ held_awake (state_at t p) (z.held p n))
    (cases_eq p 0))

module _ (s : Xinu) where
  -- Nothing of a process has changed, and nobody waits for a device.
  pub record IsQuiet (x : Xinu) : Type 0 where
    pub current : x.tables.current ≡ s.tables.current
    pub processes : x.tables.processes ≡ s.tables.processes
    pub messages : x.tables.messages ≡ s.tables.messages
    pub harts : x.harts ≡ s.harts
    pub devices : (sem : ℕ) → sem < 4 → (semaphore_at x.tables sem).waiters ≡ []

  -- the same inside an event in which nobody was released
  pub record IsCalm (d : CallState) : Type 0 where
    pub state : IsQuiet d.state
    pub released : d.released ≡ []
    pub owes : d.owes_resched ≡ false

  -- and after an event without a panic
  abbrev IsOver : EventResult → Type 0
  IsOver r = (r.panics ≡ false) × IsQuiet r.state

  -- the end of an event
  over_calm : (was : ℕ) (first : List TranscriptLine) (d : CallState) → IsCalm d
      → IsOver (end_of_event was first (record { call = d; answer = Silent }))
  over_calm was first d c =
      let u = d.state.tables in
      let same : closed (record { call = d; answer = Silent }) ≡ u = ap (λ b. cond (b || false) (resched u) u) c.owes in (
        refl,
        record {
          current = ap (λ (t : Tables). t.current) same ∙ c.state.current;
          processes = ap (λ (t : Tables). t.processes) same ∙ c.state.processes;
          messages = ap (λ (t : Tables). t.messages) same ∙ c.state.messages;
          harts = ap (λ l. with_replies l d.state.harts) c.released ∙ c.state.harts;
          devices = λ sem few. ap (λ (t : Tables). (semaphore_at t sem).waiters) same ∙ c.state.devices sem few;
        },
      )

  -- a semaphore gets other tokens
  calm_tokens : (sem n : ℕ) (d : CallState) → IsCalm d → IsCalm (with_tables (with_tokens sem n d.state.tables) d)
  calm_tokens sem n d c = record {
    state = record {
      current = c.state.current;
      processes = c.state.processes;
      messages = c.state.messages;
      harts = c.state.harts;
      devices = λ r few. waiters_given (λ l. l ≡ []) d.state.tables sem r (record (semaphore_at d.state.tables sem) { tokens = n })
          (λ e. subst (λ i. (semaphore_at d.state.tables i).waiters ≡ []) (sym e) (c.state.devices r few)) (c.state.devices r few);
    };
    released = c.released;
    owes = c.owes;
  }

  -- signals of a device
  calm_signalled : (sem : ℕ) (d : CallState) → sem < 4 → IsCalm d → IsCalm (signalled sem d)
  calm_signalled sem d few c =
      subst (λ l. IsCalm (signal_first sem l d)) (sym (c.state.devices sem few)) (calm_tokens sem ((semaphore_at d.state.tables sem).tokens + 1) d c)

  calm_signalled_times : (sem n : ℕ) (d : CallState) → sem < 4 → IsCalm d → IsCalm (signalled_times sem n d)
  calm_signalled_times sem n d few c =
      let x = semaphore_at d.state.tables sem in
      let none : take n x.waiters ≡ [] = ap (take n) (c.state.devices sem few) ∙ take-nil n in
      let after : IsCalm (unblock_all (take n x.waiters) d) = subst (λ l. IsCalm (unblock_all l d)) (sym none) c in
      calm_tokens sem (x.tokens + (n - length x.waiters)) (unblock_all (take n x.waiters) d) after

  -- nobody is answered by a disk
  no_caller : (o : Option ℕ) (l : List ℕ) → [] ≡ living o ++ l → o ≡ None
  no_caller None l e = refl
  no_caller (Some p) l e = cc

  calm_told : (notes : List FileNote) (l : List ℕ) (d : CallState) → [] ≡ told_living notes ++ l → IsCalm d → IsCalm (all_told notes d)
  calm_told [] l d e c = c
  calm_told (n ∷ notes) l d e c = by_note (λ f. calm_told notes l d f c) n.reply n.caller e
    where
      by_note : ([] ≡ told_living notes ++ l → IsCalm (all_told notes d)) → (reply : Option ℤ) (caller : Option ℕ)
          → [] ≡ callers (λ (o : Option ℕ). o) (caller_first reply caller (callers_told notes)) ++ l
          → IsCalm (all_told notes (told reply caller d))
      by_note go None caller e = go e
      by_note go (Some reply) None e = go e
      by_note go (Some reply) (Some p) e = cc

  module _ (k : IsSound s) (z : IsStuck s.tables) where
    -- as an event begins
    quiet : IsQuiet s
    quiet = record { current = refl; processes = refl; messages = refl; harts = refl; devices = z.devices }

    calm : (x : Xinu) → IsQuiet x → IsCalm (start x)
    calm x q = record { state = q; released = refl; owes = refl }

    -- nothing happens
    over_still : IsOver (nothing_happens s)
    over_still = (refl, quiet)

    -- a step
    over_stepped : IsOver (stepped s)
    over_stepped =
        let left = (process_at s.tables s.tables.current).rest in
        subst IsOver
        (sym (cond-true (s.tables.current == 0) (nothing_happens s)
        (cond (is_done left) (instruction_step s) (end_of_event s.tables.current [] (continued left s)))
        (eq-eqb s.tables.current 0 (null_runs s.tables k.tables z))))
        over_still

    over_step : (choice : ℕ) (found : Option FileRequest) → next_file_call s ≡ found → IsOver (step_with choice found s)
    over_step zero found e = over_stepped
    over_step (suc choice) None e = over_stepped
    over_step (suc choice) (Some a) e = absurd (not_null_makes s a e (null_runs s.tables k.tables z))

    -- a resched if nobody is ready
    resched_alone : (t : Tables) → t.ready ≡ [] → resched t ≡ t
    resched_alone t e = ap (λ l. cond (keeps_cpu l t) t (dispatch_first (preempt t).ready (preempt t))) e

    -- a tick
    over_ticked : IsOver (ticked s)
    over_ticked =
        let t = s.tables in
        let later = record t { ticks = t.ticks + 1 } in
        let whole = record later { quantum = 2 } in
        let none : due (t.ticks + 1) t.sleepers ≡ [] = ap (due (t.ticks + 1)) (none_sleeps t k.tables z) in
        let after = λ (d : CallState). event_result t.current [] d.released (quantum_falls (a_tick_later d.owes_resched d.state.tables)) d.state false in
        subst (λ l. IsOver (after (unblock_all l (start s)))) (sym none) (
          refl,
          cond_both (nat_lt 1 later.quantum) (record later { quantum = later.quantum - 1 }) (resched whole)
              (λ u. IsQuiet (record s { tables = u }))
              (λ _. record { current = refl; processes = refl; messages = refl; harts = refl; devices = z.devices })
              (λ _. subst (λ u. IsQuiet (record s { tables = u })) (sym (resched_alone whole (none_ready t k.tables z)))
              (record { current = refl; processes = refl; messages = refl; harts = refl; devices = z.devices })),
        )

    -- a received character
    over_keyed : (c : ℕ) → IsOver (keyed c s)
    over_keyed c =
        let m = received c (console_of s) in
        over_calm s.tables.current [] (committed m (start s))
        (calm_signalled_times 0 m.count (record (start s) { state = with_console m.console s }) (omega arith)
        (calm (with_console m.console s) (record { current = refl; processes = refl; messages = refl; harts = refl; devices = z.devices })))

    -- a byte that is sent
    over_sent : (found : Option Sent) → IsOver (sent_in found s)
    over_sent None = over_still
    over_sent (Some sent) =
        let u = with_console sent.console s in
        let c = calm u (record { current = refl; processes = refl; messages = refl; harts = refl; devices = z.devices }) in
        over_calm s.tables.current (line.Con sent.byte ∷ []) (after_sent sent s)
        (cond_both sent.is_output (signalled 1 (start u)) (start u) IsCalm (λ _. calm_signalled 1 (start u) (omega arith) c) (λ _. c))

    -- a request is served
    over_served : (good : Bool) (found : Option Served) → raw_completed good (disk_of s) ≡ found → IsOver (served_in found s)
    over_served good None e = over_still
    over_served good (Some x) e =
        let f = serves_first good (disk_of s) x e in
        let u = record (with_disk x.disk s) { memory = copied x.request.caller x.request.at x.bytes s.memory } in
        let c = calm u (record { current = refl; processes = refl; messages = refl; harts = refl; devices = z.devices }) in
        let none : x.request.caller ≡ None =
        no_caller x.request.caller (requesters x.disk.requests)
        (sym (z.devices 2 (omega arith)) ∙ (disks_in k.devices).raw.waiters ∙ ap requesters f.first) in
        over_calm s.tables.current [] (reply_kept x.request.caller x.reply (start u))
        (subst (λ o. IsCalm (reply_kept o x.reply (start u))) (sym none) c)

    -- a good completion of the files' disk
    over_completed : (calls : List FileRequest) (choice : ℕ) → (files_of s).calls ≡ calls → IsOver (completed_in calls choice s)
    over_completed [] choice e = over_still
    over_completed (a ∷ calls) choice e =
        let n = least_effects (a ∷ calls) (files_of s) + choice in
        let x = calls_completed n (file_step s) in
        over_calm s.tables.current (map file_line x.notes) (after_step x s)
        (calm_told x.notes (callers_waiting x.work.calls) (start (with_step x s))
        (sym (z.devices 3 (omega arith)) ∙ (disks_in k.devices).files.waiters ∙ told_and_left n (file_step s) refl)
        (calm (with_step x s) (record { current = refl; processes = refl; messages = refl; harts = refl; devices = z.devices })))

    -- Each event, whatever is chosen in it.
    over_event : (e : Event) (choice : ℕ) → IsOver (effect_of s e choice)
    over_event Step choice = over_step choice (next_file_call s) refl
    over_event Tick choice = over_ticked
    over_event (Key c) choice = over_keyed c
    over_event Tx choice = over_sent (transmitted (console_of s))
    over_event Disk0 choice = over_served true (raw_completed true (disk_of s)) refl
    over_event Fail0 choice = over_served false (raw_completed false (disk_of s)) refl
    over_event Disk1 choice = over_completed (files_of s).calls choice refl
    over_event _ choice = over_still

-- So an event leaves stuck what was, and the run goes on.
stuck_happens : (old : Xinu) (e : Event) (lines : List TranscriptLine) (new : Xinu) → IsSound old → IsStuck old.tables → Happens old e lines new
    → (end_with (panics_in old e) (is_over new) ≡ None) × IsUnmoved old new × IsStuck new.tables
stuck_happens old e lines new k z h =
    let q : IsQuiet old new = subst (λ (r : EventResult). IsQuiet old r.state) h.effect (over_event old k z e h.choice).1 in
    let calm : panics_in old e ≡ false = (over_event old k z e 0).0 in
    let alive : is_over new ≡ false = ap (λ ps. list_all (λ (p : Process). is_free p.state) (drop 1 ps)) q.processes ∙ z.somebody in (
      ap (λ b. end_with b (is_over new)) calm ∙ ap (end_with false) alive,
      record { current = q.current ∙ null_runs old.tables k.tables z; processes = q.processes; messages = q.messages; harts = q.harts },
      record {
        somebody = alive;
        held = λ p n. ap (λ ps. is_held (slice_index_or ps p no_process).state) q.processes ∙ z.held p n;
        devices = q.devices;
      },
    )

unmoved_after : (old mid new : Xinu) → IsUnmoved old mid → IsUnmoved mid new → IsUnmoved old new
unmoved_after old mid new a b = record {
  current = b.current;
  processes = b.processes ∙ a.processes;
  messages = b.messages ∙ a.messages;
  harts = b.harts ∙ a.harts;
}

-- Each run goes on to the end of its schedule.
pub stuck_stays : (events : List Event) (old : Xinu) (lines : List TranscriptLine) (new : Xinu) (end : End) → IsSound old → IsStuck old.tables
    → RunsTo old events lines new end → (end ≡ Schedule) × (IsUnmoved old new × IsStuck new.tables)
stuck_stays [] old lines new end k z r = (
  r.2,
  subst (λ x. IsUnmoved old x × IsStuck x.tables) (sym r.1)
      (record { current = null_runs old.tables k.tables z; processes = refl; messages = refl; harts = refl }, z),
)
stuck_stays (e ∷ events) old lines new end k z r =
    let mid = r.0 in
    let one = stuck_happens old e r.1 mid k z r.2 in
    let goes : Follows None (λ rest. RunsTo mid events rest new end) r.1 lines mid new end =
    subst (λ how. Follows how (λ rest. RunsTo mid events rest new end) r.1 lines mid new end) one.0 r.3 in
    let rest = stuck_stays events mid goes.0 new end (sound_happens old e r.1 mid k r.2) one.2 goes.1 in
    (rest.0, (unmoved_after old mid new one.1 rest.1.0, rest.1.1))
