-- One event: the programs run on, and their outlines hold.
use Rattle.std.proofs.Common.{Bool, List, None, Option, [], ap, arith, cond, drop, false, get_or, inl, inr, length, pos, refl, set, subst, suc, sym, take, true, zero, ℕ, ℤ, ⊎_elim, ◌%◌, ◌+◌, ◌<◌, ◌==◌, ◌∙◌, ◌∷◌, ◌≡◌, ◌≢◌, ◌≤◌, ◌⊎◌}
use Rattle.std.proofs.lemmas.Bool.{cases_lt, cond_both, eqb-false}
use Rattle.std.proofs.lemmas.List.{get_or-drop, get_or-set_other, get_or-set_same, get_or-take}
use Rattle.std.specs.Prelude.{slice_index}
use Rattle.scheduling_laws.proofs.Calling.{signalled_by, waited_by}
use Rattle.scheduling_laws.specs.Moments.{call_in}
use Rattle.scheduling_laws.specs.Tokens.{is_made}
use Rattle.table_laws.proofs.Tables.MoveTo.{by_number}
use Rattle.xinu_base.specs.declared.events.Event.{Event}
use Rattle.xinu_base.specs.declared.events.Event.TheVariants.{Disk0, Disk1, Dump, Fail0, Fail1, Key, Step, Tick, Tx}
use Rattle.xinu_base.specs.declared.lines.TranscriptLine.{TranscriptLine}
use Rattle.xinu_base.specs.declared.processes.State.TheVariants.{Sleeping, Waiting}
use Rattle.xinu_base.specs.declared.registers.Hart.{Hart}
use Rattle.xinu_laws.proofs.Preserve.Events.{state_event}
use Rattle.xinu_model.specs.Calls.{called, calls, continued}
use Rattle.xinu_base.specs.Constants.{SYSERR}
use Rattle.xinu_model.specs.Clock.{clktime, sleepms, yield}
use Rattle.xinu_model.specs.Events.{Happens, call_of, effect_of, instruction_step, is_done, made_first, next_file_call, reacted, step_with, stepped, with_executed}
use Rattle.xinu_model.specs.Files.Syscalls.{files_of}
use Rattle.xinu_model.specs.Isa.Effects.{Executed}
use Rattle.xinu_model.specs.Isa.Exec.{perform}
use Rattle.xinu_model.specs.Machine.{CallResult, EventResult, Xinu, end_of_event, no_hart, nothing_happens, refused, returns, start}
use Rattle.xinu_model.specs.Memory.{number_at, ram_size, with_number}
use Rattle.xinu_model.specs.Semaphores.Calls.{made_semaphore, semcreate, signal, wait}
use Rattle.xinu_model.specs.Process.Calls.{getpid}
use Rattle.xinu_model.specs.Semaphores.Counts.{count_of, free_semaphore, is_good}
use Rattle.xinu_model.specs.Sound.Tables.{CanRun}
use Rattle.xinu_model.specs.Tables.{is_free, process_at, semaphore_at, state_at}
use Rattle.xinu_model.specs.Words.{signed}
use Rattle.xinu_base.specs.declared.lines.TranscriptLine.TheVariants as line
use Rattle.xinu_base.specs.declared.registers.Outcome.TheVariants as outcome
use Rattle.program_logic.proofs.Answering.{Acts, Next, after_call, asked, there_are}
use Rattle.program_logic.proofs.Creates.{created}
use Rattle.program_logic.proofs.Fetching.{performed, row_there}
use Rattle.program_logic.proofs.Holders.{has_other}
use Rattle.program_logic.proofs.Idle.{nothing_left, passes}
use Rattle.program_logic.proofs.Pauses.{only_answered, slept, yielded}
use Rattle.program_logic.proofs.Ram.{kept_below, lie_below}
use Rattle.program_logic.proofs.Signals.{signalled_next}
use Rattle.program_logic.proofs.Threads.{idle_runs, lock_kept, thread_kept}
use Rattle.program_logic.proofs.Turns.{turned_same}
use Rattle.program_logic.proofs.Waits.{waited}
use Rattle.program_logic.proofs.Waking.{tick_runs}
use Rattle.program_logic.specs.Images.{Lie}
use Rattle.program_logic.specs.Obeying.{Goes, IsBehind, IsSystem, Obeys}
use Rattle.program_logic.specs.Outlines.{At, System, has, no_row, words_of}
use Rattle.program_logic.specs.Running.{AreRunning, IsThread, Runs}

-- ---- plain instructions

-- registers of the current process at its next place
record Facts (y : System) (holder : Option ℕ) (n : ℕ) (s : Xinu) : Type 0 where
  runs : Runs y holder n s
  some : 1 ≤ s.tables.current
  few : s.tables.current ≤ y.many

went : (y : System) (holder : Option ℕ) (n : ℕ) (s : Xinu) (did : Executed) → IsSystem y → Facts y holder n s
    → Goes y s.tables.current (has holder s.tables.current) n s.memory did → AreRunning y holder n (with_executed did s)
went y holder n s did ok c g =
    let p = s.tables.current in
    let v = number_at s.memory y.word 4 in
    let w = number_at did.memory y.word 4 in
    let k = c.runs.running in
    let there = (let many = c.runs.sound.harts.many in let few = c.few in let small = ok.few in get_or-set_same s.harts p did.hart no_hart (omega arith)) in
    record {
      threads = λ q some few. by_number q p (λ r. IsThread y holder n w s.tables r (get_or (set s.harts p did.hart) r no_hart))
          (subst (IsThread y holder n w s.tables p) (sym there)
          (record { place = g.next; pc = g.pc; regs = g.regs; rest = nothing_left c.runs p; stands = inl (inl c.runs.sound.tables.runs, g.holds) }))
          (λ other. thread_kept y holder holder n v n w s.tables s.tables q (get_or s.harts q no_hart) (get_or (set s.harts p did.hart) q no_hart)
          (get_or-set_other s.harts p q did.hart no_hart other) refl (λ e. (refl, word q other e)) (turned_same (process_at s.tables q)) (k.threads q some few));
      others = k.others;
      lock = lock_kept y holder n v n w s.tables s.tables refl refl (λ e. (refl, unheld e)) k.lock;
      loaded = λ q some few. loaded q some few;
      disk = k.disk;
      files = k.files;
    }
  where
    -- RAM is as it was, the guarded word was stored, or what lies behind it
    by_ram : (P : List ℕ → Type 0) → P s.memory → ((x : ℕ) → has holder s.tables.current ≡ true → P (with_number s.memory y.word 4 x))
        → ((a bytes x : ℕ) → y.word + 4 ≤ a → P (with_number s.memory a bytes x)) → P did.memory
    by_ram P same new behind = ⊎_elim (λ (e : did.memory ≡ s.memory). subst P (sym e) same)
        (⊎_elim (λ (e : (has holder s.tables.current ≡ true) × ((x : ℕ) × (did.memory ≡ with_number s.memory y.word 4 x))). subst P (sym e.1.1) (new e.1.0 e.0))
        (λ (e : IsBehind y s.memory did.memory). subst P (sym e.is) (behind e.address e.bytes e.value e.behind)))
        g.ram

    word_stays : (a bytes x : ℕ) → y.word + 4 ≤ a → number_at (with_number s.memory a bytes x) y.word 4 ≡ number_at s.memory y.word 4
    word_stays a bytes x behind =
        kept_below s.memory a bytes _ y.word behind (let all = c.runs.sound.ram.bytes in let within = ok.ram in omega (arith, all, within))

    word : (q : ℕ) → q ≢ s.tables.current → has holder q ≡ true → number_at did.memory y.word 4 ≡ number_at s.memory y.word 4
    word q other e = by_ram (λ m. number_at m y.word 4 ≡ number_at s.memory y.word 4) refl
        (λ x mine. let not = has_other holder s.tables.current q mine other in absurd (cc)) word_stays

    unheld : holder ≡ None → number_at did.memory y.word 4 ≡ number_at s.memory y.word 4
    unheld e = by_ram (λ m. number_at m y.word 4 ≡ number_at s.memory y.word 4) refl
        (λ x mine. let not : has holder s.tables.current ≡ false = subst (λ o. has o s.tables.current ≡ false) (sym e) refl in absurd (cc)) word_stays

    loaded : (q : ℕ) → 1 ≤ q → q ≤ y.many → Lie did.memory (y.first q) (words_of (y.code q))
    loaded q some few = by_ram (λ m. Lie m (y.first q) (words_of (y.code q))) (c.runs.running.loaded q some few)
        (λ x mine. lie_below s.memory y.word 4 _ (y.first q) (words_of (y.code q)) (ok.below q some few) (c.runs.running.loaded q some few))
        (λ a bytes x behind. lie_below s.memory a bytes _ (y.first q) (words_of (y.code q))
        (let below = ok.below q some few in omega (arith, below, behind)) (c.runs.running.loaded q some few))

-- ---- calls

-- the first argument of a call
first_arg : (regs : List ℕ) → slice_index (take 6 (drop 10 regs)) 0 ≡ slice_index regs 10
first_arg regs = get_or-take 6 (drop 10 regs) 0 0 (omega arith) ∙ get_or-drop 10 regs 0 0

created_by : (args : List ℕ) (s : Xinu) → called 14 args s ≡ semcreate (signed (slice_index args 0)) s
unfolding calls
created_by args s = refl

yielded_by : (args : List ℕ) (s : Xinu) → called 6 args s ≡ yield s
unfolding calls
yielded_by args s = refl

slept_by : (args : List ℕ) (s : Xinu) → called 26 args s ≡ sleepms (signed (slice_index args 0)) s
unfolding calls
slept_by args s = refl

-- calls that only answer
asked_pid : (args : List ℕ) (s : Xinu) → called 1 args s ≡ getpid s
unfolding calls
asked_pid args s = refl

asked_time : (args : List ℕ) (s : Xinu) → called 27 args s ≡ clktime s
unfolding calls
asked_time args s = refl

abbrev priority_of : ℕ → Xinu → ℤ
priority_of p s = cond (is_free (state_at s.tables p)) SYSERR (process_at s.tables p).priority

asked_priority : (args : List ℕ) (s : Xinu) → called 8 args s ≡ returns (start s) (priority_of (slice_index args 0) s)
unfolding calls
asked_priority args s = by_answer (is_free (state_at s.tables (slice_index args 0)))
  where
    by_answer : (b : Bool) → cond b (refused s) (returns (start s) (process_at s.tables (slice_index args 0)).priority)
        ≡ returns (start s) (cond b SYSERR (process_at s.tables (slice_index args 0)).priority)
    by_answer true = refl
    by_answer false = refl

abbrev count_in : ℕ → Xinu → ℤ
count_in sem s = cond (is_good sem s.tables) (count_of (semaphore_at s.tables sem)) SYSERR

asked_count : (args : List ℕ) (s : Xinu) → called 17 args s ≡ returns (start s) (count_in (slice_index args 0) s)
unfolding calls
asked_count args s = by_answer (is_good (slice_index args 0) s.tables)
  where
    by_answer : (b : Bool) → cond b (returns (start s) (count_of (semaphore_at s.tables (slice_index args 0)))) (refused s)
        ≡ returns (start s) (cond b (count_of (semaphore_at s.tables (slice_index args 0))) SYSERR)
    by_answer true = refl
    by_answer false = refl

-- a call of a number, if its line and its result are known
reacts : (y : System) (holder : Option ℕ) (n k number : ℕ) (s : Xinu) (r : List ℕ → CallResult) → IsSystem y → Acts y holder n k s
    → slice_index (get_or s.harts s.tables.current no_hart).regs 17 ≡ number
    → ((args : List ℕ) → slice_index args 0 ≡ slice_index (get_or s.harts s.tables.current no_hart).regs 10 → called number args (asked s) ≡ r args)
    → ((args : List ℕ) → slice_index args 0 ≡ slice_index (get_or s.harts s.tables.current no_hart).regs 10
    → Next y n (end_of_event s.tables.current (line.Call s.tables.current (record { number = number; args = args }) ∷ []) (r args)))
    → Next y n (reacted outcome.Call (asked s))
reacts y holder n k number s r ok c is does next =
    let p = s.tables.current in
    let h = get_or s.harts p no_hart in
    let args = take 6 (drop 10 h.regs) in
    let there = get_or-set_same s.harts p (after_call h) no_hart (there_are ok c) in
    subst (λ (g : Hart). Next y n (end_of_event p (line.Call p (call_of g) ∷ []) (called (call_of g).number (call_of g).args (asked s)))) (sym there)
    (subst (λ m. Next y n (end_of_event p (line.Call p (record { number = m; args = args }) ∷ []) (called m args (asked s)))) (sym is)
    (subst (λ x. Next y n (end_of_event p (line.Call p (record { number = number; args = args }) ∷ []) x)) (sym (does args (first_arg h.regs)))
    (next args (first_arg h.regs))))

-- an instruction whose word obeys
obeyed_next : (y : System) (holder : Option ℕ) (n k : ℕ) (s : Xinu) (did : Executed) → IsSystem y → Facts y holder n s
    → length (get_or s.harts s.tables.current no_hart).regs ≡ 32
    → Obeys y s.tables.current (has holder s.tables.current) k n (get_or s.harts s.tables.current no_hart) s.memory did
    → Next y n (reacted did.outcome (with_executed did s))
obeyed_next y holder n k s did ok c regs (inl g) =
    subst (λ o. Next y n (reacted o (with_executed did s))) (sym g.outcome)
    (record { holder = holder; count = n; is = omega arith; running = went y holder n s did ok c g; calm = refl })
obeyed_next y holder n k s did ok c regs (inr (inl w)) =
    let acts : Acts y holder n k s = record { runs = c.runs; some = c.some; few = c.few; next = w.asks.pc; regs = regs } in
    subst (λ d. Next y n (reacted d.outcome (with_executed d s))) (sym w.asks.does)
    (reacts y holder n k 18 s (λ args. wait y.sem (asked s)) ok acts w.number (λ args e. waited_by args (asked s) ∙ ap (λ i. wait i (asked s)) (e ∙ w.sem))
    (λ args e. waited ok acts args w.outside w.granted w.refused))
obeyed_next y holder n k s did ok c regs (inr (inr (inl w))) =
    let acts : Acts y holder n k s = record { runs = c.runs; some = c.some; few = c.few; next = w.asks.pc; regs = regs } in
    subst (λ d. Next y n (reacted d.outcome (with_executed d s))) (sym w.asks.does)
    (reacts y holder n k 19 s (λ args. signal y.sem (asked s)) ok acts w.number (λ args e. signalled_by args (asked s) ∙ ap (λ i. signal i (asked s)) (e ∙ w.sem))
    (λ args e. signalled_next ok acts args w.inside (e ∙ w.sem) w.rule (w.after (n + 1) (number_at s.memory y.word 4))))
obeyed_next y holder n k s did ok c regs (inr (inr (inr (inl w)))) =
    let acts : Acts y holder n k s = record { runs = c.runs; some = c.some; few = c.few; next = w.asks.pc; regs = regs } in
    subst (λ d. Next y n (reacted d.outcome (with_executed d s))) (sym w.asks.does)
    (reacts y holder n k 14 s (λ args. made_semaphore 1 (free_semaphore s.tables) (asked s)) ok acts w.number
    (λ args e. created_by args (asked s) ∙ ap (λ i. semcreate (signed i) (asked s)) (e ∙ w.count)) (λ args e. created ok acts args w.outside w.after))
obeyed_next y holder n k s did ok c regs (inr (inr (inr (inr (inl w))))) =
    let acts : Acts y holder n k s = record { runs = c.runs; some = c.some; few = c.few; next = w.asks.pc; regs = regs } in
    subst (λ d. Next y n (reacted d.outcome (with_executed d s))) (sym w.asks.does)
    (⊎_elim
    (λ (e : slice_index (get_or s.harts s.tables.current no_hart).regs 17 ≡ 6).
    reacts y holder n k 6 s (λ args. yield (asked s)) ok acts e (λ args f. yielded_by args (asked s)) (λ args f. yielded ok acts args w.after))
    (λ (e : (slice_index (get_or s.harts s.tables.current no_hart).regs 17 ≡ 26) × ((m : ℕ) × (signed (slice_index (get_or s.harts s.tables.current no_hart).regs 10) ≡ pos (suc m)))).
    reacts y holder n k 26 s (λ args. sleepms (pos (suc e.1.0)) (asked s)) ok acts e.0
    (λ args f. slept_by args (asked s) ∙ ap (λ i. sleepms (signed i) (asked s)) f ∙ ap (λ i. sleepms i (asked s)) e.1.1)
    (λ args f. slept ok acts args e.1.0 w.after))
    w.number)
obeyed_next y holder n k s did ok c regs (inr (inr (inr (inr (inr w))))) =
    let acts : Acts y holder n k s = record { runs = c.runs; some = c.some; few = c.few; next = w.asks.pc; regs = regs } in
    subst (λ d. Next y n (reacted d.outcome (with_executed d s))) (sym w.asks.does)
    (by acts w.number)
  where
    h : Hart
    h = get_or s.harts s.tables.current no_hart

    by : Acts y holder n k s → (slice_index h.regs 17 ≡ 1) ⊎ ((slice_index h.regs 17 ≡ 8) ⊎ ((slice_index h.regs 17 ≡ 17) ⊎ (slice_index h.regs 17 ≡ 27)))
        → Next y n (reacted outcome.Call (asked s))
    by acts (inl e) =
        reacts y holder n k 1 s (λ args. getpid (asked s)) ok acts e (λ args f. asked_pid args (asked s)) (λ args f. only_answered ok acts 1 args _ refl w.after)
    by acts (inr (inl e)) =
        reacts y holder n k 8 s (λ args. returns (start (asked s)) (priority_of (slice_index h.regs 10) (asked s))) ok acts e
        (λ args f. asked_priority args (asked s) ∙ ap (λ i. returns (start (asked s)) (priority_of i (asked s))) f) (λ args f. only_answered ok acts 8 args _ refl w.after)
    by acts (inr (inr (inl e))) =
        reacts y holder n k 17 s (λ args. returns (start (asked s)) (count_in (slice_index h.regs 10) (asked s))) ok acts e
        (λ args f. asked_count args (asked s) ∙ ap (λ i. returns (start (asked s)) (count_in i (asked s))) f) (λ args f. only_answered ok acts 17 args _ refl w.after)
    by acts (inr (inr (inr e))) =
        reacts y holder n k 27 s (λ args. clktime (asked s)) ok acts e (λ args f. asked_time args (asked s)) (λ args f. only_answered ok acts 27 args _ refl w.after)

-- ---- a step

instruction_next : (y : System) (holder : Option ℕ) (n : ℕ) (s : Xinu) → IsSystem y → Runs y holder n s → s.tables.current ≢ 0 → Next y n (instruction_step s)
instruction_next y holder n s ok k busy =
    let p = s.tables.current in
    let some : 1 ≤ p = omega (arith, busy) in
    let few : p ≤ y.many = ⊎_elim (λ (m : y.many < p). let f = k.running.others p m in let r = k.sound.tables.runs in absurd (cc)) (λ (m : p ≤ y.many). m) (cases_lt y.many p) in
    by_stand some few (k.running.threads p some few)
  where
    by_stand : 1 ≤ s.tables.current → s.tables.current ≤ y.many
        → IsThread y holder n (number_at s.memory y.word 4) s.tables s.tables.current (get_or s.harts s.tables.current no_hart) → Next y n (instruction_step s)
    by_stand some few th = ⊎_elim
        (λ (r : CanRun (state_at s.tables s.tables.current) × At y s.tables.current (has holder s.tables.current) th.place n (number_at s.memory y.word 4) (get_or s.harts s.tables.current no_hart).regs).
        let p = s.tables.current in
        let h = get_or s.harts p no_hart in
        let b = has holder p in
        let row = row_there y p 0 th.place s.memory (y.first p) h.pc th.place (y.code p) b n (number_at s.memory y.word 4) h.regs th.pc (omega arith) (k.running.loaded p some few)
        (ok.each p some few) r.1 in
        let w = (get_or (y.code p) th.place no_row).word in
        let whole : h.pc % 4 ≡ 0 = (let a = ok.whole p some few in let e = th.pc in omega arith) in
        let inside : h.pc + 4 ≤ ram_size = (let a = ok.below p some few in let e = th.pc in let l = row.inside in let m = ok.ram in omega arith) in
        let is = performed h s.memory w whole inside row.word in
        subst (λ d. Next y n (reacted d.outcome (with_executed d s))) (sym is)
        (obeyed_next y holder n th.place s (perform w h s.memory) ok (record { runs = k; some = some; few = few }) th.regs
        (row.obeys.obeys b n h s.memory th.pc th.regs k.sound.ram.bytes r.1)))
        (⊎_elim (λ (r : (state_at s.tables s.tables.current ≡ Waiting) × _).
        let w = r.0 in let c = k.sound.tables.runs in absurd (cc))
        (λ (r : (state_at s.tables s.tables.current ≡ Sleeping) × At y s.tables.current (has holder s.tables.current) th.place n (number_at s.memory y.word 4) (set (get_or s.harts s.tables.current no_hart).regs 10 0)).
        let w = r.0 in let c = k.sound.tables.runs in absurd (cc)))
        th.stands

stepped_next : (y : System) (holder : Option ℕ) (n : ℕ) (s : Xinu) → IsSystem y → Runs y holder n s → Next y n (stepped s)
stepped_next y holder n s ok k =
    let p = s.tables.current in
    let left = (process_at s.tables p).rest in
    cond_both (p == 0) (nothing_happens s) (cond (is_done left) (instruction_step s) (end_of_event p [] (continued left s))) (Next y n)
    (λ _. record { holder = holder; count = n; is = omega arith; running = k.running; calm = refl })
    (λ e. subst (λ r. Next y n (cond (is_done r) (instruction_step s) (end_of_event p [] (continued r s)))) (sym (nothing_left k p))
    (instruction_next y holder n s ok k (eqb-false p 0 e)))

-- ---- events

-- What comes of an event, whatever is chosen in it.
pub record Comes (y : System) (n : ℕ) (e : Event) (x : EventResult) : Type 0 where
  pub holder : Option ℕ
  pub count : ℕ
  pub is : count ≡ n + (cond (is_made 19 y.sem (call_in e x.lines)) 1 0)
  pub running : AreRunning y holder count x.state
  pub calm : x.panics ≡ false

no_file_call : (y : System) (holder : Option ℕ) (n : ℕ) (s : Xinu) → IsSystem y → Runs y holder n s → next_file_call s ≡ None
unfolding next_file_call
no_file_call y holder n s ok k =
    let next = stepped_next y holder n s ok k in
    ap (λ l. made_first s.tables.current l (files_of (stepped s).state).calls) k.running.files ∙ ap (λ l. made_first s.tables.current [] l) next.running.files

step_same : (choice : ℕ) (s : Xinu) → step_with choice None s ≡ stepped s
step_same zero s = refl
step_same (suc choice) s = refl

step_comes : (y : System) (holder : Option ℕ) (n choice : ℕ) (s : Xinu) → IsSystem y → Runs y holder n s → Comes y n Step (step_with choice (next_file_call s) s)
step_comes y holder n choice s ok k =
    let next = stepped_next y holder n s ok k in
    subst (Comes y n Step) (sym (ap (λ o. step_with choice o s) (no_file_call y holder n s ok k) ∙ step_same choice s))
    (record { holder = next.holder; count = next.count; is = next.is; running = next.running; calm = next.calm })

other_comes : (y : System) (holder : Option ℕ) (n : ℕ) (e : Event) (choice : ℕ) (s : Xinu) → IsSystem y → Runs y holder n s → e ≢ Step → e ≢ Tick
    → call_in e (effect_of s e choice).lines ≡ None → Comes y n e (effect_of s e choice)
other_comes y holder n e choice s ok k other off none =
    let x = passes e choice s k other off in record {
      holder = holder;
      count = n;
      is = (let f : cond (is_made 19 y.sem (call_in e (effect_of s e choice).lines)) 1 0 ≡ 0 = ap {B = ℕ} (λ o. cond (is_made 19 y.sem o) 1 0) none in omega (arith, f));
      running = idle_runs y holder n s (effect_of s e choice).state ok.no_device x.idle k.running;
      calm = x.calm;
    }

event_comes : (y : System) (holder : Option ℕ) (n : ℕ) (e : Event) (choice : ℕ) (s : Xinu) → IsSystem y → Runs y holder n s → Comes y n e (effect_of s e choice)
event_comes y holder n Step choice s ok k = step_comes y holder n choice s ok k
event_comes y holder n Tick choice s ok k = record { holder = holder; count = n; is = omega arith; running = tick_runs y holder n s ok.no_device ok.few k; calm = refl }
event_comes y holder n (Key b) choice s ok k = other_comes y holder n (Key b) choice s ok k (λ e. absurd (cc)) (λ e. absurd (cc)) refl
event_comes y holder n Tx choice s ok k = other_comes y holder n Tx choice s ok k (λ e. absurd (cc)) (λ e. absurd (cc)) refl
event_comes y holder n Disk0 choice s ok k = other_comes y holder n Disk0 choice s ok k (λ e. absurd (cc)) (λ e. absurd (cc)) refl
event_comes y holder n Disk1 choice s ok k = other_comes y holder n Disk1 choice s ok k (λ e. absurd (cc)) (λ e. absurd (cc)) refl
event_comes y holder n Fail0 choice s ok k = other_comes y holder n Fail0 choice s ok k (λ e. absurd (cc)) (λ e. absurd (cc)) refl
event_comes y holder n Fail1 choice s ok k = other_comes y holder n Fail1 choice s ok k (λ e. absurd (cc)) (λ e. absurd (cc)) refl
event_comes y holder n Dump choice s ok k = other_comes y holder n Dump choice s ok k (λ e. absurd (cc)) (λ e. absurd (cc)) refl

-- After an event the programs run on: who has the token, how often it was given back, and the state.
pub record RunsOn (y : System) (n : ℕ) (e : Event) (lines : List TranscriptLine) (new : Xinu) : Type 0 where
  pub holder : Option ℕ
  pub count : ℕ
  pub is : count ≡ n + (cond (is_made 19 y.sem (call_in e lines)) 1 0)
  pub runs : Runs y holder count new

pub event_runs : (y : System) (holder : Option ℕ) (n : ℕ) (old : Xinu) (e : Event) (lines : List TranscriptLine) (new : Xinu) → IsSystem y → Runs y holder n old
    → Happens old e lines new → RunsOn y n e lines new
event_runs y holder n old e lines new ok k h =
    subst (λ (x : EventResult). RunsOn y n e x.lines x.state) h.effect
    (let c = event_comes y holder n e h.choice old ok k in
    record { holder = c.holder; count = c.count; is = c.is; runs = record { sound = state_event old e h.choice k.sound; running = c.running } })

-- The kernel doesn't panic.
pub event_calm : (y : System) (holder : Option ℕ) (n : ℕ) (s : Xinu) (e : Event) → IsSystem y → Runs y holder n s → (effect_of s e 0).panics ≡ false
event_calm y holder n s e ok k = (event_comes y holder n e 0 s ok k).calm
