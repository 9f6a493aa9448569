-- One event: the programs run on, and all that is said of their places holds.
use Rattle.std.proofs.Common.{false, ◌≡◌, ◌≢◌, ◌∙◌, refl, sym, ap, subst, arith, ℕ, suc, zero, ◌+◌, ◌%◌, ◌^◌, ◌==◌, List, [], get_or, cond, None}
use Rattle.std.proofs.lemmas.Bool.{cond_both, eqb-false}
use Rattle.scheduling_laws.specs.Moments.{call_in}
use Rattle.scheduling_laws.specs.Tokens.{is_made}
use Rattle.xinu_base.specs.declared.events.Event.{Event}
use Rattle.xinu_base.specs.declared.events.Event.TheVariants.{Disk0, Disk1, Dump, Fail0, Fail1, Key, Step, Tick, Tx}
use Rattle.xinu_base.specs.declared.lines.TranscriptLine.{TranscriptLine}
use Rattle.xinu_base.specs.declared.processes.State.TheVariants.{Current}
use Rattle.xinu_laws.proofs.Preserve.Events.{state_event}
use Rattle.xinu_model.specs.Calls.{continued}
use Rattle.xinu_model.specs.Events.{Happens, effect_of, instruction_step, is_done, made_first, next_file_call, reacted, step_with, stepped, with_executed}
use Rattle.xinu_model.specs.Files.Syscalls.{files_of}
use Rattle.xinu_model.specs.Isa.Exec.{exec}
use Rattle.xinu_model.specs.Machine.{EventResult, Xinu, end_of_event, no_hart, nothing_happens}
use Rattle.xinu_model.specs.Memory.{number_at}
use Rattle.xinu_model.specs.Tables.{process_at, state_at}
use Rattle.program_logic.proofs.Idle.{nothing_left, passes}
use Rattle.bounded_buffer.proofs.Acting.{Next, consumer_next, obeys_at, producer_next}
use Rattle.bounded_buffer.proofs.Idle.{bystanding, idle_runs, tick_idle}
use Rattle.bounded_buffer.proofs.Obeying.{held}
use Rattle.bounded_buffer.proofs.Programs.{consumer_obeys, producer_obeys}
use Rattle.bounded_buffer.proofs.Running.{AreRunning, Runs}
use Rattle.bounded_buffer.specs.Buffer.{code, slot_of}
use Rattle.bounded_buffer.specs.Places.{Holding, Phase}

module _ {f g : Phase} {i j : ℕ} {s : Xinu} (r : Runs f g i j s) where
  -- an instruction of the current process
  instruction_next : s.tables.current ≢ 0 → Next i j (instruction_step s)
  instruction_next busy = by s.tables.current refl
    where
      after : (p : ℕ) → Type 0
      after p = Next i j (reacted (exec (get_or s.harts p no_hart) s.memory).outcome (with_executed (exec (get_or s.harts p no_hart) s.memory) s))

      -- a token of `items` says that the item is in its slot
      item : (p : ℕ) → p ≡ 2 → g ≡ Holding → number_at s.memory (slot_of j) 4 ≡ j % 2 ^ 32
      item p two holding =
          let token : held g ≡ 1 = ap held holding in
          let their_sum = r.running.pair.their_sum in
          r.running.items j (omega arith) (omega arith)

      by : (p : ℕ) → s.tables.current ≡ p → Next i j (instruction_step s)
      by zero is = absurd (busy is)
      by (suc zero) is =
          let runs : state_at s.tables 1 ≡ Current = subst (λ p. state_at s.tables p ≡ Current) is r.sound.tables.runs in
          let o = obeys_at 1 f i s (code 1) refl producer_obeys refl (omega arith) (λ two. absurd (omega (arith, two))) r.running.pair.mine runs (r.running.loaded 1 (omega arith) (omega arith)) in
          subst after (sym is) (producer_next r o.0 (exec (get_or s.harts 1 no_hart) s.memory) is o.1)
      by (suc (suc zero)) is =
          let runs : state_at s.tables 2 ≡ Current = subst (λ p. state_at s.tables p ≡ Current) is r.sound.tables.runs in
          let o = obeys_at 2 g j s (code 2) refl consumer_obeys refl (omega arith) (item 2) r.running.pair.other runs (r.running.loaded 2 (omega arith) (omega arith)) in
          subst after (sym is) (consumer_next r o.0 (exec (get_or s.harts 2 no_hart) s.memory) is o.1)
      by (suc (suc (suc p))) is =
          let runs : state_at s.tables (suc (suc (suc p))) ≡ Current = subst (λ p. state_at s.tables p ≡ Current) is r.sound.tables.runs in
          let free = r.running.pair.free (suc (suc (suc p))) (λ e. absurd (omega arith)) (λ e. absurd (omega arith)) (λ e. absurd (omega arith)) in
          absurd (cc)

  unchanged : Next i j (nothing_happens s)
  unchanged = record { own = f; their = g; put = i; taken = j; is_put = omega arith; is_taken = omega arith; running = r.running; calm = refl }

  stepped_next : Next i j (stepped s)
  stepped_next =
      let p = s.tables.current in
      let left = (process_at s.tables p).rest in
      cond_both (p == 0) (nothing_happens s) (cond (is_done left) (instruction_step s) (end_of_event p [] (continued left s))) (Next i j)
      (λ _. unchanged)
      (λ e. subst (λ z. Next i j (cond (is_done z) (instruction_step s) (end_of_event p [] (continued z s)))) (sym (nothing_left (bystanding r) p))
      (instruction_next (eqb-false p 0 e)))

  no_file_call : next_file_call s ≡ None
  unfolding next_file_call
  no_file_call =
      let next = stepped_next in
      ap (λ l. made_first s.tables.current l (files_of (stepped s).state).calls) r.running.files ∙ ap (λ l. made_first s.tables.current [] l) next.running.files

step_same : (choice : ℕ) (s : Xinu) → step_with choice None s ≡ stepped s
step_same zero s = refl
step_same (suc choice) s = refl

-- ---- events

-- how often a semaphore is signalled in an event
abbrev pub signalled_in : ℕ → Event → List TranscriptLine → ℕ
signalled_in sem e lines = cond (is_made 19 sem (call_in e lines)) 1 0

-- What comes of an event, whatever is chosen in it.
record Comes (i j : ℕ) (e : Event) (x : EventResult) : Type 0 where
  own : Phase
  their : Phase
  put : ℕ
  taken : ℕ
  is_put : put ≡ i + signalled_in 5 e x.lines
  is_taken : taken ≡ j + signalled_in 4 e x.lines
  running : AreRunning own their put taken x.state
  calm : x.panics ≡ false

step_comes : (f g : Phase) (i j choice : ℕ) (s : Xinu) → Runs f g i j s → Comes i j Step (step_with choice (next_file_call s) s)
step_comes f g i j choice s r =
    let next = stepped_next r in
    subst (Comes i j Step) (sym (ap (λ o. step_with choice o s) (no_file_call r) ∙ step_same choice s))
    (record { own = next.own; their = next.their; put = next.put; taken = next.taken; is_put = next.is_put; is_taken = next.is_taken; running = next.running; calm = next.calm })

other_comes : (f g : Phase) (i j : ℕ) (e : Event) (choice : ℕ) (s : Xinu) → Runs f g i j s → e ≢ Step → e ≢ Tick
    → call_in e (effect_of s e choice).lines ≡ None → Comes i j e (effect_of s e choice)
other_comes f g i j e choice s r other off none =
    let x = passes e choice s (bystanding r) other off in
    let no_put : signalled_in 5 e (effect_of s e choice).lines ≡ 0 = ap {B = ℕ} (λ o. cond (is_made 19 5 o) 1 0) none in
    let no_taken : signalled_in 4 e (effect_of s e choice).lines ≡ 0 = ap {B = ℕ} (λ o. cond (is_made 19 4 o) 1 0) none in
    record {
      own = f;
      their = g;
      put = i;
      taken = j;
      is_put = omega (arith, no_put);
      is_taken = omega (arith, no_taken);
      running = idle_runs r (effect_of s e choice).state x.idle;
      calm = x.calm;
    }

event_comes : (f g : Phase) (i j : ℕ) (e : Event) (choice : ℕ) (s : Xinu) → Runs f g i j s → Comes i j e (effect_of s e choice)
event_comes f g i j Step choice s r = step_comes f g i j choice s r
event_comes f g i j Tick choice s r =
    record { own = f; their = g; put = i; taken = j; is_put = omega arith; is_taken = omega arith; running = idle_runs r (effect_of s Tick choice).state (tick_idle r); calm = refl }
event_comes f g i j (Key b) choice s r = other_comes f g i j (Key b) choice s r (λ e. absurd (cc)) (λ e. absurd (cc)) refl
event_comes f g i j Tx choice s r = other_comes f g i j Tx choice s r (λ e. absurd (cc)) (λ e. absurd (cc)) refl
event_comes f g i j Disk0 choice s r = other_comes f g i j Disk0 choice s r (λ e. absurd (cc)) (λ e. absurd (cc)) refl
event_comes f g i j Disk1 choice s r = other_comes f g i j Disk1 choice s r (λ e. absurd (cc)) (λ e. absurd (cc)) refl
event_comes f g i j Fail0 choice s r = other_comes f g i j Fail0 choice s r (λ e. absurd (cc)) (λ e. absurd (cc)) refl
event_comes f g i j Fail1 choice s r = other_comes f g i j Fail1 choice s r (λ e. absurd (cc)) (λ e. absurd (cc)) refl
event_comes f g i j Dump choice s r = other_comes f g i j Dump choice s r (λ e. absurd (cc)) (λ e. absurd (cc)) refl

-- After an event the programs run on.
pub record RunsOn (put taken : ℕ) (new : Xinu) : Type 0 where
  pub own : Phase
  pub their : Phase
  pub runs : Runs own their put taken new

pub event_runs : (f g : Phase) (i j : ℕ) (old : Xinu) (e : Event) (lines : List TranscriptLine) (new : Xinu) → Runs f g i j old → Happens old e lines new
    → RunsOn (i + signalled_in 5 e lines) (j + signalled_in 4 e lines) new
event_runs f g i j old e lines new r h =
    subst (λ (x : EventResult). RunsOn (i + signalled_in 5 e x.lines) (j + signalled_in 4 e x.lines) x.state) h.effect
    (let c = event_comes f g i j e h.choice old r in
    let x = effect_of old e h.choice in
    record {
      own = c.own;
      their = c.their;
      runs = record {
        sound = state_event old e h.choice r.sound;
        running = subst (λ n. AreRunning c.own c.their (i + signalled_in 5 e x.lines) n x.state) c.is_taken (subst (λ n. AreRunning c.own c.their n c.taken x.state) c.is_put c.running);
      };
    })

-- The kernel doesn't panic.
pub event_calm : (f g : Phase) (i j : ℕ) (s : Xinu) (e : Event) → Runs f g i j s → (effect_of s e 0).panics ≡ false
event_calm f g i j s e r = (event_comes f g i j e 0 s r).calm
