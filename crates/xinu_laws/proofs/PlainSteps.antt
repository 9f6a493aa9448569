-- Plain instructions are machine steps that print nothing.
use Rattle.std.proofs.Common.{◌≡◌, ◌∙◌, ◌+◌, ◌<◌, ◌==◌, ℕ, zero, suc, false, cond, List, [], ◌++◌, length, replicate, refl, sym, ap, subst, arith}
use Rattle.std.proofs.lemmas.Bool.{ne_eqb}
use Rattle.std.proofs.lemmas.List.{get_or-set_same, set-get_or}
use Rattle.xinu_model.specs.Steps.{ArePlain, stepped_times, with_ran}
use Rattle.xinu_model.specs.Isa.Ran.{Ran, ran, ran_on, unless_stopped}
use Rattle.xinu_base.specs.declared.registers.Outcome.{Outcome}
use Rattle.xinu_base.specs.declared.registers.Outcome.TheVariants.{Went}
use Rattle.xinu_base.specs.declared.events.End.{End}
use Rattle.xinu_base.specs.declared.events.Event.{Event}
use Rattle.xinu_base.specs.declared.events.Event.TheVariants.{Step}
use Rattle.xinu_base.specs.declared.lines.TranscriptLine.{TranscriptLine}
use Rattle.xinu_base.specs.declared.processes.Rest.{Rest}
use Rattle.xinu_base.specs.declared.processes.Rest.TheVariants.{Nothing}
use Rattle.table_laws.proofs.Lists.Maps.{set_twice}
use Rattle.table_laws.proofs.Preserve.{current_within}
use Rattle.xinu_laws.proofs.Preserve.Events.{may_call_after, state_stepped}
use Rattle.xinu_model.specs.Sound.State.{IsSound}
use Rattle.part_laws.specs.Preserve.{MayCallAny}
use Rattle.xinu_model.specs.Events.{instruction_step, is_done, reacted, stepped, with_executed}
use Rattle.xinu_model.specs.Isa.Exec.{exec}
use Rattle.xinu_model.specs.Machine.{current_hart, end_of_event, EventResult, no_hart, nothing_happens, Xinu}
use Rattle.xinu_model.specs.Calls.{continued}
use Rattle.xinu_model.specs.Runs.{end_with, Follows, is_over, RunsTo}
use Rattle.xinu_model.specs.Tables.{process_at}

-- A process other than the null process runs, and its call is complete.
pub record IsRunning (s : Xinu) : Type 0 where
  pub may : MayCallAny s
  pub done : (process_at s.tables s.tables.current).rest ≡ Nothing
  pub lives : is_over s ≡ false

-- its next step is an instruction
is_instruction : (s : Xinu) → IsRunning s → stepped s ≡ instruction_step s
is_instruction s r =
    let left = (process_at s.tables s.tables.current).rest in
    let other = end_of_event s.tables.current [] (continued left s) in
    ap (λ b. cond b (nothing_happens s) (cond (is_done left) (instruction_step s) other)) (ne_eqb s.tables.current 0 r.may.may.not_null)
    ∙ ap (λ (k : Rest). cond (is_done k) (instruction_step s) other) r.done

-- its registers are in their table
within : (s : Xinu) → IsRunning s → s.tables.current < length s.harts
within s r = let f = current_within s.tables r.may.may.tables in let g = r.may.may.harts.many in omega (arith, f, g)

-- What instructions come to, after this many others.
pub record AreSteps (count : ℕ) (x : Ran) (s : Xinu) : Type 0 where
  pub steps : ℕ
  pub counted : x.count ≡ count + steps
  pub state : with_ran x s ≡ stepped_times steps s
  pub plain : ArePlain steps s

-- none
no_steps : (count : ℕ) (s : Xinu) → AreSteps count (record { count = count; hart = current_hart s; memory = s.memory }) s
no_steps count s = record {
  steps = 0;
  counted = omega arith;
  state = ap (λ harts. record s { harts = harts }) (set-get_or s.harts s.tables.current no_hart);
  plain = tt;
}

-- one, and then the others
one_more : (count : ℕ) (x : Ran) (s : Xinu) → IsRunning s → Went ≡ (exec (current_hart s) s.memory).outcome
    → AreSteps (count + 1) x (with_executed (exec (current_hart s) s.memory) s) → AreSteps count x s
one_more count x s r went a =
    let did = exec (current_hart s) s.memory in
    let u = with_executed did s in
    let e : stepped s ≡ nothing_happens u = is_instruction s r ∙ sym (ap (λ o. reacted o u) went) in
    let same : u ≡ (stepped s).state = sym (ap (λ (e : EventResult). e.state) e) in
    let counted = a.counted in
    record {
      steps = suc a.steps;
      counted = counted ∙ omega arith;
      state = sym (ap (λ harts. record s { harts = harts; memory = x.memory }) (set_twice s.harts s.tables.current did.hart x.hart))
          ∙ a.state ∙ ap (stepped_times a.steps) same;
      plain = (
        record { quiet = e ∙ ap nothing_happens same; lives = subst (λ s. is_over s ≡ false) same r.lives },
        subst (ArePlain a.steps) same a.plain,
      );
    }

-- an instruction, and the others if it is a plain one
one_step : (count : ℕ) (s : Xinu) (others : Ran) → IsRunning s → (o : Outcome) → o ≡ (exec (current_hart s) s.memory).outcome
    → AreSteps (count + 1) others (with_executed (exec (current_hart s) s.memory) s)
    → AreSteps count (unless_stopped o (record { count = count; hart = current_hart s; memory = s.memory }) others) s
one_step count s others r Went e a = one_more count others s r e a
one_step count s others r _ e a = no_steps count s

-- plain instructions are plain steps
pub ran_are_steps : (count n : ℕ) (s : Xinu) → IsRunning s → AreSteps count (ran_on count n (current_hart s) s.memory) s
ran_are_steps count zero s r = no_steps count s
ran_are_steps count (suc n) s r =
    let did = exec (current_hart s) s.memory in
    let u = with_executed did s in
    let next : IsRunning u = record { may = may_call_after s r.may; done = r.done; lives = r.lives } in
    one_step count s (ran_on (count + 1) n did.hart did.memory) r did.outcome refl
    (subst (λ h. AreSteps (count + 1) (ran_on (count + 1) n h did.memory) u)
    (get_or-set_same s.harts s.tables.current did.hart no_hart (within s r))
    (ran_are_steps (count + 1) n u next))

-- plain steps come before the events of any run
pub run_after : (n : ℕ) (s : Xinu) (events : List Event) (lines : List TranscriptLine) (new : Xinu) (end : End) → ArePlain n s
    → RunsTo (stepped_times n s) events lines new end → RunsTo s (replicate n Step ++ events) lines new end
run_after zero s events lines new end p run = run
run_after (suc n) s events lines new end p run =
    let x = p.0 in
    let mid = (stepped s).state in
    let quiet : end_with (stepped s).panics (is_over mid) ≡ end_with false false =
    ap (λ (e : EventResult). end_with e.panics (is_over mid)) x.quiet ∙ ap (end_with false) x.lives in
    let effect = ap (λ (e : EventResult). record { lines = e.lines; state = mid; panics = (stepped s).panics }) x.quiet in (
      mid,
      [],
      record { choice = 0; allowed = omega arith; effect = effect },
      subst (λ o. Follows o (λ rest. RunsTo mid (replicate n Step ++ events) rest new end) [] lines mid new end) (sym quiet)
          (lines, run_after n mid events lines new end p.1 run, refl),
    )

-- Plain instructions are that many plain steps.
module _ (n : ℕ) (s : Xinu) (r : IsRunning s) where
  counts : (ran_are_steps 0 n s r).steps ≡ (ran n (current_hart s) s.memory).count
  counts = let c = (ran_are_steps 0 n s r).counted in omega (arith, c)

  pub steps_of : with_ran (ran n (current_hart s) s.memory) s ≡ stepped_times (ran n (current_hart s) s.memory).count s
  steps_of = (ran_are_steps 0 n s r).state ∙ ap (λ k. stepped_times k s) counts

  pub plain_of : ArePlain (ran n (current_hart s) s.memory).count s
  plain_of = subst (λ k. ArePlain k s) counts (ran_are_steps 0 n s r).plain

-- a step of the null process does nothing
null_step : (s : Xinu) → s.tables.current ≡ 0 → stepped s ≡ nothing_happens s
null_step s e =
    let left = (process_at s.tables s.tables.current).rest in
    let other = end_of_event s.tables.current [] (continued left s) in
    ap (λ n. cond (n == 0) (nothing_happens s) (cond (is_done left) (instruction_step s) other)) e

-- steps of the null process change nothing
pub null_steps : (n : ℕ) (s : Xinu) → s.tables.current ≡ 0 → stepped_times n s ≡ s
null_steps zero s e = refl
null_steps (suc n) s e = ap (λ (x : EventResult). stepped_times n x.state) (null_step s e) ∙ null_steps n s e

-- and are plain
pub null_plain : (n : ℕ) (s : Xinu) → s.tables.current ≡ 0 → is_over s ≡ false → ArePlain n s
null_plain zero s e l = tt
null_plain (suc n) s e l =
    let x = null_step s e in
    let same : s ≡ (stepped s).state = sym (ap (λ (x : EventResult). x.state) x) in (
      record { quiet = x ∙ ap nothing_happens same; lives = subst (λ s. is_over s ≡ false) same l },
      subst (ArePlain n) same (null_plain n s e l),
    )

-- steps keep the state sound
pub steps_sound : (n : ℕ) (s : Xinu) → IsSound s → IsSound (stepped_times n s)
steps_sound zero s k = k
steps_sound (suc n) s k = steps_sound n (stepped s).state (state_stepped s k)
