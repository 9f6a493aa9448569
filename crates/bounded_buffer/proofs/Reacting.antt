-- What comes of an instruction of the current process.
use Rattle.std.proofs.Common.{◌≡◌, ◌∙◌, ⊎_elim, inl, refl, sym, ap, subst, arith, ℕ, ◌<◌, List, [], ◌∷◌, length, get_or, set, take, drop, false, true}
use Rattle.std.proofs.lemmas.List.{get_or-drop, get_or-set_other, get_or-set_same, get_or-take}
use Rattle.std.specs.Prelude.{slice_index}
use Rattle.scheduling_laws.proofs.Calling.{signalled_by, waited_by}
use Rattle.xinu_base.specs.declared.registers.Hart.{Hart}
use Rattle.xinu_model.specs.Calls.{called, calls}
use Rattle.xinu_model.specs.Events.{call_of, reacted, with_executed}
use Rattle.xinu_model.specs.Isa.Effects.{Executed}
use Rattle.xinu_model.specs.Machine.{CallResult, EventResult, Xinu, end_of_event, no_hart}
use Rattle.xinu_model.specs.Semaphores.Calls.{made_semaphore, semcreate, signal, wait}
use Rattle.xinu_model.specs.Semaphores.Counts.{free_semaphore, is_good}
use Rattle.xinu_model.specs.Sound.State.{IsSound}
use Rattle.xinu_model.specs.Words.{signed}
use Rattle.xinu_base.specs.declared.lines.TranscriptLine.TheVariants as line
use Rattle.xinu_base.specs.declared.registers.Outcome.TheVariants as outcome
use Rattle.program_logic.proofs.Answering.{after_call, asked}
use Rattle.program_logic.proofs.Turns.{turned_same}
use Rattle.xinu_model.specs.Tables.{process_at}
use Rattle.bounded_buffer.proofs.Calling.{Acts, AreTwo, Did, there_are}
use Rattle.bounded_buffer.proofs.Creating.{by_own, items_made, room_made}
use Rattle.bounded_buffer.proofs.Obeying.{Goes, Makes, Neither, One, Signals, Stage, Waits, signals, waits_on}
use Rattle.bounded_buffer.proofs.Pairs.{thread_kept}
use Rattle.bounded_buffer.proofs.Running.{IsPair, IsStage, IsThread}
use Rattle.bounded_buffer.proofs.Signals.{signalled_next}
use Rattle.bounded_buffer.proofs.Waits.{waited}
use Rattle.bounded_buffer.specs.Places.{Bare, Done, Holding, Outside, Phase, Single}

-- the first argument of a call
first_arg : (regs : List ℕ) → slice_index (take 6 (drop 10 regs)) 0 ≡ slice_index regs 10
first_arg regs = get_or-take 6 (drop 10 regs) 0 0 (omega arith) ∙ get_or-drop 10 regs 0 0

created_by : (args : List ℕ) (s : Xinu) → called 14 args s ≡ semcreate (signed (slice_index args 0)) s
unfolding calls
created_by args s = refl

-- a call of a number, if its result is known
reacts : (s : Xinu) (number : ℕ) (r : List ℕ → CallResult) (P : EventResult → Type 0) → s.tables.current < length s.harts
    → slice_index (get_or s.harts s.tables.current no_hart).regs 17 ≡ number
    → ((args : List ℕ) → slice_index args 0 ≡ slice_index (get_or s.harts s.tables.current no_hart).regs 10 → called number args (asked s) ≡ r args)
    → ((args : List ℕ) → slice_index args 0 ≡ slice_index (get_or s.harts s.tables.current no_hart).regs 10
    → P (end_of_event s.tables.current (line.Call s.tables.current (record { number = number; args = args }) ∷ []) (r args)))
    → P (reacted outcome.Call (asked s))
reacts s number r P within is does next =
    let p = s.tables.current in
    let h = get_or s.harts p no_hart in
    let args = take 6 (drop 10 h.regs) in
    let there = get_or-set_same s.harts p (after_call h) no_hart within in
    subst (λ (g : Hart). P (end_of_event p (line.Call p (call_of g) ∷ []) (called (call_of g).number (call_of g).args (asked s)))) (sym there)
    (subst (λ m. P (end_of_event p (line.Call p (record { number = m; args = args }) ∷ []) (called m args (asked s)))) (sym is)
    (subst (λ x. P (end_of_event p (line.Call p (record { number = number; args = args }) ∷ []) x)) (sym (does args (first_arg h.regs)))
    (next args (first_arg h.regs))))

-- what is known of process p in a phase
pub record Knows (q a b n m : ℕ) (at : Phase → Phase → Stage) (g : Phase) (i j : ℕ) (s : Xinu) (p : ℕ) (f : Phase) : Type 0 where
  pub two : AreTwo p q a b n m
  pub pair : IsPair p q a b n m (at f g) f g i j s.tables s.harts
  pub regs : length (get_or s.harts p no_hart).regs ≡ 32

module _ (q a b n m : ℕ) (at : Phase → Phase → Stage) (g : Phase) (i j k : ℕ) (s : Xinu) (did : Executed) (sound : IsSound s) where
  -- what comes of the call
  abbrev Comes : ℕ → Phase → Type 0
  Comes p f = Did p q a b n m at f g i j s (reacted did.outcome (with_executed did s))

  -- a plain instruction
  abbrev WentOn : Phase → ℕ → Type 0
  WentOn f p = Knows q a b n m at g i j s p f → (x : Goes p f i s.memory did) → at x.to g ≡ at f g
      → IsPair p q a b n m (at x.to g) x.to g i j s.tables (set s.harts s.tables.current did.hart)

  went_now : (f : Phase) → WentOn f s.tables.current
  went_now f c x stage =
      let p = s.tables.current in
      let k = c.pair in
      let there = (let many = sound.harts.many in let few = c.two.p_few in get_or-set_same s.harts p did.hart no_hart (omega arith)) in
      let sum = k.own_sum in
      let tokens = x.tokens in
      record {
        mine = subst (IsThread p x.to i s.tables) (sym there)
            (record { place = x.next; pc = x.pc; regs = x.regs; rest = k.mine.rest; stands = inl (inl sound.tables.runs, x.holds) });
        other = thread_kept q g j s.tables s.tables (get_or s.harts q no_hart) (get_or (set s.harts p did.hart) q no_hart)
            (get_or-set_other s.harts p q did.hart no_hart c.two.differ) (turned_same (process_at s.tables q)) k.other;
        free = k.free;
        a_tokens = k.a_tokens;
        b_tokens = k.b_tokens;
        own = k.own;
        own_sum = omega arith;
        their = k.their;
        their_sum = k.their_sum;
        made = subst (λ z. IsStage z s.tables) (sym stage) k.made;
      }

  pub went : (f : Phase) (p : ℕ) → s.tables.current ≡ p → WentOn f p
  went f p is = subst (WentOn f) is (went_now f)

  -- `wait`
  abbrev WaitsOn : Phase → ℕ → Type 0
  WaitsOn f p = Knows q a b n m at g i j s p f → a ≡ waits_on p → (is_good a s.tables ≡ false → p ≡ 1 → ⊥) → Waits p f k i (get_or s.harts p no_hart) s.memory did → Comes p f

  waits_now : (steady : at Holding g ≡ at Outside g) (f : Phase) → WaitsOn f s.tables.current
  waits_now steady f c is never w =
      let p = s.tables.current in
      subst (λ f. Knows q a b n m at g i j s p f → Comes p f) (sym w.outside)
      (λ c. let acts : Acts q a b n m (at Outside g) Outside g i j k s = record { sound = sound; two = c.two; pair = c.pair; next = w.asks.pc; regs = c.regs } in
      subst (λ d. Did p q a b n m at Outside g i j s (reacted d.outcome (with_executed d s))) (sym w.asks.does)
      (reacts s 18 (λ args. wait a (asked s)) (Did p q a b n m at Outside g i j s) (there_are acts) w.number
      (λ args e. waited_by args (asked s) ∙ ap (λ i. wait i (asked s)) (e ∙ w.sem ∙ sym is))
      (λ args e. waited at steady acts args w.granted (λ bad. ⊎_elim (λ one. absurd (never bad one)) (λ h. h) w.refused))))
      c

  pub waits_then : at Holding g ≡ at Outside g → (f : Phase) (p : ℕ) → s.tables.current ≡ p → WaitsOn f p
  waits_then steady f p is = subst (WaitsOn f) is (waits_now steady f)

  -- `signal`
  abbrev SignalsOn : Phase → ℕ → Type 0
  SignalsOn f p = Knows q a b n m at g i j s p f → b ≡ signals p → is_good b s.tables ≡ true → Signals p f k i (get_or s.harts p no_hart) s.memory did → Comes p f

  signals_now : (steady : at Outside g ≡ at Done g) (handing : at Outside Holding ≡ at Done Outside) (f : Phase) → SignalsOn f s.tables.current
  signals_now steady handing f c is good w =
      let p = s.tables.current in
      subst (λ f. Knows q a b n m at g i j s p f → Comes p f) (sym w.done)
      (λ c. let acts : Acts q a b n m (at Done g) Done g i j k s = record { sound = sound; two = c.two; pair = c.pair; next = w.asks.pc; regs = c.regs } in
      subst (λ d. Did p q a b n m at Done g i j s (reacted d.outcome (with_executed d s))) (sym w.asks.does)
      (reacts s 19 (λ args. signal b (asked s)) (Did p q a b n m at Done g i j s) (there_are acts) w.number
      (λ args e. signalled_by args (asked s) ∙ ap (λ i. signal i (asked s)) (e ∙ w.sem ∙ sym is))
      (λ args e. signalled_next at steady handing acts args (e ∙ w.sem ∙ sym is) good w.after)))
      c

  pub signals_then : at Outside g ≡ at Done g → at Outside Holding ≡ at Done Outside → (f : Phase) (p : ℕ) → s.tables.current ≡ p → SignalsOn f p
  signals_then steady handing f p is = subst (SignalsOn f) is (signals_now steady handing f)

module _ (q : ℕ) (g : Phase) (i j k : ℕ) (s : Xinu) (did : Executed) (sound : IsSound s) where
  -- `semcreate`
  abbrev MakesOn : Phase → ℕ → Type 0
  MakesOn f p = Knows q 4 5 2 0 by_own g i j s p f → Makes p f k i (get_or s.harts p no_hart) s.memory did
      → Did p q 4 5 2 0 by_own f g i j s (reacted did.outcome (with_executed did s))

  makes_now : (f : Phase) → MakesOn f s.tables.current
  makes_now f c w = ⊎_elim
      (λ (e : (f ≡ Bare) × _).
      subst (λ f. Knows q 4 5 2 0 by_own g i j s p f → Did p q 4 5 2 0 by_own f g i j s (reacted did.outcome (with_executed did s))) (sym e.0)
      (λ c. let acts : Acts q 4 5 2 0 Neither Bare g i j k s = record { sound = sound; two = c.two; pair = c.pair; next = w.asks.pc; regs = c.regs } in
      subst (λ d. Did p q 4 5 2 0 by_own Bare g i j s (reacted d.outcome (with_executed d s))) (sym w.asks.does)
      (reacts s 14 (λ args. made_semaphore 2 (free_semaphore s.tables) (asked s)) (Did p q 4 5 2 0 by_own Bare g i j s) (there_are acts) w.number
      (λ args f. created_by args (asked s) ∙ ap (λ i. semcreate (signed i) (asked s)) (f ∙ e.1.0))
      (λ args f. room_made acts args e.1.1)))
      c)
      (λ (e : (f ≡ Single) × _).
      subst (λ f. Knows q 4 5 2 0 by_own g i j s p f → Did p q 4 5 2 0 by_own f g i j s (reacted did.outcome (with_executed did s))) (sym e.0)
      (λ c. let acts : Acts q 4 5 2 0 One Single g i j k s = record { sound = sound; two = c.two; pair = c.pair; next = w.asks.pc; regs = c.regs } in
      subst (λ d. Did p q 4 5 2 0 by_own Single g i j s (reacted d.outcome (with_executed d s))) (sym w.asks.does)
      (reacts s 14 (λ args. made_semaphore 0 (free_semaphore s.tables) (asked s)) (Did p q 4 5 2 0 by_own Single g i j s) (there_are acts) w.number
      (λ args f. created_by args (asked s) ∙ ap (λ i. semcreate (signed i) (asked s)) (f ∙ e.1.0))
      (λ args f. items_made acts args e.1.1)))
      c)
      w.which
    where
      p : ℕ
      p = s.tables.current

  pub makes_then : (f : Phase) (p : ℕ) → s.tables.current ≡ p → MakesOn f p
  makes_then f p is = subst (MakesOn f) is (makes_now f)
