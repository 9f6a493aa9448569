-- What comes of an instruction of the producer, or of the consumer: the programs run on.
use Rattle.std.proofs.Common.{◌≡◌, ◌∙◌, ◌⊎◌, ⊎_elim, inl, inr, refl, sym, ap, subst, arith, ℕ, suc, zero, ◌+◌, ◌*◌, ◌≤◌, ◌<◌, ◌%◌, ◌^◌, List, [], ◌∷◌, length, get_or, set, false, true}
use Rattle.std.proofs.lemmas.Bool.{both_ways, cases_lt}
use Rattle.xinu_base.specs.declared.processes.State.TheVariants.{Current}
use Rattle.xinu_base.specs.declared.registers.Hart.{Hart}
use Rattle.xinu_model.specs.Events.{reacted, with_executed}
use Rattle.xinu_model.specs.Isa.Effects.{Executed}
use Rattle.xinu_model.specs.Isa.Exec.{exec}
use Rattle.xinu_model.specs.Machine.{EventResult, Xinu, no_hart}
use Rattle.xinu_model.specs.Memory.{number_at, ram_size, with_number}
use Rattle.xinu_model.specs.Semaphores.Counts.{is_good}
use Rattle.xinu_model.specs.Tables.{semaphore_at, state_at}
use Rattle.program_logic.proofs.Answering.{given}
use Rattle.program_logic.proofs.Fetching.{performed}
use Rattle.program_logic.specs.Images.{Lie}
use Rattle.bounded_buffer.proofs.Calling.{AreTwo, Did}
use Rattle.bounded_buffer.proofs.Creating.{by_own}
use Rattle.bounded_buffer.proofs.Idle.{each_of, place_within}
use Rattle.bounded_buffer.proofs.Obeying.{AreObeyed, Goes, IsObeyed, Obeys, Puts, Stage, held, stage_of, stored}
use Rattle.bounded_buffer.proofs.Pairs.{swapped}
use Rattle.bounded_buffer.proofs.Reacting.{Knows, makes_then, signals_then, waits_then, went}
use Rattle.bounded_buffer.proofs.Running.{AreRunning, IsSemaphore, IsStage, IsThread, Runs, Stands}
use Rattle.bounded_buffer.proofs.Slots.{item_stored, other_slot, program_stays}
use Rattle.bounded_buffer.specs.Buffer.{code, first, slot_of}
use Rattle.bounded_buffer.specs.Places.{Done, Holding, Phase, Row, no_row, says, words_in}

-- What comes of an event: the programs run on, and the kernel doesn't panic.
pub record Next (i j : ℕ) (x : EventResult) : Type 0 where
  pub own : Phase
  pub their : Phase
  pub put : ℕ
  pub taken : ℕ
  pub is_put : put ≡ i + given 5 x.lines
  pub is_taken : taken ≡ j + given 4 x.lines
  pub running : AreRunning own their put taken x.state
  pub calm : x.panics ≡ false

-- the stage goes by the phase of the producer
abbrev by_their : Phase → Phase → Stage
by_their own their = stage_of their

producer_first : AreTwo 1 2 4 5 2 0
producer_first = record {
  p_some = omega arith;
  p_few = omega arith;
  q_some = omega arith;
  q_few = omega arith;
  differ = λ e. absurd (omega arith);
  apart = λ e. absurd (omega arith);
  a_some = omega arith;
  a_few = omega arith;
  b_some = omega arith;
  b_few = omega arith;
  tokens = omega arith;
}

consumer_first : AreTwo 2 1 5 4 0 2
consumer_first = record {
  p_some = omega arith;
  p_few = omega arith;
  q_some = omega arith;
  q_few = omega arith;
  differ = λ e. absurd (omega arith);
  apart = λ e. absurd (omega arith);
  a_some = omega arith;
  a_few = omega arith;
  b_some = omega arith;
  b_few = omega arith;
  tokens = omega arith;
}

-- ---- the word of a place

word_there : (memory : List ℕ) (first k : ℕ) (rows : List Row) → k < length (words_in rows) → Lie memory first (words_in rows)
    → number_at memory (first + 4 * k) 4 ≡ (get_or rows k no_row).word
word_there memory first k [] less lie = absurd (omega arith)
word_there memory first zero (r ∷ rows) less lie = let e : first + 4 * 0 ≡ first = omega arith in ap (λ a. number_at memory a 4) e ∙ lie.1.0
word_there memory first (suc k) (r ∷ rows) less lie =
    let e : first + 4 * suc k ≡ first + 4 + 4 * k = omega arith in
    ap (λ a. number_at memory a 4) e ∙ word_there memory (first + 4) k rows (omega arith) lie.1.1

obeyed_there : (p i j k : ℕ) (rows : List Row) → j ≡ i + k → k < length (words_in rows) → AreObeyed p i rows → IsObeyed p j (get_or rows k no_row)
obeyed_there p i j k [] is less all = absurd (omega arith)
obeyed_there p i j zero (r ∷ rows) is less all = let e : i ≡ j = omega arith in subst (λ x. IsObeyed p x r) e all.0
obeyed_there p i j (suc k) (r ∷ rows) is less all = obeyed_there p (suc i) j k rows (omega arith) (omega arith) all.1

-- the word that a process of these rows carries out obeys
pub obeys_at : (p : ℕ) (f : Phase) (c : ℕ) (s : Xinu) (rows : List Row) → code p ≡ rows → AreObeyed p 0 rows → first p % 4 ≡ 0
    → first p + 4 * length (words_in rows) ≤ ram_size → (p ≡ 2 → f ≡ Holding → number_at s.memory (slot_of c) 4 ≡ c % 2 ^ 32)
    → IsThread p f c s.tables (get_or s.harts p no_hart) → state_at s.tables p ≡ Current → Lie s.memory (first p) (words_in (code p))
    → (k : ℕ) × Obeys p f k c (get_or s.harts p no_hart) s.memory (exec (get_or s.harts p no_hart) s.memory)
obeys_at p f c s rows is all whole below item th runs lie = by th.stands
  where
    h : Hart
    h = get_or s.harts p no_hart

    by : Stands p f th.place c h.regs (state_at s.tables p) → (k : ℕ) × Obeys p f k c h s.memory (exec h s.memory)
    by (inr (waits, rest)) = absurd (cc)
    by (inl (can, at)) =
        let k = th.place in
        let here : says f (get_or rows k no_row) c h.regs = subst (λ l. says f (get_or l k no_row) c h.regs) is at in
        let less = place_within f c k h.regs rows here in
        let w = (get_or rows k no_row).word in
        let there : number_at s.memory h.pc 4 ≡ w =
        ap (λ a. number_at s.memory a 4) th.pc ∙ word_there s.memory (first p) k rows less (subst (λ l. Lie s.memory (first p) (words_in l)) is lie) in
        let e = th.pc in
        let same = performed h s.memory w (omega arith) (omega arith) there in
        (k, subst (Obeys p f k c h s.memory) (sym same) ((obeyed_there p 0 k k rows (omega arith) less all).obeys f c h s.memory th.pc th.regs item here))

module _ {f g : Phase} {i j : ℕ} {s : Xinu} (r : Runs f g i j s) where
  -- ---- calls

  -- after a call of the producer, and of the consumer
  producer_did : (x : EventResult) → Did 1 2 4 5 2 0 by_own f g i j s x → Next i j x
  producer_did x d = record {
    own = d.to;
    their = d.their_to;
    put = d.count;
    taken = j;
    is_put = d.is;
    is_taken = (let e = d.none in omega arith);
    running = record {
      pair = d.pair;
      items = λ k low high. ap (λ m. number_at m (slot_of k) 4) d.memory ∙ r.running.items k low (let e = d.reach refl in omega arith);
      loaded = λ p some few. subst (λ m. Lie m (first p) (words_in (code p))) (sym d.memory) (r.running.loaded p some few);
      disk = d.disk ∙ r.running.disk;
      files = d.files ∙ r.running.files;
    };
    calm = d.calm;
  }

  consumer_did : (x : EventResult) → Did 2 1 5 4 0 2 by_their g f j i s x → Next i j x
  consumer_did x d = record {
    own = d.their_to;
    their = d.to;
    put = i;
    taken = d.count;
    is_put = (let e = d.none in omega arith);
    is_taken = d.is;
    running = record {
      pair = swapped 2 1 5 4 0 2 (stage_of d.their_to) d.to d.their_to d.count i x.state.tables x.state.harts d.pair;
      items = λ k low high. ap (λ m. number_at m (slot_of k) 4) d.memory ∙ r.running.items k (let e = d.more in omega arith) (let e = d.their_reach in omega arith);
      loaded = λ p some few. subst (λ m. Lie m (first p) (words_in (code p))) (sym d.memory) (r.running.loaded p some few);
      disk = d.disk ∙ r.running.disk;
      files = d.files ∙ r.running.files;
    };
    calm = d.calm;
  }

  -- ---- plain instructions

  -- the words of the programs stay under a store in a slot
  below : (p : ℕ) → 1 ≤ p → p ≤ 2 → first p + 4 * length (words_in (code p)) ≤ 164
  below p some few = each_of (λ p. first p + 4 * length (words_in (code p)) ≤ 164) (omega arith) (omega arith) p some few

  -- the items after an instruction of the producer
  items_went : (did : Executed) (x : Goes 1 f i s.memory did) (k : ℕ) → j ≤ k → k < i + stored 1 x.to → number_at did.memory (slot_of k) 4 ≡ k % 2 ^ 32
  items_went did x k low high = by x.ram
    where
      new_item : Puts 1 f x.to i s.memory did.memory → number_at (with_number s.memory (slot_of i) 4 (i % 2 ^ 32)) (slot_of k) 4 ≡ k % 2 ^ 32
      new_item u =
          let more : stored 1 x.to ≡ 1 = ap (stored 1) u.done in
          let size = r.sound.ram.bytes in
          ⊎_elim
          (λ (less : k < i).
          let token : held f ≡ 1 = ap held u.holding in
          let sum = r.running.pair.own_sum in
          other_slot s.memory i k (i % 2 ^ 32) size (omega arith) ∙ r.running.items k low (omega arith))
          (λ (last : i ≤ k).
          let e : i ≡ k = omega arith in
          subst (λ z. number_at (with_number s.memory (slot_of i) 4 (i % 2 ^ 32)) (slot_of z) 4 ≡ z % 2 ^ 32) e (item_stored s.memory i size))
          (cases_lt k i)

      by : ((did.memory ≡ s.memory) × (stored 1 x.to ≡ stored 1 f)) ⊎ Puts 1 f x.to i s.memory did.memory → number_at did.memory (slot_of k) 4 ≡ k % 2 ^ 32
      by (inl e) = ap (λ m. number_at m (slot_of k) 4) e.0 ∙ r.running.items k low (let stays = e.1 in omega arith)
      by (inr u) = ap (λ m. number_at m (slot_of k) 4) u.is ∙ new_item u

  loaded_went : (did : Executed) (x : Goes 1 f i s.memory did) (p : ℕ) → 1 ≤ p → p ≤ 2 → Lie did.memory (first p) (words_in (code p))
  loaded_went did x p some few = by x.ram
    where
      by : ((did.memory ≡ s.memory) × (stored 1 x.to ≡ stored 1 f)) ⊎ Puts 1 f x.to i s.memory did.memory → Lie did.memory (first p) (words_in (code p))
      by (inl e) = subst (λ m. Lie m (first p) (words_in (code p))) (sym e.0) (r.running.loaded p some few)
      by (inr u) = subst (λ m. Lie m (first p) (words_in (code p))) (sym u.is)
          (program_stays s.memory i (i % 2 ^ 32) (first p) (words_in (code p)) (below p some few) (r.running.loaded p some few))

  knows_producer : Knows 2 4 5 2 0 by_own g i j s 1 f
  knows_producer = record { two = producer_first; pair = r.running.pair; regs = r.running.pair.mine.regs }

  knows_consumer : Knows 1 5 4 0 2 by_their f j i s 2 g
  knows_consumer = record {
    two = consumer_first;
    pair = swapped 1 2 4 5 2 0 (stage_of f) f g i j s.tables s.harts r.running.pair;
    regs = r.running.pair.other.regs;
  }

  producer_went : (k : ℕ) (did : Executed) → s.tables.current ≡ 1 → (x : Goes 1 f i s.memory did) → AreRunning x.to g i j (with_executed did s)
  producer_went k did is x = record {
    pair = went 2 4 5 2 0 by_own g i j k s did r.sound f 1 is knows_producer x x.stage;
    items = items_went did x;
    loaded = loaded_went did x;
    disk = r.running.disk;
    files = r.running.files;
  }

  consumer_went : (k : ℕ) (did : Executed) → s.tables.current ≡ 2 → (x : Goes 2 g j s.memory did) → AreRunning f x.to i j (with_executed did s)
  consumer_went k did is x =
      let same : did.memory ≡ s.memory = ⊎_elim (λ (e : (did.memory ≡ s.memory) × _). e.0)
      (λ (u : Puts 2 g x.to j s.memory did.memory). absurd (let e = u.producer in omega arith)) x.ram in
      record {
        pair = swapped 2 1 5 4 0 2 (stage_of f) x.to f j i s.tables (set s.harts s.tables.current did.hart)
            (went 1 5 4 0 2 by_their f j i k s did r.sound g 2 is knows_consumer x refl);
        items = λ k low high. ap (λ m. number_at m (slot_of k) 4) same ∙ r.running.items k low high;
        loaded = λ p some few. subst (λ m. Lie m (first p) (words_in (code p))) (sym same) (r.running.loaded p some few);
        disk = r.running.disk;
        files = r.running.files;
      }

  -- ---- whatever its word is

  pub producer_next : (k : ℕ) (did : Executed) → s.tables.current ≡ 1 → Obeys 1 f k i (get_or s.harts 1 no_hart) s.memory did
      → Next i j (reacted did.outcome (with_executed did s))
  producer_next k did is (inl x) =
      subst (λ o. Next i j (reacted o (with_executed did s))) (sym x.outcome)
      (record { own = x.to; their = g; put = i; taken = j; is_put = omega arith; is_taken = omega arith; running = producer_went k did is x; calm = refl })
  producer_next k did is (inr (inl w)) =
      producer_did (reacted did.outcome (with_executed did s))
      (waits_then 2 4 5 2 0 by_own g i j k s did r.sound refl f 1 is knows_producer refl
      (λ bad one. both_ways (is_good 4 s.tables) bad (subst (λ x. IsStage (stage_of x) s.tables) w.outside r.running.pair.made).0) w)
  producer_next k did is (inr (inr (inl w))) =
      producer_did (reacted did.outcome (with_executed did s))
      (signals_then 2 4 5 2 0 by_own g i j k s did r.sound refl refl f 1 is knows_producer refl
      (subst (λ x. IsStage (stage_of x) s.tables) w.done r.running.pair.made).1.0 w)
  producer_next k did is (inr (inr (inr w))) =
      producer_did (reacted did.outcome (with_executed did s)) (makes_then 2 g i j k s did r.sound f 1 is knows_producer w)

  -- who has taken an item signals a semaphore that is made
  room_good : g ≡ Done → IsSemaphore (semaphore_at s.tables 4) r.running.pair.a_tokens 2 → is_good 4 s.tables ≡ true
  room_good done (inl k) = k.0
  room_good done (inr k) =
      let token : held g ≡ 1 = ap held done in
      let none = k.1 in
      let sum = r.running.pair.own_sum in
      let their_sum = r.running.pair.their_sum in
      absurd (omega arith)

  pub consumer_next : (k : ℕ) (did : Executed) → s.tables.current ≡ 2 → Obeys 2 g k j (get_or s.harts 2 no_hart) s.memory did
      → Next i j (reacted did.outcome (with_executed did s))
  consumer_next k did is (inl x) =
      subst (λ o. Next i j (reacted o (with_executed did s))) (sym x.outcome)
      (record { own = f; their = x.to; put = i; taken = j; is_put = omega arith; is_taken = omega arith; running = consumer_went k did is x; calm = refl })
  consumer_next k did is (inr (inl w)) =
      consumer_did (reacted did.outcome (with_executed did s))
      (waits_then 1 5 4 0 2 by_their f j i k s did r.sound refl g 2 is knows_consumer refl (λ bad one. absurd (omega (arith, one))) w)
  consumer_next k did is (inr (inr (inl w))) =
      consumer_did (reacted did.outcome (with_executed did s))
      (signals_then 1 5 4 0 2 by_their f j i k s did r.sound refl refl g 2 is knows_consumer refl (room_good w.done r.running.pair.own) w)
  consumer_next k did is (inr (inr (inr w))) = absurd (let e = w.producer in omega arith)
