-- A place that checks obeys: a call.
use Rattle.std.proofs.Common.{Bool, List, arith, false, inl, inr, length, not, refl, set, suc, sym, true, ℕ, ◌&&◌, ◌*◌, ◌+◌, ◌<◌, ◌^◌, ◌||◌, ◌≡◌, ◌⊎◌}
use Rattle.std.proofs.lemmas.Bool.{and_parts, not-true, or_cases, true≢false}
use Rattle.std.specs.Prelude.{slice_index}
use Rattle.xinu_base.specs.declared.registers.Hart.{Hart}
use Rattle.xinu_base.specs.declared.registers.Outcome.TheVariants.{Call}
use Rattle.xinu_model.specs.Isa.Effects.{Executed, following, register}
use Rattle.xinu_model.specs.Memory.{number_at}
use Rattle.program_logic.proofs.CheckedRows.{Spot, at, seen}
use Rattle.program_logic.proofs.Known.{Describes, Means, all_means_fixed, all_means_set, means_constant, means_entailed, put, read}
use Rattle.program_logic.proofs.TermValues.{next_rule, ticks}
use Rattle.program_logic.specs.Claims.{system_of}
use Rattle.program_logic.specs.Obeying.{Asks, Obeys}
use Rattle.program_logic.specs.Outlines.{System}
use Rattle.program_logic.specs.PlaceCheck.{answer_checks, create_checks, follows, granted, is_ticks, let_go, only_answers, signal_checks, sleep_checks, wait_checks, yield_checks}
use Rattle.program_logic.specs.Terms.{all_fixed, constant, given, is_constant, once_more, slot_entails, slot_of}
use Rattle.program_logic.specs.declared.knowledge.Facts.{Facts}
use Rattle.program_logic.specs.declared.outline.Lock.{Lock}
use Rattle.program_logic.specs.declared.outline.Place.{Place}
use Rattle.program_logic.specs.declared.values.Slot.{Slot}
use Rattle.program_logic.specs.declared.values.Slot.TheVariants.{Known, Unknown}

module _ {l : Lock} {many : ℕ} {first : ℕ → ℕ} {places : ℕ → List Place} {p k : ℕ} (spot : Spot l many first places p k) where
  abbrev y : System
  y = system_of many first places l

  pub asks : (h : Hart) (memory : List ℕ) → h.pc ≡ first p + 4 * k → Asks y p k h memory (record { outcome = Call; hart = record h { pc = following h }; memory = memory })
  asks h memory pc = record { does = refl; pc = (let near = spot.near in omega arith) }

  -- a register that the check found to be a number
  pub found : (s : Facts) (i c n v : ℕ) (regs : List ℕ) → c < 2 ^ 32 → is_constant (slot_of s i) c ≡ true → Describes s n v regs → register regs i ≡ c
  found s i c n v regs fits is d = means_constant (slot_of s i) c n (register regs i) fits is (read s i n v regs d)

  -- what is known once others ran
  pub fixed_facts : (s : Facts) (n v m w : ℕ) (word : Slot) (regs : List ℕ) → length regs ≡ 32 → Describes s n v regs → Means word m w
      → Describes (record { registers = set (all_fixed s.registers) 10 (Known (constant 0)); word = word }) m w (set regs 10 0)
  fixed_facts s n v m w word regs many d is = record {
    registers = all_means_set (all_fixed s.registers) regs 10 (Known (constant 0)) m 0 many (omega arith)
        (λ j. all_means_fixed s.registers j n m (slice_index regs j) (d.registers j)) (omega arith);
    word = is;
  }

  pub wait_obeys : (b : Bool) (n : ℕ) (h : Hart) (memory : List ℕ) (s : Facts) → h.pc ≡ first p + 4 * k → length h.regs ≡ 32
      → wait_checks l (places p) k b s ≡ true → Describes s (seen b n) (seen b (number_at memory l.word 4)) h.regs
      → Obeys y p b k n h memory (record { outcome = Call; hart = record h { pc = following h }; memory = memory })
  wait_obeys b n h memory s pc regs is d =
      let a = and_parts (is_constant (slot_of s 17) 18 && is_constant (slot_of s 10) l.sem) (not b && (follows (places p) true (suc k) (granted l s) && follows (places p) false (suc k) (given s 10 (Known (constant 4294967295))))) is in
      let c = and_parts (is_constant (slot_of s 17) 18) (is_constant (slot_of s 10) l.sem) a.0 in
      let e = and_parts (not b) (follows (places p) true (suc k) (granted l s) && follows (places p) false (suc k) (given s 10 (Known (constant 4294967295)))) a.1 in
      let g = and_parts (follows (places p) true (suc k) (granted l s)) (follows (places p) false (suc k) (given s 10 (Known (constant 4294967295)))) e.1 in
      by b (not-true b e.0) d (found s 17 18 (seen b n) (seen b (number_at memory l.word 4)) h.regs (omega arith) c.0 d) (found s 10 l.sem (seen b n) (seen b (number_at memory l.word 4)) h.regs spot.sem_fits c.1 d) g.0 g.1
    where
      by : (b : Bool) → b ≡ false → Describes s (seen b n) (seen b (number_at memory l.word 4)) h.regs → slice_index h.regs 17 ≡ 18 → slice_index h.regs 10 ≡ l.sem
          → follows (places p) true (suc k) (granted l s) ≡ true → follows (places p) false (suc k) (given s 10 (Known (constant 4294967295))) ≡ true
          → Obeys y p b k n h memory (record { outcome = Call; hart = record h { pc = following h }; memory = memory })
      by true free d number sem yes_to no_to = absurd (true≢false free)
      by false free d number sem yes_to no_to = inr (inl (record {
        asks = asks h memory pc;
        number = number;
        sem = sem;
        outside = refl;
        granted = λ m w rule. at spot true (suc k) m w (granted l s) (set h.regs 10 0) yes_to (fixed_facts s 0 0 m w (Known l.rule) h.regs regs d rule);
        refused = λ m w. at spot false (suc k) m w (given s 10 (Known (constant 4294967295))) (set h.regs 10 4294967295) no_to
            (put s 10 (Known (constant 4294967295)) 0 0 4294967295 h.regs regs (omega arith) d (omega arith));
      }))

  pub signal_obeys : (b : Bool) (n : ℕ) (h : Hart) (memory : List ℕ) (s : Facts) → h.pc ≡ first p + 4 * k → length h.regs ≡ 32
      → signal_checks l (places p) k b s ≡ true → Describes s (seen b n) (seen b (number_at memory l.word 4)) h.regs
      → Obeys y p b k n h memory (record { outcome = Call; hart = record h { pc = following h }; memory = memory })
  signal_obeys b n h memory s pc regs is d =
      let a = and_parts (is_constant (slot_of s 17) 19 && is_constant (slot_of s 10) l.sem) (b && (slot_entails s.word (Known (once_more l.rule)) && follows (places p) false (suc k) (let_go s))) is in
      let c = and_parts (is_constant (slot_of s 17) 19) (is_constant (slot_of s 10) l.sem) a.0 in
      let e = and_parts b (slot_entails s.word (Known (once_more l.rule)) && follows (places p) false (suc k) (let_go s)) a.1 in
      let g = and_parts (slot_entails s.word (Known (once_more l.rule))) (follows (places p) false (suc k) (let_go s)) e.1 in
      by b e.0 d (found s 17 19 (seen b n) (seen b (number_at memory l.word 4)) h.regs (omega arith) c.0 d) (found s 10 l.sem (seen b n) (seen b (number_at memory l.word 4)) h.regs spot.sem_fits c.1 d) g.0 g.1
    where
      by : (b : Bool) → b ≡ true → Describes s (seen b n) (seen b (number_at memory l.word 4)) h.regs → slice_index h.regs 17 ≡ 19 → slice_index h.regs 10 ≡ l.sem
          → slot_entails s.word (Known (once_more l.rule)) ≡ true → follows (places p) false (suc k) (let_go s) ≡ true
          → Obeys y p b k n h memory (record { outcome = Call; hart = record h { pc = following h }; memory = memory })
      by false held d number sem rule to = absurd (true≢false (sym held))
      by true held d number sem rule to = inr (inr (inl (record {
        asks = asks h memory pc;
        number = number;
        sem = sem;
        inside = refl;
        rule = next_rule l.rule.times l.rule.plus n (number_at memory l.word 4)
            (means_entailed s.word (Known (once_more l.rule)) n (number_at memory l.word 4) rule d.word);
        after = λ m w. at spot false (suc k) m w (let_go s) (set h.regs 10 0) to (fixed_facts s n (number_at memory l.word 4) 0 0 Unknown h.regs regs d tt);
      })))

  pub create_obeys : (b : Bool) (n : ℕ) (h : Hart) (memory : List ℕ) (s : Facts) → h.pc ≡ first p + 4 * k → length h.regs ≡ 32
      → create_checks (places p) k b s ≡ true → Describes s (seen b n) (seen b (number_at memory l.word 4)) h.regs
      → Obeys y p b k n h memory (record { outcome = Call; hart = record h { pc = following h }; memory = memory })
  create_obeys b n h memory s pc regs is d =
      let a = and_parts (is_constant (slot_of s 17) 14 && is_constant (slot_of s 10) 1) (not b && follows (places p) false (suc k) (given s 10 Unknown)) is in
      let c = and_parts (is_constant (slot_of s 17) 14) (is_constant (slot_of s 10) 1) a.0 in
      let e = and_parts (not b) (follows (places p) false (suc k) (given s 10 Unknown)) a.1 in
      by b (not-true b e.0) d (found s 17 14 (seen b n) (seen b (number_at memory l.word 4)) h.regs (omega arith) c.0 d) (found s 10 1 (seen b n) (seen b (number_at memory l.word 4)) h.regs (omega arith) c.1 d) e.1
    where
      by : (b : Bool) → b ≡ false → Describes s (seen b n) (seen b (number_at memory l.word 4)) h.regs → slice_index h.regs 17 ≡ 14 → slice_index h.regs 10 ≡ 1
          → follows (places p) false (suc k) (given s 10 Unknown) ≡ true
          → Obeys y p b k n h memory (record { outcome = Call; hart = record h { pc = following h }; memory = memory })
      by true free d number count to = absurd (true≢false free)
      by false free d number count to = inr (inr (inr (inl (record {
        asks = asks h memory pc;
        number = number;
        count = count;
        outside = refl;
        after = λ m w value. at spot false (suc k) m w (given s 10 Unknown) (set h.regs 10 value) to (put s 10 Unknown 0 0 value h.regs regs (omega arith) d tt);
      }))))

  pub yield_obeys : (b : Bool) (n : ℕ) (h : Hart) (memory : List ℕ) (s : Facts) → h.pc ≡ first p + 4 * k → length h.regs ≡ 32
      → yield_checks (places p) k b s ≡ true → Describes s (seen b n) (seen b (number_at memory l.word 4)) h.regs
      → Obeys y p b k n h memory (record { outcome = Call; hart = record h { pc = following h }; memory = memory })
  yield_obeys b n h memory s pc regs is d =
      let a = and_parts (is_constant (slot_of s 17) 6) (follows (places p) b (suc k) (given s 10 (Known (constant 0)))) is in
      inr (inr (inr (inr (inl (record {
        asks = asks h memory pc;
        number = inl (found s 17 6 (seen b n) (seen b (number_at memory l.word 4)) h.regs (omega arith) a.0 d);
        after = at spot b (suc k) n (number_at memory l.word 4) (given s 10 (Known (constant 0))) (set h.regs 10 0) a.1
            (put s 10 (Known (constant 0)) (seen b n) (seen b (number_at memory l.word 4)) 0 h.regs regs (omega arith) d (omega arith));
      })))))

  pub sleep_obeys : (b : Bool) (n : ℕ) (h : Hart) (memory : List ℕ) (s : Facts) → h.pc ≡ first p + 4 * k → length h.regs ≡ 32
      → sleep_checks (places p) k b s ≡ true → Describes s (seen b n) (seen b (number_at memory l.word 4)) h.regs
      → Obeys y p b k n h memory (record { outcome = Call; hart = record h { pc = following h }; memory = memory })
  sleep_obeys b n h memory s pc regs is d =
      let a = and_parts (is_constant (slot_of s 17) 26 && is_ticks (slot_of s 10)) (follows (places p) b (suc k) (given s 10 (Known (constant 0)))) is in
      let c = and_parts (is_constant (slot_of s 17) 26) (is_ticks (slot_of s 10)) a.0 in
      inr (inr (inr (inr (inl (record {
        asks = asks h memory pc;
        number = inr (
          found s 17 26 (seen b n) (seen b (number_at memory l.word 4)) h.regs (omega arith) c.0 d,
          ticks (slot_of s 10) (seen b n) (slice_index h.regs 10) c.1 (read s 10 (seen b n) (seen b (number_at memory l.word 4)) h.regs d),
        );
        after = at spot b (suc k) n (number_at memory l.word 4) (given s 10 (Known (constant 0))) (set h.regs 10 0) a.1
            (put s 10 (Known (constant 0)) (seen b n) (seen b (number_at memory l.word 4)) 0 h.regs regs (omega arith) d (omega arith));
      })))))

  -- a call that only answers
  asked_number : (s : Facts) (n v : ℕ) (regs : List ℕ) → only_answers (slot_of s 17) ≡ true → Describes s n v regs
      → (slice_index regs 17 ≡ 1) ⊎ ((slice_index regs 17 ≡ 8) ⊎ ((slice_index regs 17 ≡ 17) ⊎ (slice_index regs 17 ≡ 27)))
  asked_number s n v regs is d = one (or_cases (is_constant (slot_of s 17) 1) (is_constant (slot_of s 17) 8 || (is_constant (slot_of s 17) 17 || is_constant (slot_of s 17) 27)) is)
    where
      three : (is_constant (slot_of s 17) 17 ≡ true) ⊎ (is_constant (slot_of s 17) 27 ≡ true) → (slice_index regs 17 ≡ 17) ⊎ (slice_index regs 17 ≡ 27)
      three (inl z) = inl (found s 17 17 n v regs (omega arith) z d)
      three (inr z) = inr (found s 17 27 n v regs (omega arith) z d)

      two : (is_constant (slot_of s 17) 8 ≡ true) ⊎ ((is_constant (slot_of s 17) 17 || is_constant (slot_of s 17) 27) ≡ true)
          → (slice_index regs 17 ≡ 8) ⊎ ((slice_index regs 17 ≡ 17) ⊎ (slice_index regs 17 ≡ 27))
      two (inl z) = inl (found s 17 8 n v regs (omega arith) z d)
      two (inr z) = inr (three (or_cases (is_constant (slot_of s 17) 17) (is_constant (slot_of s 17) 27) z))

      one : (is_constant (slot_of s 17) 1 ≡ true) ⊎ ((is_constant (slot_of s 17) 8 || (is_constant (slot_of s 17) 17 || is_constant (slot_of s 17) 27)) ≡ true)
          → (slice_index regs 17 ≡ 1) ⊎ ((slice_index regs 17 ≡ 8) ⊎ ((slice_index regs 17 ≡ 17) ⊎ (slice_index regs 17 ≡ 27)))
      one (inl z) = inl (found s 17 1 n v regs (omega arith) z d)
      one (inr z) = inr (two (or_cases (is_constant (slot_of s 17) 8) (is_constant (slot_of s 17) 17 || is_constant (slot_of s 17) 27) z))

  pub answer_obeys : (b : Bool) (n : ℕ) (h : Hart) (memory : List ℕ) (s : Facts) → h.pc ≡ first p + 4 * k → length h.regs ≡ 32
      → answer_checks (places p) k b s ≡ true → Describes s (seen b n) (seen b (number_at memory l.word 4)) h.regs
      → Obeys y p b k n h memory (record { outcome = Call; hart = record h { pc = following h }; memory = memory })
  answer_obeys b n h memory s pc regs is d =
      let a = and_parts (only_answers (slot_of s 17)) (follows (places p) b (suc k) (given s 10 Unknown)) is in
      inr (inr (inr (inr (inr (record {
        asks = asks h memory pc;
        number = asked_number s (seen b n) (seen b (number_at memory l.word 4)) h.regs a.0 d;
        after = λ value. at spot b (suc k) n (number_at memory l.word 4) (given s 10 Unknown) (set h.regs 10 value) a.1
            (put s 10 Unknown (seen b n) (seen b (number_at memory l.word 4)) value h.regs regs (omega arith) d tt);
      })))))

  pub call_obeys : (b : Bool) (n : ℕ) (h : Hart) (memory : List ℕ) (s : Facts) → h.pc ≡ first p + 4 * k → length h.regs ≡ 32
      → (wait_checks l (places p) k b s || (signal_checks l (places p) k b s || (create_checks (places p) k b s || (yield_checks (places p) k b s || (sleep_checks (places p) k b s || answer_checks (places p) k b s))))) ≡ true
      → Describes s (seen b n) (seen b (number_at memory l.word 4)) h.regs
      → Obeys y p b k n h memory (record { outcome = Call; hart = record h { pc = following h }; memory = memory })
  call_obeys b n h memory s pc regs is d = one (or_cases (wait_checks l (places p) k b s) (signal_checks l (places p) k b s || (create_checks (places p) k b s || (yield_checks (places p) k b s || (sleep_checks (places p) k b s || answer_checks (places p) k b s)))) is)
    where
      did : Executed
      did = record { outcome = Call; hart = record h { pc = following h }; memory = memory }

      five : (sleep_checks (places p) k b s ≡ true) ⊎ (answer_checks (places p) k b s ≡ true)
          → Obeys y p b k n h memory (record { outcome = Call; hart = record h { pc = following h }; memory = memory })
      five (inl z) = sleep_obeys b n h memory s pc regs z d
      five (inr z) = answer_obeys b n h memory s pc regs z d

      four : (yield_checks (places p) k b s ≡ true) ⊎ ((sleep_checks (places p) k b s || answer_checks (places p) k b s) ≡ true)
          → Obeys y p b k n h memory (record { outcome = Call; hart = record h { pc = following h }; memory = memory })
      four (inl z) = yield_obeys b n h memory s pc regs z d
      four (inr z) = five (or_cases (sleep_checks (places p) k b s) (answer_checks (places p) k b s) z)

      three : (create_checks (places p) k b s ≡ true) ⊎ ((yield_checks (places p) k b s || (sleep_checks (places p) k b s || answer_checks (places p) k b s)) ≡ true)
          → Obeys y p b k n h memory (record { outcome = Call; hart = record h { pc = following h }; memory = memory })
      three (inl z) = create_obeys b n h memory s pc regs z d
      three (inr z) = four (or_cases (yield_checks (places p) k b s) (sleep_checks (places p) k b s || answer_checks (places p) k b s) z)

      two : (signal_checks l (places p) k b s ≡ true) ⊎ ((create_checks (places p) k b s || (yield_checks (places p) k b s || (sleep_checks (places p) k b s || answer_checks (places p) k b s))) ≡ true)
          → Obeys y p b k n h memory (record { outcome = Call; hart = record h { pc = following h }; memory = memory })
      two (inl z) = signal_obeys b n h memory s pc regs z d
      two (inr z) = three (or_cases (create_checks (places p) k b s) (yield_checks (places p) k b s || (sleep_checks (places p) k b s || answer_checks (places p) k b s)) z)

      one : (wait_checks l (places p) k b s ≡ true) ⊎ ((signal_checks l (places p) k b s || (create_checks (places p) k b s || (yield_checks (places p) k b s || (sleep_checks (places p) k b s || answer_checks (places p) k b s)))) ≡ true)
          → Obeys y p b k n h memory (record { outcome = Call; hart = record h { pc = following h }; memory = memory })
      one (inl z) = wait_obeys b n h memory s pc regs z d
      one (inr z) = two (or_cases (signal_checks l (places p) k b s) (create_checks (places p) k b s || (yield_checks (places p) k b s || (sleep_checks (places p) k b s || answer_checks (places p) k b s))) z)
