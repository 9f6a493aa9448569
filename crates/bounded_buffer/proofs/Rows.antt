-- The words of the programs, kind by kind.
use Rattle.std.proofs.Common.{◌≡◌, ◌∙◌, ℕ, suc, ◌+◌, ◌*◌, ◌%◌, ◌^◌, ◌<◌, true, List, [], ◌∷◌, length, get_or, set, inl, inr, refl, sym, subst, arith, ap, ⊎_elim, ◌⊎◌}
use Rattle.std.proofs.Math.ListN.{length-set}
use Rattle.std.specs.Prelude.{slice_index}
use Rattle.xinu_base.specs.declared.registers.Hart.{Hart}
use Rattle.xinu_base.specs.declared.registers.Outcome.TheVariants.{Went}
use Rattle.xinu_model.specs.Isa.Effects.{Executed, following}
use Rattle.xinu_model.specs.Isa.Exec.{perform}
use Rattle.xinu_model.specs.Memory.{number_at, with_number}
use Rattle.bounded_buffer.specs.Buffer.{At, code, first, slot_of}
use Rattle.bounded_buffer.specs.Places.{All, Bare, Counts, Done, Holding, Known, Number, Outside, Phase, Row, Single, bare, done, holding, known_in, no_row, outside, says, single}
use Rattle.bounded_buffer.proofs.Knowing.{all_pass, each_passes, followed, follows, here, said}
use Rattle.bounded_buffer.proofs.Obeying.{Asks, IsObeyed, Obeys, signals, stored, waits_on}

-- what comes of an instruction that gives register i a value, and of one that goes on at an address
abbrev pub given_value : Hart → List ℕ → ℕ → ℕ → Executed
given_value h memory i x = record { outcome = Went; hart = record { regs = set h.regs i x; pc = following h }; memory = memory }

abbrev pub gone_to : Hart → List ℕ → ℕ → Executed
gone_to h memory pc = record { outcome = Went; hart = record h { pc = pc }; memory = memory }

abbrev pub next_row : ℕ → ℕ → Row
next_row p k = get_or (code p) (suc k) no_row

module _ (p k : ℕ) (near : first p + 4 * suc k < 2 ^ 32) where
  -- A register takes a number.
  pub puts : (r : Row) (i x : ℕ) → ((h : Hart) (memory : List ℕ) → perform r.word h memory ≡ given_value h memory i x) → i < 32
      → all_pass (follows i (Number i x)) r (next_row p k) ≡ true → IsObeyed p k r
  puts r i x does few is = record {
    obeys = λ f c h memory pc regs item may.
        let e = each_passes (follows i (Number i x)) r (next_row p k) is in
        subst (Obeys p f k c h memory) (sym (does h memory)) (inl (record {
          outcome = refl;
          next = suc k;
          to = f;
          pc = omega arith;
          regs = length-set h.regs i x ∙ regs;
          tokens = refl;
          stage = refl;
          ram = inl (refl, refl);
          holds = (
            may.0 ∙ e.0,
            said (follows i (Number i x)) (known_in f r) (known_in f (next_row p k)) c h.regs (set h.regs i x)
                (λ xs ys t all. followed c h.regs i x (Number i x) xs ys t all (here h.regs i x regs few)) (e.1 f) may.1,
          );
        }));
  }

  asks : (h : Hart) (memory : List ℕ) → h.pc ≡ first p + 4 * k → Asks p k h memory (perform 0x00000073 h memory)
  asks h memory pc = record { does = refl; pc = omega arith }

  -- s0 is greater by one.
  pub bumps : (slot : ℕ) → ((c : ℕ) (regs : List ℕ) → c % 2 ≡ slot → slice_index regs 8 ≡ (c + 1) % 2 ^ 32 → At p Done (suc k) c regs)
      → IsObeyed p k (done 0x00140413 slot (Counts 8 0 ∷ []))
  bumps slot next = record { obeys = obeys }
    where
      obeys : (f : Phase) (c : ℕ) (h : Hart) (memory : List ℕ) → h.pc ≡ first p + 4 * k → length h.regs ≡ 32
          → (p ≡ 2 → f ≡ Holding → number_at memory (slot_of c) 4 ≡ c % 2 ^ 32) → says f (done 0x00140413 slot (Counts 8 0 ∷ [])) c h.regs
          → Obeys p f k c h memory (perform 0x00140413 h memory)
      obeys Done c h memory pc regs item may =
          let x = (slice_index h.regs 8 + 1) % 2 ^ 32 in
          let is : x ≡ (c + 1) % 2 ^ 32 = (let e = may.1.0 in omega (arith, e)) in
          inl (record {
            outcome = refl;
            next = suc k;
            to = Done;
            pc = omega arith;
            regs = length-set h.regs 8 x ∙ regs;
            tokens = refl;
            stage = refl;
            ram = inl (refl, refl);
            holds = next c (set h.regs 8 x) may.0 (here h.regs 8 x regs (omega arith) ∙ is);
          })
      obeys Bare c h memory pc regs item may = absurd may.1
      obeys Single c h memory pc regs item may = absurd may.1
      obeys Outside c h memory pc regs item may = absurd may.1
      obeys Holding c h memory pc regs item may = absurd may.1

  -- The producer's item is stored in its slot.
  pub stores : (word slot : ℕ) → p ≡ 1
      → ((h : Hart) (memory : List ℕ) → perform word h memory ≡ record { outcome = Went; hart = record h { pc = following h }; memory = with_number memory (164 + 4 * slot) 4 (slice_index h.regs 8) })
      → ((c : ℕ) (regs : List ℕ) → c % 2 ≡ slot → slice_index regs 8 ≡ (c + 0) % 2 ^ 32 → At p Done (suc k) c regs)
      → IsObeyed p k (holding word slot (Counts 8 0 ∷ []))
  stores word slot mine does next = record { obeys = obeys }
    where
      obeys : (f : Phase) (c : ℕ) (h : Hart) (memory : List ℕ) → h.pc ≡ first p + 4 * k → length h.regs ≡ 32
          → (p ≡ 2 → f ≡ Holding → number_at memory (slot_of c) 4 ≡ c % 2 ^ 32) → says f (holding word slot (Counts 8 0 ∷ [])) c h.regs
          → Obeys p f k c h memory (perform word h memory)
      obeys Holding c h memory pc regs item may =
          let item_is : slice_index h.regs 8 ≡ c % 2 ^ 32 = (let e = may.1.0 in omega (arith, e)) in
          subst (Obeys p Holding k c h memory) (sym (does h memory)) (inl (record {
            outcome = refl;
            next = suc k;
            to = Done;
            pc = omega arith;
            regs = regs;
            tokens = refl;
            stage = refl;
            ram = inr (record {
              producer = mine;
              holding = refl;
              done = refl;
              is = ap (λ i. with_number memory (164 + 4 * i) 4 (slice_index h.regs 8)) (sym may.0) ∙ ap (λ x. with_number memory (slot_of c) 4 x) item_is;
            });
            holds = next c h.regs may.0 may.1.0;
          }))
      obeys Bare c h memory pc regs item may = absurd may.1
      obeys Single c h memory pc regs item may = absurd may.1
      obeys Outside c h memory pc regs item may = absurd may.1
      obeys Done c h memory pc regs item may = absurd may.1

  -- The consumer's item is loaded.
  pub loads : (word slot : ℕ) → p ≡ 2
      → ((h : Hart) (memory : List ℕ) → perform word h memory ≡ given_value h memory 5 (number_at memory (164 + 4 * slot) 4))
      → ((c : ℕ) (regs : List ℕ) → c % 2 ≡ slot → slice_index regs 5 ≡ (c + 0) % 2 ^ 32 → At p Done (suc k) c regs)
      → IsObeyed p k (holding word slot [])
  loads word slot mine does next = record { obeys = obeys }
    where
      obeys : (f : Phase) (c : ℕ) (h : Hart) (memory : List ℕ) → h.pc ≡ first p + 4 * k → length h.regs ≡ 32
          → (p ≡ 2 → f ≡ Holding → number_at memory (slot_of c) 4 ≡ c % 2 ^ 32) → says f (holding word slot []) c h.regs
          → Obeys p f k c h memory (perform word h memory)
      obeys Holding c h memory pc regs item may =
          let x = number_at memory (164 + 4 * slot) 4 in
          let place : x ≡ number_at memory (slot_of c) 4 = ap (λ i. number_at memory (164 + 4 * i) 4) (sym may.0) in
          let is : x ≡ (c + 0) % 2 ^ 32 = (let e = item mine refl in omega (arith, e, place)) in
          subst (Obeys p Holding k c h memory) (sym (does h memory)) (inl (record {
            outcome = refl;
            next = suc k;
            to = Done;
            pc = omega arith;
            regs = length-set h.regs 5 x ∙ regs;
            tokens = refl;
            stage = refl;
            ram = inl (refl, ap {B = ℕ} (λ i. stored i Done) mine ∙ sym (ap {B = ℕ} (λ i. stored i Holding) mine));
            holds = next c (set h.regs 5 x) may.0 (here h.regs 5 x regs (omega arith) ∙ is);
          }))
      obeys Bare c h memory pc regs item may = absurd may.1
      obeys Single c h memory pc regs item may = absurd may.1
      obeys Outside c h memory pc regs item may = absurd may.1
      obeys Done c h memory pc regs item may = absurd may.1

  -- `wait`
  pub waits : (slot : ℕ) (xs : List Known)
      → ((c : ℕ) (regs : List ℕ) → All c regs xs → (slice_index regs 10 ≡ waits_on p) × (slice_index regs 17 ≡ 18))
      → ((c : ℕ) (regs : List ℕ) → length regs ≡ 32 → c % 2 ≡ slot → All c regs xs → At p Holding (suc k) c (set regs 10 0))
      → ((p ≡ 1) ⊎ ((c : ℕ) (regs : List ℕ) → length regs ≡ 32 → c % 2 ≡ slot → All c regs xs → At p Outside (suc k) c (set regs 10 4294967295)))
      → IsObeyed p k (outside 0x00000073 slot xs)
  waits slot xs args granted refused = record { obeys = obeys }
    where
      obeys : (f : Phase) (c : ℕ) (h : Hart) (memory : List ℕ) → h.pc ≡ first p + 4 * k → length h.regs ≡ 32
          → (p ≡ 2 → f ≡ Holding → number_at memory (slot_of c) 4 ≡ c % 2 ^ 32) → says f (outside 0x00000073 slot xs) c h.regs
          → Obeys p f k c h memory (perform 0x00000073 h memory)
      obeys Outside c h memory pc regs item may = inr (inl (record {
        asks = asks h memory pc;
        number = (args c h.regs may.1).1;
        sem = (args c h.regs may.1).0;
        outside = refl;
        granted = granted c h.regs regs may.0 may.1;
        refused = ⊎_elim (λ (e : p ≡ 1). inl e)
            (λ (g : (c : ℕ) (regs : List ℕ) → length regs ≡ 32 → c % 2 ≡ slot → All c regs xs → At p Outside (suc k) c (set regs 10 4294967295)).
            inr (g c h.regs regs may.0 may.1)) refused;
      }))
      obeys Bare c h memory pc regs item may = absurd may.1
      obeys Single c h memory pc regs item may = absurd may.1
      obeys Holding c h memory pc regs item may = absurd may.1
      obeys Done c h memory pc regs item may = absurd may.1

  -- `signal`
  pub signals_by : (slot : ℕ) (xs : List Known)
      → ((c : ℕ) (regs : List ℕ) → All c regs xs → (slice_index regs 10 ≡ signals p) × (slice_index regs 17 ≡ 19))
      → ((c : ℕ) (regs : List ℕ) → length regs ≡ 32 → c % 2 ≡ slot → All c regs xs → At p Outside (suc k) (c + 1) (set regs 10 0))
      → IsObeyed p k (done 0x00000073 slot xs)
  signals_by slot xs args after = record { obeys = obeys }
    where
      obeys : (f : Phase) (c : ℕ) (h : Hart) (memory : List ℕ) → h.pc ≡ first p + 4 * k → length h.regs ≡ 32
          → (p ≡ 2 → f ≡ Holding → number_at memory (slot_of c) 4 ≡ c % 2 ^ 32) → says f (done 0x00000073 slot xs) c h.regs
          → Obeys p f k c h memory (perform 0x00000073 h memory)
      obeys Done c h memory pc regs item may = inr (inr (inl (record {
        asks = asks h memory pc;
        number = (args c h.regs may.1).1;
        sem = (args c h.regs may.1).0;
        done = refl;
        after = after c h.regs regs may.0 may.1;
      })))
      obeys Bare c h memory pc regs item may = absurd may.1
      obeys Single c h memory pc regs item may = absurd may.1
      obeys Outside c h memory pc regs item may = absurd may.1
      obeys Holding c h memory pc regs item may = absurd may.1

  -- `semcreate`, for the first semaphore and the second
  pub makes_room : (xs : List Known) → p ≡ 1 → ((c : ℕ) (regs : List ℕ) → All c regs xs → (slice_index regs 10 ≡ 2) × (slice_index regs 17 ≡ 14))
      → ((c x : ℕ) (regs : List ℕ) → c % 2 ≡ 0 → All c regs xs → At p Single (suc k) c (set regs 10 x)) → IsObeyed p k (bare 0x00000073 xs)
  makes_room xs mine args after = record { obeys = obeys }
    where
      obeys : (f : Phase) (c : ℕ) (h : Hart) (memory : List ℕ) → h.pc ≡ first p + 4 * k → length h.regs ≡ 32
          → (p ≡ 2 → f ≡ Holding → number_at memory (slot_of c) 4 ≡ c % 2 ^ 32) → says f (bare 0x00000073 xs) c h.regs
          → Obeys p f k c h memory (perform 0x00000073 h memory)
      obeys Bare c h memory pc regs item may = inr (inr (inr (record {
        asks = asks h memory pc;
        number = (args c h.regs may.1).1;
        producer = mine;
        which = inl (refl, ((args c h.regs may.1).0, λ x. after c x h.regs may.0 may.1));
      })))
      obeys Single c h memory pc regs item may = absurd may.1
      obeys Outside c h memory pc regs item may = absurd may.1
      obeys Holding c h memory pc regs item may = absurd may.1
      obeys Done c h memory pc regs item may = absurd may.1

  pub makes_items : (xs : List Known) → p ≡ 1 → ((c : ℕ) (regs : List ℕ) → All c regs xs → (slice_index regs 10 ≡ 0) × (slice_index regs 17 ≡ 14))
      → ((c x : ℕ) (regs : List ℕ) → c % 2 ≡ 0 → All c regs xs → At p Outside (suc k) c (set regs 10 x)) → IsObeyed p k (single 0x00000073 xs)
  makes_items xs mine args after = record { obeys = obeys }
    where
      obeys : (f : Phase) (c : ℕ) (h : Hart) (memory : List ℕ) → h.pc ≡ first p + 4 * k → length h.regs ≡ 32
          → (p ≡ 2 → f ≡ Holding → number_at memory (slot_of c) 4 ≡ c % 2 ^ 32) → says f (single 0x00000073 xs) c h.regs
          → Obeys p f k c h memory (perform 0x00000073 h memory)
      obeys Single c h memory pc regs item may = inr (inr (inr (record {
        asks = asks h memory pc;
        number = (args c h.regs may.1).1;
        producer = mine;
        which = inr (refl, ((args c h.regs may.1).0, λ x. after c x h.regs may.0 may.1));
      })))
      obeys Bare c h memory pc regs item may = absurd may.1
      obeys Outside c h memory pc regs item may = absurd may.1
      obeys Holding c h memory pc regs item may = absurd may.1
      obeys Done c h memory pc regs item may = absurd may.1

-- A jump, or a branch that the registers decide: the place to which it leads.
pub jumps : (p k : ℕ) (r : Row) (place : Phase → ℕ)
    → ((f : Phase) (c : ℕ) (h : Hart) (memory : List ℕ) → h.pc ≡ first p + 4 * k → says f r c h.regs → perform r.word h memory ≡ gone_to h memory (first p + 4 * place f))
    → ((f : Phase) (c : ℕ) (regs : List ℕ) → says f r c regs → At p f (place f) c regs) → IsObeyed p k r
jumps p k r place does next = record {
  obeys = λ f c h memory pc regs item may.
      subst (Obeys p f k c h memory) (sym (does f c h memory pc may)) (inl (record {
        outcome = refl;
        next = place f;
        to = f;
        pc = refl;
        regs = regs;
        tokens = refl;
        stage = refl;
        ram = inl (refl, refl);
        holds = next f c h.regs may;
      }));
}
