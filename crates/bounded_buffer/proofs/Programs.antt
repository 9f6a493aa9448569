-- Each word of the two programs obeys.
use Rattle.std.proofs.Common.{◌≡◌, ◌≢◌, ◌∙◌, ℕ, ◌+◌, ◌*◌, ◌%◌, ◌≤◌, ◌==◌, not, cond, List, [], ◌∷◌, get_or, set, inl, inr, refl, arith, ap}
use Rattle.std.proofs.lemmas.Bool.{eq-eqb}
use Rattle.std.proofs.lemmas.List.{get_or-set_other}
use Rattle.std.specs.Prelude.{slice_index}
use Rattle.xinu_base.specs.declared.registers.Cause.TheVariants.{Target}
use Rattle.xinu_base.specs.declared.registers.Hart.{Hart}
use Rattle.xinu_base.specs.declared.registers.Outcome.TheVariants.{Trap}
use Rattle.xinu_model.specs.Isa.Effects.{branches, following, goes, jumps, plus, stops}
use Rattle.xinu_model.specs.Isa.Exec.{perform}
use Rattle.xinu_model.specs.Isa.Instructions.{FormB, FormJ, fields}
use Rattle.bounded_buffer.specs.Buffer.{code, consumer, producer}
use Rattle.bounded_buffer.specs.Places.{Bare, Counts, Done, Holding, Number, Outside, Phase, Row, Single, no_row, says}
use Rattle.bounded_buffer.proofs.Knowing.{here}
use Rattle.bounded_buffer.proofs.Obeying.{AreObeyed}
use Rattle.bounded_buffer.proofs.Rows as rows
use Rattle.bounded_buffer.proofs.Rows.{gone_to}

infixr 4 ◌⨾◌
-- a table of proofs, row by row
◌⨾◌ : {A B : Type 0} → A → B → A × B
a ⨾ b = (a, b)

abbrev p_row : ℕ → Row
p_row k = get_or producer k no_row

abbrev c_row : ℕ → Row
c_row k = get_or consumer k no_row

-- what a register holds, s0 or t0, after a call was answered
kept : {m : ℕ} (regs : List ℕ) (i x : ℕ) → i ≢ 10 → slice_index regs i ≡ m → slice_index (set regs 10 x) i ≡ m
kept regs i x other is = get_or-set_other regs 10 i x 0 other ∙ is

-- a jump back by 64
jump : (target : ℕ) (h : Hart) (memory : List ℕ) → target % 4 ≡ 0 → target ≤ 1000 → h.pc ≡ target + 64 → perform 0xfc1ff06f h memory ≡ gone_to h memory target
jump target h memory whole near pc =
    let to : plus h.pc 4294967232 ≡ target = omega arith in
    ap (λ t. jumps (fields FormJ 0xfc1ff06f) h memory t) to
    ∙ ap (λ b. cond b (goes h memory 0 (following h) target) (stops h memory (Trap Target))) (eq-eqb (target % 4) 0 whole)

-- whether `wait` was refused, by the branch after it
branch_back : (target : ℕ) (h : Hart) (memory : List ℕ) → target % 4 ≡ 0 → target ≤ 1000 → h.pc ≡ target + 12 → slice_index h.regs 10 ≡ 4294967295
    → perform 0xfe051ae3 h memory ≡ gone_to h memory target
branch_back target h memory whole near pc is =
    let to : plus h.pc 4294967284 ≡ target = omega arith in
    ap (λ a. branches (fields FormB 0xfe051ae3) h memory (not (a == 0))) is
    ∙ ap (λ t. cond (t % 4 == 0) (gone_to h memory t) (stops h memory (Trap Target))) to
    ∙ ap (λ b. cond b (gone_to h memory target) (stops h memory (Trap Target))) (eq-eqb (target % 4) 0 whole)

branch_on : (next : ℕ) (h : Hart) (memory : List ℕ) → next ≤ 1000 → h.pc + 4 ≡ next → slice_index h.regs 10 ≡ 0 → perform 0xfe051ae3 h memory ≡ gone_to h memory next
branch_on next h memory near pc is =
    let f : following h ≡ next = omega arith in
    ap (λ a. branches (fields FormB 0xfe051ae3) h memory (not (a == 0))) is ∙ ap (gone_to h memory) f

-- what is known after the jumps
producer_again : (f : Phase) (c : ℕ) (regs : List ℕ) → says f (p_row 22) c regs → says f (p_row 6) c regs
producer_again Bare c regs may = absurd may.1
producer_again Single c regs may = absurd may.1
producer_again Outside c regs may = may
producer_again Holding c regs may = absurd may.1
producer_again Done c regs may = absurd may.1

consumer_again : (f : Phase) (c : ℕ) (regs : List ℕ) → says f (c_row 16) c regs → says f (c_row 0) c regs
consumer_again Bare c regs may = absurd may.1
consumer_again Single c regs may = absurd may.1
consumer_again Outside c regs may = may
consumer_again Holding c regs may = absurd may.1
consumer_again Done c regs may = absurd may.1

-- where the branches lead
abbrev back_or_on : ℕ → ℕ → Phase → ℕ
back_or_on back on Outside = back
back_or_on back on _ = on

branched_0 : (f : Phase) (c : ℕ) (h : Hart) (memory : List ℕ) → h.pc ≡ 96 + 4 * 3 → says f (c_row 3) c h.regs
    → perform 0xfe051ae3 h memory ≡ gone_to h memory (96 + 4 * back_or_on 0 4 f)
branched_0 Outside c h memory pc may = branch_back 96 h memory refl (omega arith) pc may.1.0
branched_0 Holding c h memory pc may = branch_on 112 h memory (omega arith) (omega arith) may.1.0
branched_0 Bare c h memory pc may = absurd may.1
branched_0 Single c h memory pc may = absurd may.1
branched_0 Done c h memory pc may = absurd may.1

after_branch_0 : (f : Phase) (c : ℕ) (regs : List ℕ) → says f (c_row 3) c regs → says f (c_row (back_or_on 0 4 f)) c regs
after_branch_0 Outside c regs may = (may.0, tt)
after_branch_0 Holding c regs may = (may.0, tt)
after_branch_0 Bare c regs may = absurd may.1
after_branch_0 Single c regs may = absurd may.1
after_branch_0 Done c regs may = absurd may.1

branched_1 : (f : Phase) (c : ℕ) (h : Hart) (memory : List ℕ) → h.pc ≡ 96 + 4 * 11 → says f (c_row 11) c h.regs
    → perform 0xfe051ae3 h memory ≡ gone_to h memory (96 + 4 * back_or_on 8 12 f)
branched_1 Outside c h memory pc may = branch_back 128 h memory refl (omega arith) pc may.1.0
branched_1 Holding c h memory pc may = branch_on 144 h memory (omega arith) (omega arith) may.1.0
branched_1 Bare c h memory pc may = absurd may.1
branched_1 Single c h memory pc may = absurd may.1
branched_1 Done c h memory pc may = absurd may.1

after_branch_1 : (f : Phase) (c : ℕ) (regs : List ℕ) → says f (c_row 11) c regs → says f (c_row (back_or_on 8 12 f)) c regs
after_branch_1 Outside c regs may = (may.0, tt)
after_branch_1 Holding c regs may = (may.0, tt)
after_branch_1 Bare c regs may = absurd may.1
after_branch_1 Single c regs may = absurd may.1
after_branch_1 Done c regs may = absurd may.1

-- Each word of the producer obeys,
pub producer_obeys : AreObeyed 1 0 (code 1)
producer_obeys =
    rows.puts 1 0 (omega arith) (p_row 0) 10 2 (λ h m. refl) (omega arith) refl ⨾
    rows.puts 1 1 (omega arith) (p_row 1) 17 14 (λ h m. refl) (omega arith) refl ⨾
    rows.makes_room 1 2 (omega arith) (Number 10 2 ∷ Number 17 14 ∷ Counts 8 0 ∷ []) refl (λ c regs all. (all.0, all.1.0))
    (λ c x regs even all. (even, (kept regs 8 x (λ e. absurd (omega arith)) all.1.1.0, tt))) ⨾
    rows.puts 1 3 (omega arith) (p_row 3) 10 0 (λ h m. refl) (omega arith) refl ⨾
    rows.puts 1 4 (omega arith) (p_row 4) 17 14 (λ h m. refl) (omega arith) refl ⨾
    rows.makes_items 1 5 (omega arith) (Number 10 0 ∷ Number 17 14 ∷ Counts 8 0 ∷ []) refl (λ c regs all. (all.0, all.1.0))
    (λ c x regs even all. (even, (kept regs 8 x (λ e. absurd (omega arith)) all.1.1.0, tt))) ⨾
    rows.puts 1 6 (omega arith) (p_row 6) 10 4 (λ h m. refl) (omega arith) refl ⨾
    rows.puts 1 7 (omega arith) (p_row 7) 17 18 (λ h m. refl) (omega arith) refl ⨾
    rows.waits 1 8 (omega arith) 0 (Number 10 4 ∷ Number 17 18 ∷ Counts 8 0 ∷ []) (λ c regs all. (all.0, all.1.0))
    (λ c regs many even all. (even, (kept regs 8 0 (λ e. absurd (omega arith)) all.1.1.0, tt))) (inl refl) ⨾
    rows.stores 1 9 (omega arith) 0x0a802223 0 refl (λ h m. refl) (λ c regs even is. (even, (is, tt))) ⨾
    rows.bumps 1 10 (omega arith) 0 (λ c regs even is. (even, (is, tt))) ⨾
    rows.puts 1 11 (omega arith) (p_row 11) 10 5 (λ h m. refl) (omega arith) refl ⨾
    rows.puts 1 12 (omega arith) (p_row 12) 17 19 (λ h m. refl) (omega arith) refl ⨾
    rows.signals_by 1 13 (omega arith) 0 (Number 10 5 ∷ Number 17 19 ∷ Counts 8 1 ∷ []) (λ c regs all. (all.0, all.1.0))
    (λ c regs many even all. (omega (arith, even), (kept regs 8 0 (λ e. absurd (omega arith)) (let e = all.1.1.0 in omega (arith, e)), tt))) ⨾
    rows.puts 1 14 (omega arith) (p_row 14) 10 4 (λ h m. refl) (omega arith) refl ⨾
    rows.puts 1 15 (omega arith) (p_row 15) 17 18 (λ h m. refl) (omega arith) refl ⨾
    rows.waits 1 16 (omega arith) 1 (Number 10 4 ∷ Number 17 18 ∷ Counts 8 0 ∷ []) (λ c regs all. (all.0, all.1.0))
    (λ c regs many even all. (even, (kept regs 8 0 (λ e. absurd (omega arith)) all.1.1.0, tt))) (inl refl) ⨾
    rows.stores 1 17 (omega arith) 0x0a802423 1 refl (λ h m. refl) (λ c regs even is. (even, (is, tt))) ⨾
    rows.bumps 1 18 (omega arith) 1 (λ c regs even is. (even, (is, tt))) ⨾
    rows.puts 1 19 (omega arith) (p_row 19) 10 5 (λ h m. refl) (omega arith) refl ⨾
    rows.puts 1 20 (omega arith) (p_row 20) 17 19 (λ h m. refl) (omega arith) refl ⨾
    rows.signals_by 1 21 (omega arith) 1 (Number 10 5 ∷ Number 17 19 ∷ Counts 8 1 ∷ []) (λ c regs all. (all.0, all.1.0))
    (λ c regs many even all. (omega (arith, even), (kept regs 8 0 (λ e. absurd (omega arith)) (let e = all.1.1.0 in omega (arith, e)), tt))) ⨾
    rows.jumps 1 22 (p_row 22) (λ f. 6) (λ f c h memory pc may. jump 24 h memory refl (omega arith) pc) producer_again ⨾ tt

-- and each of the consumer.
pub consumer_obeys : AreObeyed 2 0 (code 2)
consumer_obeys =
    rows.puts 2 0 (omega arith) (c_row 0) 10 5 (λ h m. refl) (omega arith) refl ⨾
    rows.puts 2 1 (omega arith) (c_row 1) 17 18 (λ h m. refl) (omega arith) refl ⨾
    rows.waits 2 2 (omega arith) 0 (Number 10 5 ∷ Number 17 18 ∷ []) (λ c regs all. (all.0, all.1.0))
    (λ c regs many even all. (even, (here regs 10 0 many (omega arith), tt)))
    (inr (λ c regs many even all. (even, (here regs 10 4294967295 many (omega arith), tt)))) ⨾
    rows.jumps 2 3 (c_row 3) (back_or_on 0 4) branched_0 after_branch_0 ⨾
    rows.loads 2 4 (omega arith) 0x0a402283 0 refl (λ h m. refl) (λ c regs even is. (even, (is, tt))) ⨾
    rows.puts 2 5 (omega arith) (c_row 5) 10 4 (λ h m. refl) (omega arith) refl ⨾
    rows.puts 2 6 (omega arith) (c_row 6) 17 19 (λ h m. refl) (omega arith) refl ⨾
    rows.signals_by 2 7 (omega arith) 0 (Number 10 4 ∷ Number 17 19 ∷ Counts 5 0 ∷ []) (λ c regs all. (all.0, all.1.0))
    (λ c regs many even all. (omega (arith, even), tt)) ⨾
    rows.puts 2 8 (omega arith) (c_row 8) 10 5 (λ h m. refl) (omega arith) refl ⨾
    rows.puts 2 9 (omega arith) (c_row 9) 17 18 (λ h m. refl) (omega arith) refl ⨾
    rows.waits 2 10 (omega arith) 1 (Number 10 5 ∷ Number 17 18 ∷ []) (λ c regs all. (all.0, all.1.0))
    (λ c regs many even all. (even, (here regs 10 0 many (omega arith), tt)))
    (inr (λ c regs many even all. (even, (here regs 10 4294967295 many (omega arith), tt)))) ⨾
    rows.jumps 2 11 (c_row 11) (back_or_on 8 12) branched_1 after_branch_1 ⨾
    rows.loads 2 12 (omega arith) 0x0a802283 1 refl (λ h m. refl) (λ c regs even is. (even, (is, tt))) ⨾
    rows.puts 2 13 (omega arith) (c_row 13) 10 4 (λ h m. refl) (omega arith) refl ⨾
    rows.puts 2 14 (omega arith) (c_row 14) 17 19 (λ h m. refl) (omega arith) refl ⨾
    rows.signals_by 2 15 (omega arith) 1 (Number 10 4 ∷ Number 17 19 ∷ Counts 5 0 ∷ []) (λ c regs all. (all.0, all.1.0))
    (λ c regs many even all. (omega (arith, even), tt)) ⨾
    rows.jumps 2 16 (c_row 16) (λ f. 0) (λ f c h memory pc may. jump 96 h memory refl (omega arith) pc) consumer_again ⨾ tt
