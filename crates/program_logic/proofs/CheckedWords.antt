-- A place that checks obeys, whatever its word is.
use Rattle.std.proofs.Common.{Bool, List, None, Option, Some, ap, arith, false, inl, inr, length, not, option_map, subst, suc, sym, true, ℕ, ℤ, ◌*◌, ◌+◌, ◌-◌, ◌/◌, ◌<◌, ◌==◌, ◌^◌, ◌∙◌, ◌≡◌, ◌≤◌, ◌⊎◌}
use Rattle.std.proofs.lemmas.Bool.{and_parts, cond_both, true≢false}
use Rattle.std.proofs.lemmas.Int.{of_z-to_z}
use Rattle.std.specs.Int.{cast_unsigned, w32}
use Rattle.std.specs.Prelude.{nat_lt}
use Rattle.rv_isa.specs.Words.{decoded, instr_with}
use Rattle.xinu_base.specs.declared.registers.Hart.{Hart}
use Rattle.xinu_model.specs.Isa.Effects.{Executed, branches, effect, gives, less, less_unsigned, plus, register, wrapped}
use Rattle.xinu_model.specs.Isa.Exec.{obeyed, perform}
use Rattle.xinu_model.specs.Isa.Instructions.{Add, Addi, And, Andi, Auipc, Beq, Bge, Bgeu, Blt, Bltu, Bne, Ebreak, Ecall, Fence, Fields, Jal, Jalr, Lb, Lbu, Lh, Lhu, Lui, Lw, Name, Or, Ori, Sb, Sh, Sll, Slli, Slt, Slti, Sltiu, Sltu, Sra, Srai, Srl, Srli, Sub, Sw, Xor, Xori, bits_from, fields, row_of, sign_extended}
use Rattle.xinu_model.specs.Memory.{number_at, ram_size}
use Rattle.xinu_model.specs.Words.{signed}
use Rattle.xinu_model.specs.Isa.Instructions as isa
use Rattle.program_logic.proofs.CheckedBranches.{branch_obeys, jump_obeys}
use Rattle.program_logic.proofs.CheckedCalls.{call_obeys}
use Rattle.program_logic.proofs.CheckedRows.{Spot, gives_obeys, passes_obeys, seen}
use Rattle.program_logic.proofs.CheckedTransfers.{other_load, other_store, word_load, word_store}
use Rattle.program_logic.proofs.Known.{Describes, Means, read, said}
use Rattle.program_logic.proofs.TermValues.{Tells, means_added, means_folded, means_more, means_shifted, means_shifted_by, means_taken, number_is, tells_compared, tells_equal, tells_negated}
use Rattle.program_logic.specs.Acts.{act_of, even, moved}
use Rattle.program_logic.specs.Claims.{row_at, side_claim, system_of}
use Rattle.program_logic.specs.Obeying.{IsObeyed, Obeys}
use Rattle.program_logic.specs.Operations.{folded, result_of}
use Rattle.program_logic.specs.Outlines.{Says, says}
use Rattle.program_logic.specs.PlaceCheck.{act_checks, branch_checks, checks_instr, follows, place_checks, side_checks}
use Rattle.program_logic.specs.Terms.{are_equal, compared, constant, given, negated, number_in, slot_of}
use Rattle.program_logic.specs.declared.acts.Width.TheVariants as width
use Rattle.program_logic.specs.declared.knowledge.Facts.{Facts}
use Rattle.program_logic.specs.declared.operations.Operation.{Operation}
use Rattle.program_logic.specs.declared.operations.Operation.TheVariants as operation
use Rattle.program_logic.specs.declared.outline.Lock.{Lock}
use Rattle.program_logic.specs.declared.outline.Place.{Place}
use Rattle.program_logic.specs.declared.values.Slot.{Slot}
use Rattle.program_logic.specs.declared.values.Slot.TheVariants.{Known, Unknown}

-- An instruction of this name with these registers and this immediate.
module _ {l : Lock} {many : ℕ} {first : ℕ → ℕ} {places : ℕ → List Place} {p k : ℕ} (spot : Spot l many first places p k)
    (b : Bool) (n : ℕ) (h : Hart) (memory : List ℕ) (s : Facts) (rd rs1 rs2 : ℕ) (z : ℤ) (pc : h.pc ≡ first p + 4 * k) (regs : length h.regs ≡ 32)
    (ram : length memory ≡ ram_size) (few : rd < 32) (fits : cast_unsigned w32 z < 2 ^ 32)
    (d : Describes s (seen b n) (seen b (number_at memory l.word 4)) h.regs) where
  abbrev f : Fields
  f = record { rd = rd; rs1 = rs1; rs2 = rs2; imm = cast_unsigned w32 z }

  abbrev Done : Executed → Type 0
  Done did = Obeys (system_of many first places l) p b k n h memory did

  one : Means (slot_of s rs1) (seen b n) (register h.regs rs1)
  one = read s rs1 (seen b n) (seen b (number_at memory l.word 4)) h.regs d

  two : Means (slot_of s rs2) (seen b n) (register h.regs rs2)
  two = read s rs2 (seen b n) (seen b (number_at memory l.word 4)) h.regs d

  imm : Means (Known (constant (cast_unsigned w32 z))) (seen b n) (cast_unsigned w32 z)
  imm = omega (arith, fits)

  sum : Means (moved s rs1 z) (seen b n) (plus (register h.regs rs1) (cast_unsigned w32 z))
  sum = means_more (slot_of s rs1) (seen b n) (register h.regs rs1) (cast_unsigned w32 z) one

  sets : (slot : Slot) (x : ℕ) → Means slot (seen b n) x → follows (places p) b (suc k) (given s rd slot) ≡ true → Done (gives f h memory x)
  sets slot x m is = gives_obeys spot b n h memory f s slot x pc regs few is d m

  branches_to : (known : Option Bool) (holds : Bool) → Tells known holds
      → branch_checks (first p) (places p) k b (cast_unsigned w32 z) known s ≡ true → Done (branches f h memory holds)
  branches_to known holds tells is = branch_obeys spot b n h memory f s known holds pc regs is d tells

  -- comparisons of the two registers
  same : Tells (are_equal (slot_of s rs1) (slot_of s rs2)) (register h.regs rs1 == register h.regs rs2)
  same = tells_equal (slot_of s rs1) (slot_of s rs2) (seen b n) (register h.regs rs1) (register h.regs rs2) one two

  less_than : (test : ℕ → ℕ → Bool) → Tells (compared test (slot_of s rs1) (slot_of s rs2)) (test (register h.regs rs1) (register h.regs rs2))
  less_than test = tells_compared test (slot_of s rs1) (slot_of s rs2) (seen b n) (register h.regs rs1) (register h.regs rs2) one two

  -- an operation on them, and on one and the immediate
  folds : (op : Operation) → Means (folded op (slot_of s rs1) (slot_of s rs2)) (seen b n) (result_of op (register h.regs rs1) (register h.regs rs2))
  folds op = means_folded op (slot_of s rs1) (slot_of s rs2) (seen b n) (register h.regs rs1) (register h.regs rs2) one two

  folds_imm : (op : Operation)
      → Means (folded op (slot_of s rs1) (Known (constant (cast_unsigned w32 z)))) (seen b n) (result_of op (register h.regs rs1) (cast_unsigned w32 z))
  folds_imm op =
      means_folded op (slot_of s rs1) (Known (constant (cast_unsigned w32 z))) (seen b n) (register h.regs rs1) (cast_unsigned w32 z) one imm

  -- the target of a jump to a register
  target_told : (t : ℕ) → even (moved s rs1 z) ≡ Some t → plus (register h.regs rs1) (cast_unsigned w32 z) / 2 * 2 ≡ t
  target_told t is = by (number_is (moved s rs1 z) (seen b n) (plus (register h.regs rs1) (cast_unsigned w32 z)) sum)
    where
      by : (number_in (moved s rs1 z) ≡ None)
          ⊎ ((number_in (moved s rs1 z) ≡ Some (plus (register h.regs rs1) (cast_unsigned w32 z))) × (plus (register h.regs rs1) (cast_unsigned w32 z) < 2 ^ 32))
          → plus (register h.regs rs1) (cast_unsigned w32 z) / 2 * 2 ≡ t
      by (inl e) = let none : None ≡ Some t = sym (ap (option_map (λ a. a / 2 * 2)) e) ∙ is in absurd (cc)
      by (inr e) =
          let some : Some (plus (register h.regs rs1) (cast_unsigned w32 z) / 2 * 2) ≡ Some t = sym (ap (option_map (λ a. a / 2 * 2)) e.0) ∙ is in cc

  name_obeys : (name : Name) → act_checks l (first p) (places p) k b (act_of (instr_with name rd rs1 rs2 z) (first p + 4 * k) s) s ≡ true
      → Done (effect name f h memory)
  name_obeys Lui is = sets (Known (constant (cast_unsigned w32 z))) (cast_unsigned w32 z) imm is
  name_obeys Auipc is = sets (Known (constant (wrapped (first p + 4 * k + cast_unsigned w32 z)))) (plus h.pc (cast_unsigned w32 z)) (omega (arith, pc)) is
  name_obeys Jal is = jump_obeys spot b n h memory f s (Some (wrapped (first p + 4 * k + cast_unsigned w32 z))) (plus h.pc (cast_unsigned w32 z)) pc regs few is d
      (λ t e. ap (λ a. wrapped (a + cast_unsigned w32 z)) pc ∙ (let same_target : wrapped (first p + 4 * k + cast_unsigned w32 z) ≡ t = cc in same_target))
  name_obeys Jalr is = jump_obeys spot b n h memory f s (even (moved s rs1 z)) (plus (register h.regs rs1) (cast_unsigned w32 z) / 2 * 2) pc regs few is d target_told
  name_obeys Beq is = branches_to (are_equal (slot_of s rs1) (slot_of s rs2)) (register h.regs rs1 == register h.regs rs2) same is
  name_obeys Bne is = branches_to (negated (are_equal (slot_of s rs1) (slot_of s rs2))) (not (register h.regs rs1 == register h.regs rs2)) (tells_negated _ _ same) is
  name_obeys Blt is = branches_to (compared less (slot_of s rs1) (slot_of s rs2)) (less (register h.regs rs1) (register h.regs rs2)) (less_than less) is
  name_obeys Bge is = branches_to (negated (compared less (slot_of s rs1) (slot_of s rs2))) (not (less (register h.regs rs1) (register h.regs rs2))) (tells_negated _ _ (less_than less)) is
  name_obeys Bltu is = branches_to (compared less_unsigned (slot_of s rs1) (slot_of s rs2)) (less_unsigned (register h.regs rs1) (register h.regs rs2)) (less_than less_unsigned) is
  name_obeys Bgeu is = branches_to (negated (compared less_unsigned (slot_of s rs1) (slot_of s rs2))) (not (less_unsigned (register h.regs rs1) (register h.regs rs2))) (tells_negated _ _ (less_than less_unsigned)) is
  name_obeys Lb is = other_load spot b n h memory f s width.Byte (moved s rs1 z) (plus (register h.regs rs1) (cast_unsigned w32 z)) _ pc regs few is d sum
  name_obeys Lh is = other_load spot b n h memory f s width.Half (moved s rs1 z) (plus (register h.regs rs1) (cast_unsigned w32 z)) _ pc regs few is d sum
  name_obeys Lw is = word_load spot b n h memory f s (moved s rs1 z) (plus (register h.regs rs1) (cast_unsigned w32 z)) pc regs few is d sum
  name_obeys Lbu is = other_load spot b n h memory f s width.Byte (moved s rs1 z) (plus (register h.regs rs1) (cast_unsigned w32 z)) _ pc regs few is d sum
  name_obeys Lhu is = other_load spot b n h memory f s width.Half (moved s rs1 z) (plus (register h.regs rs1) (cast_unsigned w32 z)) _ pc regs few is d sum
  name_obeys Sb is = other_store spot b n h memory s width.Byte (moved s rs1 z) (plus (register h.regs rs1) (cast_unsigned w32 z)) (register h.regs rs2) pc regs ram is d sum
  name_obeys Sh is = other_store spot b n h memory s width.Half (moved s rs1 z) (plus (register h.regs rs1) (cast_unsigned w32 z)) (register h.regs rs2) pc regs ram is d sum
  name_obeys Sw is = word_store spot b n h memory s (slot_of s rs2) (moved s rs1 z) (plus (register h.regs rs1) (cast_unsigned w32 z)) (register h.regs rs2) pc regs ram is d two sum
  name_obeys Addi is = sets (moved s rs1 z) (plus (register h.regs rs1) (cast_unsigned w32 z)) sum is
  name_obeys Slti is = sets _ _ (folds_imm operation.Less) is
  name_obeys Sltiu is = sets _ _ (folds_imm operation.Below) is
  name_obeys Xori is = sets _ _ (folds_imm operation.Xor) is
  name_obeys Ori is = sets _ _ (folds_imm operation.Or) is
  name_obeys Andi is = sets _ _ (folds_imm operation.And) is
  name_obeys Slli is = sets _ _ (means_shifted (slot_of s rs1) (seen b n) (register h.regs rs1) (cast_unsigned w32 z) one) is
  name_obeys Srli is = sets Unknown _ tt is
  name_obeys Srai is = sets Unknown _ tt is
  name_obeys Add is = sets _ _ (means_added (slot_of s rs1) (slot_of s rs2) (seen b n) (register h.regs rs1) (register h.regs rs2) one two) is
  name_obeys Sub is = sets _ _ (means_taken (slot_of s rs1) (slot_of s rs2) (seen b n) (register h.regs rs1) (register h.regs rs2) one two) is
  name_obeys Sll is = sets _ _ (means_shifted_by (slot_of s rs1) (slot_of s rs2) (seen b n) (register h.regs rs1) (register h.regs rs2) one two) is
  name_obeys Slt is = sets _ _ (folds operation.Less) is
  name_obeys Sltu is = sets _ _ (folds operation.Below) is
  name_obeys Xor is = sets _ _ (folds operation.Xor) is
  name_obeys Srl is = sets Unknown _ tt is
  name_obeys Sra is = sets Unknown _ tt is
  name_obeys Or is = sets _ _ (folds operation.Or) is
  name_obeys And is = sets _ _ (folds operation.And) is
  name_obeys Fence is = passes_obeys spot b n h memory s pc regs is d
  name_obeys Ecall is = call_obeys spot b n h memory s pc regs is d
  name_obeys Ebreak is = absurd (true≢false (sym is))

rd_few : (form : isa.Form) (word : ℕ) → (fields form word).rd < 32
rd_few isa.FormU word = omega arith
rd_few isa.FormJ word = omega arith
rd_few isa.FormI word = omega arith
rd_few isa.FormB word = omega arith
rd_few isa.FormS word = omega arith
rd_few isa.FormShift word = omega arith
rd_few isa.FormR word = omega arith
rd_few isa.FormFence word = omega arith
rd_few isa.FormWhole word = omega arith

extended : (w n : ℕ) → n < 2 ^ w → 2 ^ w ≤ 2 ^ 32 → sign_extended w n < 2 ^ 32
extended w n few small = cond_both (nat_lt n (2 ^ (w - 1))) n (n + (2 ^ 32 - 2 ^ w)) (λ z. z < 2 ^ 32) (λ e. omega (arith, few, small)) (λ e. omega (arith, few, small))

imm_fits : (form : isa.Form) (word : ℕ) → (fields form word).imm < 2 ^ 32
imm_fits isa.FormU word = omega arith
imm_fits isa.FormJ word = extended 21 (bits_from 31 1 word * 2 ^ 20 + bits_from 12 8 word * 2 ^ 12 + bits_from 20 1 word * 2 ^ 11 + bits_from 21 10 word * 2) (omega arith) (omega arith)
imm_fits isa.FormI word = extended 12 (bits_from 20 12 word) (omega arith) (omega arith)
imm_fits isa.FormB word = extended 13 (bits_from 31 1 word * 2 ^ 12 + bits_from 7 1 word * 2 ^ 11 + bits_from 25 6 word * 2 ^ 5 + bits_from 8 4 word * 2) (omega arith) (omega arith)
imm_fits isa.FormS word = extended 12 (bits_from 25 7 word * 2 ^ 5 + bits_from 7 5 word) (omega arith) (omega arith)
imm_fits isa.FormShift word = omega arith
imm_fits isa.FormR word = omega arith
imm_fits isa.FormFence word = omega arith
imm_fits isa.FormWhole word = omega arith

module _ {l : Lock} {many : ℕ} {first : ℕ → ℕ} {places : ℕ → List Place} {p k : ℕ} (spot : Spot l many first places p k) where
  word_obeys : (o : Option isa.Row) (word : ℕ) (b : Bool) (n : ℕ) (h : Hart) (memory : List ℕ) (s : Facts) → h.pc ≡ first p + 4 * k → length h.regs ≡ 32
      → length memory ≡ ram_size → checks_instr l (first p) (places p) k b (decoded o word) s ≡ true
      → Describes s (seen b n) (seen b (number_at memory l.word 4)) h.regs → Obeys (system_of many first places l) p b k n h memory (obeyed o word h memory)
  word_obeys None word b n h memory s pc regs ram is d = absurd (true≢false (sym is))
  word_obeys (Some r) word b n h memory s pc regs ram is d =
      let f = fields r.form word in
      let back = of_z-to_z w32 f.imm (imm_fits r.form word) in
      subst (λ i. Obeys (system_of many first places l) p b k n h memory (effect r.name (record { rd = f.rd; rs1 = f.rs1; rs2 = f.rs2; imm = i }) h memory)) back
      (name_obeys spot b n h memory s f.rd f.rs1 f.rs2 (signed f.imm) pc regs ram (rd_few r.form word)
      (subst (λ i. i < 2 ^ 32) (sym back) (imm_fits r.form word)) d r.name is)

  side_obeys : (o : Option Facts) (word : ℕ) (b : Bool) (n : ℕ) (h : Hart) (memory : List ℕ) → h.pc ≡ first p + 4 * k → length h.regs ≡ 32
      → length memory ≡ ram_size → side_checks l (first p) (places p) k b word o ≡ true
      → Says (side_claim o) (seen b n) (seen b (number_at memory l.word 4)) h.regs → Obeys (system_of many first places l) p b k n h memory (perform word h memory)
  side_obeys None word b n h memory pc regs ram is says = absurd says
  side_obeys (Some s) word b n h memory pc regs ram is says =
      word_obeys (row_of word) word b n h memory s pc regs ram is (said s (seen b n) (seen b (number_at memory l.word 4)) h.regs says)

  pub place_obeys : (q : Place) → place_checks l (first p) (places p) k q ≡ true → IsObeyed (system_of many first places l) p k (row_at q)
  place_obeys q is = record { obeys = by }
    where
      a : (side_checks l (first p) (places p) k false q.word q.free ≡ true) × (side_checks l (first p) (places p) k true q.word q.held ≡ true)
      a = and_parts (side_checks l (first p) (places p) k false q.word q.free) (side_checks l (first p) (places p) k true q.word q.held) is

      by : (b : Bool) (n : ℕ) (h : Hart) (memory : List ℕ) → h.pc ≡ first p + 4 * k → length h.regs ≡ 32 → length memory ≡ ram_size
          → says b (row_at q) n (number_at memory l.word 4) h.regs → Obeys (system_of many first places l) p b k n h memory (perform q.word h memory)
      by false n h memory pc regs ram may = side_obeys q.free q.word false n h memory pc regs ram a.0 may
      by true n h memory pc regs ram may = side_obeys q.held q.word true n h memory pc regs ram a.1 may
