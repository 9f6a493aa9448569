-- An instruction changes no byte but those that it stores to.
use Rattle.std.proofs.Common.{◌≡◌, ◌≢◌, ℕ, zero, suc, ◌+◌, ◌-◌, ◌%◌, ◌==◌, ◌≤◌, ◌<◌, Bool, true, false, cond, if◌then◌else◌, List, [], ◌++◌, length, get_or, take, drop, Option, Some, None, inl, inr, refl, sym, ap, subst, ◌∙◌, arith}
use Rattle.std.specs.Int.{bytes_low_first}
use Rattle.std.specs.List.{Contains}
use Rattle.std.proofs.lemmas.Bool.{and_parts, cases_lt, cond_both, leb-true}
use Rattle.std.proofs.lemmas.List.{get_or_append_left, get_or-append_right, get_or-drop, get_or-take, length-append, length-take-le}
use Rattle.std.proofs.lemmas.List.Elements.{Contains-append_right}
use Rattle.xinu_base.specs.Constants.{INITRET}
use Rattle.xinu_base.specs.declared.registers.Cause.{Cause}
use Rattle.xinu_base.specs.declared.registers.Cause.TheVariants.{Fetch, Break, Target, Load, Store}
use Rattle.xinu_base.specs.declared.registers.Hart.{Hart}
use Rattle.xinu_base.specs.declared.registers.Outcome.TheVariants.{Went, Exit, Trap}
use Rattle.xinu_model.specs.Isa.Effects.{Executed, following, register, stops, goes, gives, jumps, branches, loads, stores, effect_on, wrapped, as_it_is}
use Rattle.xinu_model.specs.Isa.Exec.{exec, obeyed, perform}
use Rattle.xinu_model.specs.Isa.Instructions.{Name, Fields, Row, fields, row_of, sign_extended, Lui, Auipc, Jal, Jalr, Beq, Bne, Blt, Bge, Bltu, Bgeu, Lb, Lh, Lw, Lbu, Lhu, Sb, Sh, Sw, Addi, Slti, Sltiu, Xori, Ori, Andi, Slli, Srli, Srai, Add, Sub, Sll, Slt, Sltu, Xor, Srl, Sra, Or, And, Fence, Ecall, Ebreak}
use Rattle.xinu_model.specs.Memory.{in_ram, may_access, number_at, ram_size, with_bytes, with_number}
use Rattle.happens_before.specs.Histories.{Deed, Accessed}
use Rattle.data_races.specs.Instructions.{allowed, instruction_deeds, load_width, obeyed_by, store_width}
use Rattle.data_races.specs.Instructions as deeds
use Rattle.data_races.proofs.Ranges.{touched_in}

-- so many bytes of a number are so many
length-low_bytes : (i k n : ℕ) → length (bytes_low_first i k n) ≡ k
length-low_bytes i zero n = refl
length-low_bytes i (suc k) n = omega (arith, length-low_bytes (suc i) k n)

-- bytes that are put leave those before and after them
module _ (memory : List ℕ) (at width : ℕ) (bytes : List ℕ) (size : length bytes ≡ width) (fits : at + width ≤ length memory) where
  put_before : (b : ℕ) → b < at → get_or (with_bytes memory at width bytes) b 0 ≡ get_or memory b 0
  put_before b h =
      get_or_append_left (take at memory ++ bytes) (drop (at + width) memory) 0 b
      (omega (arith, length-append (take at memory) bytes, length-take-le at memory (omega arith)))
      ∙ get_or_append_left (take at memory) bytes 0 b (omega (arith, length-take-le at memory (omega arith)))
      ∙ get_or-take at memory b 0 h

  put_after : (b : ℕ) → at + width ≤ b → get_or (with_bytes memory at width bytes) b 0 ≡ get_or memory b 0
  put_after b h =
      let first : length (take at memory ++ bytes) ≡ at + width =
      omega (arith, length-append (take at memory) bytes, length-take-le at memory (omega arith), size) in
      let place : at + width + (b - (at + width)) ≡ b = omega arith in
      get_or-append_right (take at memory ++ bytes) (drop (at + width) memory) (at + width) b 0 first h
      ∙ get_or-drop (at + width) memory (b - (at + width)) 0
      ∙ ap (λ k. get_or memory k 0) place

-- What byte b may be, if an instruction changes it that stores at an address with a width.
module _ (memory : List ℕ) (ram : length memory ≡ ram_size) (b : ℕ) where
  abbrev Within : ℕ → ℕ → Executed → Type 0
  Within address width did = get_or did.memory b 0 ≢ get_or memory b 0 → (may_access address width ≡ true) × (address ≤ b) × (b < address + width)

  same_memory : (address width : ℕ) (did : Executed) → did.memory ≡ memory → Within address width did
  same_memory address width did same changed = absurd (changed (ap (λ m. get_or m b 0) same))

  module _ (f : Fields) (h : Hart) where
    abbrev reached : ℕ
    reached = wrapped (register h.regs f.rs1 + f.imm)

    given : (value : ℕ) → Within reached 0 (gives f h memory value)
    given value = same_memory reached 0 (gives f h memory value) refl

    trapped : (width : ℕ) (cause : Cause) → Within reached width (stops h memory (Trap cause))
    trapped width cause = same_memory reached width (stops h memory (Trap cause)) refl

    jumped : (target : ℕ) → Within reached 0 (jumps f h memory target)
    jumped target =
        cond_both (target % 4 == 0) (goes h memory f.rd (following h) target) (stops h memory (Trap Target)) (Within reached 0)
        (λ _. same_memory reached 0 (goes h memory f.rd (following h) target) refl) (λ _. trapped 0 Target)

    branched : (holds : Bool) → Within reached 0 (branches f h memory holds)
    branched holds =
        let target = wrapped (h.pc + f.imm) in
        let taken : Executed = record { outcome = Went; hart = record h { pc = target }; memory = memory } in
        let passed : Executed = record { outcome = Went; hart = record h { pc = following h }; memory = memory } in
        cond_both holds (cond (target % 4 == 0) taken (stops h memory (Trap Target))) passed (Within reached 0)
        (λ _. cond_both (target % 4 == 0) taken (stops h memory (Trap Target)) (Within reached 0)
        (λ _. same_memory reached 0 taken refl) (λ _. trapped 0 Target))
        (λ _. same_memory reached 0 passed refl)

    loaded : (width : ℕ) (extended : ℕ → ℕ) → Within reached 0 (loads f h memory width extended)
    loaded width extended =
        cond_both (may_access reached width) (gives f h memory (extended (number_at memory reached width))) (stops h memory (Trap Load))
        (Within reached 0) (λ _. given (extended (number_at memory reached width))) (λ _. trapped 0 Load)

    put_within : (width : ℕ) → may_access reached width ≡ true →
        Within reached width (record { outcome = Went; hart = record h { pc = following h }; memory = with_number memory reached width (register h.regs f.rs2) })
    put_within width may changed =
        let fits : reached + width ≤ length memory =
        omega (arith, leb-true (reached + width) ram_size (and_parts (reached % width == 0) (in_ram reached width) may).1, ram) in
        let bytes : List ℕ = bytes_low_first 0 width (register h.regs f.rs2) in
        let size : length bytes ≡ width = length-low_bytes 0 width (register h.regs f.rs2) in
        elim (cases_lt b reached) [
          | inl before ↦ absurd (changed (put_before memory reached width bytes size fits b before))
          | inr from ↦ elim (cases_lt b (reached + width)) [
            | inl within ↦ (may, from, within)
            | inr after ↦ absurd (changed (put_after memory reached width bytes size fits b after))
          ]
        ]

    stored : (width : ℕ) → Within reached width (stores f h memory width)
    stored width =
        let put : Executed = record { outcome = Went; hart = record h { pc = following h }; memory = with_number memory reached width (register h.regs f.rs2) } in
        cond_both (may_access reached width) put (stops h memory (Trap Store)) (Within reached width)
        (λ may. put_within width may) (λ _. trapped width Store)

    -- the instructions by name
    by_name : (name : Name) (x y : ℕ) → Within reached (store_width name) (effect_on name f h memory x y)
    by_name Lui x y = same_memory reached 0 (effect_on Lui f h memory x y) refl
    by_name Auipc x y = same_memory reached 0 (effect_on Auipc f h memory x y) refl
    by_name Jal x y = jumped _
    by_name Jalr x y = jumped _
    by_name Beq x y = branched _
    by_name Bne x y = branched _
    by_name Blt x y = branched _
    by_name Bge x y = branched _
    by_name Bltu x y = branched _
    by_name Bgeu x y = branched _
    by_name Lb x y = loaded 1 (sign_extended 8)
    by_name Lh x y = loaded 2 (sign_extended 16)
    by_name Lw x y = loaded 4 as_it_is
    by_name Lbu x y = loaded 1 as_it_is
    by_name Lhu x y = loaded 2 as_it_is
    by_name Sb x y = stored 1
    by_name Sh x y = stored 2
    by_name Sw x y = stored 4
    by_name Addi x y = same_memory reached 0 (effect_on Addi f h memory x y) refl
    by_name Slti x y = same_memory reached 0 (effect_on Slti f h memory x y) refl
    by_name Sltiu x y = same_memory reached 0 (effect_on Sltiu f h memory x y) refl
    by_name Xori x y = same_memory reached 0 (effect_on Xori f h memory x y) refl
    by_name Ori x y = same_memory reached 0 (effect_on Ori f h memory x y) refl
    by_name Andi x y = same_memory reached 0 (effect_on Andi f h memory x y) refl
    by_name Slli x y = same_memory reached 0 (effect_on Slli f h memory x y) refl
    by_name Srli x y = same_memory reached 0 (effect_on Srli f h memory x y) refl
    by_name Srai x y = same_memory reached 0 (effect_on Srai f h memory x y) refl
    by_name Add x y = same_memory reached 0 (effect_on Add f h memory x y) refl
    by_name Sub x y = same_memory reached 0 (effect_on Sub f h memory x y) refl
    by_name Sll x y = same_memory reached 0 (effect_on Sll f h memory x y) refl
    by_name Slt x y = same_memory reached 0 (effect_on Slt f h memory x y) refl
    by_name Sltu x y = same_memory reached 0 (effect_on Sltu f h memory x y) refl
    by_name Xor x y = same_memory reached 0 (effect_on Xor f h memory x y) refl
    by_name Srl x y = same_memory reached 0 (effect_on Srl f h memory x y) refl
    by_name Sra x y = same_memory reached 0 (effect_on Sra f h memory x y) refl
    by_name Or x y = same_memory reached 0 (effect_on Or f h memory x y) refl
    by_name And x y = same_memory reached 0 (effect_on And f h memory x y) refl
    by_name Fence x y = same_memory reached 0 (effect_on Fence f h memory x y) refl
    by_name Ecall x y = same_memory reached 0 (effect_on Ecall f h memory x y) refl
    by_name Ebreak x y = trapped 0 Break

module _ (p : ℕ) (h : Hart) (memory : List ℕ) (ram : length memory ≡ ram_size) (b : ℕ) where
  -- a store of byte b by the instruction
  abbrev this : Deed
  this = Accessed (record { process = p; byte = b; stores = true; place = h.pc })

  row_stores : (found : Option Row) (word : ℕ) → get_or (obeyed found word h memory).memory b 0 ≢ get_or memory b 0 → Contains (obeyed_by found word p h) this
  row_stores None word changed = absurd (changed refl)
  row_stores (Some row) word changed =
      let f : Fields = fields row.form word in
      let address : ℕ = wrapped (register h.regs f.rs1 + f.imm) in
      let within : (may_access address (store_width row.name) ≡ true) × (address ≤ b) × (b < address + store_width row.name) =
      by_name memory ram b f h row.name (register h.regs f.rs1) (register h.regs f.rs2) changed in
      let width : allowed address (store_width row.name) ≡ store_width row.name = rw within.0 in
      let stores : Contains (deeds.stores p h.pc address (allowed address (store_width row.name))) this =
      subst (λ n. Contains (deeds.stores p h.pc address n) this) (sym width) (touched_in true p h.pc address (store_width row.name) b within.1 within.2) in
      Contains-append_right (deeds.loads p h.pc address (allowed address (load_width row.name))) _ this stores

  pub instruction_stores : get_or (exec h memory).memory b 0 ≢ get_or memory b 0 → Contains (instruction_deeds p h memory) this
  unfolding exec instruction_deeds
  instruction_stores = by_pc (h.pc == INITRET) (may_access h.pc 4) where
    word : ℕ
    word = number_at memory h.pc 4

    by_pc : (exits reads : Bool) →
        get_or (if exits then stops h memory Exit else (if reads then perform word h memory else stops h memory (Trap Fetch))).memory b 0 ≢ get_or memory b 0 →
        Contains (if exits then [] else (if reads then obeyed_by (row_of word) word p h else [])) this
    by_pc true reads changed = absurd (changed refl)
    by_pc false true changed = row_stores (row_of word) word changed
    by_pc false false changed = absurd (changed refl)
