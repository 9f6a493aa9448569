-- What an instruction does to its process depends on no byte but those that it fetches and loads.
use Rattle.std.proofs.Common.{◌≡◌, ℕ, zero, suc, ◌+◌, ◌%◌, ◌==◌, ◌≤◌, ◌<◌, Bool, true, false, if◌then◌else◌, List, [], get_or, Option, Some, None, refl, sym, ap, subst, arith}
use Rattle.std.specs.List.{Contains}
use Rattle.std.proofs.lemmas.List.Elements.{Contains-append_left}
use Rattle.xinu_base.specs.Constants.{INITRET}
use Rattle.xinu_base.specs.declared.registers.Cause.TheVariants.{Fetch}
use Rattle.xinu_base.specs.declared.registers.Hart.{Hart}
use Rattle.xinu_base.specs.declared.registers.Outcome.TheVariants.{Exit, Trap}
use Rattle.xinu_model.specs.Isa.Effects.{Executed, register, stops, gives, jumps, branches, loads, stores, effect_on, wrapped, as_it_is}
use Rattle.xinu_model.specs.Isa.Exec.{exec, obeyed, perform}
use Rattle.xinu_model.specs.Isa.Instructions.{Name, Fields, Row, fields, row_of, sign_extended, Lui, Auipc, Jal, Jalr, Beq, Bne, Blt, Bge, Bltu, Bgeu, Lb, Lh, Lw, Lbu, Lhu, Sb, Sh, Sw, Addi, Slti, Sltiu, Xori, Ori, Andi, Slli, Srli, Srai, Add, Sub, Sll, Slt, Sltu, Xor, Srl, Sra, Or, And, Fence, Ecall, Ebreak}
use Rattle.xinu_model.specs.Memory.{may_access, number_at}
use Rattle.happens_before.specs.Histories.{Deed, Accessed}
use Rattle.data_races.specs.Instructions.{allowed, instruction_deeds, load_width, obeyed_by, store_width}
use Rattle.data_races.specs.Instructions as deeds
use Rattle.data_races.proofs.Ranges.{touched_in}

-- equal bytes are equal numbers
number_alike : (one two : List ℕ) (at width : ℕ) → ((b : ℕ) → at ≤ b → b < at + width → get_or one b 0 ≡ get_or two b 0) →
    number_at one at width ≡ number_at two at width
number_alike one two at zero same = refl
number_alike one two at (suc width) same =
    let first : get_or one at 0 ≡ get_or two at 0 = same at (omega arith) (omega arith) in
    let rest : number_at one (at + 1) width ≡ number_at two (at + 1) width = number_alike one two (at + 1) width (λ b from within. same b (omega arith) (omega arith)) in
    cc (first, rest)

-- two steps leave the same registers and pc, and come to the same outcome
abbrev pub Alike : Executed → Executed → Type 0
Alike did other = (did.hart ≡ other.hart) × (did.outcome ≡ other.outcome)

either : (b : Bool) (did one other two : Executed) → (b ≡ true → Alike did other) → (b ≡ false → Alike one two) →
    Alike (if b then did else one) (if b then other else two)
either true did one other two first second = first refl
either false did one other two first second = second refl

module _ (one two : List ℕ) where
  module _ (f : Fields) (h : Hart) where
    abbrev reached : ℕ
    reached = wrapped (register h.regs f.rs1 + f.imm)

    jumped : (target : ℕ) → Alike (jumps f h one target) (jumps f h two target)
    jumped target = either (target % 4 == 0) _ _ _ _ (λ _. (refl, refl)) (λ _. (refl, refl))

    branched : (holds : Bool) → Alike (branches f h one holds) (branches f h two holds)
    branched true = either (wrapped (h.pc + f.imm) % 4 == 0) _ _ _ _ (λ _. (refl, refl)) (λ _. (refl, refl))
    branched false = (refl, refl)

    loaded : (width : ℕ) (extended : ℕ → ℕ) → ((b : ℕ) → may_access reached width ≡ true → reached ≤ b → b < reached + width → get_or one b 0 ≡ get_or two b 0) →
        Alike (loads f h one width extended) (loads f h two width extended)
    loaded width extended same =
        either (may_access reached width) _ _ _ _
        (λ may. let number : number_at one reached width ≡ number_at two reached width = number_alike one two reached width (λ b. same b may) in
        (ap (λ n. (gives f h one (extended n)).hart) number, refl))
        (λ _. (refl, refl))

    stored : (width : ℕ) → Alike (stores f h one width) (stores f h two width)
    stored width = either (may_access reached width) _ _ _ _ (λ _. (refl, refl)) (λ _. (refl, refl))

    -- the instructions by name
    by_name : (name : Name) (x y : ℕ) →
        ((b : ℕ) → may_access reached (load_width name) ≡ true → reached ≤ b → b < reached + load_width name → get_or one b 0 ≡ get_or two b 0) →
        Alike (effect_on name f h one x y) (effect_on name f h two x y)
    by_name Lui x y same = (refl, refl)
    by_name Auipc x y same = (refl, refl)
    by_name Jal x y same = jumped _
    by_name Jalr x y same = jumped _
    by_name Beq x y same = branched _
    by_name Bne x y same = branched _
    by_name Blt x y same = branched _
    by_name Bge x y same = branched _
    by_name Bltu x y same = branched _
    by_name Bgeu x y same = branched _
    by_name Lb x y same = loaded 1 (sign_extended 8) same
    by_name Lh x y same = loaded 2 (sign_extended 16) same
    by_name Lw x y same = loaded 4 as_it_is same
    by_name Lbu x y same = loaded 1 as_it_is same
    by_name Lhu x y same = loaded 2 as_it_is same
    by_name Sb x y same = stored 1
    by_name Sh x y same = stored 2
    by_name Sw x y same = stored 4
    by_name Addi x y same = (refl, refl)
    by_name Slti x y same = (refl, refl)
    by_name Sltiu x y same = (refl, refl)
    by_name Xori x y same = (refl, refl)
    by_name Ori x y same = (refl, refl)
    by_name Andi x y same = (refl, refl)
    by_name Slli x y same = (refl, refl)
    by_name Srli x y same = (refl, refl)
    by_name Srai x y same = (refl, refl)
    by_name Add x y same = (refl, refl)
    by_name Sub x y same = (refl, refl)
    by_name Sll x y same = (refl, refl)
    by_name Slt x y same = (refl, refl)
    by_name Sltu x y same = (refl, refl)
    by_name Xor x y same = (refl, refl)
    by_name Srl x y same = (refl, refl)
    by_name Sra x y same = (refl, refl)
    by_name Or x y same = (refl, refl)
    by_name And x y same = (refl, refl)
    by_name Fence x y same = (refl, refl)
    by_name Ecall x y same = (refl, refl)
    by_name Ebreak x y same = (refl, refl)

  module _ (p : ℕ) (h : Hart) where
    -- the loads of a list of deeds find the same bytes
    abbrev pub FindSame : List Deed → Type 0
    FindSame found = (b : ℕ) → Contains found (Accessed (record { process = p; byte = b; stores = false; place = h.pc })) → get_or one b 0 ≡ get_or two b 0

    row_alike : (found : Option Row) (word : ℕ) → FindSame (obeyed_by found word p h) → Alike (obeyed found word h one) (obeyed found word h two)
    row_alike None word same = (refl, refl)
    row_alike (Some row) word same =
        let f : Fields = fields row.form word in
        let address : ℕ = wrapped (register h.regs f.rs1 + f.imm) in
        by_name f h row.name (register h.regs f.rs1) (register h.regs f.rs2) (λ b may from within.
        let width : allowed address (load_width row.name) ≡ load_width row.name = rw may in
        let load : Deed = Accessed (record { process = p; byte = b; stores = false; place = h.pc }) in
        let found : Contains (deeds.loads p h.pc address (allowed address (load_width row.name))) load =
        subst (λ n. Contains (deeds.loads p h.pc address n) load) (sym width) (touched_in false p h.pc address (load_width row.name) b from within) in
        same b (Contains-append_left (deeds.loads p h.pc address (allowed address (load_width row.name))) _ load found))

    pub instruction_alike : ((b : ℕ) → h.pc ≤ b → b < h.pc + 4 → get_or one b 0 ≡ get_or two b 0) → FindSame (instruction_deeds p h one) →
        Alike (exec h one) (exec h two)
    unfolding exec instruction_deeds
    instruction_alike fetched same = by_pc (h.pc == INITRET) (may_access h.pc 4) same where
      word : List ℕ → ℕ
      word memory = number_at memory h.pc 4

      words : word one ≡ word two
      words = number_alike one two h.pc 4 fetched

      by_pc : (exits reads : Bool) → FindSame (if exits then [] else (if reads then obeyed_by (row_of (word one)) (word one) p h else [])) →
          Alike (if exits then stops h one Exit else (if reads then perform (word one) h one else stops h one (Trap Fetch)))
          (if exits then stops h two Exit else (if reads then perform (word two) h two else stops h two (Trap Fetch)))
      by_pc true reads same = (refl, refl)
      by_pc false true same = subst (λ w. Alike (perform (word one) h one) (perform w h two)) words (row_alike (row_of (word one)) (word one) same)
      by_pc false false same = (refl, refl)
