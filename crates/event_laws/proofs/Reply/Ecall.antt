-- An instruction that is a call changes the pc alone.
use Rattle.std.proofs.Common.{◌≡◌, ℕ, ◌+◌, ◌%◌, ◌==◌, Bool, cond, List, Option, Some, None, refl}
use Rattle.std.proofs.lemmas.Bool.{cond_both}
use Rattle.xinu_base.specs.Constants.{INITRET}
use Rattle.xinu_base.specs.declared.registers.Cause.{Cause}
use Rattle.xinu_base.specs.declared.registers.Cause.TheVariants.{Fetch, Illegal, Break, Target, Load, Store}
use Rattle.xinu_base.specs.declared.registers.Hart.{Hart}
use Rattle.xinu_base.specs.declared.registers.Outcome.TheVariants.{Went, Call, Exit, Trap}
use Rattle.xinu_model.specs.Isa.Effects.{Executed, following, register, stops, goes, gives, jumps, branches, loads, stores, effect_on, wrapped, as_it_is}
use Rattle.xinu_model.specs.Isa.Exec.{exec, obeyed, perform}
use Rattle.xinu_model.specs.Isa.Instructions.{Name, Fields, Row, fields, row_of, sign_extended, Lui, Auipc, Jal, Jalr, Beq, Bne, Blt, Bge, Bltu, Bgeu, Lb, Lh, Lw, Lbu, Lhu, Sb, Sh, Sw, Addi, Slti, Sltiu, Xori, Ori, Andi, Slli, Srli, Srai, Add, Sub, Sll, Slt, Sltu, Xor, Srl, Sra, Or, And, Fence, Ecall, Ebreak}
use Rattle.xinu_model.specs.Memory.{may_access, number_at, with_number}

-- if an instruction is a call it leaves RAM and the registers, and goes on at the next address
abbrev pub LeavesCall : Hart → List ℕ → Executed → Type 0
LeavesCall h memory did = did.outcome ≡ Call → (did.hart ≡ record h { pc = following h }) × (did.memory ≡ memory)

-- a trapped instruction is none
traps_no_call : (h : Hart) (memory : List ℕ) (cause : Cause) → LeavesCall h memory (stops h memory (Trap cause))
traps_no_call h memory cause e = absurd (cc)

-- nor is one that gives a register a value
gives_no_call : (f : Fields) (h : Hart) (memory : List ℕ) (value : ℕ) → LeavesCall h memory (gives f h memory value)
gives_no_call f h memory value e = absurd (cc)

-- nor a transfer
jumps_no_call : (f : Fields) (h : Hart) (memory : List ℕ) (target : ℕ) → LeavesCall h memory (jumps f h memory target)
jumps_no_call f h memory target =
    cond_both (target % 4 == 0) (goes h memory f.rd (following h) target) (stops h memory (Trap Target)) (LeavesCall h memory)
    (λ _ e. absurd (cc)) (λ _. traps_no_call h memory Target)

branches_no_call : (f : Fields) (h : Hart) (memory : List ℕ) (holds : Bool) → LeavesCall h memory (branches f h memory holds)
branches_no_call f h memory holds =
    let target = wrapped (h.pc + f.imm) in
    let taken : Executed = record { outcome = Went; hart = record h { pc = target }; memory = memory } in
    let passed : Executed = record { outcome = Went; hart = record h { pc = following h }; memory = memory } in
    cond_both holds (cond (target % 4 == 0) taken (stops h memory (Trap Target))) passed (LeavesCall h memory)
    (λ _. cond_both (target % 4 == 0) taken (stops h memory (Trap Target)) (LeavesCall h memory)
    (λ _ e. absurd (cc)) (λ _. traps_no_call h memory Target))
    (λ _ e. absurd (cc))

-- nor a load or a store
loads_no_call : (f : Fields) (h : Hart) (memory : List ℕ) (width : ℕ) (extended : ℕ → ℕ)
    → LeavesCall h memory (loads f h memory width extended)
loads_no_call f h memory width extended =
    let address = wrapped (register h.regs f.rs1 + f.imm) in
    cond_both (may_access address width) (gives f h memory (extended (number_at memory address width))) (stops h memory (Trap Load))
    (LeavesCall h memory) (λ _ e. absurd (cc)) (λ _. traps_no_call h memory Load)

stores_no_call : (f : Fields) (h : Hart) (memory : List ℕ) (width : ℕ) → LeavesCall h memory (stores f h memory width)
stores_no_call f h memory width =
    let address = wrapped (register h.regs f.rs1 + f.imm) in
    let stored : Executed = record { outcome = Went; hart = record h { pc = following h }; memory = with_number memory address width (register h.regs f.rs2) } in
    cond_both (may_access address width) stored (stops h memory (Trap Store)) (LeavesCall h memory)
    (λ _ e. absurd (cc)) (λ _. traps_no_call h memory Store)

-- the instructions by name
name_leaves_call : (name : Name) (f : Fields) (h : Hart) (memory : List ℕ) (a b : ℕ) → LeavesCall h memory (effect_on name f h memory a b)
name_leaves_call Lui f h memory a b = gives_no_call f h memory _
name_leaves_call Auipc f h memory a b = gives_no_call f h memory _
name_leaves_call Jal f h memory a b = jumps_no_call f h memory _
name_leaves_call Jalr f h memory a b = jumps_no_call f h memory _
name_leaves_call Beq f h memory a b = branches_no_call f h memory _
name_leaves_call Bne f h memory a b = branches_no_call f h memory _
name_leaves_call Blt f h memory a b = branches_no_call f h memory _
name_leaves_call Bge f h memory a b = branches_no_call f h memory _
name_leaves_call Bltu f h memory a b = branches_no_call f h memory _
name_leaves_call Bgeu f h memory a b = branches_no_call f h memory _
name_leaves_call Lb f h memory a b = loads_no_call f h memory _ (sign_extended 8)
name_leaves_call Lh f h memory a b = loads_no_call f h memory _ (sign_extended 16)
name_leaves_call Lw f h memory a b = loads_no_call f h memory _ as_it_is
name_leaves_call Lbu f h memory a b = loads_no_call f h memory _ as_it_is
name_leaves_call Lhu f h memory a b = loads_no_call f h memory _ as_it_is
name_leaves_call Sb f h memory a b = stores_no_call f h memory _
name_leaves_call Sh f h memory a b = stores_no_call f h memory _
name_leaves_call Sw f h memory a b = stores_no_call f h memory _
name_leaves_call Addi f h memory a b = gives_no_call f h memory _
name_leaves_call Slti f h memory a b = gives_no_call f h memory _
name_leaves_call Sltiu f h memory a b = gives_no_call f h memory _
name_leaves_call Xori f h memory a b = gives_no_call f h memory _
name_leaves_call Ori f h memory a b = gives_no_call f h memory _
name_leaves_call Andi f h memory a b = gives_no_call f h memory _
name_leaves_call Slli f h memory a b = gives_no_call f h memory _
name_leaves_call Srli f h memory a b = gives_no_call f h memory _
name_leaves_call Srai f h memory a b = gives_no_call f h memory _
name_leaves_call Add f h memory a b = gives_no_call f h memory _
name_leaves_call Sub f h memory a b = gives_no_call f h memory _
name_leaves_call Sll f h memory a b = gives_no_call f h memory _
name_leaves_call Slt f h memory a b = gives_no_call f h memory _
name_leaves_call Sltu f h memory a b = gives_no_call f h memory _
name_leaves_call Xor f h memory a b = gives_no_call f h memory _
name_leaves_call Srl f h memory a b = gives_no_call f h memory _
name_leaves_call Sra f h memory a b = gives_no_call f h memory _
name_leaves_call Or f h memory a b = gives_no_call f h memory _
name_leaves_call And f h memory a b = gives_no_call f h memory _
name_leaves_call Fence f h memory a b = λ e. absurd (cc)
name_leaves_call Ecall f h memory a b = λ e. (refl, refl)
name_leaves_call Ebreak f h memory a b = traps_no_call h memory Break

-- a word, by its row
row_leaves_call : (found : Option Row) (word : ℕ) (h : Hart) (memory : List ℕ) → LeavesCall h memory (obeyed found word h memory)
row_leaves_call None word h memory = traps_no_call h memory Illegal
row_leaves_call (Some row) word h memory =
    let f = fields row.form word in name_leaves_call row.name f h memory (register h.regs f.rs1) (register h.regs f.rs2)

-- One step of a process that is a call.
pub exec_leaves_call : (h : Hart) (memory : List ℕ) → LeavesCall h memory (exec h memory)
unfolding exec
exec_leaves_call h memory =
    let word = number_at memory h.pc 4 in
    cond_both (h.pc == INITRET) (stops h memory Exit) (cond (may_access h.pc 4) (perform word h memory) (stops h memory (Trap Fetch)))
    (LeavesCall h memory)
    (λ _ e. absurd (cc))
    (λ _. cond_both (may_access h.pc 4) (perform word h memory) (stops h memory (Trap Fetch)) (LeavesCall h memory)
    (λ _. row_leaves_call (row_of word) word h memory) (λ _. traps_no_call h memory Fetch))
