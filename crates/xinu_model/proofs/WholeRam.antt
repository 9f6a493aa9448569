-- RAM keeps its size: bytes that are written take the place of others, and no instruction writes past its end.
use Rattle.std.proofs.Common.{◌≡◌, ℕ, zero, suc, ◌+◌, ◌≤◌, ◌*◌, ◌/◌, ◌%◌, ◌==◌, not, Bool, if◌then◌else◌, List, ◌++◌, length, take, drop, Option, None, Some, refl, arith, ◌∙◌}
use Rattle.std.specs.Int.{bytes_low_first}
use Rattle.std.proofs.lemmas.Bool.{cond_both, and_parts, leb-true}
use Rattle.std.proofs.lemmas.List.{length-append, length-take, length-drop}
use Rattle.xinu_base.specs.Constants.{INITRET}
use Rattle.xinu_base.specs.declared.Hart.{Hart}
use Rattle.xinu_base.specs.declared.Outcome.TheVariants.{Went, Exit, Trap}
use Rattle.xinu_base.specs.declared.Cause.TheVariants.{Fetch, Target, Load, Store}
use Rattle.xinu_model.specs.Isa.Effects.{Executed, wrapped, register, stops, following, goes, gives, jumps, branches, loads, stores, effect_on, plus, less, less_unsigned, as_it_is}
use Rattle.xinu_model.specs.Isa.Exec.{exec, obeyed, perform}
use Rattle.xinu_model.specs.Isa.Instructions.{Fields, Name, Row, row_of, sign_extended, Jal, Jalr, Beq, Bne, Blt, Bge, Bltu, Bgeu, Lb, Lh, Lw, Lbu, Lhu, Sb, Sh, Sw}
use Rattle.xinu_model.specs.Memory.{ram_size, in_ram, may_access, number_at, with_bytes, with_number}

-- Bytes that lie in a memory once they are written there leave it its size.
pub length-with_bytes : (memory : List ℕ) (address width : ℕ) (bytes : List ℕ) → length bytes ≡ width → address + width ≤ length memory
    → length (with_bytes memory address width bytes) ≡ length memory
length-with_bytes memory address width bytes size within =
    let a = length-append (take address memory ++ bytes) (drop (address + width) memory) in
    let b = length-append (take address memory) bytes in
    let c = length-take address memory in
    let d = length-drop (address + width) memory in
    omega (arith, a, b, c, d, size, within)

-- so many bytes of a number are so many
length-low_bytes : (i n x : ℕ) → length (bytes_low_first i n x) ≡ n
length-low_bytes i zero x = refl
length-low_bytes i (suc n) x = let e = length-low_bytes (suc i) n x in omega (arith, e)

-- So does a number.
pub length-with_number : (memory : List ℕ) (address width n : ℕ) → address + width ≤ length memory
    → length (with_number memory address width n) ≡ length memory
length-with_number memory address width n within =
    length-with_bytes memory address width (bytes_low_first 0 width n) (length-low_bytes 0 width n) within

-- If RAM had its size before this step, it has it after it.
pub record KeepsSize (memory : List ℕ) (did : Executed) : Type 0 where
  pub size : length memory ≡ ram_size → length did.memory ≡ ram_size

-- one of two steps
either : (b : Bool) (memory : List ℕ) (did other : Executed) → KeepsSize memory did → KeepsSize memory other
    → KeepsSize memory (if b then did else other)
either b memory did other first second = cond_both b did other (KeepsSize memory) (λ _. first) (λ _. second)

-- a step that writes nothing
same : (memory : List ℕ) (did : Executed) → did.memory ≡ memory → KeepsSize memory did
same memory did is = record { size = λ size. (let e : length did.memory ≡ length memory = rw is refl in e ∙ size) }

-- what the effects of instructions are made of
jumps_kept : (f : Fields) (h : Hart) (memory : List ℕ) (target : ℕ) → KeepsSize memory (jumps f h memory target)
jumps_kept f h memory target =
    either (target % 4 == 0) memory (goes h memory f.rd (following h) target) (stops h memory (Trap Target))
    (same memory (goes h memory f.rd (following h) target) refl) (same memory (stops h memory (Trap Target)) refl)

branches_kept : (f : Fields) (h : Hart) (memory : List ℕ) (holds : Bool) → KeepsSize memory (branches f h memory holds)
branches_kept f h memory holds =
    let target = wrapped (h.pc + f.imm) in
    let taken : Executed = record { outcome = Went; hart = record h { pc = target }; memory = memory } in
    let passed : Executed = record { outcome = Went; hart = record h { pc = following h }; memory = memory } in
    let trapped = stops h memory (Trap Target) in
    either holds memory (if target % 4 == 0 then taken else trapped) passed (either (target % 4 == 0) memory taken trapped (same memory taken refl) (same memory trapped refl)) (same memory passed refl)

loads_kept : (f : Fields) (h : Hart) (memory : List ℕ) (width : ℕ) (extended : ℕ → ℕ) → KeepsSize memory (loads f h memory width extended)
loads_kept f h memory width extended =
    let address = wrapped (register h.regs f.rs1 + f.imm) in
    let value = extended (number_at memory address width) in
    let trapped = stops h memory (Trap Load) in
    either (may_access address width) memory (gives f h memory value) trapped (same memory (gives f h memory value) refl) (same memory trapped refl)

stores_kept : (f : Fields) (h : Hart) (memory : List ℕ) (width : ℕ) → KeepsSize memory (stores f h memory width)
stores_kept f h memory width =
    let address = wrapped (register h.regs f.rs1 + f.imm) in
    let number = register h.regs f.rs2 in
    let stored : Executed = record { outcome = Went; hart = record h { pc = following h }; memory = with_number memory address width number } in
    let trapped = stops h memory (Trap Store) in
    cond_both (may_access address width) stored trapped (KeepsSize memory)
    (λ may. record {
      size = λ size. (let within = leb-true (address + width) ram_size (and_parts (address % width == 0) (in_ram address width) may).1 in
          let e = length-with_number memory address width number (omega (arith, within, size)) in e ∙ size);
    })
    (λ _. same memory trapped refl)

-- each instruction
kept : (name : Name) (f : Fields) (h : Hart) (memory : List ℕ) (a b : ℕ) → KeepsSize memory (effect_on name f h memory a b)
kept Jal f h memory a b = jumps_kept f h memory (plus h.pc f.imm)
kept Jalr f h memory a b = jumps_kept f h memory (plus a f.imm / 2 * 2)
kept Beq f h memory a b = branches_kept f h memory (a == b)
kept Bne f h memory a b = branches_kept f h memory (not (a == b))
kept Blt f h memory a b = branches_kept f h memory (less a b)
kept Bge f h memory a b = branches_kept f h memory (not (less a b))
kept Bltu f h memory a b = branches_kept f h memory (less_unsigned a b)
kept Bgeu f h memory a b = branches_kept f h memory (not (less_unsigned a b))
kept Lb f h memory a b = loads_kept f h memory 1 (sign_extended 8)
kept Lh f h memory a b = loads_kept f h memory 2 (sign_extended 16)
kept Lw f h memory a b = loads_kept f h memory 4 as_it_is
kept Lbu f h memory a b = loads_kept f h memory 1 as_it_is
kept Lhu f h memory a b = loads_kept f h memory 2 as_it_is
kept Sb f h memory a b = stores_kept f h memory 1
kept Sh f h memory a b = stores_kept f h memory 2
kept Sw f h memory a b = stores_kept f h memory 4
kept _ f h memory a b = record { size = λ size. size }

-- the instruction of a row, or of none
obeyed_kept : (row : Option Row) (word : ℕ) (h : Hart) (memory : List ℕ) → KeepsSize memory (obeyed row word h memory)
obeyed_kept None word h memory = same memory _ refl
obeyed_kept (Some row) word h memory = kept row.name _ h memory _ _

-- A step leaves RAM its size.
pub size_after_step : (h : Hart) (memory : List ℕ) → KeepsSize memory (exec h memory)
unfolding exec
size_after_step h memory =
    let trapped = stops h memory (Trap Fetch) in
    let word = number_at memory h.pc 4 in
    either (h.pc == INITRET) memory (stops h memory Exit) (if may_access h.pc 4 then perform word h memory else trapped) (same memory (stops h memory Exit) refl)
    (either (may_access h.pc 4) memory (perform word h memory) trapped (obeyed_kept (row_of word) word h memory) (same memory trapped refl))
