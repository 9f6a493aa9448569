-- An instruction is a call if and only if its word is that of `ecall`.
use Rattle.std.proofs.Common.{◌≡◌, ◌≢◌, ◌∙◌, ℕ, ◌+◌, ◌%◌, ◌<◌, ◌^◌, ◌==◌, ◌&&◌, ◌||◌, not, Bool, true, false, cond, List, [], ◌∷◌, Option, Some, None, refl, sym, ap, subst, arith}
use Rattle.std.specs.Prelude.{bit_and}
use Rattle.std.specs.List.{list_all}
use Rattle.std.proofs.lemmas.Bool.{cond_both, cond-true, cond-false}
use Rattle.std.proofs.lemmas.Bool.Decides.{nat_tests}
use Rattle.refused_calls.specs.Refusals.{is_call}
use Rattle.rv_isa.proofs.RowByFields.{whole_masked}
use Rattle.xinu_base.specs.Constants.{INITRET}
use Rattle.xinu_base.specs.declared.registers.Cause.TheVariants.{Fetch, Illegal, Target, Load, Store}
use Rattle.xinu_base.specs.declared.registers.Hart.{Hart}
use Rattle.xinu_base.specs.declared.registers.Outcome.TheVariants.{Went, Exit, Trap}
use Rattle.xinu_model.specs.Isa.Effects.{Executed, following, register, stops, goes, gives, jumps, branches, loads, stores, effect_on, wrapped, as_it_is}
use Rattle.xinu_model.specs.Isa.Exec.{exec, obeyed, perform}
use Rattle.xinu_model.specs.Isa.Instructions.{Name, Fields, Row, fields, has_bits, row_in, row_of, rows, sign_extended, Lui, Auipc, Jal, Jalr, Beq, Bne, Blt, Bge, Bltu, Bgeu, Lb, Lh, Lw, Lbu, Lhu, Sb, Sh, Sw, Addi, Slti, Sltiu, Xori, Ori, Andi, Slli, Srli, Srai, Add, Sub, Sll, Slt, Sltu, Xor, Srl, Sra, Or, And, Fence, Ecall, Ebreak}
use Rattle.xinu_model.specs.Memory.{may_access, number_at, with_number}

-- whether an instruction is `ecall`, by its name and by its row
abbrev is_ecall : Name → Bool
is_ecall Ecall = true
is_ecall _ = false

abbrev is_ecall_row : Option Row → Bool
is_ecall_row None = false
is_ecall_row (Some row) = is_ecall row.name

-- a transfer is no call
jumps_calls : (f : Fields) (h : Hart) (memory : List ℕ) (target : ℕ) → is_call (jumps f h memory target).outcome ≡ false
jumps_calls f h memory target =
    cond_both (target % 4 == 0) (goes h memory f.rd (following h) target) (stops h memory (Trap Target)) (λ (x : Executed). is_call x.outcome ≡ false)
    (λ _. refl) (λ _. refl)

branches_calls : (f : Fields) (h : Hart) (memory : List ℕ) (holds : Bool) → is_call (branches f h memory holds).outcome ≡ false
branches_calls f h memory holds =
    let target = wrapped (h.pc + f.imm) in
    let taken : Executed = record { outcome = Went; hart = record h { pc = target }; memory = memory } in
    let passed : Executed = record { outcome = Went; hart = record h { pc = following h }; memory = memory } in
    cond_both holds (cond (target % 4 == 0) taken (stops h memory (Trap Target))) passed (λ (x : Executed). is_call x.outcome ≡ false)
    (λ _. cond_both (target % 4 == 0) taken (stops h memory (Trap Target)) (λ (x : Executed). is_call x.outcome ≡ false) (λ _. refl) (λ _. refl))
    (λ _. refl)

-- nor is a load or a store
loads_calls : (f : Fields) (h : Hart) (memory : List ℕ) (width : ℕ) (extended : ℕ → ℕ)
    → is_call (loads f h memory width extended).outcome ≡ false
loads_calls f h memory width extended =
    let address = wrapped (register h.regs f.rs1 + f.imm) in
    cond_both (may_access address width) (gives f h memory (extended (number_at memory address width))) (stops h memory (Trap Load))
    (λ (x : Executed). is_call x.outcome ≡ false) (λ _. refl) (λ _. refl)

stores_calls : (f : Fields) (h : Hart) (memory : List ℕ) (width : ℕ) → is_call (stores f h memory width).outcome ≡ false
stores_calls f h memory width =
    let address = wrapped (register h.regs f.rs1 + f.imm) in
    let stored : Executed = record { outcome = Went; hart = record h { pc = following h }; memory = with_number memory address width (register h.regs f.rs2) } in
    cond_both (may_access address width) stored (stops h memory (Trap Store)) (λ (x : Executed). is_call x.outcome ≡ false) (λ _. refl) (λ _. refl)

-- the instructions by name
name_calls : (name : Name) (f : Fields) (h : Hart) (memory : List ℕ) (a b : ℕ) → is_call (effect_on name f h memory a b).outcome ≡ is_ecall name
name_calls Lui f h memory a b = refl
name_calls Auipc f h memory a b = refl
name_calls Jal f h memory a b = jumps_calls f h memory _
name_calls Jalr f h memory a b = jumps_calls f h memory _
name_calls Beq f h memory a b = branches_calls f h memory _
name_calls Bne f h memory a b = branches_calls f h memory _
name_calls Blt f h memory a b = branches_calls f h memory _
name_calls Bge f h memory a b = branches_calls f h memory _
name_calls Bltu f h memory a b = branches_calls f h memory _
name_calls Bgeu f h memory a b = branches_calls f h memory _
name_calls Lb f h memory a b = loads_calls f h memory _ (sign_extended 8)
name_calls Lh f h memory a b = loads_calls f h memory _ (sign_extended 16)
name_calls Lw f h memory a b = loads_calls f h memory _ as_it_is
name_calls Lbu f h memory a b = loads_calls f h memory _ as_it_is
name_calls Lhu f h memory a b = loads_calls f h memory _ as_it_is
name_calls Sb f h memory a b = stores_calls f h memory _
name_calls Sh f h memory a b = stores_calls f h memory _
name_calls Sw f h memory a b = stores_calls f h memory _
name_calls Addi f h memory a b = refl
name_calls Slti f h memory a b = refl
name_calls Sltiu f h memory a b = refl
name_calls Xori f h memory a b = refl
name_calls Ori f h memory a b = refl
name_calls Andi f h memory a b = refl
name_calls Slli f h memory a b = refl
name_calls Srli f h memory a b = refl
name_calls Srai f h memory a b = refl
name_calls Add f h memory a b = refl
name_calls Sub f h memory a b = refl
name_calls Sll f h memory a b = refl
name_calls Slt f h memory a b = refl
name_calls Sltu f h memory a b = refl
name_calls Xor f h memory a b = refl
name_calls Srl f h memory a b = refl
name_calls Sra f h memory a b = refl
name_calls Or f h memory a b = refl
name_calls And f h memory a b = refl
name_calls Fence f h memory a b = refl
name_calls Ecall f h memory a b = refl
name_calls Ebreak f h memory a b = refl

row_calls : (found : Option Row) (word : ℕ) (h : Hart) (memory : List ℕ) → is_call (obeyed found word h memory).outcome ≡ is_ecall_row found
row_calls None word h memory = refl
row_calls (Some row) word h memory =
    let f = fields row.form word in name_calls row.name f h memory (register h.regs f.rs1) (register h.regs f.rs2)

-- whether a row has all bits of the word of `ecall`, if it is that of `ecall`
abbrev is_whole : Row → Bool
is_whole r = not (is_ecall r.name) || ((r.mask == 4294967295) && (r.bits == 115))

other_row : (ecall : Bool) (mask bits w : ℕ) → (not ecall || ((mask == 4294967295) && (bits == 115))) ≡ true → bit_and w 4294967295 ≡ w → (w == 115) ≡ false
    → (bit_and w mask == bits) ≡ true → ecall ≡ false
other_row false mask bits w whole same other has = refl
other_row true mask bits w whole same other has =
    let one : mask ≡ 4294967295 = grind (arith, nat_tests) in
    let two : bits ≡ 115 = grind (arith, nat_tests) in
    let three : bit_and w mask ≡ w = ap (bit_and w) one ∙ same in
    absurd (grind (arith, nat_tests))

-- another word has another row, or none
no_ecall : (rs : List Row) (w : ℕ) → list_all is_whole rs ≡ true → bit_and w 4294967295 ≡ w → (w == 115) ≡ false → is_ecall_row (row_in rs w) ≡ false
no_ecall [] w whole same other = refl
no_ecall (r ∷ rs) w whole same other =
    cond_both (has_bits w r) (Some r) (row_in rs w) (λ o. is_ecall_row o ≡ false)
    (λ has. other_row (is_ecall r.name) r.mask r.bits w (first_of (is_whole r) (list_all is_whole rs) whole) same other has)
    (λ _. no_ecall rs w (rest_of (is_whole r) (list_all is_whole rs) whole) same other)
  where
    first_of : (a b : Bool) → (a && b) ≡ true → a ≡ true
    first_of true b e = refl
    first_of false b e = absurd (cc)

    rest_of : (a b : Bool) → (a && b) ≡ true → b ≡ true
    rest_of true b e = e
    rest_of false b e = absurd (cc)

ecall_row : (w : ℕ) → w < 2 ^ 32 → is_ecall_row (row_of w) ≡ (w == 115)
ecall_row w small = by_test (w == 115) refl
  where
    by_test : (is : Bool) → (w == 115) ≡ is → is_ecall_row (row_of w) ≡ is
    by_test true e =
        let same : w ≡ 115 = grind (arith, nat_tests) in
        ap (λ n. is_ecall_row (row_of n)) same
    by_test false e =
        let masked : bit_and w 4294967295 ≡ w = let m = whole_masked w in omega (arith, m, small) in
        no_ecall rows w refl masked e

-- no word is where a first function returns to
not_initret : (pc : ℕ) (b : Bool) → (pc == INITRET) ≡ b → may_access pc 4 ≡ true → (pc == INITRET) ≡ false
not_initret pc false is may = is
not_initret pc true is may =
    let same : pc ≡ INITRET = grind (arith, nat_tests) in
    let never : may_access INITRET 4 ≡ true = subst (λ n. may_access n 4 ≡ true) same may in
    absurd (cc)

-- A step that reads a word is a call if the word is `ecall`.
calls_by_word : (h : Hart) (memory : List ℕ) → may_access h.pc 4 ≡ true → number_at memory h.pc 4 < 2 ^ 32
    → is_call (exec h memory).outcome ≡ (number_at memory h.pc 4 == 115)
unfolding exec
calls_by_word h memory may small =
    let word = number_at memory h.pc 4 in
    let inside : (h.pc == INITRET) ≡ false = not_initret h.pc (h.pc == INITRET) refl may in
    ap (λ (b : Bool). is_call (cond b (stops h memory Exit) (cond (may_access h.pc 4) (perform word h memory) (stops h memory (Trap Fetch)))).outcome) inside
    ∙ ap (λ (b : Bool). is_call (cond b (perform word h memory) (stops h memory (Trap Fetch))).outcome) may
    ∙ row_calls (row_of word) word h memory ∙ ecall_row word small

-- One that reads none isn't.
calls_nowhere : (h : Hart) (memory : List ℕ) → may_access h.pc 4 ≡ false → is_call (exec h memory).outcome ≡ false
unfolding exec
calls_nowhere h memory may =
    let word = number_at memory h.pc 4 in
    cond_both (h.pc == INITRET) (stops h memory Exit) (cond (may_access h.pc 4) (perform word h memory) (stops h memory (Trap Fetch))) (λ (x : Executed). is_call x.outcome ≡ false)
    (λ _. refl)
    (λ _. ap (λ (b : Bool). is_call (cond b (perform word h memory) (stops h memory (Trap Fetch))).outcome) may)

-- the same of a word that is read, if there is one
read_so : (may : Bool) (n word : ℕ) → cond may (Some n) None ≡ Some word → (may ≡ true) × (n ≡ word)
read_so true n word is = (refl, let e : n ≡ word = cc in e)
read_so false n word is = absurd (cc)

read_not : (may : Bool) (n : ℕ) → cond may (Some n) None ≡ None → may ≡ false
read_not true n is = absurd (cc)
read_not false n is = refl

pub calls_so : (h : Hart) (memory : List ℕ) (word : ℕ) → cond (may_access h.pc 4) (Some (number_at memory h.pc 4)) None ≡ Some word → word < 2 ^ 32
    → (word == 115) ≡ is_call (exec h memory).outcome
calls_so h memory word is small =
    let so = read_so (may_access h.pc 4) (number_at memory h.pc 4) word is in
    let fits : number_at memory h.pc 4 < 2 ^ 32 = subst (λ n. n < 2 ^ 32) (sym so.1) small in
    ap (λ n. n == 115) (sym so.1) ∙ sym (calls_by_word h memory so.0 fits)

pub calls_not : (h : Hart) (memory : List ℕ) → cond (may_access h.pc 4) (Some (number_at memory h.pc 4)) None ≡ None
    → false ≡ is_call (exec h memory).outcome
calls_not h memory is = sym (calls_nowhere h memory (read_not (may_access h.pc 4) (number_at memory h.pc 4) is))
