-- Operands beyond those that a word takes, and the first four of them.
use Rattle.std.specs.Prelude.{◌==◌}
use Rattle.std.proofs.Common.{◌≡◌, ℕ, suc, zero, ◌%◌, ◌<◌, Bool, true, false, cond, List, [], ◌∷◌, length, take, Option, Some}
use Rattle.std.proofs.Common.{None, refl, sym, ap, arith}
use Rattle.asm_syntax.specs.Operands.{Operand}
use Rattle.asm_syntax.specs.CodeOperands.{first_four}
use Rattle.xinu_model.specs.Isa.Instructions.{FormU, FormJ, FormI, FormB, FormS, FormShift, FormR, FormFence, FormWhole}
use Rattle.asm_syntax.specs.Meanings.{Meaning, Instruction, Li, La, Mv, Nop, Jump, Ret, Sys, DotWord, DotByte, DotZero, DotAscii, DotAlign}
use Rattle.asm_syntax.specs.Meanings.{DotPlace, DotEntry, DotPriority, DotStack, Slot, RegisterSlot, NumberSlot, OffsetSlot, slots_of}
use Rattle.asm_syntax.specs.Statements.{made_of, stated}
use Rattle.asm_syntax.specs.Values.{fit, both, fitting}

-- operands beyond the slots make no difference but that they are too many
fitting-take : (slots : List Slot) (n : ℕ) (operands : List Operand) → length slots < n
    → fitting slots (take n operands) ≡ fitting slots operands
fitting-take [] zero operands more = absurd (omega arith)
fitting-take [] (suc n) [] more = refl
fitting-take [] (suc n) (o ∷ os) more = refl
fitting-take (s ∷ ss) zero operands more = absurd (omega arith)
fitting-take (s ∷ ss) (suc n) [] more = refl
fitting-take (s ∷ ss) (suc n) (o ∷ os) more = ap (both (fit s o)) (fitting-take ss n os (omega arith))

few_either : (b : Bool) (xs ys : List Slot) → length xs < 4 → length ys < 4 → length (cond b xs ys) < 4
few_either true xs ys a b = a
few_either false xs ys a b = b

-- no word takes more than three operands
few_slots : (meaning : Meaning) → length (slots_of meaning) < 4
few_slots (Instruction bits FormU) = omega arith
few_slots (Instruction bits FormJ) = omega arith
few_slots (Instruction bits FormI) =
    few_either (bits % 128 == 0x13) (RegisterSlot ∷ RegisterSlot ∷ NumberSlot ∷ []) (RegisterSlot ∷ OffsetSlot ∷ []) (omega arith)
    (omega arith)
few_slots (Instruction bits FormB) = omega arith
few_slots (Instruction bits FormS) = omega arith
few_slots (Instruction bits FormShift) = omega arith
few_slots (Instruction bits FormR) = omega arith
few_slots (Instruction bits FormFence) = omega arith
few_slots (Instruction bits FormWhole) = omega arith
few_slots Li = omega arith
few_slots La = omega arith
few_slots Mv = omega arith
few_slots Nop = omega arith
few_slots Jump = omega arith
few_slots Ret = omega arith
few_slots Sys = omega arith
few_slots DotWord = omega arith
few_slots DotByte = omega arith
few_slots DotZero = omega arith
few_slots DotAscii = omega arith
few_slots DotAlign = omega arith
few_slots DotPlace = omega arith
few_slots DotEntry = omega arith
few_slots DotPriority = omega arith
few_slots DotStack = omega arith

-- the statement of a known word, by its first four operands
pub stated-four : (word : Option Meaning) (meaning : Meaning) (all : Option (List Operand)) (four : List Operand) → word ≡ Some meaning
    → first_four all ≡ Some four → made_of meaning (fitting (slots_of meaning) four) ≡ stated word all
stated-four word meaning None four is few = cc
stated-four word meaning (Some all) four is few =
    let same : take 4 all ≡ four = cc in
    rw (is, sym same) (ap (made_of meaning) (fitting-take (slots_of meaning) 4 all (few_slots meaning)))
