-- What a word does, by its opcode: for the match that picks the function of an opcode.
use Rattle.std.proofs.Common.{◌≡◌, ◌∙◌, ℕ, ◌<◌, ◌^◌, List, eqb, false, sym, ap, refl}
use Rattle.xinu_base.specs.declared.Hart.{Hart}
use Rattle.xinu_base.specs.declared.Outcome.TheVariants.{Trap}
use Rattle.xinu_base.specs.declared.Cause.TheVariants.{Illegal}
use Rattle.xinu_model.specs.Isa.Effects.{stops}
use Rattle.xinu_model.specs.Isa.Exec.{Executed, obeyed, perform}
use Rattle.rv_isa.specs.RowFields.{opcode_of}
use Rattle.rv_isa.proofs.RowByFields.{row_of-parts}
use Rattle.rv_hart.specs.Opcodes.{of_opcode}

-- what a word does is what its opcode says
pub perform-of_opcode : (opcode word : ℕ) (h : Hart) (memory : List ℕ) → word < 2 ^ 32 → opcode_of word ≡ opcode → perform word h memory ≡ of_opcode opcode word h memory
perform-of_opcode opcode word h memory fits is =
    ap (λ r. obeyed r word h memory) (row_of-parts word fits) ∙ ap (λ (o : ℕ). of_opcode o word h memory) is

pub outcome_by : (opcode word : ℕ) (h : Hart) (memory : List ℕ) → word < 2 ^ 32 → opcode_of word ≡ opcode → (of_opcode opcode word h memory).outcome ≡ (perform word h memory).outcome
outcome_by opcode word h memory fits is = ap (λ (e : Executed). e.outcome) (sym (perform-of_opcode opcode word h memory fits is))

pub hart_by : (opcode word : ℕ) (h : Hart) (memory : List ℕ) → word < 2 ^ 32 → opcode_of word ≡ opcode → (of_opcode opcode word h memory).hart ≡ (perform word h memory).hart
hart_by opcode word h memory fits is = ap (λ (e : Executed). e.hart) (sym (perform-of_opcode opcode word h memory fits is))

pub memory_by : (opcode word : ℕ) (h : Hart) (memory : List ℕ) → word < 2 ^ 32 → opcode_of word ≡ opcode → (of_opcode opcode word h memory).memory ≡ (perform word h memory).memory
memory_by opcode word h memory fits is = ap (λ (e : Executed). e.memory) (sym (perform-of_opcode opcode word h memory fits is))

-- no row has another opcode than these eleven
pub no_row : (opcode word : ℕ) (h : Hart) (memory : List ℕ) → eqb opcode 0x03 ≡ false → eqb opcode 0x0f ≡ false → eqb opcode 0x13 ≡ false → eqb opcode 0x17 ≡ false → eqb opcode 0x23 ≡ false → eqb opcode 0x33 ≡ false → eqb opcode 0x37 ≡ false → eqb opcode 0x63 ≡ false → eqb opcode 0x67 ≡ false → eqb opcode 0x6f ≡ false → eqb opcode 0x73 ≡ false → of_opcode opcode word h memory ≡ stops h memory (Trap Illegal)
no_row opcode word h memory a b c d e f g i j k l = rw (a, b, c, d, e, f, g, i, j, k, l) refl
