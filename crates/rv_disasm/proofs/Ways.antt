-- The way from an address to the one that a branch or a jump names.
use Rattle.std.proofs.Common.{◌≡◌, ℕ, ◌+◌, ◌-◌, ◌%◌, ◌^◌, ◌<◌, ◌≤◌, Bool, true, false, not, ◌&&◌, ◌||◌, ◌⊎◌, inl, inr, pos, negsuc, ◌-ℤ◌, refl, ◌∙◌, arith, nat_lt, None}
use Rattle.std.specs.Prelude.{◌==◌}
use Rattle.std.proofs.lemmas.Bool.Decides.{nat_tests, leb_tells}
use Rattle.std.proofs.lemmas.Int.{ints}
use Rattle.xinu_model.specs.Isa.Instructions.{sign_extended}
use Rattle.xinu_model.specs.Words.{signed}
use Rattle.asm_syntax.specs.Statements.{word_of}
use Rattle.rv_asm.specs.Faults.{is_far, fault_by}
use Rattle.rv_disasm.specs.Disassembly.{moved}

forward : (a b : ℕ) → b ≤ a → pos a -ℤ pos b ≡ pos (a - b)
forward a b less = omega (arith, ints)

backward : (a b : ℕ) → a < b → pos a -ℤ pos b ≡ negsuc (b - a - 1)
backward a b less = omega (arith, ints)

either : (a b : ℕ) → (b ≤ a) ⊎ (a < b)
either a b = elim (leb_tells b a) [ inl is ↦ inl is.1 | inr not ↦ inr not.1 ]

-- as a word it is the offset
pub way_back : (at imm : ℕ) → at < 2 ^ 32 → imm < 2 ^ 32 → word_of (pos (moved at imm) -ℤ pos at) ≡ imm
way_back at imm fits fits' = elim (either (moved at imm) at) [
  | inl ahead ↦ rw (forward (moved at imm) at ahead) (omega arith)
  | inr behind ↦ rw (backward (moved at imm) at behind) (omega arith)
]

-- in RAM it is the offset with its sign
pub way_signed : (at imm : ℕ) → at < 1048576 → moved at imm ≤ 1048576 → (imm < 1048576) ⊎ ((4293918720 ≤ imm) × (imm < 2 ^ 32)) → pos (moved at imm) -ℤ pos at ≡ signed imm
way_signed at imm low high (inl small) =
    let less : at ≤ moved at imm = omega arith in
    forward (moved at imm) at less ∙ grind (arith, nat_tests)
way_signed at imm low high (inr large) =
    let less : moved at imm < at = omega (arith, large) in
    backward (moved at imm) at less ∙ grind (arith, nat_tests, large)

pub extended_13 : (n : ℕ) → n < 8192 → (sign_extended 13 n < 1048576) ⊎ ((4293918720 ≤ sign_extended 13 n) × (sign_extended 13 n < 2 ^ 32))
extended_13 n less = elim (leb_tells 4096 n) [
  | inl is ↦ inr (grind (arith, nat_tests, is.1), grind (arith, nat_tests, is.1))
  | inr not ↦ inl (grind (arith, nat_tests, not.1))
]

pub extended_21 : (n : ℕ) → n < 2097152 → (sign_extended 21 n < 1048576) ⊎ ((4293918720 ≤ sign_extended 21 n) × (sign_extended 21 n < 2 ^ 32))
extended_21 n less = elim (leb_tells 1048576 n) [
  | inl is ↦ inr (grind (arith, nat_tests, is.1), grind (arith, nat_tests, is.1))
  | inr not ↦ inl (grind (arith, nat_tests, not.1))
]

pub extended-less : (imm : ℕ) → (imm < 1048576) ⊎ ((4293918720 ≤ imm) × (imm < 2 ^ 32)) → imm < 2 ^ 32
extended-less imm (inl small) = omega arith
extended-less imm (inr large) = large.1

pub not_far_13 : (n : ℕ) → n < 8192 → n % 2 ≡ 0 → is_far (signed (sign_extended 13 n)) 4096 ≡ false
not_far_13 n less even = grind (arith, nat_tests)

pub not_far_21 : (n : ℕ) → n < 2097152 → n % 2 ≡ 0 → is_far (signed (sign_extended 21 n)) 1048576 ≡ false
not_far_21 n less even = grind (arith, nat_tests)

-- an instruction at a multiple of 4 in RAM is well placed
pub placed_well : (double : Bool) (a at k : ℕ) → double ≡ false → a ≡ at → at % 4 ≡ 0 → at + 4 ≤ 1048576
    → fault_by false double false ((true && not (a % 4 == 0)) || (true && nat_lt 1048576 (a + 4))) k ≡ None
placed_well double a at k new is aligned fits =
    let even : (a % 4 == 0) ≡ true = grind (arith, nat_tests) in
    let inside : nat_lt 1048576 (a + 4) ≡ false = grind (arith, nat_tests) in
    rw (new, even, inside) refl

-- and so is a word of data
pub data_placed : (double : Bool) (a at k : ℕ) → double ≡ false → a ≡ at → at + 4 ≤ 1048576
    → fault_by false double false ((false && not (a % 4 == 0)) || (true && nat_lt 1048576 (a + 4))) k ≡ None
data_placed double a at k new is fits =
    let inside : nat_lt 1048576 (a + 4) ≡ false = grind (arith, nat_tests) in
    rw (new, inside) refl
