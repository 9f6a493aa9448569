-- A word has the row that its opcode, funct3 and funct7 say.
use Rattle.std.proofs.Common.{◌≡◌, ℕ, ◌+◌, ◌*◌, ◌/◌, ◌%◌, ◌^◌, ◌<◌, Bool, true, ◌&&◌, eqb, nat_lt, inl, inr, List, [], ◌∷◌, refl, sym, ap, ◌∙◌, arith}
use Rattle.std.specs.Prelude.{bit_and, ◌==◌, if◌then◌else◌}
use Rattle.std.proofs.lemmas.Nat.{and_mask, and_block}
use Rattle.std.proofs.lemmas.Bool.Decides.{nat_tests, eqb_tells}
use Rattle.std.proofs.lemmas.Bool.{and_parts, ltb-true, eqb-true}
use Rattle.rv_isa.specs.RowFields.{opcode_of, funct3_of, funct7_of, has_parts, row_by}
use Rattle.xinu_model.specs.Isa.Instructions.{Row, rows, row_in, row_of}

-- the opcode alone
pub opcode_masked : (w : ℕ) → bit_and w 0x7f ≡ opcode_of w
opcode_masked w = and_mask w 7

low_masked : (w : ℕ) → bit_and (w % 4096) 0x7f ≡ w % 128
low_masked w = let e : bit_and (w % 4096) 0x7f ≡ w % 4096 % 128 = and_mask (w % 4096) 7 in omega (arith, e)

-- funct3 and the opcode
pub funct3_masked : (w : ℕ) → bit_and w 0x707f ≡ funct3_of w * 4096 + opcode_of w
funct3_masked w =
    let split : w / 4096 * 4096 + w % 4096 ≡ w = omega arith in
    let block : bit_and (w / 4096 * 4096 + w % 4096) 0x707f ≡ bit_and (w / 4096) 7 * 4096 + bit_and (w % 4096) 0x7f = and_block 12 (w / 4096) 7 (w % 4096) 0x7f (omega arith) (omega arith) in
    let high : bit_and (w / 4096) 7 ≡ w / 4096 % 8 = and_mask (w / 4096) 3 in
    ap (λ (n : ℕ). bit_and n 0x707f) (sym split) ∙ block ∙ ap (λ (n : ℕ). n * 4096 + bit_and (w % 4096) 0x7f) high ∙ ap (λ (n : ℕ). funct3_of w * 4096 + n) (low_masked w)

-- funct7, funct3 and the opcode
pub funct7_masked : (w : ℕ) → bit_and w 0xfe00707f ≡ funct7_of w * 33554432 + (funct3_of w * 4096 + opcode_of w)
funct7_masked w =
    let split : w / 33554432 * 33554432 + w % 33554432 ≡ w = omega arith in
    let block : bit_and (w / 33554432 * 33554432 + w % 33554432) 0xfe00707f ≡ bit_and (w / 33554432) 127 * 33554432 + bit_and (w % 33554432) 0x707f = and_block 25 (w / 33554432) 127 (w % 33554432) 0x707f (omega arith) (omega arith) in
    let high : bit_and (w / 33554432) 127 ≡ w / 33554432 % 128 = and_mask (w / 33554432) 7 in
    let low : w % 33554432 / 4096 % 8 * 4096 + w % 33554432 % 128 ≡ funct3_of w * 4096 + opcode_of w = omega arith in
    ap (λ (n : ℕ). bit_and n 0xfe00707f) (sym split) ∙ block ∙ ap (λ (n : ℕ). n * 33554432 + bit_and (w % 33554432) 0x707f) high ∙ ap (λ (n : ℕ). funct7_of w * 33554432 + n) (funct3_masked (w % 33554432) ∙ low)

-- the whole word
pub whole_masked : (w : ℕ) → bit_and w 0xffffffff ≡ w % 4294967296
whole_masked w = and_mask w 32

two_parts : (o f k : ℕ) → o < 128 → k % 4096 < 128 → eqb (f * 4096 + o) k ≡ (eqb o (k % 128) && eqb f (k / 4096))
two_parts o f k small fits = grind (arith, nat_tests)

three_parts : (o f s k : ℕ) → o < 128 → f < 8 → k % 33554432 % 4096 < 128 → k % 33554432 < 32768 → eqb (s * 33554432 + (f * 4096 + o)) k ≡ (eqb o (k % 128) && eqb f (k / 4096 % 8) && eqb s (k / 33554432))
three_parts o f s k small few fits fits' = grind (arith, nat_tests)

whole_parts : (w k : ℕ) → eqb (w % 4294967296) k ≡ (eqb (w % 128) (k % 128) && eqb (w % 4294967296) k)
whole_parts w k = grind (arith, nat_tests)

-- whether a mask is one of the table's four, with bits that lie under it
abbrev pub is_plain : ℕ → ℕ → Bool
is_plain mask bits =
    if mask == 0x7f then true
    else (if mask == 0x707f then nat_lt (bits % 4096) 128
    else (if mask == 0xfe00707f then nat_lt (bits % 4096) 128 && nat_lt (bits % 33554432) 32768
    else mask == 0xffffffff))

abbrev pub are_plain : List Row → Bool
are_plain [] = true
are_plain (r ∷ rs) = is_plain r.mask r.bits && are_plain rs

masked_parts : (w m k : ℕ) → is_plain m k ≡ true → eqb (bit_and w m) k ≡ has_parts (opcode_of w) (funct3_of w) (funct7_of w) (w % 4294967296) m k
masked_parts w m k plain =
    elim (eqb_tells m 0x7f) [
      | inl is ↦ rw (is.1, opcode_masked w) refl
      | inr not ↦ elim (eqb_tells m 0x707f) [
        | inl is ↦
            let fits : k % 4096 < 128 = ltb-true _ _ (rw is.1 at plain) in
            rw (is.1, funct3_masked w) (two_parts (opcode_of w) (funct3_of w) k (omega arith) fits)
        | inr not' ↦ elim (eqb_tells m 0xfe00707f) [
          | inl is ↦
              let both = and_parts (nat_lt (k % 4096) 128) (nat_lt (k % 33554432) 32768) (rw is.1 at plain) in
              let fits : k % 4096 < 128 = ltb-true _ _ both.0 in
              let fits' : k % 33554432 < 32768 = ltb-true _ _ both.1 in
              rw (is.1, funct7_masked w) (three_parts (opcode_of w) (funct3_of w) (funct7_of w) k (omega arith) (omega arith) (omega arith) fits')
          | inr not'' ↦
              let is : m ≡ 0xffffffff = eqb-true _ _ (rw (not.0, not'.0, not''.0) at plain) in
              rw (is, whole_masked w) (whole_parts w k)
        ]
      ]
    ]

pub row_in-parts : (rs : List Row) (w : ℕ) → are_plain rs ≡ true → row_in rs w ≡ row_by rs (opcode_of w) (funct3_of w) (funct7_of w) (w % 4294967296)
row_in-parts [] w plain = refl
row_in-parts (r ∷ rs) w plain =
    let both = and_parts (is_plain r.mask r.bits) (are_plain rs) plain in
    rw (masked_parts w r.mask r.bits both.0, row_in-parts rs w both.1) refl

-- the row of a word, by its opcode, funct3, funct7 and the word itself
pub row_of-parts : (w : ℕ) → w < 2 ^ 32 → row_of w ≡ row_by rows (opcode_of w) (funct3_of w) (funct7_of w) w
row_of-parts w fits =
    let whole : w % 4294967296 ≡ w = omega arith in
    row_in-parts rows w refl ∙ ap (λ (n : ℕ). row_by rows (opcode_of w) (funct3_of w) (funct7_of w) n) whole
