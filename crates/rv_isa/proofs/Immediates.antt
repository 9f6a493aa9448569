-- A signed immediate is the value of its lowest bits, if it is in the range of those bits.
use Rattle.std.proofs.Common.{◌≡◌, ℕ, ◌%◌, ◌<◌, true, ℤ, pos, negsuc, arith}
use Rattle.std.specs.Int.{w32, cast_unsigned}
use Rattle.std.proofs.lemmas.Bool.Decides.{nat_tests}
use Rattle.xinu_model.specs.Isa.Instructions.{sign_extended}
use Rattle.xinu_model.specs.Words.{signed}
use Rattle.rv_isa.specs.Words.{is_within}

-- the bits of a number of 32 bits, read as a signed number, from its lowest 12 bits
pub low_12 : (z : ℤ) (n : ℕ) → is_within (negsuc 2047) z (pos 2047) ≡ true → n ≡ cast_unsigned w32 z % 4096 → signed (sign_extended 12 n) ≡ z
low_12 (pos k) n within is = grind (arith, nat_tests)
low_12 (negsuc k) n within is = grind (arith, nat_tests)

pub low_13 : (z : ℤ) (n : ℕ) → is_within (negsuc 4095) z (pos 4094) ≡ true → n ≡ cast_unsigned w32 z % 8192 → signed (sign_extended 13 n) ≡ z
low_13 (pos k) n within is = grind (arith, nat_tests)
low_13 (negsuc k) n within is = grind (arith, nat_tests)

pub low_21 : (z : ℤ) (n : ℕ) → is_within (negsuc 1048575) z (pos 1048574) ≡ true → n ≡ cast_unsigned w32 z % 2097152 → signed (sign_extended 21 n) ≡ z
low_21 (pos k) n within is = grind (arith, nat_tests)
low_21 (negsuc k) n within is = grind (arith, nat_tests)

-- a shift amount is its own bits
pub low_5 : (z : ℤ) (u : ℕ) → is_within (pos 0) z (pos 31) ≡ true → u ≡ cast_unsigned w32 z → (u < 32) × (signed u ≡ z)
low_5 (pos k) u within is = let below : k < 32 = grind (arith, nat_tests) in (omega arith, grind (arith, nat_tests))
low_5 (negsuc k) u within is = cc
