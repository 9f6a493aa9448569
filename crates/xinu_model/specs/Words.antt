-- Words of 32 bits and signed numbers.
use Rattle.std.specs.Prelude.{ℕ, ℤ, ◌%◌}
use Rattle.std.specs.Int.{w32, cast_signed, cast_unsigned, w16}

-- a word, read as a number in two's complement
abbrev pub signed : ℕ → ℤ
signed n = cast_signed w32 n

-- a signed number as a word
abbrev pub word : ℤ → ℕ
word n = cast_unsigned w32 n

-- a priority: the low 16 bits of a word, with their sign
abbrev pub half : ℕ → ℤ
half n = cast_signed w16 (n % 65536)
