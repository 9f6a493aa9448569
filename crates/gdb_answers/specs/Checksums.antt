-- The checksum of bytes of RAM that gdb's `compare-sections` asks for: a CRC of 32 bits with the polynomial 0x04c11db7, the highest bit first.
use Rattle.std.specs.Prelude.{ℕ, ◌*◌, ◌%◌, nat_lt, if◌then◌else◌, List, [], ◌∷◌, ◌++◌, bit_xor, length, take, drop, codes}
use Rattle.std.specs.Int.{to_be_bytes, w32}
use Rattle.xinu_base.specs.Hexadecimal.{hex_of}

-- a remainder after one bit more
abbrev pub shifted : ℕ → ℕ
shifted crc = if nat_lt crc 2147483648 then crc * 2 % 4294967296 else bit_xor (crc * 2 % 4294967296) 79764919

-- after four bits more
abbrev pub shifted_by_four : ℕ → ℕ
shifted_by_four crc = shifted (shifted (shifted (shifted crc)))

-- after a byte more
abbrev pub crc_after : ℕ → ℕ → ℕ
crc_after crc b = shifted_by_four (shifted_by_four (bit_xor crc (b * 16777216)))

-- after bytes more
abbrev pub crc_from : ℕ → List ℕ → ℕ
crc_from crc [] = crc
crc_from crc (b ∷ bytes) = crc_from (crc_after crc b) bytes

-- the checksum of bytes
abbrev pub crc_of : List ℕ → ℕ
crc_of bytes = crc_from 4294967295 bytes

-- the checksum of so many bytes as eight digits; a fault if there are fewer
abbrev pub checksum_by : ℕ → List ℕ → List ℕ
checksum_by count bytes = if nat_lt (length bytes) count then codes "E14" else codes "C" ++ hex_of (to_be_bytes w32 (crc_of bytes))

-- the checksum of so many bytes of RAM from an address on
abbrev pub checksum_text : List ℕ → ℕ → ℕ → List ℕ
checksum_text memory address count = checksum_by count (take count (drop address memory))
