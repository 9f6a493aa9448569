-- The frames of gdb's remote protocol: a packet is `$`, its bytes, `#`, and two digits of the sum of its bytes.
use Rattle.std.specs.Prelude.{ℕ, ◌%◌, ◌==◌, ◌||◌, Bool, if◌then◌else◌, List, [], ◌∷◌, ◌++◌, bit_xor, sum}
use Rattle.xinu_base.specs.Hexadecimal.{hex_byte}

-- the bytes that a packet can't have as they are: `#`, `$`, `}` and `*`
abbrev pub is_escaped : ℕ → Bool
is_escaped b = (b == 35) || (b == 36) || (b == 125) || (b == 42)

-- a byte as it stands in a packet: an escaped one is `}` and the byte with its bit 5 turned
abbrev pub escaped_byte : ℕ → List ℕ
escaped_byte b = if is_escaped b then 125 ∷ bit_xor b 32 ∷ [] else b ∷ []

-- bytes as they stand in a packet
abbrev pub escaped : List ℕ → List ℕ
escaped [] = []
escaped (b ∷ bytes) = escaped_byte b ++ escaped bytes

-- the packet that has these bytes between its `$` and its `#`
abbrev pub framed : List ℕ → List ℕ
framed bytes = 36 ∷ bytes ++ 35 ∷ hex_byte (sum bytes % 256)

-- the packet that says these bytes
abbrev pub frame : List ℕ → List ℕ
frame payload = framed (escaped payload)
