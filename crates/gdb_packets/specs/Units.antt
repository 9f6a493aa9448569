-- What an input begins with: a packet, an answer to one, a byte that interrupts, or noise.
use Rattle.std.specs.Prelude.{ℕ, ◌%◌, ◌==◌, ◌||◌, ◌&&◌, nat_lt, Bool, true, false, if◌then◌else◌, List, [], ◌∷◌, length, take, drop, bit_xor, sum, Option, Some, None}
use Rattle.std.specs.List.{position_or_len}
use Rattle.gdb_packets.specs.Digits.{byte_of, is_hexadecimal}

-- what an input begins with
pub data InputUnit : Type 0 where
  Packet : List ℕ → InputUnit
  Damaged : InputUnit
  Accepted : InputUnit
  Refused : InputUnit
  Interrupt : InputUnit
  Noise : InputUnit
  Partial : InputUnit

-- a packet that isn't whole may have this many bytes before it is given up
abbrev pub most_bytes : ℕ
most_bytes = 16384

-- The bytes that a packet says: each `}` turns bit 5 of the byte after it. The flag says whether a `}` was the last byte; one at the end
-- stands for itself.
abbrev pub unescaped_after : Bool → List ℕ → List ℕ
unescaped_after true [] = 125 ∷ []
unescaped_after false [] = []
unescaped_after true (b ∷ bytes) = bit_xor b 32 ∷ unescaped_after false bytes
unescaped_after false (b ∷ bytes) = if b == 125 then unescaped_after true bytes else b ∷ unescaped_after false bytes

abbrev pub unescaped : List ℕ → List ℕ
unescaped bytes = unescaped_after false bytes

-- whether a byte ends the bytes of a packet: `#`, or a `$` with which another packet begins
abbrev pub is_mark : ℕ → Bool
is_mark b = (b == 35) || (b == 36)

-- whether a packet's digits write this sum of its bytes
abbrev pub writes : Option ℕ → ℕ → Bool
writes (Some written) total = written == total
writes None total = false

-- a packet of these bytes with these two digits
abbrev pub judged : List ℕ → ℕ → ℕ → InputUnit
judged bytes high low = if writes (byte_of high low) (sum bytes % 256) then Packet (unescaped bytes) else Damaged

-- The bytes of a packet came up to its `#`: what comes then are two digits. Bytes that are no digits belong to what comes next.
abbrev pub summed : List ℕ → List ℕ → List ℕ → InputUnit × List ℕ
summed input bytes [] = (Partial, input)
summed input bytes (high ∷ []) = (Partial, input)
summed input bytes (high ∷ low ∷ rest) =
    if is_hexadecimal high && is_hexadecimal low then (judged bytes high low, rest) else (Damaged, high ∷ low ∷ rest)

-- The bytes of a packet came up to a mark. A packet that another one cuts off is noise; one that has no end by now isn't whole yet, or is
-- given up.
abbrev pub closed : List ℕ → List ℕ → List ℕ → InputUnit × List ℕ
closed input bytes [] = if nat_lt most_bytes (length bytes) then (Damaged, []) else (Partial, input)
closed input bytes (mark ∷ rest) = if mark == 36 then (Noise, mark ∷ rest) else summed input bytes rest

-- the packet that begins with a `$`, by what comes after it
abbrev pub packet_in : List ℕ → List ℕ → InputUnit × List ℕ
packet_in input bytes = closed input (take (position_or_len is_mark bytes) bytes) (drop (position_or_len is_mark bytes) bytes)

-- what an input begins with, and what comes after that: `$` begins a packet, `+` and `-` answer one, and the byte 3 interrupts
abbrev pub first_unit : List ℕ → InputUnit × List ℕ
first_unit [] = (Partial, [])
first_unit (b ∷ rest) =
    if b == 36 then packet_in (b ∷ rest) rest
    else if b == 43 then (Accepted, rest)
    else if b == 45 then (Refused, rest)
    else if b == 3 then (Interrupt, rest)
    else (Noise, rest)
