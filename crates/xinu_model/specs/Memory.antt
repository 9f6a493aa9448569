-- RAM as a list of bytes: ranges, and numbers in it, the lowest byte first (RISC-V unprivileged manual, chapter "Introduction", section "Memory").
use Rattle.std.specs.Prelude.{ℕ, ◌+◌, ◌*◌, ◌%◌, ◌==◌, nat_le, nat_lt, Bool, ◌&&◌, zero, suc, List, [], ◌∷◌, ◌++◌, replicate, take, drop, slice_index}
use Rattle.std.specs.Int.{bytes_low_first}

-- the number of bytes of RAM
abbrev pub ram_size : ℕ
ram_size = 1048576

-- RAM before anything is put into it
unfoldable pub zeros : List ℕ
zeros = replicate ram_size 0

-- whether a range of this many bytes lies in RAM
abbrev pub in_ram : ℕ → ℕ → Bool
in_ram address width = nat_le (address + width) ram_size

-- whether a transfer of this width may be made at an address: it is a multiple of the width, and the bytes are in RAM
abbrev pub may_access : ℕ → ℕ → Bool
may_access address width = (address % width == 0) && in_ram address width

-- the number in the bytes from an address on, the lowest first
abbrev pub number_at : List ℕ → ℕ → ℕ → ℕ
number_at memory address zero = 0
number_at memory address (suc width) = slice_index memory address + 256 * number_at memory (address + 1) width

-- n bytes from an address on
unfoldable pub bytes_from : List ℕ → ℕ → ℕ → List ℕ
bytes_from memory address zero = []
bytes_from memory address (suc n) = slice_index memory address ∷ bytes_from memory (address + 1) n

-- the memory with these bytes from an address on
abbrev pub with_bytes : List ℕ → ℕ → ℕ → List ℕ → List ℕ
with_bytes memory address width bytes = take address memory ++ bytes ++ drop (address + width) memory

-- the memory with the lowest bytes of a number from an address on, the lowest first
abbrev pub with_number : List ℕ → ℕ → ℕ → ℕ → List ℕ
with_number memory address width n = with_bytes memory address width (bytes_low_first 0 width n)

-- whether two ranges of addresses share one, each by its first address and how many it has
abbrev pub ranges_meet : ℕ → ℕ → ℕ → ℕ → Bool
ranges_meet a n b m = (nat_lt 0 n && nat_lt 0 m) && (nat_lt a (b + m) && nat_lt b (a + n))
