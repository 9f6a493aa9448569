-- Places of a program, by the functions of the files of its images.
use Rattle.std.specs.Prelude.{ℕ, ◌++◌, nat_lt, if◌then◌else◌, List, [], ◌∷◌, Option, Some, None, codes}
use Rattle.std.specs.Fmt.{decimal}
use Rattle.std.specs.Str.{is_utf8}
use Rattle.elf_symbols.specs.Functions.{Place, function_at}

-- of two places the one that is nearer to its beginning, and the first if both are as near
abbrev pub nearer : Option Place → Option Place → Option Place
nearer None other = other
nearer (Some best) None = Some best
nearer (Some best) (Some other) = if nat_lt other.offset best.offset then Some other else Some best

-- The place of an address in the functions of all files: the one that is nearest to its beginning, and of several as near that of the first file.
abbrev pub nearest_function : List (List ℕ) → ℕ → Option Place
nearest_function [] address = None
nearest_function (file ∷ files) address = nearer (function_at file address) (nearest_function files address)

-- bytes as a text: none if they aren't one
unfoldable pub shown : List ℕ → List ℕ
shown bytes = if is_utf8 bytes then bytes else []

-- a function after some words, and how far a place is from its beginning
unfoldable pub place_text : List ℕ → Option Place → List ℕ
place_text words None = []
place_text words (Some place) = words ++ shown place.name ++ codes "+" ++ decimal place.offset

-- The function in which an address is after some words, and how far the address is from its beginning. It is nothing if the address is in no
-- function, or after the end of RAM.
unfoldable pub function_text : List ℕ → List (List ℕ) → ℕ → List ℕ
function_text words files address = if nat_lt address 1048576 then place_text words (nearest_function files address) else []
