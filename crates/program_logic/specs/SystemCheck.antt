-- The check of programs and of the lock that guards a word, and of the images that are these programs.
use Rattle.std.specs.Prelude.{ℕ, ◌+◌, ◌*◌, ◌%◌, ◌==◌, nat_le, nat_lt, ◌&&◌, Bool, true, false, List, [], ◌∷◌, length}
use Rattle.xinu_model.specs.Boot.{Loaded, with_images}
use Rattle.xinu_model.specs.Memory.{number_at, ram_size, zeros}
use Rattle.program_logic.specs.Claims.{Program}
use Rattle.program_logic.specs.PlaceCheck.{follows, places_check}
use Rattle.program_logic.specs.Terms.{nothing, value}
use Rattle.program_logic.specs.declared.outline.Lock.{Lock}
use Rattle.program_logic.specs.declared.outline.Place.{Place}

-- A program lies below the guarded word, begins without the token and with nothing known, and each of its places checks.
abbrev pub program_checks : Lock → Program → Bool
program_checks l g =
    ((g.first % 4 == 0) && nat_le (g.first + 4 * length g.places) l.word)
    && (follows g.places false 0 nothing && places_check l g.first g.places 0 g.places)

abbrev pub programs_check : Lock → List Program → Bool
programs_check l [] = true
programs_check l (g ∷ programs) = program_checks l g && programs_check l programs

-- a word of RAM is guarded by a semaphore that isn't a device's
abbrev pub lock_checks : Lock → ℕ → Bool
lock_checks l many = ((l.word % 4 == 0) && nat_le (l.word + 4) ram_size) && (nat_lt many 64 && (nat_le 4 l.sem && nat_lt l.sem 128))

-- the programs check, and the lock
abbrev pub system_checks : Lock → List Program → Bool
system_checks l programs = lock_checks l (length programs) && programs_check l programs

-- whether these words lie in RAM from an address on
abbrev pub lie_there : List ℕ → ℕ → List ℕ → Bool
lie_there memory a [] = true
lie_there memory a (w ∷ words) = nat_le (a + 4) (length memory) && ((number_at memory a 4 == w) && lie_there memory (a + 4) words)

abbrev pub words_in : List Place → List ℕ
words_in [] = []
words_in (q ∷ places) = q.word ∷ words_in places

-- each image begins at its program's first word
abbrev pub begin_there : List Program → List Loaded → Bool
begin_there [] [] = true
begin_there (g ∷ programs) (image ∷ images) = (image.entry == g.first) && begin_there programs images
begin_there [] (image ∷ images) = false
begin_there (g ∷ programs) [] = false

abbrev pub all_there : List ℕ → List Program → Bool
all_there memory [] = true
all_there memory (g ∷ programs) = lie_there memory g.first (words_in g.places) && all_there memory programs

-- the lock is the first semaphore that is made, the rule holds before anything runs, and the programs lie in RAM
abbrev pub ram_checks : List ℕ → Lock → List Program → Bool
ram_checks memory l programs = (l.sem == 4) && ((number_at memory l.word 4 == value l.rule 0) && all_there memory programs)

-- the images are these programs
abbrev pub are_there : Lock → List Program → List Loaded → Bool
are_there l programs images = begin_there programs images && ram_checks (with_images images zeros) l programs
