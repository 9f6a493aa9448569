-- Two processes add 1 to a word over and over, between `wait` and `signal` on semaphore 4, which the first of them makes.
use Rattle.std.specs.Prelude.{ℕ, List, [], ◌∷◌, ◌++◌}
use Rattle.program_logic.specs.Claims.{Program}
use Rattle.program_logic.specs.Images.{image_of}
use Rattle.program_logic.specs.SystemCheck.{words_in}
use Rattle.program_logic.specs.declared.outline.Lock.{Lock}
use Rattle.program_logic.specs.declared.outline.Place.{Place}
use Rattle.program_logic.specs.declared.values.Term.{Term}
use Rattle.proved_programs.specs.Outlining.{a0, a7, either, inside, outside, rounds_by, t0}
use Rattle.xinu_model.specs.Boot.{Loaded}

-- again: addi a0, zero, 4 · sys wait · bne a0, zero, again · a load of the word into t0 · a sum · its store · addi a0, zero, 4 · sys signal ·
-- j again. Whenever nobody has the token the word is one term, and before `signal` it is the other.
abbrev pub guarded : ℕ → ℕ → ℕ → Term → Term → List Place
guarded load add store before after =
    outside 0x00400513 [] ∷
    outside 0x01200893 (a0 4 ∷ []) ∷
    outside 0x00000073 (a0 4 ∷ a7 18 ∷ []) ∷
    either 0xfe051ae3 (a0 4294967295 ∷ []) before (a0 0 ∷ []) ∷
    inside load before [] ∷
    inside add before (t0 before ∷ []) ∷
    inside store before (t0 after ∷ []) ∷
    inside 0x00400513 after [] ∷
    inside 0x01300893 after (a0 4 ∷ []) ∷
    inside 0x00000073 after (a0 4 ∷ a7 19 ∷ []) ∷
    outside 0xfd9ff06f [] ∷
    []

-- addi a0, zero, 1 · sys semcreate · a loop
abbrev pub creating : List Place → List Place
creating loop = outside 0x00100513 [] ∷ outside 0x00e00893 (a0 1 ∷ []) ∷ outside 0x00000073 (a0 1 ∷ a7 14 ∷ []) ∷ loop

-- lw t0, 108(zero) · addi t0, t0, 1 · sw t0, 108(zero)
abbrev pub counting_loop : List Place
counting_loop = guarded 0x06c02283 0x00128293 0x06502623 (rounds_by 1 0) (rounds_by 1 1)

-- The first process begins at 0, and the second at 64; the word lies at 108, and is the number of rounds.
abbrev pub counting_first : Program
counting_first = record { first = 0; places = creating counting_loop }

abbrev pub counting_second : Program
counting_second = record { first = 64; places = counting_loop }

abbrev pub counting_programs : List Program
counting_programs = counting_first ∷ counting_second ∷ []

abbrev pub counting_lock : Lock
counting_lock = record { sem = 4; word = 108; rule = rounds_by 1 0 }

-- the images, of which the second ends with the word
abbrev pub first_words : List ℕ
first_words = words_in (creating counting_loop)

abbrev pub second_words : List ℕ
second_words = words_in counting_loop ++ 0 ∷ []

abbrev pub counting_images : List Loaded
counting_images = image_of 0 first_words ∷ image_of 64 second_words ∷ []
