-- Three processes add 3 to a word over and over.
use Rattle.std.specs.Prelude.{List, [], ◌∷◌, ◌++◌}
use Rattle.program_logic.specs.Claims.{Program}
use Rattle.program_logic.specs.Images.{image_of}
use Rattle.program_logic.specs.SystemCheck.{words_in}
use Rattle.program_logic.specs.declared.outline.Lock.{Lock}
use Rattle.program_logic.specs.declared.outline.Place.{Place}
use Rattle.proved_programs.specs.Counting.{creating, guarded}
use Rattle.proved_programs.specs.Outlining.{rounds_by}
use Rattle.xinu_model.specs.Boot.{Loaded}

-- lw t0, 156(zero) · addi t0, t0, 3 · sw t0, 156(zero)
abbrev pub adding_loop : List Place
adding_loop = guarded 0x09c02283 0x00328293 0x08502e23 (rounds_by 3 0) (rounds_by 3 3)

abbrev pub adding_first : Program
adding_first = record { first = 0; places = creating adding_loop }

abbrev pub adding_others : List Program
adding_others = (record { first = 64; places = adding_loop }) ∷ (record { first = 112; places = adding_loop }) ∷ []

-- the word is three times the number of rounds
abbrev pub adding_lock : Lock
adding_lock = record { sem = 4; word = 156; rule = rounds_by 3 0 }

abbrev pub adding_images : List Loaded
adding_images = image_of 0 (words_in (creating adding_loop)) ∷ image_of 64 (words_in adding_loop) ∷ image_of 112 (words_in adding_loop ++ 0 ∷ []) ∷ []
