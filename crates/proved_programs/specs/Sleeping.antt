-- Two processes add 1 to a word, and sleep with the token between the load and the store.
use Rattle.std.specs.Prelude.{List, [], ◌∷◌, ◌++◌}
use Rattle.program_logic.specs.Claims.{Program}
use Rattle.program_logic.specs.Images.{image_of}
use Rattle.program_logic.specs.SystemCheck.{words_in}
use Rattle.program_logic.specs.declared.outline.Lock.{Lock}
use Rattle.program_logic.specs.declared.outline.Place.{Place}
use Rattle.proved_programs.specs.Counting.{creating}
use Rattle.proved_programs.specs.Outlining.{a0, a7, either, inside, outside, rounds_by, t0}
use Rattle.xinu_model.specs.Boot.{Loaded}

-- again: addi a0, zero, 4 · sys wait · bne a0, zero, again · lw t0, 128(zero) · addi a0, zero, 1 · sys sleepms · addi t0, t0, 1 ·
-- sw t0, 128(zero) · addi a0, zero, 4 · sys signal · j again
abbrev pub sleeping_loop : List Place
sleeping_loop =
    outside 0x00400513 [] ∷
    outside 0x01200893 (a0 4 ∷ []) ∷
    outside 0x00000073 (a0 4 ∷ a7 18 ∷ []) ∷
    either 0xfe051ae3 (a0 4294967295 ∷ []) (rounds_by 1 0) (a0 0 ∷ []) ∷
    inside 0x08002283 (rounds_by 1 0) [] ∷
    inside 0x00100513 (rounds_by 1 0) (t0 (rounds_by 1 0) ∷ []) ∷
    inside 0x01a00893 (rounds_by 1 0) (t0 (rounds_by 1 0) ∷ a0 1 ∷ []) ∷
    inside 0x00000073 (rounds_by 1 0) (t0 (rounds_by 1 0) ∷ a0 1 ∷ a7 26 ∷ []) ∷
    inside 0x00128293 (rounds_by 1 0) (t0 (rounds_by 1 0) ∷ []) ∷
    inside 0x08502023 (rounds_by 1 0) (t0 (rounds_by 1 1) ∷ []) ∷
    inside 0x00400513 (rounds_by 1 1) [] ∷
    inside 0x01300893 (rounds_by 1 1) (a0 4 ∷ []) ∷
    inside 0x00000073 (rounds_by 1 1) (a0 4 ∷ a7 19 ∷ []) ∷
    outside 0xfcdff06f [] ∷
    []

abbrev pub sleeping_first : Program
sleeping_first = record { first = 0; places = creating sleeping_loop }

abbrev pub sleeping_second : Program
sleeping_second = record { first = 72; places = sleeping_loop }

abbrev pub sleeping_lock : Lock
sleeping_lock = record { sem = 4; word = 128; rule = rounds_by 1 0 }

abbrev pub sleeping_images : List Loaded
sleeping_images = image_of 0 (words_in (creating sleeping_loop)) ∷ image_of 72 (words_in sleeping_loop ++ 0 ∷ []) ∷ []
