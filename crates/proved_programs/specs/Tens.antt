-- Two processes add 1 ten times each, in a subroutine that they call with the token. The first counts its rounds in a word of its own, behind the
-- guarded word, the second in a register; then they sleep, 20 ticks at a time.
use Rattle.std.specs.Prelude.{ℕ, List, [], ◌∷◌, ◌++◌}
use Rattle.program_logic.specs.Claims.{Program}
use Rattle.program_logic.specs.Images.{image_of}
use Rattle.program_logic.specs.SystemCheck.{words_in}
use Rattle.program_logic.specs.declared.outline.Lock.{Lock}
use Rattle.program_logic.specs.declared.outline.Place.{Place}
use Rattle.proved_programs.specs.Outlining.{a0, a7, either, inside, outside, ra, rounds_by, t0}
use Rattle.xinu_model.specs.Boot.{Loaded}

-- addi a0, zero, 1 · sys semcreate · addi s0, zero, 10 · sw s0, 212(zero) ·
-- again: addi a0, zero, 4 · sys wait · bne a0, zero, again · jal ra, add · addi a0, zero, 4 · sys signal ·
-- lw s0, 212(zero) · addi s0, s0, -1 · sw s0, 212(zero) · blt zero, s0, again ·
-- done: addi a0, zero, 20 · sys sleepms · j done ·
-- add: lw t0, 208(zero) · addi t0, t0, 1 · sw t0, 208(zero) · jalr zero, 0(ra)
abbrev pub with_store : ℕ → List Place
with_store store =
    outside 0x00100513 [] ∷
    outside 0x00e00893 (a0 1 ∷ []) ∷
    outside 0x00000073 (a0 1 ∷ a7 14 ∷ []) ∷
    outside 0x00a00413 [] ∷
    outside store [] ∷
    outside 0x00400513 [] ∷
    outside 0x01200893 (a0 4 ∷ []) ∷
    outside 0x00000073 (a0 4 ∷ a7 18 ∷ []) ∷
    either 0xfe051ae3 (a0 4294967295 ∷ []) (rounds_by 1 0) (a0 0 ∷ []) ∷
    inside 0x030000ef (rounds_by 1 0) [] ∷
    inside 0x00400513 (rounds_by 1 1) [] ∷
    inside 0x01300893 (rounds_by 1 1) (a0 4 ∷ []) ∷
    inside 0x00000073 (rounds_by 1 1) (a0 4 ∷ a7 19 ∷ []) ∷
    outside 0x0d402403 [] ∷
    outside 0xfff40413 [] ∷
    outside store [] ∷
    outside 0xfc804ae3 [] ∷
    outside 0x01400513 [] ∷
    outside 0x01a00893 (a0 20 ∷ []) ∷
    outside 0x00000073 (a0 20 ∷ a7 26 ∷ []) ∷
    outside 0xff5ff06f [] ∷
    inside 0x0d002283 (rounds_by 1 0) (ra 40 ∷ []) ∷
    inside 0x00128293 (rounds_by 1 0) (ra 40 ∷ t0 (rounds_by 1 0) ∷ []) ∷
    inside 0x0c502823 (rounds_by 1 0) (ra 40 ∷ t0 (rounds_by 1 1) ∷ []) ∷
    inside 0x00008067 (rounds_by 1 1) (ra 40 ∷ []) ∷
    []

-- addi s0, zero, 10 · again: addi a0, zero, 4 · sys wait · bne a0, zero, again · jal ra, add · addi a0, zero, 4 · sys signal ·
-- addi s0, s0, -1 · bne s0, zero, again ·
-- done: addi a0, zero, 20 · sys sleepms · j done ·
-- add: lw t0, 208(zero) · addi t0, t0, 1 · sw t0, 208(zero) · jalr zero, 0(ra)
abbrev pub in_register : List Place
in_register =
    outside 0x00a00413 [] ∷
    outside 0x00400513 [] ∷
    outside 0x01200893 (a0 4 ∷ []) ∷
    outside 0x00000073 (a0 4 ∷ a7 18 ∷ []) ∷
    either 0xfe051ae3 (a0 4294967295 ∷ []) (rounds_by 1 0) (a0 0 ∷ []) ∷
    inside 0x028000ef (rounds_by 1 0) [] ∷
    inside 0x00400513 (rounds_by 1 1) [] ∷
    inside 0x01300893 (rounds_by 1 1) (a0 4 ∷ []) ∷
    inside 0x00000073 (rounds_by 1 1) (a0 4 ∷ a7 19 ∷ []) ∷
    outside 0xfff40413 [] ∷
    outside 0xfc041ee3 [] ∷
    outside 0x01400513 [] ∷
    outside 0x01a00893 (a0 20 ∷ []) ∷
    outside 0x00000073 (a0 20 ∷ a7 26 ∷ []) ∷
    outside 0xff5ff06f [] ∷
    inside 0x0d002283 (rounds_by 1 0) (ra 156 ∷ []) ∷
    inside 0x00128293 (rounds_by 1 0) (ra 156 ∷ t0 (rounds_by 1 0) ∷ []) ∷
    inside 0x0c502823 (rounds_by 1 0) (ra 156 ∷ t0 (rounds_by 1 1) ∷ []) ∷
    inside 0x00008067 (rounds_by 1 1) (ra 156 ∷ []) ∷
    []

-- the first one, and one that counts in the word at 140, where the program of the other lies
abbrev pub tens_first : Program
tens_first = record { first = 0; places = with_store 0x0c802a23 }

abbrev pub tens_overwriting : Program
tens_overwriting = record { first = 0; places = with_store 0x08802623 }

abbrev pub tens_second : Program
tens_second = record { first = 132; places = in_register }

-- the word is the number of rounds
abbrev pub tens_lock : Lock
tens_lock = record { sem = 4; word = 208; rule = rounds_by 1 0 }

abbrev pub tens_images : List Loaded
tens_images = image_of 0 (words_in (with_store 0x0c802a23)) ∷ image_of 132 (words_in in_register ++ 0 ∷ []) ∷ []
