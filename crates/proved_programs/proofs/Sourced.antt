-- The texts are those of the images, by computation.
use Rattle.std.proofs.Common.{refl}
use Rattle.std.specs.List.{flat_map}
use Rattle.asm_syntax.specs.Meanings.{meaning_of}
use Rattle.asm_syntax.specs.Values.{call_of, register_named}
use Rattle.program_logic.specs.Images.{bytes_of, image_of}
use Rattle.rv_asm.specs.Assembly.{assembly, image_file}
use Rattle.rv_isa.specs.Table.{row_named}
use Rattle.proved_programs.specs.Counting.{first_words, second_words}
use Rattle.proved_programs.specs.Sources.{IsSourceOf, first_text, second_text}

pub first_source : IsSourceOf first_text (image_of 0 first_words)
unfolding assembly meaning_of row_named call_of register_named
first_source = record {
  file = image_file (record { place = 0; size = 56; entry = 0; priority = 20; stack = 4096 }) (flat_map bytes_of first_words);
  makes = refl;
  good = refl;
  loads = refl;
}

pub second_source : IsSourceOf second_text (image_of 64 second_words)
unfolding assembly meaning_of row_named call_of register_named
second_source = record {
  file = image_file (record { place = 64; size = 48; entry = 64; priority = 20; stack = 4096 }) (flat_map bytes_of second_words);
  makes = refl;
  good = refl;
  loads = refl;
}
