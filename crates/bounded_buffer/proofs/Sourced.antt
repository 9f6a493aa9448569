-- The texts are those of the images, by computation.
use Rattle.std.proofs.Common.{[], refl, ◌++◌, ◌∷◌}
use Rattle.std.specs.List.{flat_map}
use Rattle.asm_syntax.specs.Meanings.{meaning_of}
use Rattle.asm_syntax.specs.Values.{call_of, register_named}
use Rattle.program_logic.specs.Images.{bytes_of, image_of}
use Rattle.rv_asm.specs.Assembly.{assembly, image_file}
use Rattle.rv_isa.specs.Table.{row_named}
use Rattle.bounded_buffer.specs.Buffer.{consumer, producer}
use Rattle.bounded_buffer.specs.Places.{words_in}
use Rattle.bounded_buffer.specs.Sources.{IsSourceOf, consumer_text, producer_text}

pub producer_source : IsSourceOf producer_text (image_of 0 (words_in producer))
unfolding assembly meaning_of row_named call_of register_named
producer_source = record {
  file = image_file (record { place = 0; size = 92; entry = 0; priority = 20; stack = 4096 }) (flat_map bytes_of (words_in producer));
  makes = refl;
  good = refl;
  loads = refl;
}

pub consumer_source : IsSourceOf consumer_text (image_of 96 (words_in consumer ++ 0 ∷ 0 ∷ []))
unfolding assembly meaning_of row_named call_of register_named
consumer_source = record {
  file = image_file (record { place = 96; size = 76; entry = 96; priority = 20; stack = 4096 }) (flat_map bytes_of (words_in consumer ++ 0 ∷ 0 ∷ []));
  makes = refl;
  good = refl;
  loads = refl;
}
