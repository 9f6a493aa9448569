-- The code's values of what was read and what is asked, as the definitions have them.
use Rattle.std.specs.Prelude.{map}
use Rattle.std.specs.String.{string_bytes}
use Rattle.proof_words.specs.Words.{Asked, Read}
use Rattle.proof_words.specs.declared.words.Reader.{Reader}
use Rattle.proof_words.specs.declared.words.Words.{Words}

abbrev pub read_of : Reader → Read
read_of r = record {
  lock = r.lock;
  word = r.word;
  rule = r.rule;
  due = r.due;
  is_past = r.is_past;
  images = map string_bytes r.images.items;
}

abbrev pub asked_of : Words → Asked
asked_of w = record { lock = w.lock; images = map string_bytes w.images.items }
