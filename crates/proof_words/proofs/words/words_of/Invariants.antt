-- What is left reads on to what all arguments give.
use Rattle.std.proofs.Common.{◌≡◌, map, drop}
use Rattle.std.specs.String.{string_bytes}
use Rattle.proof_words.specs.Reading.{read_of}
use Rattle.proof_words.specs.Words.{nothing_read, read_on}
use Rattle.proof_words.proofs.words.words_of.Given as goal

abbrev pub invariant-loop-arg : goal.invariant-loop-arg
invariant-loop-arg l = read_on (read_of l.reader) (map string_bytes (drop l.arg-index l.args)) ≡ read_on nothing_read (map string_bytes l.args)
