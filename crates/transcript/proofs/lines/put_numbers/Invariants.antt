-- The numbers so far stand after the word.
use Rattle.std.proofs.Common.{◌≡◌, ◌+◌, ◌*◌, ◌≤◌, ◌∷◌, [], length, map, take}
use Rattle.std.specs.Fmt.{signed_decimal}
use Rattle.xinu_model.specs.Text.{with_fields}
use Rattle.transcript.proofs.lines.put_numbers.Given as goal

abbrev pub invariant-loop-number : goal.invariant-loop-number
invariant-loop-number l =
    (l.text ≡ with_fields [] (l.field ∷ map signed_decimal (take l.number-index l.numbers))) × (length l.text ≤ 5 + 21 * l.number-index)
