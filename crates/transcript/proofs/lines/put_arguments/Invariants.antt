-- The arguments so far stand after the line.
use Rattle.std.proofs.Common.{◌≡◌, ◌+◌, ◌*◌, ◌≤◌, length, map, take}
use Rattle.xinu_model.specs.Text.{with_fields, signed_field}
use Rattle.transcript.proofs.lines.put_arguments.Given as goal

abbrev pub invariant-loop-arg : goal.invariant-loop-arg
invariant-loop-arg l =
    (l.text ≡ with_fields l.initial.text (map signed_field (take l.arg-index l.args))) × (length l.text ≤ length l.initial.text + 12 * l.arg-index)
