-- The option is among those that are left.
use Rattle.std.proofs.Common.{◌≡◌, map, drop, find, bytes_eq}
use Rattle.command_words.specs.ToolNames.{given_pair}
use Rattle.command_words.proofs.taken.value_in.Given as goal

abbrev pub invariant-loop-given : goal.invariant-loop-given
invariant-loop-given l =
    find (λ p. bytes_eq p.0.name l.fn.name) (map given_pair (drop l.given-index l.options)) ≡ find (λ p. bytes_eq p.0.name l.fn.name) (map given_pair l.options)
