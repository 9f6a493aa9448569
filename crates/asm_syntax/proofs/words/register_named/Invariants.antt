-- The registers of greater numbers are left.
use Rattle.std.proofs.Common.{◌≡◌}
use Rattle.asm_syntax.specs.Values.{register_named}
use Rattle.asm_syntax.proofs.RegisterLemmas.{register_from}
use Rattle.asm_syntax.proofs.words.register_named.Given as goal

abbrev pub invariant-loop-number : goal.invariant-loop-number
invariant-loop-number l = register_named l.name ≡ register_from (λ it. it.now) l.names l.number l.name
