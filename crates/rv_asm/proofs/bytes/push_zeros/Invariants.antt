-- So many zeros were appended.
use Rattle.std.proofs.Common.{◌≡◌, ◌++◌, replicate}
use Rattle.rv_asm.proofs.bytes.push_zeros.Given as goal

abbrev pub invariant-loop : goal.invariant-loop
invariant-loop l = l.content.items ≡ l.initial.content.items ++ replicate l.counter 0
