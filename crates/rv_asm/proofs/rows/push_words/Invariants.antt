-- The digits so far, and those of the bytes that are left.
use Rattle.std.proofs.Common.{◌≡◌, ◌++◌, length}
use Rattle.rv_asm.specs.Listings.{words_text}
use Rattle.rv_asm.proofs.rows.push_words.Given as goal

abbrev pub invariant-loop-rest : goal.invariant-loop-rest
invariant-loop-rest l = l.initial.text.items ++ words_text l.bytes ≡ l.text.items ++ words_text l.rest

abbrev pub decreases-loop-rest : goal.decreases-loop-rest
decreases-loop-rest l = length l.rest
