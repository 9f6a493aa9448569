-- The bytes so far, and those that are left.
use Rattle.std.proofs.Common.{◌≡◌, ◌++◌, true, length}
use Rattle.std.specs.Prelude.{is_some}
use Rattle.asm_syntax.specs.Texts.{bytes_of, text_bytes}
use Rattle.rv_asm.proofs.bytes.push_text.Given as goal

abbrev pub invariant-loop-rest : goal.invariant-loop-rest
invariant-loop-rest l = record {
  bytes : l.initial.content.items ++ bytes_of l.text ≡ l.content.items ++ bytes_of l.rest;
  text : is_some (text_bytes l.rest) ≡ true;
}

abbrev pub decreases-loop-rest : goal.decreases-loop-rest
decreases-loop-rest l = length l.rest
