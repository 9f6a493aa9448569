-- The bytes so far and those that are left.
use Rattle.std.proofs.Common.{◌≡◌, ◌+◌, ◌≤◌, true, length}
use Rattle.std.specs.Prelude.{is_some}
use Rattle.asm_syntax.specs.Texts.{bytes_of, text_bytes}
use Rattle.rv_asm.proofs.sizes.text_size.Given as goal

abbrev pub invariant-loop-rest : goal.invariant-loop-rest
invariant-loop-rest l = record {
  size : length (bytes_of l.text) ≡ l.size + length (bytes_of l.rest);
  bytes : is_some (text_bytes l.rest) ≡ true;
  fits : l.size + length l.rest ≤ length l.text;
}

abbrev pub decreases-loop-rest : goal.decreases-loop-rest
decreases-loop-rest l = length l.rest
