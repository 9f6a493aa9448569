-- Four are kept as they are.
use Rattle.std.proofs.Common.{map, sym, ◌∙◌}
use Rattle.std.proofs.lemmas.Bool.{eqb-true}
use Rattle.std.proofs.lemmas.List.{length-map}
use Rattle.asm_syntax.specs.CodeOperands.{seen_operand}
use Rattle.asm_syntax.proofs.OperandLemmas.{first_four-full}
use Rattle.asm_syntax.proofs.operands.keep.Goals as goal

pub returns-else-not-is_full : goal.returns-else-not-is_full
returns-else-not-is_full c = record {
  kept =
      first_four-full (map seen_operand c.args.operands.now.items) _
      (length-map c.args.operands.now.items seen_operand ∙ eqb-true _ _ (sym c.is_full.ensures.value ∙ c.if-not-is_full.false));
}
