-- The definition computes.
use Rattle.std.proofs.Common.{refl}
use Rattle.std.proofs.lemmas.List.Elements.{All-from_recursion}
use Rattle.rv_isa.specs.Table.{row_named}
use Rattle.asm_syntax.specs.Meanings.{meaning_of}
use Rattle.asm_syntax.specs.Values.{call_of, register_named}
use Rattle.rv_asm.specs.Assembly.{assembly}
use Rattle.rv_asm.specs.Examples.{examples, IsAssembled}
use Rattle.rv_asm.proofs.examples.worked_examples.Goals as goal

pub returns : goal.returns
unfolding assembly meaning_of row_named call_of register_named
returns c =
    All-from_recursion IsAssembled examples (refl, (refl, (refl, (refl, (refl, (refl, (refl, (refl, (refl, (refl, (refl, (refl, (refl, (refl, (refl, tt)))))))))))))))
