-- One more register.
use Rattle.std.proofs.Common.{◌∙◌, ◌++◌, append-nil, ap, sym}
use Rattle.std.specs.Prelude.{codes}
use Rattle.std.specs.Fmt.{decimal}
use Rattle.gdb_answers.proofs.Pushes.{both, registers_below-more}
use Rattle.gdb_answers.specs.Descriptions.{register_entry, registers_below}
use Rattle.gdb_answers.proofs.descriptions.push_registers.Goals as goal

pub loop-number-init : goal.loop-number-init
unfolding registers_below
loop-number-init c = sym (append-nil c.args.text.now.items)

pub loop-number-preserved : goal.loop-number-preserved
loop-number-preserved c =
    let n = c.loop-number.number in
    let t = c.args.text.now.items in
    both t (registers_below n) (register_entry (codes "x" ++ decimal n)) _ _ c.loop-number.invariant c.in_ok-push_numbered.ensures.appended
    ∙ ap (λ l. t ++ l) (sym (registers_below-more n))
