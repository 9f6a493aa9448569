-- Three pieces.
use Rattle.std.proofs.Common.{ℕ, List, ◌∙◌, ◌++◌, ap}
use Rattle.std.specs.Prelude.{codes}
use Rattle.std.specs.Fmt.{decimal}
use Rattle.gdb_answers.proofs.Pushes.{both}
use Rattle.gdb_answers.proofs.descriptions.push_numbered.Goals as goal

pub returns : goal.returns
returns c =
    let t = c.args.text.now.items in
    let digits = decimal c.args.number in
    let name : List ℕ = codes "<reg name='x" in
    let second = c.in_ok-extend_from_slice-2.ensures.items ∙ ap (λ l. c.extend_from_slice.new.self.items ++ l) (c.as_bytes.ensures.value ∙ c.format.ensures.text) in
    record { appended = both t (name ++ digits) (codes "' bitsize='32' type='int'/>") _ _ (both t name digits _ _ c.in_ok-extend_from_slice.ensures.items second) c.in_ok-extend_from_slice-3.ensures.items }
