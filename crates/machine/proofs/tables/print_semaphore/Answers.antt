use Rattle.std.proofs.Common.{◌∙◌, rules, sym, w32}
use Rattle.std.proofs.lemmas.Int.{to_z-of_z}
use mir.Val.{SFits}
use Rattle.xinu_model.specs.Tables.{semaphore_at}
use Rattle.machine.proofs.Walks.{shown_printed}
use Rattle.machine.proofs.tables.print_semaphore.Goals as goal

pub returns-then-is_shown : goal.returns-then-is_shown
returns-then-is_shown g c =
    let x = semaphore_at c.args.tables.now c.args.sem in
    let f : SFits w32 c.count_of.result = search rules in
    record {
      prints = shown_printed c.args.sem x _ _ _ _ _ _ _ (sym c.is_shown.ensures.shown ∙ c.if-is_shown.true) (to_z-of_z w32 c.count_of.result f ∙ c.count_of.ensures.count)
          c.print_line.ensures.prints c.print_waiters.ensures.prints;
    }
