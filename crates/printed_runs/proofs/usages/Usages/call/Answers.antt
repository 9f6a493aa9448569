-- How semaphores were used, after a call for one of them, or another.
use Rattle.std.proofs.Common.{◌∷◌, subst, sym}
use Rattle.std.specs.Prelude.{slice_set}
use Rattle.printed_runs.proofs.Known.{none_of, plain_said, signal_said}
use Rattle.printed_runs.specs.Semaphores.{Knows}
use Rattle.printed_runs.specs.declared.notes.Note.TheVariants.{Called}
use Rattle.printed_runs.specs.declared.usages.Usages.{Usages}
use Rattle.printed_runs.proofs.usages.Usages.call.Goals.{in-Some, in_default}
use Rattle.printed_runs.proofs.usages.Usages.call.Goals as goal

pub returns : goal.returns
returns c = record {
  knows = λ said k.
      let P : Usages → Type 0 =
      λ u. Knows (Called c.args.process c.args.asked ∷ said) (record { asked = slice_set u.asked c.index.result c.args.asked; all = u.all }) in
      elim c.match-called_for.branch [
        | in-Some w ↦ subst P (sym w.self-is) (signal_said said c.args.self.now _ _ _ _ _ _ _ _ k c.index.ensures.index c.called_for.ensures
            w.in-Some.is w.index-number.ensures.index w.index-number.ensures.bound w.after_call.ensures)
        | in_default w ↦ subst P (sym w.self-is) (plain_said said c.args.self.now _ _ _ _ k c.index.ensures.index c.called_for.ensures
            (none_of _ w.in_default.not-Some))
      ];
}
