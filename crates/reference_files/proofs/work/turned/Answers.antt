use Rattle.std.proofs.Common.{◌<◌, ap, arith, length, rules}
use Rattle.reference_files.proofs.Kept.{few_turns}
use Rattle.xinu_model.specs.Files.Work.{FileWork}
use Rattle.reference_files.proofs.work.turned.Goals as goal

pub overflow_add-w : goal.overflow_add-w
overflow_add-w c =
    let some : 0 < length c.args.w.now.calls = search rules in
    let few = few_turns c.args.w.now some c.requires.sound c.requires.disk in
    let same = ap (λ (w : FileWork). w.turns) c.w.view_is in
    omega (arith, few, same)
