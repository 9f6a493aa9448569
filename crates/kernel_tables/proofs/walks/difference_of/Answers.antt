use Rattle.std.proofs.Common.{◌∙◌, ℕ, nat_abs, ap, rules, w32}
use Rattle.std.proofs.lemmas.Int.{to_z-of_z}
use mir.Val.{SFits}
use Rattle.queue_table.proofs.Laws.{list_of-placed}
use Rattle.queue_table.specs.Lists.{key_in, list_of}
use Rattle.queue_table.specs.Table as table
use Rattle.kernel_tables.proofs.walks.difference_of.Goals as goal

pub returns : goal.returns
returns c =
    let ls = table.lists c.args.lists.now in
    let e = ap (λ (q : ℕ). key_in q (list_of ls q)) c.index.ensures.index ∙ ap (key_in c.args.p) (list_of-placed ls c.args.p 129 c.requires.placed) in
    let f : SFits w32 c.key_of.result = search rules in
    record { difference = c.unsigned_abs.ensures.value ∙ ap nat_abs (to_z-of_z w32 c.key_of.result f ∙ c.key_of.ensures.key ∙ e) }
