-- `key_of`: the key of the entry is the key in the list.
use Rattle.std.proofs.Common.{◌∙◌, ap, rules}
use Rattle.std.proofs.lemmas.Int.{to_z-of_z}
use mir.Syntax.{w32}
use mir.Val.{SFits}
use Rattle.queue_table.specs.declared.links.Links.{Links}
use Rattle.queue_table.proofs.Tables.{key_placed}
use Rattle.queue_table.proofs.table.QueueTable.key_of.Goals as goal

pub returns : goal.returns
returns g c =
    let fit : SFits w32 c.links.result.key = search rules in
    record { key = to_z-of_z w32 c.links.result.key fit ∙ ap (λ (r : Links). r.key) c.links.ensures.entry ∙ key_placed c.args.self.now c.args.p c.requires.present }
