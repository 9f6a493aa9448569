-- The label is put if it wasn't there.
use Rattle.std.proofs.Common.{◌≡◌, None, rules}
use Rattle.std.proofs.lemmas.Map.Text.{hash_map_updates_str}
use Rattle.rv_asm.specs.CodeLabels.{found}
use Rattle.rv_asm.proofs.LabelLemmas.{found-put}
use Rattle.rv_asm.proofs.labels.Labels.push.Goals as goal

pub returns-in_ok-insert : goal.returns-in_ok-insert
returns-in_ok-insert c =
    let none : found c.args.self.now c.args.name.now ≡ None = search rules in
    record {
      pushed = found-put c.args.self.now (record { addresses = c.insert.new.self }) c.args.name.now c.args.address
          (hash_map_updates_str c.args.name.now c.args.self.now.addresses c.insert.new.self _ c.in_ok-insert.ensures.updates)
          none;
    }
