-- `links`: the number of an entry is within the array.
use Rattle.std.proofs.Common.{arith}
use Rattle.std.proofs.lemmas.List.{get_or_read}
use Rattle.queue_table.specs.Entries.{blank}
use Rattle.queue_table.proofs.Tables.{chained_of}
use Rattle.queue_table.proofs.table.QueueTable.links.Goals as goal

pub returns : goal.returns
returns g c =
    let t = c.args.self.now in
    record { entry = get_or_read t.entries.items _ _ (omega (arith, (chained_of t).size)) c.index.ensures blank }
