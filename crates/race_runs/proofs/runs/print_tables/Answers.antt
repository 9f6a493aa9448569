use Rattle.std.proofs.Common.{◌≡◌, ℕ, List, Vec, Global}
use Rattle.host_port.specs.Printing.{Prints}
use Rattle.host_port.specs.QuietHost.{quiet_empty, quiet_view}
use Rattle.race_runs.proofs.Texts.{fresh, if_ok, text_printed}
use Rattle.xinu_model.specs.Text.{tables_of, text}
use Rattle.race_runs.proofs.runs.print_tables.Goals as goal

pub returns : goal.returns
returns c =
    let tables = tables_of c.args.machine.now.state in
    let printed = text_printed c.new-out.result _ _ _ tables c.new-out.ensures.fresh c.new-host.ensures.empty c.dump.ensures in
    record {
      tables = if_ok (λ (v : Vec ℕ Global). (sent : List ℕ) → Prints fresh c.dump.new.out quiet_empty (quiet_view c.dump.new.host) sent → v.items ≡ sent) (λ (v : Vec ℕ Global). v.items ≡ text tables)
          (λ v all. all (text tables) printed) c.sent.result c.sent.ensures.sent;
    }
