use Rattle.std.proofs.Common.{Bor, List, ℕ, Option, None, sym, subst}
use Rattle.std.specs.Prelude.{is_some, option_map, if◌then◌else◌}
use Rattle.xinu_commands.specs.Calls.{if_written}
use Rattle.xinu_commands.specs.Stages.{SendsOutput, disks_output, output_on}
use Rattle.xinu_commands.proofs.RunSent.{no_disk_sent}
use Rattle.xinu_commands.proofs.sending.send_disk.Goals as goal

pub returns-in-None : goal.returns-in-None
returns-in-None g c =
    let h = g.H.Host.view c.args.host.now in
    let P : Option (Bor (List ℕ)) → Type 0
    = λ n. SendsOutput (if is_some (option_map (λ s. s.now) n) then output_on c.args.channel c.args.bytes.now else disks_output None None)
    (if_written c.args.channel (option_map (λ s. s.now) n)) None h h in
    record { sends = subst P (sym c.in-None.is) (no_disk_sent h) }
