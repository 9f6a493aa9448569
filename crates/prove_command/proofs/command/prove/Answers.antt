use Rattle.std.proofs.Common.{map, refl}
use Rattle.std.specs.Prelude.{Err, Ok}
use Rattle.std.specs.String.{string_bytes}
use Rattle.prove_command.proofs.Judged.{proves_asked}
use Rattle.prove_command.proofs.command.prove.Goals as goal

pub returns-in-Ok-clause-proved : goal.returns-in-Ok-clause-proved
returns-in-Ok-clause-proved g c = λ is.
    proves_asked c.in-Ok.status (map string_bytes c.args.args.now) (Ok c.in-Ok.status) (g.H.Host.view c.args.host.now)
    (g.H.Host.view c.carry_out.new.host) (g.H.Host.view c.carry_out.new.host) c.in-Ok.ensures.carries (refl, refl) is

pub returns-in-Err-clause-proved : goal.returns-in-Err-clause-proved
returns-in-Err-clause-proved g c = λ is.
    proves_asked c.refuse.result (map string_bytes c.args.args.now) (Err c.in-Err.refusal) (g.H.Host.view c.args.host.now)
    (g.H.Host.view c.carry_out.new.host) (g.H.Host.view c.refuse.new.host) c.in-Err.ensures.carries c.refuse.ensures is
