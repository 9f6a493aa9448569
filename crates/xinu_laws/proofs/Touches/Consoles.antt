-- What is left of a call on the console touches the console alone.
use Rattle.std.proofs.Common.{ℕ, Bool}
use Rattle.xinu_base.specs.declared.processes.Span.{Span}
use Rattle.xinu_model.specs.Console.Putting.{go_on_putc, go_on_write}
use Rattle.xinu_model.specs.Console.Taking.{go_on_getc, go_on_read}
use Rattle.xinu_model.specs.Footprints.{on_console}
use Rattle.xinu_laws.proofs.Consoles.Kept.{sound_holds}
use Rattle.xinu_laws.proofs.Consoles.Put.{go_on_putc_keeps, go_on_write_keeps}
use Rattle.xinu_laws.proofs.Consoles.Taken.{go_on_getc_keeps, go_on_read_keeps}
use Rattle.xinu_laws.proofs.Touches.{StaysIn}

pub go_on_getc_touches : StaysIn on_console go_on_getc
go_on_getc_touches s k = (go_on_getc_keeps s (sound_holds s k)).touches

pub go_on_read_touches : (part : Span) → StaysIn on_console (go_on_read part)
go_on_read_touches part s k = (go_on_read_keeps part s (sound_holds s k)).touches

pub go_on_putc_touches : (b : ℕ) (returned : Bool) → StaysIn on_console (go_on_putc b returned)
go_on_putc_touches b returned s k = (go_on_putc_keeps b returned s (sound_holds s k)).touches

pub go_on_write_touches : (part : Span) (returned : Bool) → StaysIn on_console (go_on_write part returned)
go_on_write_touches part returned s k = (go_on_write_keeps part returned s (sound_holds s k)).touches
