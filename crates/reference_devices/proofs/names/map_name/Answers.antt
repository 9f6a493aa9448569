use Rattle.std.proofs.Common.{arith, length}
use Rattle.std.proofs.lemmas.Bool.{le-leb}
use Rattle.reference_devices.proofs.Fitting.{short_begins}
use Rattle.reference_devices.proofs.names.map_name.Goals as goal

pub loop-left-init : goal.loop-left-init
loop-left-init c =
    let short = c.if-len-gt-NM_MAXLEN.false in
    let len = c.len.ensures in
    short_begins c.args.rows.now c.args.name.items (le-leb (length c.args.name.items) 127 (omega (arith, short, len)))
