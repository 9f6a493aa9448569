use Rattle.std.proofs.Common.{arith, ◌∙◌, length, ap, sym}
use Rattle.files_c.proofs.Effects.{read_gives, room_for}
use Rattle.files_c.proofs.calls.read.Goals as goal
use Rattle.local_files.specs.Hands.{system}

pub put-requires : goal.put-requires
put-requires c =
    let room = room_for c.args.call c.args.bytes.now (sym c.if-not-can_move.ensures.can) in
    let few = read_gives c.device.result c.args.call.count (system c.args.files.now c.args.disk.now) in
    let given = ap length (c.gathered.ensures.bytes ∙ c.make_plain-reply.ensures.given) in
    record { room = omega (arith, room, few, given) }
