use mir.Val.{SFits}
use Rattle.std.proofs.Common.{rules, w32, ◌∙◌, ap, sym}
use Rattle.std.proofs.lemmas.Int.{to_z-of_z}
use Rattle.files_c.proofs.Effects.{plain_effect}
use Rattle.files_c.proofs.making.make_plain.Goals as goal
use Rattle.local_files.specs.Hands.{system}
use Rattle.local_files.specs.Standing.{gathered}
use Rattle.xinu_model.specs.Files.Systems.{FileEffect}

pub returns-clause-reply : goal.returns-clause-reply
returns-clause-reply c =
    let fits : SFits w32 c.make_call.result = search rules in
    let effect = plain_effect c.args.call (system c.args.files.now c.args.disk.now) (system c.make_call.new.files c.make_call.new.disk) c.make_call.result
    (gathered c.make_call.new.files) c.make_call.ensures.effect in
    to_z-of_z w32 c.make_call.result fits ∙ sym (ap (λ (e : FileEffect). e.reply) effect)

pub returns-clause-system : goal.returns-clause-system
returns-clause-system c =
    sym (ap (λ (e : FileEffect). e.system) (plain_effect c.args.call (system c.args.files.now c.args.disk.now)
    (system c.make_call.new.files c.make_call.new.disk) c.make_call.result (gathered c.make_call.new.files) c.make_call.ensures.effect))

pub returns-clause-given : goal.returns-clause-given
returns-clause-given c =
    sym (ap (λ (e : FileEffect). e.bytes) (plain_effect c.args.call (system c.args.files.now c.args.disk.now)
    (system c.make_call.new.files c.make_call.new.disk) c.make_call.result (gathered c.make_call.new.files) c.make_call.ensures.effect))
