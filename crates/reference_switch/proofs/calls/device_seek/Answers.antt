use Rattle.std.proofs.Common.{◌∙◌, ap, refl, rules, sym, w32}
use Rattle.std.proofs.lemmas.Int.{to_z-of_z}
use Rattle.xinu_model.specs.Devices.Calls as model
use Rattle.xinu_model.specs.Words.{signed}
use Rattle.reference_switch.proofs.calls.device_seek.Goals as goal

pub returns-in-None : goal.returns-in-None
returns-in-None c = record {
  seek = c.refuse.ensures.refused ∙ sym (c.in-None.ensures.kind (model.seek_as c.args.dev (signed c.args.word)) c.args.m.now.state);
  answers = refl;
}

pub returns-in-Some : goal.returns-in-Some
returns-in-Some c =
    let is = to_z-of_z w32 c.cast_signed.result (search rules) ∙ c.cast_signed.ensures in
    record {
      seek = c.seek_as.ensures.seek ∙ ap (λ z. model.seek_as c.args.dev z c.in-Some.kind c.args.m.now.state) is
          ∙ sym (c.in-Some.ensures.kind (model.seek_as c.args.dev (signed c.args.word)) c.args.m.now.state);
      answers = refl;
    }
