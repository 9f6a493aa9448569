use Rattle.std.proofs.Common.{◌∙◌, sym, ◌≡◌, subst}
use Rattle.std.specs.Prelude.{IfOk}
use Rattle.reference_switch.specs.Outcomes.{comes_to}
use Rattle.xinu_model.specs.Devices.Calls as model
use Rattle.reference_switch.proofs.calls.device_open.Goals as goal

pub returns-in-None : goal.returns-in-None
returns-in-None c = record { opens = c.refuse.ensures.refused ∙ sym (c.in-None.ensures.kind (model.open_texts c.args.name c.args.mode) c.args.m.now.state) }

pub returns-in-Some : goal.returns-in-Some
returns-in-Some c = record {
  opens = subst (λ x. IfOk c.open_texts.result (λ r. comes_to c.args.m.now r ≡ x))
      (sym (c.in-Some.ensures.kind (model.open_texts c.args.name c.args.mode) c.args.m.now.state)) c.open_texts.ensures.opens;
}
