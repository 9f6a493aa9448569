use Rattle.std.proofs.Common.{◌∙◌, sym, ap}
use Rattle.std.specs.Prelude.{is_some}
use Rattle.refusal_reasons.proofs.Chained.{first_of_first}
use Rattle.refusal_reasons.specs.Devices.{by_kind, control_causes, switch_causes}
use Rattle.xinu_base.specs.declared.devices.Op.TheVariants as op
use Rattle.xinu_model.specs.Devices.Table.{kind_of}
use Rattle.refusal_reasons.proofs.device_causes.control.Goals as goal

pub returns-then-is_some : goal.returns-then-is_some
returns-then-is_some c =
    let e = c.switch_reason-common.ensures.reason in
    record {
      reason = e ∙ first_of_first (switch_causes op.Control c.args.dev) (by_kind (kind_of c.args.dev) (control_causes c.args.f c.args.x c.args.k.now.call.state))
          (sym (ap is_some e) ∙ sym c.is_some.ensures ∙ c.if-is_some.true);
    }
