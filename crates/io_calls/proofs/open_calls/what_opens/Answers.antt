use Rattle.std.proofs.Common.{◌≡◌, ◌∙◌, ap, subst, sym}
use Rattle.io_calls.proofs.Openings.{by_texts}
use Rattle.kernel_state.proofs.Values.{call_is}
use Rattle.io_calls.proofs.open_calls.what_opens.Goals as goal
use Rattle.io_calls.specs.Openings.{comes_to}
use Rattle.kernel_state.specs.States.{kernel_state}
use Rattle.xinu_base.specs.declared.devices.Kind.TheVariants as kind
use Rattle.xinu_model.specs.Devices.Calls.{open_with}
use Rattle.xinu_model.specs.Devices.Texts.{text_at}
use Rattle.xinu_model.specs.Machine.{CallState}

pub returns-in-NameSpace-clause-opens : goal.returns-in-NameSpace-clause-opens
returns-in-NameSpace-clause-opens c =
    let k = kernel_state c.k.inside in
    let s = k.state in
    subst (λ (d : CallState). comes_to c.open_mapped.result d.state ≡ open_with c.args.kind (text_at c.args.name d.state.memory) (text_at c.args.mode d.state.memory) d.state)
    (call_is c.k.view_is)
    (c.open_mapped.ensures.opens s
    ∙ by_texts kind.NameSpace (text_at c.args.name s.memory) (text_at c.args.mode s.memory) c.in-Some.name.now c.in-Some-text_at.mode.now s c.in-Some.ensures.text c.in-Some-text_at.ensures.text
    ∙ ap (λ x. open_with x (text_at c.args.name s.memory) (text_at c.args.mode s.memory) s) (sym c.in-NameSpace.is))
