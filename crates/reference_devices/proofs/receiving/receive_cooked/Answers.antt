use Rattle.std.proofs.Common.{◌≡◌, ◌∙◌, if◌then◌else◌, ap, sym, subst}
use Rattle.std.specs.Prelude.{IfOk}
use Rattle.xinu_model.specs.Console.Rows as model
use Rattle.reference_devices.specs.Received.{came_to}
use Rattle.reference_devices.proofs.receiving.receive_cooked.Goals as goal

pub returns-then-flow : goal.returns-then-flow
returns-then-flow c =
    let d = c.flow.new.c in
    record {
      received = sym (c.flow.ensures.flows model.cooked_rows
          ∙ ap (λ b. if b then model.commits_none d else model.by_rows model.cooked_rows c.args.b d) c.if-flow.true);
    }

pub returns : goal.returns
returns c =
    let d = c.flow.new.c in
    record {
      received = subst (λ r. IfOk c.edit.result (λ n. came_to c.edit.new.c n ≡ r))
          (sym (c.flow.ensures.flows model.cooked_rows
          ∙ ap (λ b. if b then model.commits_none d else model.by_rows model.cooked_rows c.args.b d) c.if-flow.false)) c.edit.ensures.edited;
    }
