use Rattle.std.proofs.Common.{◌≡◌, ap, subst, List, ℕ}
use Rattle.std.specs.Prelude.{IfSome}
use Rattle.xinu_model.specs.Console.Rows.{last_or}
use Rattle.xinu_model.specs.Console.State.{Console}
use Rattle.reference_devices.proofs.LastBytes.{popped_last}
use Rattle.reference_devices.proofs.receiving.drop_last.Goals as goal

pub returns-clause-last : goal.returns-clause-last
returns-clause-last c =
    subst (λ (l : List ℕ). IfSome c.pop.result (λ b. b ≡ last_or 0 l)) (ap (λ (x : Console). x.line) c.c.view_is)
    (popped_last c.c.inside.line.items c.pop.new.self.items c.pop.result c.pop.ensures.items)
