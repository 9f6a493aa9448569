use Rattle.std.proofs.Common.{◌≡◌, ◌∙◌, ◌∷◌, [], ◌++◌, ap, rules}
use Rattle.std.proofs.lemmas.List.{replicate-append-replicate}
use Rattle.xinu_model.specs.Ports.Queues.{no_port}
use Rattle.reference_boot.proofs.first.first_ports.Goals as goal

pub loop-i-preserved : goal.loop-i-preserved
loop-i-preserved c =
    let i = c.loop-i._i in
    let pushed : c.push.new.list.items ≡ c.loop-i.list.items ++ no_port ∷ [] = search rules in
    pushed ∙ ap (λ l. l ++ no_port ∷ []) c.loop-i.invariant ∙ replicate-append-replicate i 1 no_port
