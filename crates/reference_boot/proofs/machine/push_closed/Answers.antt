use Rattle.std.proofs.Common.{◌≡◌, ◌∙◌, ◌∷◌, [], ◌++◌, None, Option, ap, append_assoc, replicate, rules}
use Rattle.std.proofs.lemmas.List.{replicate-append-replicate}
use Rattle.xinu_model.specs.Files.Systems.{OpenFile}
use Rattle.reference_boot.proofs.machine.push_closed.Goals as goal

pub loop-i-preserved : goal.loop-i-preserved
loop-i-preserved c =
    let i = c.loop-i._i in
    let old = c.args.devices.now.items in
    let none : Option OpenFile = None in
    let pushed : c.push.new.list.items ≡ c.loop-i.devices.items ++ none ∷ [] = search rules in
    pushed ∙ ap (λ l. l ++ none ∷ []) c.loop-i.invariant ∙ append_assoc old (replicate i none) (none ∷ [])
    ∙ ap (λ l. old ++ l) (replicate-append-replicate i 1 none)
