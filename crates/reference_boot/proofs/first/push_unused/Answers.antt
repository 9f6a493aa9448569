use Rattle.std.proofs.Common.{◌≡◌, ◌∙◌, ◌∷◌, [], ◌++◌, ap, append_assoc, replicate, rules}
use Rattle.std.proofs.lemmas.List.{replicate-append-replicate}
use Rattle.xinu_model.specs.Tables.{no_semaphore}
use Rattle.reference_boot.proofs.first.push_unused.Goals as goal

pub loop-i-preserved : goal.loop-i-preserved
loop-i-preserved c =
    let i = c.loop-i._i in
    let old = c.args.list.now.items in
    let pushed : c.push.new.list.items ≡ c.loop-i.list.items ++ no_semaphore ∷ [] = search rules in
    pushed ∙ ap (λ l. l ++ no_semaphore ∷ []) c.loop-i.invariant
    ∙ append_assoc old (replicate i no_semaphore) (no_semaphore ∷ [])
    ∙ ap (λ l. old ++ l) (replicate-append-replicate i 1 no_semaphore)
