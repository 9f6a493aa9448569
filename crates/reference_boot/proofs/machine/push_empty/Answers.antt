use Rattle.std.proofs.Common.{◌≡◌, ◌∙◌, ◌∷◌, [], ◌++◌, ℕ, List, ap, append_assoc, replicate, rules}
use Rattle.std.proofs.lemmas.List.{replicate-append-replicate}
use Rattle.reference_boot.proofs.machine.push_empty.Goals as goal

pub loop-i-preserved : goal.loop-i-preserved
loop-i-preserved c =
    let i = c.loop-i._i in
    let old = c.args.blocks.now.items in
    let none : List ℕ = replicate 512 0 in
    let pushed : c.push.new.list.items ≡ c.loop-i.blocks.items ++ none ∷ [] = search rules in
    pushed ∙ ap (λ l. l ++ none ∷ []) c.loop-i.invariant ∙ append_assoc old (replicate i none) (none ∷ [])
    ∙ ap (λ l. old ++ l) (replicate-append-replicate i 1 none)
