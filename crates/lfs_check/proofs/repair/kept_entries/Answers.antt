use Rattle.std.proofs.Common.{[], min, ap, ◌∙◌}
use Rattle.std.specs.List.{flat_map}
use Rattle.lfs_check.specs.Meets.{times_met}
use Rattle.lfs_check.specs.Clean.{chain_in, data_in}
use Rattle.lfs_check.specs.Kept.{whole_entries, kept_counted}
use Rattle.lfs_check.proofs.KeptRead.{flat_whole, kept_found, no_wholes}
use Rattle.lfs_check.proofs.repair.kept_entries.Goals as goal

pub returns : goal.returns
returns c =
    let g = c.args.fields.now.geometry in let ix = c.args.fields.now.indexes.now in let es = c.args.entries.now in
    let W = whole_entries g ix es in
    let chains = c.in_ok-chains.chains.items in let blocks = c.in_ok-blocks.blocks.items in
    c.in_ok-kept.ensures ∙ ap (λ ws. kept_counted g ix c.deref-4.result.now c.deref-5.result.now [] ws) (c.deref-3.ensures.value ∙ c.in_ok-wholes.ensures)
    ∙ ap (λ xs. kept_counted g ix xs c.deref-5.result.now [] W) c.deref-4.ensures.value ∙ ap (λ xs. kept_counted g ix chains xs [] W) c.deref-5.ensures.value
    ∙ kept_found g ix es chains blocks c.requires.rows
    (λ n h. c.in_ok-chains.ensures n h ∙ ap (λ xs. min 2 (times_met n xs)) (ap (flat_map (chain_in g ix)) (c.deref.ensures.value ∙ c.in_ok-wholes.ensures) ∙ flat_whole g ix (chain_in g ix) es))
    (λ n h. c.in_ok-blocks.ensures n h ∙ ap (λ xs. min 2 (times_met n xs)) (ap (flat_map (data_in g ix)) (c.deref-2.ensures.value ∙ c.in_ok-wholes.ensures) ∙ flat_whole g ix (data_in g ix) es))
    [] [] es (no_wholes g ix)
