use Rattle.std.proofs.Common.{◌≡◌, ◌&&◌, true, min, ap, sym, ◌∙◌}
use Rattle.lfs_check.specs.Meets.{times_met}
use Rattle.lfs_check.specs.Clean.{data_in}
use Rattle.lfs_check.specs.Kept.{has_sound_fields, has_sound_walk, stand_once, counted_once}
use Rattle.lfs_check.proofs.KeptRead.{once_counted, sound_below}
use Rattle.lfs_check.proofs.repair.is_whole.Goals as goal

pub returns : goal.returns
returns c =
    let g = c.args.fields.now.geometry in let ix = c.args.fields.now.indexes.now in let e = c.args.entry.now in
    let xs = data_in g ix e in let cs = c.in_ok-counts.counts.items in
    let fields : has_sound_fields g e ≡ true = cc in
    let walk : has_sound_walk g ix e ≡ true = cc in
    let all = c.deref.ensures.value ∙ c.in_ok-numbers.ensures in
    let once = once_counted xs cs xs g.blocks (λ n h. c.in_ok-counts.ensures.each n h ∙ ap (λ ys. min 2 (times_met n ys)) all) (sound_below g ix e c.requires.rows walk) in
    c.are_once.ensures ∙ ap (λ ys. counted_once ys c.deref-3.result.now) (c.deref-2.ensures.value ∙ c.in_ok-numbers.ensures) ∙ ap (counted_once xs) c.deref-3.ensures.value ∙ once
    ∙ sym (ap (λ b. b && has_sound_walk g ix e && stand_once xs xs) fields ∙ ap (λ b. b && stand_once xs xs) walk)
