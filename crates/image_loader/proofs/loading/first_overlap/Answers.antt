use Rattle.std.proofs.Common.{◌∙◌, ◌+◌, Some, [], cond, drop, map, take, ap, sym}
use Rattle.std.specs.List.{list_any}
use Rattle.image_loader.specs.Images.{loaded_of}
use Rattle.xinu_model.specs.Boot as boot
use Rattle.image_loader.proofs.EarlierImages.{decided, onto}
use Rattle.image_loader.proofs.loading.first_overlap.Goals as goal

pub returns-then-overlaps_any : goal.returns-then-overlaps_any
returns-then-overlaps_any c =
    let images = c.args.images.now in
    let k = c.loop-image.image-index in
    let image = c.image-item.result in
    let e = c.loop-image.invariant.0 in
    let rest = boot.first_overlap (k + 1 + 1) (onto (map loaded_of (take (k + 1) images)) []) (map loaded_of (drop (k + 1) images)) in
    let hit = sym (ap (λ n. list_any (boot.overlap (loaded_of image)) (map loaded_of (take n images))) e) ∙ sym c.overlaps_any.ensures.overlaps ∙ c.if-overlaps_any.true in
    record { first = ap (λ n. Some (n + 1)) e ∙ sym (decided images k image c.loop-image-test.true c.image-item.is ∙ ap (λ b. cond b (Some (k + 1)) rest) hit) ∙ c.loop-image.invariant.1 }

pub loop-image-preserved : goal.loop-image-preserved
loop-image-preserved c =
    let images = c.args.images.now in
    let k = c.loop-image.image-index in
    let image = c.image-item.result in
    let e = c.loop-image.invariant.0 in
    let rest = boot.first_overlap (k + 1 + 1) (onto (map loaded_of (take (k + 1) images)) []) (map loaded_of (drop (k + 1) images)) in
    let hit = sym (ap (λ n. list_any (boot.overlap (loaded_of image)) (map loaded_of (take n images))) e) ∙ sym c.overlaps_any.ensures.overlaps ∙ c.if-overlaps_any.false in
    (ap (λ n. n + 1) e, sym (decided images k image c.loop-image-test.true c.image-item.is ∙ ap (λ b. cond b (Some (k + 1)) rest) hit) ∙ c.loop-image.invariant.1)
