use Rattle.std.proofs.Common.{◌≡◌, ◌*◌, ◌-◌, ◌++◌, min, take, drop, length, ap, ◌∙◌, arith, length-drop}
use Rattle.std.proofs.lemmas.List.{take_min, take_all}
use Rattle.lfs_layout.proofs.reading.add_block.Goals as goal

pub returns-in_ok-extend_from_slice : goal.returns-in_ok-extend_from_slice
returns-in_ok-extend_from_slice c =
    let image = c.args.image.now in let rest = drop (512 * c.args.number) image in let a = length image - 512 * c.args.number in
    let l = length-drop (512 * c.args.number) image in let m = c.min.ensures in
    let old = c.args.bytes.now.items in
    c.in_ok-extend_from_slice.ensures.items ∙ ap (λ x. old ++ take c.min.result x) (take_all a rest (omega (arith, l)))
    ∙ ap (λ k. old ++ take k rest) (let e : c.min.result ≡ min 512 (length rest) = omega (arith, l, m) in e) ∙ ap (λ x. old ++ x) (take_min 512 rest)
