use Rattle.std.proofs.Common.{◌≡◌, ◌/◌, ◌*◌, ◌∙◌, ℕ, List, length, ap, sym, subst, arith}
use Rattle.lfs_check.proofs.Images.{whole_blocks}
use Rattle.lfs_layout.specs.Images.{IsCleanImage}
use Rattle.local_files.specs.Standing.{Stands}
use Rattle.uses_files.proofs.log_on.Goals as goal

pub add_lines-replies-requires-clause-stands : goal.add_lines-replies-requires-clause-stands
add_lines-replies-requires-clause-stands c =
    let disk = c.into_bytes-disk.result.items in
    let clean : IsCleanImage disk = subst (λ (d : List ℕ). IsCleanImage d) (sym c.into_bytes-disk.ensures.bytes) c.into_bytes-disk.ensures.clean in
    let many : c.blocks-blocks.result ≡ length disk / 512 = c.blocks-blocks.ensures ∙ ap (λ (d : List ℕ). length d / 512) (sym c.into_bytes-disk.ensures.bytes) in
    let whole = whole_blocks disk clean.faultless in
    let long : length disk ≡ 512 * c.blocks-blocks.result = omega (arith, many, whole) in
    subst (λ (d : List ℕ). Stands c.in-Ok.files d d) (sym c.deref_mut.ensures.value) (c.in-Ok.ensures.stands disk clean long)
