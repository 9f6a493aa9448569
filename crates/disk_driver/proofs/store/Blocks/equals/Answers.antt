use Rattle.std.proofs.Common.{◌≡◌, true, List, ℕ, ap, sym, ◌∙◌, rules}
use Rattle.std.proofs.lemmas.Slice.Eq.{slice_eq-Decides}
use Rattle.std.specs.List.{concat}
use Rattle.lfs_layout.specs.Images.{blocks_of, is_raw}
use Rattle.disk_driver.proofs.Cuts.{blocks_joined}
use Rattle.disk_driver.proofs.store.Blocks.equals.Goals as goal

-- disks have the same bytes if they have the same blocks
same_bytes : (bytes others : List ℕ) → is_raw bytes ≡ true → is_raw others ≡ true → blocks_of bytes ≡ blocks_of others → bytes ≡ others
same_bytes bytes others raw others_raw e = sym (blocks_joined bytes raw) ∙ ap concat e ∙ blocks_joined others others_raw

pub returns : goal.returns
returns c =
    let decides = slice_eq-Decides (λ a b. search rules) _ _ _ c.eq.ensures in
    let here = c.as_slice.ensures.value in
    let there = c.as_slice-2.ensures.value in
    record {
      equal = (
        (λ t. sym c.self.view_is ∙ ap blocks_of (sym here ∙ decides.0 t ∙ there) ∙ c.other.view_is),
        (λ e. decides.1 (here ∙ same_bytes _ _ c.self.invariant c.other.invariant (c.self.view_is ∙ e ∙ sym c.other.view_is) ∙ sym there)),
      );
    }
