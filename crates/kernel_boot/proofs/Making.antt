-- The images' processes are made one after another, and become ready.
use Rattle.std.proofs.Common.{◌≡◌, ◌∙◌, refl, ◌∷◌, ℕ, zero, suc, ◌+◌, ◌<◌, ◌≤◌, List, [], length, None, Option, Some, sym, ap, subst, arith}
use Rattle.xinu_base.specs.declared.processes.Process.{Process}
use Rattle.xinu_base.specs.declared.processes.State.TheVariants.{Free, Suspended}
use Rattle.xinu_model.specs.Boot.{all_made, all_started, and_then, boot_on, Boots, Disks, first_overlap, image_process, Loaded, loaded_machine, NoRoom, on_disks, Overlaps, Start, unless_overlap, where_stack, with_image}
use Rattle.xinu_model.specs.Heap.Cells.{Stack, take_stack}
use Rattle.xinu_model.specs.Machine.{Xinu}
use Rattle.xinu_model.specs.Process.Creation.{stack_size}
use Rattle.xinu_model.specs.Tables.{no_process, Nowhere, state_at}
use Rattle.table_laws.proofs.Tables.MoveTo.{state_move_other}
use Rattle.table_laws.proofs.Tables.Starts.{all_are_made, boots_from, none_made, same_everywhere, made_on_stack}

-- the other numbers stay free
pub free_next : (k : ℕ) (image : Loaded) (s y : Xinu) (found : Option Stack) → where_stack found (k + 1) image s ≡ Boots y → ((j : ℕ) → k + 1 ≤ j → state_at s.tables j ≡ Free)
    → (j : ℕ) → k + 1 + 1 ≤ j → state_at y.tables j ≡ Free
free_next k image s y found e free j le =
    let on = made_on_stack found (k + 1) image s y e in
    let F : Xinu → Type 0 = λ y. state_at y.tables j ≡ Free in
    subst F on.1 (state_move_other s.tables j (k + 1) (image_process (k + 1) image on.0.top) None Nowhere (λ f. omega (arith, f, le)) ∙ free j (omega (arith, le)))

-- before any image is made all numbers but 0 are free, whatever disks there are
pub none_made_free : (images : List Loaded) (j : ℕ) → 1 ≤ j → state_at (loaded_machine images).tables j ≡ Free
none_made_free images (suc j) le = ap (λ (x : Process). x.state) (same_everywhere 63 j no_process)
none_made_free images zero le = absurd (omega (arith, le))

-- One image's process is made on whatever disks.
one_on_disks : (d : Disks) (found : Option Stack) (i : ℕ) (image : Loaded) (s : Xinu) (next next_on : Xinu → Start)
    → ((x : Xinu) → next_on (on_disks d x) ≡ and_then (next x) (λ x. Boots (on_disks d x)))
    → and_then (where_stack found i image (on_disks d s)) next_on ≡ and_then (and_then (where_stack found i image s) next) (λ x. Boots (on_disks d x))
one_on_disks d None i image s next next_on same = refl
one_on_disks d (Some stack) i image s next next_on same = same (with_image i image stack s)

-- So are all.
made_on_disks : (d : Disks) (i : ℕ) (images : List Loaded) (s : Xinu)
    → all_made i images (on_disks d s) ≡ and_then (all_made i images s) (λ x. Boots (on_disks d x))
made_on_disks d i [] s = refl
made_on_disks d i (image ∷ images) s =
    one_on_disks d (take_stack (stack_size image.stack) s.parts.heap) i image s (all_made (i + 1) images) (all_made (i + 1) images)
    (made_on_disks d (i + 1) images)

-- what was made on disks was made without them
booted_on : (d : Disks) (images : List Loaded) (m : Start) (x : Xinu) → and_then m (λ s. Boots (on_disks d s)) ≡ Boots x
    → and_then (and_then m (λ s. Boots (all_started images s))) (λ s. Boots (on_disks d s)) ≡ Boots (all_started images x)
booted_on d images (Boots s) x e = let f : on_disks d s ≡ x = cc in ap (λ s. Boots (all_started images s)) f
booted_on d images (Overlaps i) x e = absurd (cc)
booted_on d images (NoRoom i) x e = absurd (cc)

refused_on : (d : Disks) (images : List Loaded) (m : Start) (i : ℕ) → and_then m (λ s. Boots (on_disks d s)) ≡ NoRoom i
    → and_then (and_then m (λ s. Boots (all_started images s))) (λ s. Boots (on_disks d s)) ≡ NoRoom i
refused_on d images (Boots s) i e = absurd (cc)
refused_on d images (Overlaps j) i e = absurd (cc)
refused_on d images (NoRoom j) i e = e

-- Once all are made and ready the machine boots,
pub boots_made : (d : Disks) (images : List Loaded) (x : Xinu) → None ≡ first_overlap 1 [] images
    → all_made 1 images (on_disks d (loaded_machine images)) ≡ Boots x → boot_on d images ≡ Boots (all_started images x)
boots_made d images x none made =
    ap (λ o. and_then (unless_overlap o images) (λ s. Boots (on_disks d s))) (sym none)
    ∙ booted_on d images (all_made 1 images (loaded_machine images)) x (sym (made_on_disks d 1 images (loaded_machine images)) ∙ made)

-- it doesn't if there is no room for one,
pub refuses_made : (d : Disks) (images : List Loaded) (i : ℕ) → None ≡ first_overlap 1 [] images
    → all_made 1 images (on_disks d (loaded_machine images)) ≡ NoRoom i → boot_on d images ≡ NoRoom i
refuses_made d images i none made =
    ap (λ o. and_then (unless_overlap o images) (λ s. Boots (on_disks d s))) (sym none)
    ∙ refused_on d images (all_made 1 images (loaded_machine images)) i (sym (made_on_disks d 1 images (loaded_machine images)) ∙ made)

-- The processes of the images are suspended before they become ready.
pub suspended_made : (d : Disks) (images : List Loaded) (x : Xinu) → length images < 64
    → all_made 1 images (on_disks d (loaded_machine images)) ≡ Boots x
    → (j : ℕ) → 0 < j → j < 1 + length images → state_at x.tables j ≡ Suspended
suspended_made d images x few made =
    let b = boots_from (all_made 1 images (loaded_machine images)) (λ s. Boots (on_disks d s)) x
    (sym (made_on_disks d 1 images (loaded_machine images)) ∙ made) in
    let m = all_are_made images 1 (loaded_machine images) b.0 (none_made images) (omega arith) (omega (arith, few)) b.1 in
    let is : on_disks d b.0 ≡ x = cc in
    λ j low high. subst (λ (x : Xinu). state_at x.tables j ≡ Suspended) is (m.suspended j low high)
