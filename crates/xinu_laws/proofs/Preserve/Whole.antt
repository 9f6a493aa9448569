-- When the machine starts RAM is whole: no image ends behind it, since the heap after the images has a stack for the first one's process.
use Rattle.std.proofs.Common.{◌≡◌, ℕ, ◌+◌, ◌-◌, ◌*◌, ◌/◌, ◌≤◌, true, List, [], ◌∷◌, length, take, Option, Some, None, refl, arith, ◌∙◌}
use Rattle.std.proofs.Math.Nat.{le-max_left, le-max_right}
use Rattle.std.proofs.lemmas.List.{length-replicate, length-take}
use Rattle.xinu_model.specs.Boot.{LoadedPart, Loaded, with_part, with_parts, with_images, end_of, end_of_all, first_overlap, heap_behind, loaded_machine, Boots, where_stack, all_made, all_started, unless_overlap, boot}
use Rattle.xinu_model.specs.Footprints.{on_deaths}
use Rattle.xinu_model.specs.Heap.Cells.{cells_for, Stack, take_stack}
use Rattle.xinu_model.specs.Machine.{Xinu}
use Rattle.xinu_model.specs.Memory.{ram_size, zeros}
use Rattle.xinu_model.specs.Process.Creation.{stack_size}
use Rattle.xinu_model.specs.Sound.State.{IsWhole}
use Rattle.xinu_laws.specs.Touches.{reach, Touches}
use Rattle.xinu_model.proofs.WholeRam.{length-with_bytes}
use Rattle.part_laws.proofs.HeapCells.Taken.{getstk_finds, room_in_cells}
use Rattle.table_laws.proofs.Tables.Starts.{boots_from}
use Rattle.xinu_laws.proofs.Touches.Boot.{touches_start}
use Rattle.xinu_laws.proofs.Touches.Kept.{keeps_whole}

-- parts that end in RAM leave it its size,
parts_size : (parts : List LoadedPart) (memory : List ℕ) → end_of parts ≤ ram_size → length memory ≡ ram_size
    → length (with_parts parts memory) ≡ ram_size
parts_size [] memory within z = z
parts_size (part ∷ parts) memory within z =
    let here = le-max_left (part.place + part.size) (end_of parts) in
    let behind = le-max_right (part.place + part.size) (end_of parts) in
    let bytes = take part.size part.bytes in
    let few = length-take part.size part.bytes in
    parts_size parts (with_part part memory) (omega (arith, behind, within))
    (length-with_bytes memory part.place (length bytes) bytes refl (omega (arith, few, here, within, z)) ∙ z)

-- and so do images
images_size : (images : List Loaded) (memory : List ℕ) → end_of_all images ≤ ram_size → length memory ≡ ram_size
    → length (with_images images memory) ≡ ram_size
images_size [] memory within z = z
images_size (image ∷ images) memory within z =
    let here = le-max_left (end_of image.parts) (end_of_all images) in
    let behind = le-max_right (end_of image.parts) (end_of_all images) in
    images_size images (with_parts image.parts memory) (omega (arith, behind, within))
    (parts_size image.parts memory (omega (arith, here, within)) z)

-- a heap that has a stack begins in RAM
stack_within : (end n : ℕ) (stack : Stack) → take_stack n (heap_behind end) ≡ Some stack → 8 * cells_for end ≤ ram_size
stack_within end n stack e =
    let found = getstk_finds n (heap_behind end) stack e in
    let place = found.greatest.place in
    let many = length-replicate ((ram_size - 8 * cells_for end) / 8) true in
    omega (arith, place, many)

-- so it does if a process is made on it
made_within : (end : ℕ) (found : Option Stack) (image : Loaded) (s y : Xinu) → take_stack (stack_size image.stack) (heap_behind end) ≡ found
    → where_stack found 1 image s ≡ Boots y → 8 * cells_for end ≤ ram_size
made_within end None image s y e h = absurd (cc)
made_within end (Some stack) image s y e h = stack_within end (stack_size image.stack) stack e

all_within : (images : List Loaded) (x : Xinu) → all_made 1 images (loaded_machine images) ≡ Boots x
    → 8 * cells_for (end_of_all images) ≤ ram_size
all_within [] x e = omega arith
all_within (image ∷ images) x e =
    let s = loaded_machine (image ∷ images) in
    let found = take_stack (stack_size image.stack) s.parts.heap in
    let b = boots_from (where_stack found 1 image s) (λ y. all_made (1 + 1) images y) x e in
    made_within (end_of_all (image ∷ images)) found image s b.0 refl b.1

start_within : (overlap : Option ℕ) (images : List Loaded) (start : Xinu) → unless_overlap overlap images ≡ Boots start
    → 8 * cells_for (end_of_all images) ≤ ram_size
start_within (Some i) images start e = absurd (cc)
start_within None images start e =
    let b = boots_from (all_made 1 images (loaded_machine images)) (λ s. Boots (all_started images s)) start e in
    all_within images b.0 b.1

-- RAM before anything is put into it
zeros_size : length zeros ≡ ram_size
unfolding zeros
zeros_size = length-replicate {A = ℕ} ram_size 0

-- When the machine starts.
pub whole_start : (images : List Loaded) (start : Xinu) → boot images ≡ Boots start → IsWhole start.memory start.parts.heap
whole_start images start e =
    let within = start_within (first_overlap 1 [] images) images start e in
    let end = end_of_all images in
    let room = room_in_cells end in
    let many = length-replicate ((ram_size - 8 * cells_for end) / 8) true in
    let t : Touches (reach on_deaths) (loaded_machine images) start = touches_start (record { nothing = refl; heap = refl; stacks = refl; disk = refl }) images start e in
    keeps_whole t refl (record { bytes = images_size images zeros (omega (arith, within, room)) zeros_size; heap = omega (arith, within, many) })
