-- Image files without a fault: each loads.
use Rattle.std.proofs.Common.{◌≡◌, ◌++◌, ℕ, nat_le, Bool, true, false, if◌then◌else◌, List, [], ◌∷◌, length, drop, Option, Some, None, refl, ap, ◌∙◌}
use Rattle.std.specs.Prelude.{is_some, option_and_then, option_map}
use Rattle.std.proofs.lemmas.Bool.{or_parts}
use Rattle.elf_loader.specs.ElfFaults.{load_fault_number}
use Rattle.elf_loader.specs.ElfFiles.{elf_fault, elf_loaded, loaded_unless_fault}
use Rattle.elf_loader.specs.LoadedFiles.{is_elf, load_fault, loads}
use Rattle.elf_loader.specs.declared.faults.ElfFault.{ElfFault}
use Rattle.elf_loader.specs.declared.faults.LoadFault.TheVariants as load
use Rattle.image_loader.specs.ImageFiles.{first_fault, header_of, image_of, loaded_unless}
use Rattle.image_loader.specs.declared.faults.ImageFault.{ImageFault}
use Rattle.xinu_model.specs.Boot.{Loaded}
use Rattle.run_inputs.specs.InputFaults.{have_fault, image_fault, images_loaded, longest_image}

-- what is not there isn't some fault
no_fault : (f : Option ℕ) → is_some f ≡ false → f ≡ None
no_fault None is = refl
no_fault (Some x) is = cc

-- the first of some files has no fault, and none after it has one
pub good_parts : (bytes : List ℕ) (files : List (List ℕ)) → have_fault (bytes ∷ files) ≡ false → (image_fault bytes ≡ None) × (have_fault files ≡ false)
unfolding have_fault
good_parts bytes files good =
    let parts = or_parts (is_some (image_fault bytes)) (have_fault files) good in (no_fault (image_fault bytes) parts.0, parts.1)

-- one more file without a fault
pub good_more : (files : List (List ℕ)) (bytes : List ℕ) → have_fault files ≡ false → image_fault bytes ≡ None → have_fault (files ++ bytes ∷ []) ≡ false
unfolding have_fault
good_more [] bytes good fine = rw fine refl
good_more (file ∷ files) bytes good fine =
    let parts = good_parts file files good in rw parts.0 (good_more files bytes parts.1 fine)

-- a file that is short enough, and has no fault of its kind, loads
loads_by : (fits elf : Bool) (e : Option ElfFault) (f : Option ImageFault) (x y : Loaded)
    → (if fits then option_map load_fault_number (if elf then option_map load.Elf e else option_map load.Image f) else Some 0) ≡ None
    → (image : Loaded) × ((if elf then loaded_unless_fault e x else loaded_unless f y) ≡ Some image)
loads_by false elf e f x y good = absurd (cc)
loads_by true true None f x y good = (x, refl)
loads_by true true (Some e) f x y good = absurd (cc)
loads_by true false e None x y good = (y, refl)
loads_by true false e (Some f) x y good = absurd (cc)

-- A file without a fault loads.
pub good_loads : (bytes : List ℕ) → image_fault bytes ≡ None → (image : Loaded) × (loads bytes ≡ Some image)
unfolding image_fault load_fault loads
good_loads bytes good =
    loads_by (nat_le (length bytes) longest_image) (is_elf bytes) (elf_fault bytes) (first_fault bytes) (elf_loaded bytes)
    (image_of (header_of bytes) (drop 28 bytes)) good

-- Files without a fault load.
pub good_images : (files : List (List ℕ)) → have_fault files ≡ false → (images : List Loaded) × (images_loaded files ≡ Some images)
good_images [] good = ([], refl)
good_images (bytes ∷ files) good =
    let parts = good_parts bytes files good in
    let image = good_loads bytes parts.0 in
    let rest = good_images files parts.1 in
    (image.0 ∷ rest.0, ap (option_and_then (λ x. option_map (λ images. x ∷ images) (images_loaded files))) image.1 ∙ ap (option_map (λ images. image.0 ∷ images)) rest.1)
