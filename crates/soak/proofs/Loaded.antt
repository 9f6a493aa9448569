-- The images of a number are its programs.
use Rattle.std.proofs.Common.{◌≡◌, ℕ, List, [], ◌∷◌, Option, Some, refl, subst}
use Rattle.std.specs.Prelude.{Ok}
use Rattle.machine.specs.Printed.{Booted}
use Rattle.machine.specs.Starts.{Starts}
use Rattle.workload.specs.Programs.{after_programs, program, programs}
use Rattle.xinu_model.specs.Boot.{Boots, Disks, Loaded, boot_on}

-- two images in one file are one
one_image : (file : Option Loaded) (x y : Loaded) → file ≡ Some x → file ≡ Some y → y ≡ x
one_image file x y first second = cc

-- The images of four files that have the programs.
pub are_programs : (seed : ℕ) (p q r s : Option Loaded) (a b c d : Loaded) → p ≡ Some (program 1 seed) → p ≡ Some a → q ≡ Some (program 2 (after_programs 1 1 seed)) → q ≡ Some b
    → r ≡ Some (program 3 (after_programs 1 2 seed)) → r ≡ Some c → s ≡ Some (program 4 (after_programs 1 3 seed)) → s ≡ Some d → a ∷ b ∷ c ∷ d ∷ [] ≡ programs seed
are_programs seed p q r s a b c d first is_first second is_second third is_third fourth is_fourth =
    let e = one_image p (program 1 seed) a first is_first in
    let f = one_image q (program 2 (after_programs 1 1 seed)) b second is_second in
    let g = one_image r (program 3 (after_programs 1 2 seed)) c third is_third in
    let h = one_image s (program 4 (after_programs 1 3 seed)) d fourth is_fourth in
    rw (e, f, g, h) refl

-- They boot as the programs do.
pub programs_boot : (disks : Disks) (seed : ℕ) (images : List Loaded) (m : Booted) → images ≡ programs seed → Starts disks images (Ok m) → boot_on disks (programs seed) ≡ Boots m.state
programs_boot disks seed images m are starts =
    let P : List Loaded → Type 0 = λ l. boot_on disks l ≡ Boots m.state in subst P are starts.0
