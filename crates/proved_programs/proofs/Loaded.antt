-- The images are the programs, which check.
use Rattle.std.proofs.Common.{◌≡◌, ◌∷◌, [], arith, refl, true, List}
use Rattle.part_laws.specs.GivenDisks.{AreSoundDisks}
use Rattle.program_logic.proofs.Kept.{always_keeps}
use Rattle.program_logic.proofs.Placed.{programs_there}
use Rattle.program_logic.proofs.Rooms.{boots_all}
use Rattle.program_logic.specs.Kept.{HasStarted, IsKept}
use Rattle.program_logic.specs.SystemCheck.{are_there, system_checks}
use Rattle.scheduling_laws.specs.Moments.{LeadTo, Moment}
use Rattle.xinu_model.specs.Boot.{Boots, Disks, boot_on}
use Rattle.xinu_model.specs.Machine.{Xinu}
use Rattle.proved_programs.specs.Adding.{adding_first, adding_images, adding_lock, adding_others}
use Rattle.proved_programs.specs.Counting.{counting_first, counting_images, counting_lock, counting_programs, counting_second}
use Rattle.proved_programs.specs.Statement.{rounds}
use Rattle.proved_programs.specs.Sleeping.{sleeping_first, sleeping_images, sleeping_lock, sleeping_second}
use Rattle.proved_programs.specs.Tens.{tens_first, tens_images, tens_lock, tens_second}

pub counting_checks : system_checks counting_lock counting_programs ≡ true
counting_checks = refl

pub counting_there : are_there counting_lock counting_programs counting_images ≡ true
counting_there = programs_there counting_lock counting_first (counting_second ∷ []) 0 refl refl refl refl refl

pub counting_boots : (disks : Disks) → (start : Xinu) × (boot_on disks counting_images ≡ Boots start)
counting_boots disks = boots_all disks counting_images 131058 refl refl refl (omega arith)

pub counting_started : (disks : Disks) (start : Xinu) → AreSoundDisks disks → boot_on disks counting_images ≡ Boots start
    → HasStarted counting_lock counting_programs disks counting_images start
counting_started disks start sound boots = record { loaded = counting_there; sound = sound; boots = boots }

pub adding_checks : system_checks adding_lock (adding_first ∷ adding_others) ≡ true
adding_checks = refl

pub adding_there : are_there adding_lock (adding_first ∷ adding_others) adding_images ≡ true
adding_there = programs_there adding_lock adding_first adding_others 0 refl refl refl refl refl

pub adding_boots : (disks : Disks) → (start : Xinu) × (boot_on disks adding_images ≡ Boots start)
adding_boots disks = boots_all disks adding_images 131052 refl refl refl (omega arith)

pub sleeping_checks : system_checks sleeping_lock (sleeping_first ∷ sleeping_second ∷ []) ≡ true
sleeping_checks = refl

pub sleeping_there : are_there sleeping_lock (sleeping_first ∷ sleeping_second ∷ []) sleeping_images ≡ true
sleeping_there = programs_there sleeping_lock sleeping_first (sleeping_second ∷ []) 0 refl refl refl refl refl

pub sleeping_boots : (disks : Disks) → (start : Xinu) × (boot_on disks sleeping_images ≡ Boots start)
sleeping_boots disks = boots_all disks sleeping_images 131055 refl refl refl (omega arith)

pub tens_checks : system_checks tens_lock (tens_first ∷ tens_second ∷ []) ≡ true
tens_checks = refl

pub tens_there : are_there tens_lock (tens_first ∷ tens_second ∷ []) tens_images ≡ true
tens_there = programs_there tens_lock tens_first (tens_second ∷ []) 0 refl refl refl refl refl

pub tens_boots : (disks : Disks) → (start : Xinu) × (boot_on disks tens_images ≡ Boots start)
tens_boots disks = boots_all disks tens_images 131045 refl refl refl (omega arith)

-- the rules of these, at each moment
pub adding_kept : (disks : Disks) (start now : Xinu) (ms : List Moment) → AreSoundDisks disks → boot_on disks adding_images ≡ Boots start → LeadTo start ms now
    → IsKept adding_lock 3 (rounds ms) now
adding_kept disks start now ms sound boots lead =
    always_keeps adding_lock (adding_first ∷ adding_others) adding_checks disks adding_images start now ms
    (record { loaded = adding_there; sound = sound; boots = boots }) lead

pub sleeping_kept : (disks : Disks) (start now : Xinu) (ms : List Moment) → AreSoundDisks disks → boot_on disks sleeping_images ≡ Boots start → LeadTo start ms now
    → IsKept sleeping_lock 2 (rounds ms) now
sleeping_kept disks start now ms sound boots lead =
    always_keeps sleeping_lock (sleeping_first ∷ sleeping_second ∷ []) sleeping_checks disks sleeping_images start now ms
    (record { loaded = sleeping_there; sound = sound; boots = boots }) lead

pub tens_kept : (disks : Disks) (start now : Xinu) (ms : List Moment) → AreSoundDisks disks → boot_on disks tens_images ≡ Boots start → LeadTo start ms now
    → IsKept tens_lock 2 (rounds ms) now
tens_kept disks start now ms sound boots lead =
    always_keeps tens_lock (tens_first ∷ tens_second ∷ []) tens_checks disks tens_images start now ms
    (record { loaded = tens_there; sound = sound; boots = boots }) lead
