-- What is reported of a file that is refused, and when a file has no fault.
use Rattle.std.specs.Prelude.{◌≡◌, ℕ, Bool, nat_le, if◌then◌else◌, List, [], ◌∷◌, length, Option, Some, None, is_some, option_and_then, option_map}
use Rattle.std.specs.List.{list_any}
use Rattle.elf_loader.specs.ElfFaults.{load_fault_number}
use Rattle.elf_loader.specs.LoadedFiles.{load_fault, loads}
use Rattle.schedule_file.specs.ScheduleFiles.{Reading, Reads, Bad, Many, events_in, reading}
use Rattle.xinu_base.specs.declared.events.Event.{Event}
use Rattle.xinu_model.specs.Boot.{Loaded}

-- the most bytes of a schedule file: 4 MiB
abbrev pub longest_schedule : ℕ
longest_schedule = 4194304

-- the most bytes of an image file: 1 MiB
abbrev pub longest_image : ℕ
longest_image = 1048576

-- the line at which a text isn't a schedule
abbrev pub fault_line : Reading → Option ℕ
fault_line (Reads events) = None
fault_line (Bad line) = Some line
fault_line (Many line) = Some line

-- the line that is reported of a schedule file: 0 if the file is too long; none if it is a schedule
unfoldable pub schedule_fault : List ℕ → Option ℕ
schedule_fault bytes =
    if nat_le (length bytes) longest_schedule then fault_line (reading bytes) else Some 0

-- the fault that is reported of an image file, ELF or not: 0 if the file is too long; none if it loads
unfoldable pub image_fault : List ℕ → Option ℕ
image_fault bytes =
    if nat_le (length bytes) longest_image then option_map load_fault_number (load_fault bytes) else Some 0

-- whether one of these image files has a fault
unfoldable pub have_fault : List (List ℕ) → Bool
have_fault files = list_any (λ bytes. is_some (image_fault bytes)) files

-- what image files load, if each of them loads
abbrev pub images_loaded : List (List ℕ) → Option (List Loaded)
images_loaded [] = Some []
images_loaded (bytes ∷ files) = option_and_then (λ image. option_map (λ images. image ∷ images) (images_loaded files)) (loads bytes)

-- A schedule file has no fault, and it reads as these events.
pub record ReadsAs (bytes : List ℕ) (events : List Event) : Type 0 where
  pub good : schedule_fault bytes ≡ None
  pub reads : events_in bytes ≡ Some events
