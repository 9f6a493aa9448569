-- What is loaded, and the state in which the machine starts (book, chapter 22).
use Rattle.std.specs.Prelude.{ℕ, ◌+◌, ◌-◌, ◌*◌, ◌/◌, max, Bool, true, if◌then◌else◌, List, [], ◌∷◌, ◌++◌, length, replicate, take, Option, None, Some, codes, ℤ}
use Rattle.std.specs.List.{list_any}
use Rattle.xinu_base.specs.Constants.{NPROC, NSEM, QUANTUM}
use Rattle.xinu_base.specs.declared.processes.Process.{Process}
use Rattle.xinu_base.specs.declared.processes.State.TheVariants.{Current}
use Rattle.xinu_base.specs.declared.semaphores.Owner.TheVariants.{Device}
use Rattle.xinu_model.specs.Devices.State.{empty_blocks}
use Rattle.xinu_model.specs.Files.Stored.{StoredFile}
use Rattle.xinu_model.specs.Files.Systems.{closed_system}
use Rattle.xinu_model.specs.Heap.Cells.{Heap, cells_for, Stack, take_stack}
use Rattle.xinu_model.specs.Machine.{Xinu, first_parts, no_hart}
use Rattle.xinu_model.specs.Memory.{ram_size, with_bytes, zeros, ranges_meet}
use Rattle.xinu_model.specs.Process.Scheduling.{resched, ready}
use Rattle.xinu_model.specs.Process.Creation.{stack_size, new_hart, new_process, make_process}
use Rattle.xinu_model.specs.Tables.{Semaphore, no_process, no_semaphore, Tables}

-- a part of an image: where it lies, its bytes, and how many addresses it takes
pub record LoadedPart : Type 0 where
  pub place : ℕ
  pub bytes : List ℕ
  pub size : ℕ

-- an image as it is loaded
pub record Loaded : Type 0 where
  pub parts : List LoadedPart
  pub entry : ℕ
  pub priority : ℤ
  pub stack : ℕ

-- a part put in its place: as many of its bytes as it takes addresses
abbrev pub with_part : LoadedPart → List ℕ → List ℕ
with_part part memory = let bytes = take part.size part.bytes in with_bytes memory part.place (length bytes) bytes

-- the parts put in their places, one after another
abbrev pub with_parts : List LoadedPart → List ℕ → List ℕ
with_parts [] memory = memory
with_parts (part ∷ parts) memory = with_parts parts (with_part part memory)

-- the images put in their places, one after another
abbrev pub with_images : List Loaded → List ℕ → List ℕ
with_images [] memory = memory
with_images (image ∷ images) memory = with_images images (with_parts image.parts memory)

-- the end of an image: the greatest address after one of its parts
abbrev pub end_of : List LoadedPart → ℕ
end_of [] = 0
end_of (part ∷ parts) = max (part.place + part.size) (end_of parts)

-- the greatest end of some images
abbrev pub end_of_all : List Loaded → ℕ
end_of_all [] = 0
end_of_all (image ∷ images) = max (end_of image.parts) (end_of_all images)

-- whether two parts share an address
abbrev pub parts_meet : LoadedPart → LoadedPart → Bool
parts_meet a b = ranges_meet a.place a.size b.place b.size

-- whether two images overlap: a part of one shares an address with a part of the other
abbrev pub overlap : Loaded → Loaded → Bool
overlap a b = list_any (λ x. list_any (parts_meet x) b.parts) a.parts

-- the number of the first of these images that overlaps an earlier one; the first of them has number i
abbrev pub first_overlap : ℕ → List Loaded → List Loaded → Option ℕ
first_overlap i earlier [] = None
first_overlap i earlier (image ∷ images) =
    if list_any (overlap image) earlier then Some i else first_overlap (i + 1) (image ∷ earlier) images

-- the heap from the lowest multiple of 8 that isn't below an address to the end of RAM, all of it free
abbrev pub heap_behind : ℕ → Heap
heap_behind end =
    let low = 8 * cells_for end in record { low = low; cells = replicate ((ram_size - low) / 8) true }

-- the heap at the start: what lies after every image
abbrev pub fresh_heap : List Loaded → Heap
fresh_heap images = heap_behind (end_of_all images)

-- the null process
abbrev pub null_process : Process
null_process = record no_process { state = Current; name = codes "prnull" ++ replicate 9 0 }

-- a semaphore of the kernel's, with n tokens
abbrev pub device_semaphore : ℕ → Semaphore
device_semaphore tokens = record { owner = Some Device; tokens = tokens; waiters = [] }

-- The semaphores at the start: four are the kernel's, for console input, console output, the callers of the raw disk and those of
-- the file system.
unfoldable pub first_semaphores : List Semaphore
first_semaphores =
    device_semaphore 0 ∷ device_semaphore 64 ∷ device_semaphore 0 ∷ device_semaphore 0 ∷ replicate (NSEM - 4) no_semaphore

-- the tables before any other process is made
abbrev pub null_tables : Tables
null_tables = record {
  processes = null_process ∷ replicate (NPROC - 1) no_process;
  messages = replicate NPROC None;
  current = 0;
  quantum = QUANTUM;
  ready = [];
  semaphores = first_semaphores;
  sleepers = [];
  ticks = 0;
  last_process = 0;
  last_semaphore = 3;
}

-- the machine with the images in RAM, before their processes are made
abbrev pub loaded_machine : List Loaded → Xinu
loaded_machine images = record {
  tables = null_tables;
  harts = replicate NPROC no_hart;
  memory = with_images images zeros;
  parts = first_parts (fresh_heap images);
}

-- the name of the first process of image i
abbrev pub image_name : ℕ → List ℕ
image_name i = codes "image" ++ (48 + i) ∷ replicate 9 0

-- the first process of image i
abbrev pub image_process : ℕ → Loaded → ℕ → Process
image_process i image top = new_process (image_name i) image.priority 0 top (stack_size image.stack)

-- the first process of image i is made on a stack
abbrev pub with_image : ℕ → Loaded → Stack → Xinu → Xinu
with_image i image stack s = make_process i (image_process i image stack.top) (new_hart image.entry stack.top 0 0) stack s

-- the processes of the images become ready in order; the first of them has number i
abbrev pub all_ready : ℕ → List Loaded → Tables → Tables
all_ready i [] t = t
all_ready i (image ∷ images) t = all_ready (i + 1) images (ready i t)

-- How the machine starts: in a state, or not, since an image overlaps an earlier one or the heap has no stack for it.
pub data Start : Type 0 where
  Boots : (state : Xinu) → Start
  Overlaps : (image : ℕ) → Start
  NoRoom : (image : ℕ) → Start

-- what follows a start so far
abbrev pub and_then : Start → (Xinu → Start) → Start
and_then (Boots s) next = next s
and_then (Overlaps i) next = Overlaps i
and_then (NoRoom i) next = NoRoom i

-- the first process of image i is made, if a stack is found
abbrev pub where_stack : Option Stack → ℕ → Loaded → Xinu → Start
where_stack None i image s = NoRoom i
where_stack (Some stack) i image s = Boots (with_image i image stack s)

-- the processes of these images are made in order, the first of which has number i
abbrev pub all_made : ℕ → List Loaded → Xinu → Start
all_made i [] s = Boots s
all_made i (image ∷ images) s =
    and_then (where_stack (take_stack (stack_size image.stack) s.parts.heap) i image s) (λ x. all_made (i + 1) images x)

-- the processes of the images become ready, with one resched
abbrev pub all_started : List Loaded → Xinu → Xinu
all_started images s = record s { tables = resched (all_ready 1 images s.tables) }

-- if no image overlaps an earlier one the processes are made
abbrev pub unless_overlap : Option ℕ → List Loaded → Start
unless_overlap (Some i) images = Overlaps i
unless_overlap None images = and_then (all_made 1 images (loaded_machine images)) (λ s. Boots (all_started images s))

-- The start of the machine with some images, which are numbered from 1 on.
abbrev pub boot : List Loaded → Start
boot images = unless_overlap (first_overlap 1 [] images) images

-- Disks that the machine is given: the blocks of the raw one, how many blocks that of files has, and its files.
pub record Disks : Type 0 where
  pub blocks : List (List ℕ)
  pub size : ℕ
  pub files : List StoredFile

-- those that it has if it is given none
abbrev pub first_disks : Disks
first_disks = record { blocks = empty_blocks; size = 256; files = [] }

-- the machine with these disks, of which nothing was asked yet
abbrev pub on_disks : Disks → Xinu → Xinu
on_disks d s =
    record s {
      parts = record s.parts {
        devices = record s.parts.devices {
          disk = record { blocks = d.blocks; requests = [] };
          files = record { system = closed_system d.size d.files; calls = []; turns = 0; bytes = [] };
        };
      };
    }

-- The start of the machine with some images, on disks that it is given.
abbrev pub boot_on : Disks → List Loaded → Start
boot_on disks images = and_then (boot images) (λ s. Boots (on_disks disks s))
