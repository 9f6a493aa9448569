-- A file that is fetched up to a byte more than it may have is judged as a whole.
use Rattle.std.proofs.Common.{◌≡◌, ◌⊎◌, inl, inr, ℕ, ◌+◌, ◌<◌, ◌≤◌, List, length, take, Option, Some, None, refl, sym, ap, ◌∙◌, arith, length-take}
use Rattle.std.proofs.lemmas.Bool.{le-leb, lt-leb, cases_lt}
use Rattle.std.proofs.lemmas.List.{take_all}
use Rattle.std.specs.Prelude.{option_map}
use Rattle.elf_loader.specs.ElfFaults.{load_fault_number}
use Rattle.elf_loader.specs.LoadedFiles.{load_fault}
use Rattle.elf_loader.specs.declared.faults.LoadFault.{LoadFault}
use Rattle.schedule_file.specs.ScheduleFiles.{Reading, reading}
use Rattle.run_inputs.specs.InputFaults.{fault_line, schedule_fault, image_fault}

-- a file that is too long has fault 0
pub schedule_fault-long : (bytes : List ℕ) → 4194304 < length bytes → schedule_fault bytes ≡ Some 0
unfolding schedule_fault
schedule_fault-long bytes long = rw (lt-leb (length bytes) 4194304 long) refl

pub image_fault-long : (bytes : List ℕ) → 1048576 < length bytes → image_fault bytes ≡ Some 0
unfolding image_fault
image_fault-long bytes long = rw (lt-leb (length bytes) 1048576 long) refl

-- any other file has the fault that its bytes have
pub schedule_fault-short : (bytes : List ℕ) (read : Reading) → length bytes ≤ 4194304 → reading bytes ≡ read
    → schedule_fault bytes ≡ fault_line read
unfolding schedule_fault
schedule_fault-short bytes read short is =
    rw (le-leb (length bytes) 4194304 short) (ap fault_line is)

pub image_fault-short : (bytes : List ℕ) (fault : Option LoadFault) → length bytes ≤ 1048576 → load_fault bytes ≡ fault
    → image_fault bytes ≡ option_map load_fault_number fault
unfolding image_fault
image_fault-short bytes fault short is =
    rw (le-leb (length bytes) 1048576 short) (ap (λ (f : Option LoadFault). option_map load_fault_number f) is)

-- What was fetched of a file is the whole file, or both are too long.
pub cases_fetched : (bytes items : List ℕ) (most : ℕ) → items ≡ take (most + 1) bytes
    → (bytes ≡ items) ⊎ ((most < length bytes) × (most < length items))
cases_fetched bytes items most fetched =
    let long : length items ≡ length (take (most + 1) bytes) = ap length fetched in
    elim (cases_lt most (length bytes)) [
      | inl above ↦ inr (above, omega (arith, length-take (most + 1) bytes))
      | inr within ↦ inl (sym (fetched ∙ take_all (most + 1) bytes (omega arith)))
    ]

-- What was fetched of a file has the fault of the file.
pub schedule_fault-fetched : (bytes items : List ℕ) → items ≡ take 4194305 bytes → schedule_fault bytes ≡ schedule_fault items
schedule_fault-fetched bytes items fetched =
    elim (cases_fetched bytes items 4194304 fetched) [
      | inl same ↦ ap schedule_fault same
      | inr long ↦ schedule_fault-long bytes long.0 ∙ sym (schedule_fault-long items long.1)
    ]

-- What was fetched of a file is the whole file if it has no fault.
pub schedule_whole : (bytes items : List ℕ) → items ≡ take 4194305 bytes → schedule_fault items ≡ None → bytes ≡ items
schedule_whole bytes items fetched good =
    elim (cases_fetched bytes items 4194304 fetched) [
      | inl same ↦ same
      | inr long ↦ (let faulty : schedule_fault items ≡ Some 0 = schedule_fault-long items long.1 in cc)
    ]
