-- Two disks have the same files.
use Rattle.std.proofs.Common.{◌≡◌, ℕ, List, length, map, ap, arith, Option}
use Rattle.file_laws.specs.StoredFiles.{stored_files}
use Rattle.local_files.specs.Hands.{system}
use Rattle.local_files.specs.Standing.{Stands}
use Rattle.local_files.specs.Steps.{shown}
use Rattle.local_files.specs.declared.Files.{Files}
use Rattle.xinu_model.specs.Files.Stored.{StoredFile}
use Rattle.xinu_model.specs.Files.Systems.{FileSystem, OpenFile}

-- two engines have the same files if these are of one disk and their devices show the same
pub same_system : (e f : Files) (base base' disk disk' : List ℕ) → Stands e base disk → Stands f base' disk' → base ≡ base'
    → map shown e.devices ≡ map shown f.devices → system e base ≡ system f base'
same_system e f base base' disk disk' s t bases devices =
    let long = s.blocks in let long' = t.blocks in let same = ap length bases in
    let blocks : e.blocks ≡ f.blocks = omega (arith, long, long', same) in
    of_parts blocks (ap stored_files bases) devices
  where
    of_parts : {m n : ℕ} {a b : List StoredFile} {x y : List (Option OpenFile)} → m ≡ n → a ≡ b → x ≡ y
        → ◌≡◌ {A = FileSystem} (record { blocks = m; files = a; devices = x }) (record { blocks = n; files = b; devices = y })
    of_parts blocks files devices = cc
