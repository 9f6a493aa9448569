-- A run has one to eight images.
use Rattle.std.proofs.Common.{ℕ, ◌≡◌, ◌≢◌, ◌<◌, ◌≤◌, nat_lt, nat_le, Bool, true, false, if◌then◌else◌, List, [], ◌∷◌, length, bytes_eq, Option, Some, None, refl, subst, arith, codes}
use Rattle.std.specs.Prelude.{option_map}
use Rattle.std.specs.List.{list_all}
use Rattle.std.proofs.lemmas.Bool.{and_parts, ltb-true, leb-true}
use Rattle.std.proofs.lemmas.Option.{option_and_then_some}
use Rattle.command_line.specs.AsmArgs.{AsmFiles, asm_from}
use Rattle.command_line.specs.CheckArgs.{CheckFiles, check_from}
use Rattle.command_line.specs.Commands as command
use Rattle.command_line.specs.Commands.{Command, Run, Asm, Soak, Disk, command_from, command_of, commands, simple_command_of}
use Rattle.command_line.specs.DiskArgs.{DiskAction, action_of}
use Rattle.command_line.specs.Reading.{Text, is_given, option_value, request_of}
use Rattle.command_line.specs.SoakArgs.{soak_from}
use Rattle.command_line.specs.RunArgs.{DiskFiles, RunFiles, are_run_files, disk_files, is_file_name, may_be_disks, run_from, run_of}

-- a value that is there if a test holds
pub some_if : {X : Type 0} (b : Bool) (x y : X) → (if b then Some x else None) ≡ Some y → (b ≡ true) × (x ≡ y)
some_if true x y is = (refl, cc)
some_if false x y is = cc

-- a command that isn't an action on a disk is one without actions
pub simple_given : (args : List Text) (c : Command) → ((a : DiskAction) → Disk a ≢ c) → command_of args ≡ Some c → simple_command_of args ≡ Some c
simple_given [] c other is = absurd (cc)
simple_given (first ∷ args) c other is = go (bytes_eq (codes "disk") first) (action_of args) (simple_command_of (first ∷ args)) is
  where
    go : (b : Bool) (a : Option DiskAction) (x : Option Command) → (if b then option_map Disk a else x) ≡ Some c → x ≡ Some c
    go true (Some a) x is = (let same : Disk a ≡ c = cc in absurd (other a same))
    go true None x is = absurd (cc)
    go false a x is = is

run_named : (a b c d : Bool) (run : Option RunFiles) (asm : Option AsmFiles) (soak : Option ℕ) (check : Option CheckFiles) (r : RunFiles)
    → (if a then option_map Run run else (if b then option_map Asm asm else (if c then option_map Soak soak else (if d then option_map command.Check check else None)))) ≡ Some (Run r) → run ≡ Some r
run_named true b c d (Some x) asm soak check r is = cc
run_named true b c d None asm soak check r is = absurd (cc)
run_named false true c d run (Some x) soak check r is = absurd (cc)
run_named false true c d run None soak check r is = absurd (cc)
run_named false false true d run asm (Some x) check r is = absurd (cc)
run_named false false true d run asm None check r is = absurd (cc)
run_named false false false true run asm soak (Some x) r is = absurd (cc)
run_named false false false true run asm soak None r is = absurd (cc)
run_named false false false false run asm soak check r is = absurd (cc)

-- how many images a run has, and a check of a trace
pub record IsImageCount (images : ℕ) : Type 0 where
  pub some : 1 ≤ images
  pub few : images ≤ 8

pub count_of_files : (schedule : Text) (disks : DiskFiles) (images : List Text) → are_run_files schedule disks images ≡ true → IsImageCount (length images)
count_of_files schedule disks images holds =
    let named = (and_parts (may_be_disks disks) _ (and_parts (is_file_name schedule) _ holds).1).1 in
    let counts = and_parts (nat_lt 0 (length images)) (nat_le (length images) 8) (and_parts (list_all is_file_name images) _ named).1 in
    let some : 0 < length images = ltb-true 0 (length images) counts.0 in
    record { some = omega arith; few = leb-true (length images) 8 counts.1 }

count_of_run : (schedule : Option Text) (disks : DiskFiles) (plain : Bool) (images : List Text) (r : RunFiles) → run_of schedule disks plain images ≡ Some r → IsImageCount (length r.images)
count_of_run None disks plain images r is = cc
count_of_run (Some schedule) disks plain images r is =
    let files : RunFiles = record { schedule = schedule; disks = disks; images = images; plain = plain } in
    let holds = some_if (are_run_files schedule disks images) files r is in
    subst (λ (x : RunFiles). IsImageCount (length x.images)) holds.1 (count_of_files schedule disks images holds.0)

pub image_count : (args : List Text) (r : RunFiles) → command_of args ≡ Some (Run r) → IsImageCount (length r.images)
image_count args r is =
    option_and_then_some command_from (request_of commands args) (Run r) (simple_given args (Run r) (λ a same. cc) is)
    (λ q calls given. count_of_run (option_value (codes "schedule") q.taken) (disk_files (λ name. option_value name q.taken)) (is_given (codes "plain") q.taken) q.taken.positional r
    (run_named (bytes_eq (codes "run") q.command) (bytes_eq (codes "asm") q.command) (bytes_eq (codes "soak") q.command) (bytes_eq (codes "check") q.command) (run_from q.taken) (asm_from q.taken) (soak_from q.taken) (check_from q.taken) r given))
