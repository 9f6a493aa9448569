-- What the arguments make sure of: a check has one to eight images, and an action on a disk is possible.
use Rattle.std.proofs.Common.{ℕ, ◌≡◌, nat_lt, nat_le, Bool, true, false, ◌&&◌, if◌then◌else◌, List, [], ◌∷◌, length, bytes_eq, Option, Some, None, subst, codes}
use Rattle.std.specs.Prelude.{option_map}
use Rattle.std.specs.List.{list_all}
use Rattle.std.specs.Char.{is_ascii_digit}
use Rattle.std.specs.Str.Parse.{digits_value}
use Rattle.std.proofs.lemmas.Bool.{and_parts, leb-true}
use Rattle.std.proofs.lemmas.Option.{option_and_then_some}
use Rattle.lfs_layout.specs.Files.{is_text}
use Rattle.command_line.specs.AsmArgs.{AsmFiles, asm_from}
use Rattle.command_line.specs.CheckArgs.{CheckFiles, check_from, start_files}
use Rattle.command_line.specs.CheckArgs as trace
use Rattle.command_line.specs.Commands as command
use Rattle.command_line.specs.Commands.{Command, Run, Asm, Soak, Disk, command_from, command_of, commands, simple_command_of}
use Rattle.command_line.specs.DiskArgs.{DiskAction, Mkfs, Ls, Get, Put, Check, Repair, action_from, action_of, actions, check_of, get_of, is_block_count, ls_of, mkfs_of, put_of, repair_of}
use Rattle.command_line.specs.Reading.{Text, option_value, request_of}
use Rattle.command_line.specs.SoakArgs.{soak_from}
use Rattle.command_line.specs.RunArgs.{DiskFiles, RunFiles, are_run_files, is_file_name, run_from}
use Rattle.run_inputs.proofs.RunCounts.{IsImageCount, count_of_files, simple_given, some_if}
use Rattle.xinu_commands.specs.Stages.{IsBlockCount, IsPossible}

-- ---- a check has one to eight images

check_named : (a b c d : Bool) (run : Option RunFiles) (asm : Option AsmFiles) (soak : Option ℕ) (check : Option CheckFiles) (x : CheckFiles)
    → (if a then option_map Run run else (if b then option_map Asm asm else (if c then option_map Soak soak else (if d then option_map command.Check check else None)))) ≡ Some (command.Check x) → check ≡ Some x
check_named true b c d (Some y) asm soak check x is = absurd (cc)
check_named true b c d None asm soak check x is = absurd (cc)
check_named false true c d run (Some y) soak check x is = absurd (cc)
check_named false true c d run None soak check x is = absurd (cc)
check_named false false true d run asm (Some y) check x is = absurd (cc)
check_named false false true d run asm None check x is = absurd (cc)
check_named false false false true run asm soak (Some y) x is = cc
check_named false false false true run asm soak None x is = absurd (cc)
check_named false false false false run asm soak check x is = absurd (cc)

count_of_check : (schedule name : Option Text) (disks : DiskFiles) (images : List Text) (c : CheckFiles) → trace.check_of schedule name disks images ≡ Some c → IsImageCount (length c.images)
count_of_check None name disks images c is = absurd (cc)
count_of_check (Some schedule) None disks images c is = absurd (cc)
count_of_check (Some schedule) (Some name) disks images c is =
    let files : CheckFiles = record { schedule = schedule; trace = name; disks = disks; images = images } in
    let holds = some_if (is_file_name name && are_run_files schedule disks images) files c is in
    subst (λ (x : CheckFiles). IsImageCount (length x.images)) holds.1 (count_of_files schedule disks images (and_parts (is_file_name name) _ holds.0).1)

pub check_count : (args : List Text) (c : CheckFiles) → command_of args ≡ Some (command.Check c) → IsImageCount (length c.images)
check_count args c is =
    option_and_then_some command_from (request_of commands args) (command.Check c) (simple_given args (command.Check c) (λ a same. cc) is)
    (λ q calls given. count_of_check (option_value (codes "schedule") q.taken) (option_value (codes "trace") q.taken) (start_files (λ name. option_value name q.taken)) q.taken.positional c
    (check_named (bytes_eq (codes "run") q.command) (bytes_eq (codes "asm") q.command) (bytes_eq (codes "soak") q.command) (bytes_eq (codes "check") q.command) (run_from q.taken) (asm_from q.taken) (soak_from q.taken) (check_from q.taken) c given))

-- ---- an action is possible

not_named : (a b c d : Bool) (run : Option RunFiles) (asm : Option AsmFiles) (soak : Option ℕ) (check : Option CheckFiles) (x : DiskAction)
    → (if a then option_map Run run else (if b then option_map Asm asm else (if c then option_map Soak soak else (if d then option_map command.Check check else None)))) ≡ Some (Disk x) → ⊥
not_named true b c d (Some r) asm soak check x is = cc
not_named true b c d None asm soak check x is = cc
not_named false true c d run (Some r) soak check x is = cc
not_named false true c d run None soak check x is = cc
not_named false false true d run asm (Some n) check x is = cc
not_named false false true d run asm None check x is = cc
not_named false false false true run asm soak (Some y) x is = cc
not_named false false false true run asm soak None x is = cc
not_named false false false false run asm soak check x is = cc

not_simple : (args : List Text) (a : DiskAction) → simple_command_of args ≡ Some (Disk a) → ⊥
not_simple args a is =
    option_and_then_some command_from (request_of commands args) (Disk a) is
    (λ q calls given. not_named (bytes_eq (codes "run") q.command) (bytes_eq (codes "asm") q.command) (bytes_eq (codes "soak") q.command) (bytes_eq (codes "check") q.command) (run_from q.taken)
    (asm_from q.taken) (soak_from q.taken) (check_from q.taken) a given)

action_given : (args : List Text) (a : DiskAction) → command_of args ≡ Some (Disk a) → (rest : List Text) × (action_of rest ≡ Some a)
action_given [] a is = absurd (cc)
action_given (first ∷ args) a is =
    (args, go (bytes_eq (codes "disk") first) (action_of args) (simple_command_of (first ∷ args)) (not_simple (first ∷ args) a) is)
  where
    go : (b : Bool) (x : Option DiskAction) (r : Option Command) → (r ≡ Some (Disk a) → ⊥)
        → (if b then option_map Disk x else r) ≡ Some (Disk a) → x ≡ Some a
    go true (Some y) r other is = cc
    go true None r other is = absurd (cc)
    go false x r other is = absurd (other is)

mkfs_possible : (out : Option Text) (args : List Text) (a : DiskAction) → mkfs_of out args ≡ Some a → IsPossible a
mkfs_possible None args a is = absurd (cc)
mkfs_possible (Some out) [] a is = absurd (cc)
mkfs_possible (Some out) (x ∷ y ∷ more) a is = absurd (cc)
mkfs_possible (Some out) (blocks ∷ []) a is =
    let n = digits_value 10 blocks in
    let holds = some_if (is_block_count blocks && is_file_name out) (Mkfs n out) a is in
    let count = (and_parts (is_block_count blocks) (is_file_name out) holds.0).0 in
    let range = and_parts (nat_le 14 n) (nat_le n 65542) (and_parts (nat_le (length blocks) 5) _ (and_parts (nat_lt 0 (length blocks)) _ (and_parts (list_all is_ascii_digit blocks) _ count).1).1).1 in
    let within : IsBlockCount n = record { low = leb-true 14 n range.0; high = leb-true n 65542 range.1 } in
    subst IsPossible holds.1 within

ls_possible : (args : List Text) (a : DiskAction) → ls_of args ≡ Some a → IsPossible a
ls_possible [] a is = absurd (cc)
ls_possible (x ∷ y ∷ more) a is = absurd (cc)
ls_possible (image ∷ []) a is = subst IsPossible (some_if (is_file_name image) (Ls image) a is).1 tt

get_possible : (out : Option Text) (args : List Text) (a : DiskAction) → get_of out args ≡ Some a → IsPossible a
get_possible None args a is = absurd (cc)
get_possible (Some out) [] a is = absurd (cc)
get_possible (Some out) (x ∷ []) a is = absurd (cc)
get_possible (Some out) (x ∷ y ∷ z ∷ more) a is = absurd (cc)
get_possible (Some out) (image ∷ name ∷ []) a is = subst IsPossible (some_if (is_file_name image && (is_text name && is_file_name out)) (Get image name out) a is).1 tt

put_possible : (out : Option Text) (args : List Text) (a : DiskAction) → put_of out args ≡ Some a → IsPossible a
put_possible None args a is = absurd (cc)
put_possible (Some out) [] a is = absurd (cc)
put_possible (Some out) (x ∷ []) a is = absurd (cc)
put_possible (Some out) (x ∷ y ∷ []) a is = absurd (cc)
put_possible (Some out) (x ∷ y ∷ z ∷ w ∷ more) a is = absurd (cc)
put_possible (Some out) (image ∷ name ∷ source ∷ []) a is =
    let holds = some_if (is_file_name image && (is_text name && (is_file_name source && is_file_name out))) (Put image name source out) a is in
    subst IsPossible holds.1 (and_parts (is_text name) _ (and_parts (is_file_name image) _ holds.0).1).0

check_possible : (args : List Text) (a : DiskAction) → check_of args ≡ Some a → IsPossible a
check_possible [] a is = absurd (cc)
check_possible (x ∷ y ∷ more) a is = absurd (cc)
check_possible (image ∷ []) a is = subst IsPossible (some_if (is_file_name image) (Check image) a is).1 tt

repair_possible : (out : Option Text) (args : List Text) (a : DiskAction) → repair_of out args ≡ Some a → IsPossible a
repair_possible None args a is = absurd (cc)
repair_possible (Some out) [] a is = absurd (cc)
repair_possible (Some out) (x ∷ y ∷ more) a is = absurd (cc)
repair_possible (Some out) (image ∷ []) a is = subst IsPossible (some_if (is_file_name image && is_file_name out) (Repair image out) a is).1 tt

by_tests : (b c d e f g : Bool) (out : Option Text) (args : List Text) (a : DiskAction)
    → (if b then mkfs_of out args else (if c then ls_of args else (if d then get_of out args else (if e then put_of out args else (if f then check_of args else (if g then repair_of out args else None)))))) ≡ Some a
    → IsPossible a
by_tests true c d e f g out args a is = mkfs_possible out args a is
by_tests false true d e f g out args a is = ls_possible args a is
by_tests false false true e f g out args a is = get_possible out args a is
by_tests false false false true f g out args a is = put_possible out args a is
by_tests false false false false true g out args a is = check_possible args a is
by_tests false false false false false true out args a is = repair_possible out args a is
by_tests false false false false false false out args a is = absurd (cc)

pub possible : (args : List Text) (a : DiskAction) → command_of args ≡ Some (Disk a) → IsPossible a
possible args a is =
    let given = action_given args a is in
    option_and_then_some action_from (request_of actions given.0) a given.1
    (λ q calls from. by_tests (bytes_eq (codes "mkfs") q.command) (bytes_eq (codes "ls") q.command) (bytes_eq (codes "get") q.command) (bytes_eq (codes "put") q.command)
    (bytes_eq (codes "check") q.command) (bytes_eq (codes "repair") q.command) (option_value (codes "out") q.taken) q.taken.positional a from)
