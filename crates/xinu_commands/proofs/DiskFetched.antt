-- A disk or a source that is fetched up to a byte more than a disk may have is judged as a whole.
use Rattle.std.proofs.Common.{◌≡◌, ◌∙◌, ◌-◌, ◌/◌, ◌<◌, ◌≤◌, ◌&&◌, inl, inr, ℕ, Bool, true, false, List, [], ◌∷◌, ◌++◌, length, take, Option, Some, None, refl, sym, ap, arith}
use Rattle.std.proofs.lemmas.Bool.{lt-leb}
use Rattle.lfs_check.specs.declared.faults.DiskFault.{DiskFault}
use Rattle.lfs_check.specs.Faults.{named}
use Rattle.lfs_check.specs.Geometries.{first_data}
use Rattle.lfs_layout.specs.Files.{File, blocks_for, have_room, padded_name, placed_files, total_for, with_set, without_name}
use Rattle.lfs_layout.specs.Images.{opened}
use Rattle.lfs_layout.specs.Made.{geometry_2}
use Rattle.lfs_layout.proofs.CleanOpens.{placed_room}
use Rattle.lfs_layout.proofs.MadeClean.{opened_clean}
use Rattle.run_inputs.specs.InputDisks.{disk_fault, rule_broken}
use Rattle.xinu_commands.specs.DiskVerdict.{check_verdict, get_verdict, ls_verdict, put_verdict, repair_verdict, size_fault}
use Rattle.xinu_commands.specs.Work.{Verdict, Refuses}
use Rattle.run_inputs.specs.declared.refusals.Refusal.TheVariants as refusal
use Rattle.xinu_commands.proofs.DiskVerdicts.{check_broken, get_broken, ls_broken, put_broken, put_sets, repair_broken, set_refused}
use Rattle.run_inputs.proofs.InputFaults.{cases_fetched}
use Rattle.run_inputs.proofs.LongDisks.{disk_fault-long, rule_0-long, too_long}

-- ---- a disk that is too long breaks rule 0

size_fault-long : (bytes : List ℕ) → 33557504 < length bytes → size_fault bytes ≡ Some too_long
unfolding size_fault
size_fault-long bytes long = ap (named 0) (rule_0-long bytes long)

-- ---- what was fetched of a disk has its verdict

module _ (v : List ℕ → Verdict) (long_is : (bytes : List ℕ) → 33557504 < length bytes → v bytes ≡ Refuses (rule_broken too_long)) where
  judged : (bytes items : List ℕ) → items ≡ take 33557505 bytes → v bytes ≡ v items
  judged bytes items fetched =
      elim (cases_fetched bytes items 33557504 fetched) [
        | inl same ↦ ap v same
        | inr long ↦ long_is bytes long.0 ∙ sym (long_is items long.1)
      ]

pub ls_fetched : (bytes items : List ℕ) → items ≡ take 33557505 bytes → ls_verdict bytes ≡ ls_verdict items
ls_fetched = judged ls_verdict (λ bytes long. ls_broken bytes too_long (disk_fault-long bytes long))

pub get_fetched : (name bytes items : List ℕ) → items ≡ take 33557505 bytes → get_verdict name bytes ≡ get_verdict name items
get_fetched name = judged (get_verdict name) (λ bytes long. get_broken name bytes too_long (disk_fault-long bytes long))

pub put_fetched : (name source bytes items : List ℕ) → items ≡ take 33557505 bytes → put_verdict name source bytes ≡ put_verdict name source items
put_fetched name source = judged (put_verdict name source) (λ bytes long. put_broken name source bytes too_long (disk_fault-long bytes long))

pub check_fetched : (bytes items : List ℕ) → items ≡ take 33557505 bytes → check_verdict bytes ≡ check_verdict items
check_fetched = judged check_verdict (λ bytes long. check_broken bytes too_long (disk_fault-long bytes long))

pub repair_fetched : (bytes items : List ℕ) → items ≡ take 33557505 bytes → repair_verdict bytes ≡ repair_verdict items
repair_fetched = judged repair_verdict (λ bytes long. repair_broken bytes too_long (size_fault-long bytes long))

-- ---- a source that is too long fits on no disk

total_set : (files : List File) (f : File) → blocks_for 512 f ≤ total_for 512 (files ++ f ∷ [])
total_set [] f = omega arith
total_set (x ∷ xs) f = (let rest = total_set xs f in omega arith)

middle_false : (a b c : Bool) → b ≡ false → (a && b && c) ≡ false
middle_false true b c is = ap (λ x. x && c) is
middle_false false b c is = refl

no_room : (n : ℕ) (files : List File) (f : File) → n ≤ 65542 → 33557504 < length f.bytes → have_room (geometry_2 n) (with_set f files) ≡ false
no_room n files f few long =
    let total = total_set (without_name f.name files) f in
    middle_false _ _ _ (lt-leb (total_for 512 (with_set f files)) (n - first_data (geometry_2 n)) (omega arith))

set_long : (name bytes disk : List ℕ) → disk_fault disk ≡ None → 33557504 < length bytes → put_verdict name bytes disk ≡ Refuses refusal.DoesNotFit
unfolding disk_fault
set_long name bytes disk none long =
    let c = opened_clean disk none in
    let few = (placed_room (opened disk) c.faultless c.version).high in
    put_sets name bytes disk none ∙ set_refused name bytes (opened disk) (no_room (length (opened disk) / 512) (placed_files (opened disk)) (record { name = padded_name name; bytes = bytes }) few long)

put_long : (name bytes items disk : List ℕ) → 33557504 < length bytes → 33557504 < length items → (f : Option DiskFault) → disk_fault disk ≡ f
    → put_verdict name bytes disk ≡ put_verdict name items disk
put_long name bytes items disk one two (Some f) is = put_broken name bytes disk f is ∙ sym (put_broken name items disk f is)
put_long name bytes items disk one two None is = set_long name bytes disk is one ∙ sym (set_long name items disk is two)

-- what was fetched of a source has the verdict of the whole
pub source_fetched : (name bytes items disk : List ℕ) → items ≡ take 33557505 bytes → put_verdict name bytes disk ≡ put_verdict name items disk
source_fetched name bytes items disk fetched =
    elim (cases_fetched bytes items 33557504 fetched) [
      | inl same ↦ ap (λ (b : List ℕ). put_verdict name b disk) same
      | inr long ↦ put_long name bytes items disk long.0 long.1 (disk_fault disk) refl
    ]
