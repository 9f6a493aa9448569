-- Which files a verdict lets be fetched: the stage that refuses a file comes after those before it.
use Rattle.std.proofs.Common.{◌≡◌, ◌∙◌, List, ℕ, [], ◌∷◌, ◌++◌, map, Option, Some, None, refl, ap, ap₂}
use Rattle.command_line.specs.Reading.{Text}
use Rattle.host_port.specs.Outside.{HostCall, fetching}
use Rattle.lfs_layout.specs.Images.{opened}
use Rattle.run_inputs.specs.InputDisks.{disk_fault}
use Rattle.run_inputs.specs.declared.refusals.Refusal.{Refusal}
use Rattle.run_inputs.specs.declared.refusals.Refusal.TheVariants as refusal
use Rattle.xinu_commands.specs.Calls.{calls_in, due_by, source_fetches, unless_refused}
use Rattle.xinu_commands.specs.DiskVerdict.{disk_with, put_verdict, set_verdict}
use Rattle.xinu_commands.specs.Work.{Verdict, Refuses, Does, Outputs, if_some, unless_fault}
use Rattle.xinu_commands.proofs.DiskVerdicts.{put_sets}

-- ---- nothing is due

-- a command that is refused names no file
pub nothing_due : (fetches : Verdict → List Text) (outputs : List HostCall) (v : Verdict) (r : Refusal) → v ≡ Refuses r → fetches v ≡ []
    → calls_in (due_by fetches outputs v) ≡ []
nothing_due fetches outputs v r is none =
    ap₂ (λ (xs : List Text) (ys : List HostCall). map fetching xs ++ ys) none (ap (λ x. unless_refused x outputs) is)

-- what holds of a stage's refusals and of what follows holds of both
pub unless_fault_is : {T : Type 0} (P : Verdict → Type 0) (fault : Option Refusal) (read : Option T) (next : T → Verdict) → ((r : Refusal) → fault ≡ Some r → P (Refuses r))
    → P (Refuses refusal.NoMemory) → ((x : T) → P (next x)) → P (unless_fault fault read next)
unless_fault_is P (Some r) read next at memory rest = at r refl
unless_fault_is P None None next at memory rest = memory
unless_fault_is P None (Some x) next at memory rest = rest x

-- ---- a file that is set

-- whether there is room or not, the source was fetched
set_by : (source : Text) (made : Option (List ℕ)) → source_fetches source (if_some refusal.DoesNotFit made (λ d. Does (Outputs [] (Some d) None))) ≡ source ∷ []
set_by source None = refl
set_by source (Some d) = refl

-- a file that is set on an accepted disk
set_fetches : (source : Text) (name bytes d : List ℕ) → source_fetches source (set_verdict name bytes d) ≡ source ∷ []
unfolding set_verdict
set_fetches source name bytes d = set_by source (disk_with name bytes d)

-- the source is fetched for a disk that is accepted
pub put_fetches : (source : Text) (name bytes disk : List ℕ) → disk_fault disk ≡ None → source_fetches source (put_verdict name bytes disk) ≡ source ∷ []
put_fetches source name bytes disk clean = ap (source_fetches source) (put_sets name bytes disk clean) ∙ set_fetches source name bytes (opened disk)
