-- Which calls make a call on files: none but those on devices, and those only as they ask for it.
use Rattle.std.proofs.Common.{◌≡◌, ◌≢◌, ◌∙◌, ℕ, List, Some, refl, ap}
use Rattle.reference_check.specs.Leaving.{NoneMade}
use Rattle.xinu_base.specs.Syscalls.{family_of}
use Rattle.xinu_base.specs.declared.processes.Rest.{Rest}
use Rattle.xinu_base.specs.declared.syscalls.Family.TheVariants.{Devices}
use Rattle.xinu_laws.proofs.FileSyscalls.Chosen.{exit_none, kill_none, touched_files}
use Rattle.xinu_laws.proofs.Rows.RowByRow.{◌⨾◌}
use Rattle.xinu_laws.proofs.Touches.Continued.{continued_touches}
use Rattle.xinu_laws.proofs.Touches.Few.{IsLawOfFew, law_of_few}
use Rattle.xinu_model.specs.Calls.{calls, called, continued}
use Rattle.xinu_model.specs.Files.Syscalls.{files_of}
use Rattle.xinu_model.specs.Machine.{Xinu}
use Rattle.xinu_model.specs.Sound.State.{IsSound}

-- who leaves the files as they are makes none
pub none_if_same : (s u : Xinu) → files_of u ≡ files_of s → NoneMade s u
none_if_same s u same e = ap (λ w. w.calls) same ∙ e

-- whether the number is that of no call on devices
abbrev pub IsPlain : ℕ → Type 0
IsPlain number = family_of number ≢ Some Devices

-- No call but those on devices makes one.
none_law : IsLawOfFew (λ f. f.files) (λ number s u. IsPlain number → NoneMade s u)
unfolding calls
none_law = record {
  same = λ number s plain. none_if_same s s refl;
  others = λ number f s u e t plain. none_if_same s u (t.parts.devices.files e);
  few =
      (λ a s k plain. kill_none (a 0) s) ⨾
      (λ a s k plain. exit_none s) ⨾
      (λ a s k plain. absurd (plain refl)) ⨾
      (λ a s k plain. absurd (plain refl)) ⨾
      (λ a s k plain. absurd (plain refl)) ⨾
      (λ a s k plain. absurd (plain refl)) ⨾
      (λ a s k plain. absurd (plain refl)) ⨾
      (λ a s k plain. absurd (plain refl)) ⨾
      (λ a s k plain. absurd (plain refl)) ⨾
      (λ a s k plain. absurd (plain refl)) ⨾
      tt;
}

pub plain_none : (number : ℕ) (args : List ℕ) (s : Xinu) → IsSound s → IsPlain number → NoneMade s (called number args s).call.state
plain_none number args s k plain = law_of_few none_law number args s k plain

-- What is left of a call makes none.
pub continued_none : (left : Rest) (s : Xinu) → IsSound s → NoneMade s (continued left s).call.state
continued_none left s k =
    none_if_same s (continued left s).call.state ((continued_touches left s k).parts.devices.files (touched_files left))
