-- The search for a free process.
use Rattle.std.specs.List.{find}
use Rattle.std.proofs.Common.{◌≡◌, ◌≢◌, ◌∙◌, ℕ, ◌-◌, ◌<◌, ◌≤◌, Bool, true, false, List, sym, ap, arith, Option, Some, None, inl, inr}
use Rattle.std.proofs.lemmas.Bool.{cases_lt}
use Rattle.std.specs.Prelude.{IfNone, IfSome}
use Rattle.xinu_base.specs.declared.processes.Process.{Process}
use Rattle.xinu_base.specs.declared.processes.State.TheVariants.{Free}
use Rattle.xinu_model.proofs.Searches.{find_none, find_passes}
use Rattle.xinu_model.specs.Searches.{numbers_from}
use Rattle.xinu_model.specs.Tables.{is_free}
use Rattle.process_core.specs.Tables.{process_in}
use Rattle.xinu_model.proofs.States.{free_of}

-- whether the number of a process is free
abbrev pub is_free_in : List Process → ℕ → Bool
is_free_in ps p = is_free (process_in ps p).state

-- a number that is found is free
pub found_free : (ps : List Process) (n k : ℕ) (o : Option ℕ) → o ≡ find (is_free_in ps) (numbers_from n k)
    → IfSome o (λ p. (process_in ps p).state ≡ Free)
found_free ps n k None e = tt
found_free ps n k (Some p) e = free_of (process_in ps p).state (find_passes (is_free_in ps) n k p (sym e))

-- if no number is found none is free
pub none_free : (ps : List Process) (first : ℕ) (o : Option ℕ) → first ≤ 64 → None ≡ find (is_free_in ps) (numbers_from first (64 - first))
    → o ≡ find (is_free_in ps) (numbers_from 0 (first - 0))
    → IfNone o ((p : ℕ) → p < 64 → (process_in ps p).state ≢ Free)
none_free ps first (Some p) le h e = tt
none_free ps first None le h e = λ p lt f.
    let z : is_free_in ps p ≡ false = elim (cases_lt p first) [
      | inl below ↦ find_none (is_free_in ps) 0 (first - 0) (sym e) p (omega arith) (omega arith)
      | inr above ↦ find_none (is_free_in ps) first (64 - first) (sym h) p above (omega arith)
    ] in
    let y : true ≡ false = sym (ap is_free f) ∙ z in absurd (cc)
