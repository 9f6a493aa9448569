-- Which files were asked for, by one stage and then by another.
use Rattle.std.proofs.Common.{◌≡◌, ◌+◌, ℕ, zero, suc, arith, List, [], ◌∷◌, ◌++◌, map, take, Option, Some, refl, sym, ap, ◌∙◌}
use Rattle.std.proofs.Math.Seq.{take-append-add}
use Rattle.std.proofs.lemmas.List.{take_all}
use Rattle.command_line.specs.Reading.{Text}
use Rattle.host_port.specs.Outside.{Outside, HostCall, fetching, grown}
use Rattle.host_port.proofs.Prints.{grown-grown, grown-nil}
use Rattle.xinu_commands.specs.Calls.{Due, calls_in}
use Rattle.xinu_commands.specs.Stages.{IsHostCause, KeepsFiles, fetch_due}
use Rattle.run_inputs.specs.Fetching.{IsDecided}
use Rattle.xinu_commands.specs.Theorem.{HasCalled, IsUnsent}
use Rattle.run_inputs.specs.declared.refusals.Refusal.{Refusal}
use Rattle.run_inputs.specs.declared.refusals.Refusal.TheVariants as refusal
use Rattle.xinu_commands.proofs.Carried.{unsent_both, unsent_refl}

-- an end that the host caused isn't decided by the verdict
pub undecided : (r : Refusal) (h k : Outside) → IsHostCause (Some r) h k → IsDecided (Some r) → ⊥
undecided refusal.HostFault h k cause decided = decided
undecided refusal.NoMemory h k cause decided = decided
undecided other h k cause decided = absurd cause

-- Nothing was asked for, and if the end was decided nothing is due.
pub nothing_called : (due : Due) (r : Refusal) (h : Outside) → (IsDecided (Some r) → calls_in due ≡ []) → HasCalled due (Some r) h h
nothing_called due r h none = record {
  count = 0;
  first = sym (grown-nil h.calls);
  all = λ decided. sym (grown-nil h.calls) ∙ ap (grown h.calls) (sym (none decided));
  unsent = λ few. unsent_refl h;
}

-- nothing changed
pub keeps_refl : (h : Outside) → KeepsFiles h h
keeps_refl h = record { file = refl; fault = refl; later = omega arith }

-- two changes one after the other
pub keeps_both : (h j k : Outside) → KeepsFiles h j → KeepsFiles j k → KeepsFiles h k
keeps_both h j k first second =
    record { file = second.file ∙ first.file; fault = second.fault ∙ first.fault; later = omega (arith, first.later, second.later) }

-- one file was fetched, and then the next stage made its calls
pub fetched_then : (x : Text) (fetches : List Text) (outputs : List HostCall) (ended : Option Refusal) (h j k : Outside) → IsUnsent h j
    → j.calls ≡ grown h.calls (fetching x ∷ []) → HasCalled (record { fetches = fetches; outputs = outputs }) ended j k
    → HasCalled (record { fetches = x ∷ fetches; outputs = outputs }) ended h k
fetched_then x fetches outputs ended h j k unsent made second =
    let one = fetching x ∷ [] in
    let rest = map fetching fetches ++ outputs in record {
      count = 1 + second.count;
      first =
          second.first ∙ ap (λ (o : Option (List HostCall)). grown o (take second.count rest)) made ∙ grown-grown h.calls one (take second.count rest)
          ∙ ap (grown h.calls) (sym (take-append-add one rest second.count));
      all = λ decided. second.all decided ∙ ap (λ (o : Option (List HostCall)). grown o rest) made ∙ grown-grown h.calls one rest;
      unsent = λ few. unsent_both h j k unsent (second.unsent (omega (arith, few)));
    }

-- the host failed, or memory ran out, before or after the first call
called_first_by : (n : ℕ) (x : Text) (fetches : List Text) (outputs : List HostCall) (r : Refusal) (h k : Outside) → IsUnsent h k → (IsDecided (Some r) → ⊥)
    → k.calls ≡ grown h.calls (take n (fetching x ∷ [])) → HasCalled (record { fetches = x ∷ fetches; outputs = outputs }) (Some r) h k
called_first_by zero x fetches outputs r h k unsent never calls =
    record { count = 0; first = calls; all = λ decided. absurd (never decided); unsent = λ few. unsent }
called_first_by (suc n) x fetches outputs r h k unsent never calls =
    let few : take n [] ≡ [] = take_all n [] (omega arith) in record {
      count = 1;
      first = calls ∙ ap (λ (more : List HostCall). grown h.calls (fetching x ∷ more)) few;
      all = λ decided. absurd (never decided);
      unsent = λ fewer. unsent;
    }

-- the first file was asked for, or not even that
pub called_first : (x : Text) (fetches : List Text) (outputs : List HostCall) (r : Refusal) (h k : Outside) → IsUnsent h k → (IsDecided (Some r) → ⊥)
    → HasCalled (fetch_due x) (Some r) h k → HasCalled (record { fetches = x ∷ fetches; outputs = outputs }) (Some r) h k
called_first x fetches outputs r h k unsent never calls = called_first_by calls.count x fetches outputs r h k unsent never calls.first
