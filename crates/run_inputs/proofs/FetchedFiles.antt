-- Files that are fetched, one part after another.
use Rattle.std.proofs.Common.{◌≡◌, ◌∙◌, ◌≤◌, ◌+◌, ℕ, zero, suc, arith, List, [], ◌∷◌, ◌++◌, length, map, take, Option, Some, None, refl, sym, ap, subst, append_assoc, append-nil}
use Rattle.std.proofs.lemmas.List.{map-append, take_all}
use Rattle.std.specs.Prelude.{MatchOption, ⊤}
use Rattle.command_line.specs.Reading.{Text}
use Rattle.host_port.proofs.Prints.{grown-grown, grown-nil}
use Rattle.host_port.specs.HostCalls.{Rose}
use Rattle.host_port.specs.Outside.{Outside, HostCall, counted, fetching, with_calls}
use Rattle.host_port.specs.declared.host.HostFault.{HostFault}
use Rattle.host_port.specs.declared.host.HostFault.TheVariants as host
use Rattle.run_inputs.specs.Causes.{WasFetchedLast}
use Rattle.run_inputs.specs.Conversions.{host_refusal}
use Rattle.run_inputs.specs.Fetching.{FetchesFiles, IsDecided, IsFetched, IsOfHost}
use Rattle.run_inputs.specs.declared.refusals.Refusal.{Refusal}
use Rattle.run_inputs.specs.declared.refusals.Refusal.TheVariants as refusal

-- ---- what the host did

-- an end that the host caused isn't decided by what was given
pub undecided : (r : Refusal) → IsOfHost r → IsDecided (Some r) → ⊥
undecided refusal.HostFault cause decided = decided
undecided refusal.NoMemory cause decided = decided
undecided other cause decided = absurd cause

-- a failure of the host gives such an end
pub of_host : (f : HostFault) (r : Refusal) → r ≡ host_refusal f → IsOfHost r
of_host f r is = subst IsOfHost (sym is) (by f)
  where
    by : (x : HostFault) → IsOfHost (host_refusal x)
    by host.Failed = tt
    by host.NoMemory = tt

-- only a failure gives the refusal of one
only_failed : (f : HostFault) → Some (host_refusal f) ≡ Some refusal.HostFault → f ≡ host.Failed
only_failed host.Failed is = refl
only_failed host.NoMemory is = cc

-- What was fetched is the first bytes of what the file holds, with what was fetched in place of bytes that can't be observed.
pub fetched_front : (most : ℕ) (file : Option (List ℕ)) (items : List ℕ) → length items ≤ most + 1 → MatchOption file ⊤ (λ bytes. items ≡ take (most + 1) bytes) → IsFetched most file items
fetched_front most None items few is = record { front = sym (take_all (most + 1) items few) }
fetched_front most (Some bytes) items few is = record { front = is }

-- a file that was fetched
pub fetched_one : (name : Text) (h k : Outside) → k ≡ counted (with_calls h (fetching name ∷ [])) k.faults → h.faults ≤ k.faults → FetchesFiles (name ∷ []) None h k
fetched_one name h k is later = record { made = name ∷ []; rest = []; parts = refl; only = is; later = later; all = λ decided. refl; failed = λ failed. absurd (cc) }

-- a file that the host refused
pub unfetched_one : (name : Text) (f : HostFault) (r : Refusal) (n : ℕ) (h k : Outside) → r ≡ host_refusal f → k ≡ counted (with_calls h (take n (fetching name ∷ []))) k.faults
    → (f ≡ host.Failed → Rose h.faults k.faults) → h.faults ≤ k.faults → FetchesFiles (name ∷ []) (Some r) h k
unfetched_one name f r zero h k is only rose later = record {
  made = [];
  rest = name ∷ [];
  parts = refl;
  only = only;
  later = later;
  all = λ decided. absurd (undecided r (of_host f r is) decided);
  failed = λ failed. rose (only_failed f (ap Some (sym is) ∙ failed));
}
unfetched_one name f r (suc n) h k is only rose later =
    let few : take n [] ≡ [] = take_all n [] (omega arith) in record {
      made = name ∷ [];
      rest = [];
      parts = refl;
      only = only ∙ ap (λ (more : List HostCall). counted (with_calls h (fetching name ∷ more)) k.faults) few;
      later = later;
      all = λ decided. refl;
      failed = λ failed. rose (only_failed f (ap Some (sym is) ∙ failed));
    }

-- a file that the host couldn't fetch was fetched last
pub failed_last : (name : Text) (f : HostFault) (r : Refusal) (h k : Outside) → r ≡ host_refusal f → (f ≡ host.Failed → k ≡ counted (with_calls h (fetching name ∷ [])) k.faults)
    → r ≡ refusal.HostFault → WasFetchedLast name k
failed_last name f r h k is calls failed = record { before = h.calls; last = ap (λ (o : Outside). o.calls) (calls (only_failed f (ap Some (sym is ∙ failed)))) }

-- ---- several files

-- no file
pub fetched_none : (h : Outside) → FetchesFiles [] None h h
fetched_none h = record {
  made = [];
  rest = [];
  parts = refl;
  only = ap (λ (calls : Option (List HostCall)). record h { calls = calls }) (sym (grown-nil h.calls));
  later = omega arith;
  all = λ decided. refl;
  failed = λ failed. absurd (cc);
}

-- some files and then others are fetched
pub fetched_then : (xs ys : List Text) (ended : Option Refusal) (h i j : Outside) → FetchesFiles xs None h i → FetchesFiles ys ended i j → FetchesFiles (xs ++ ys) ended h j
fetched_then xs ys ended h i j first second =
    let one = map fetching first.made in
    let two = map fetching second.made in
    let whole : xs ≡ first.made = first.parts ∙ ap (λ r. first.made ++ r) (first.all tt) ∙ append-nil first.made in record {
      made = first.made ++ second.made;
      rest = second.rest;
      parts = ap (λ names. names ++ ys) whole ∙ ap (λ names. first.made ++ names) second.parts ∙ sym (append_assoc first.made second.made second.rest);
      only =
          second.only ∙ ap (λ (x : Outside). counted (with_calls x two) j.faults) first.only
          ∙ ap (λ (calls : Option (List HostCall)). counted (record h { calls = calls }) j.faults) (grown-grown h.calls one two)
          ∙ ap (λ (calls : List HostCall). counted (with_calls h calls) j.faults) (sym (map-append fetching first.made second.made));
      later = omega (arith, first.later, second.later);
      all = second.all;
      failed = λ failed. (let rose = second.failed failed in let later = first.later in omega (arith, rose, later));
    }

-- the host failed or memory ran out, and the files after it aren't fetched
pub fetched_stopped : (xs ys : List Text) (r : Refusal) (h k : Outside) → IsOfHost r → FetchesFiles xs (Some r) h k → FetchesFiles (xs ++ ys) (Some r) h k
fetched_stopped xs ys r h k cause f = record {
  made = f.made;
  rest = f.rest ++ ys;
  parts = ap (λ names. names ++ ys) f.parts ∙ append_assoc f.made f.rest ys;
  only = f.only;
  later = f.later;
  all = λ decided. absurd (undecided r cause decided);
  failed = f.failed;
}

-- they were fetched, and then it ended in another way than by a failure of the host
pub fetched_ended : (xs : List Text) (ended : Option Refusal) (h k : Outside) → (ended ≡ Some refusal.HostFault → ⊥) → FetchesFiles xs None h k → FetchesFiles xs ended h k
fetched_ended xs ended h k other f = record {
  made = f.made;
  rest = f.rest;
  parts = f.parts;
  only = f.only;
  later = f.later;
  all = λ decided. f.all tt;
  failed = λ failed. absurd (other failed);
}

-- the same files in another form
pub fetched_as : (xs ys : List Text) (ended : Option Refusal) (h k : Outside) → ys ≡ xs → FetchesFiles xs ended h k → FetchesFiles ys ended h k
fetched_as xs ys ended h k is f = subst (λ (names : List Text). FetchesFiles names ended h k) (sym is) f

-- no file that can be observed changed
pub fetched_files : (xs : List Text) (ended : Option Refusal) (h k : Outside) → FetchesFiles xs ended h k → k.file ≡ h.file
fetched_files xs ended h k f = ap (λ (x : Outside). x.file) f.only
