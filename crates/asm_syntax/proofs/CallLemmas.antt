-- The calls, searched for a name by their numbers.
use Rattle.std.proofs.Common.{◌≡◌, ℕ, zero, suc, ◌+◌, ◌-◌, ◌<◌, ◌≤◌, Bool, true, false, ◌&&◌, List, [], ◌∷◌, length, drop, Option, Some}
use Rattle.std.proofs.Common.{None, refl, sym, ap, ◌∙◌, arith}
use Rattle.std.specs.Prelude.{◌==◌}
use Rattle.std.specs.Str.{bytes_eq}
use Rattle.std.proofs.lemmas.Bool.{and_parts, eqb-true}
use Rattle.std.proofs.lemmas.Slice.Eq.{bytes_eq-Decides}
use Rattle.xinu_base.specs.Syscalls.{CALLS, Syscall, syscalls, name_of}
use Rattle.asm_syntax.specs.Values.{call_among, call_of}

-- these rows are numbered from k on, and a number's name is its row's
abbrev are_numbered : ℕ → List Syscall → Bool
are_numbered k [] = true
are_numbered k (row ∷ rows) = (row.number == k) && (bytes_eq row.name (name_of k) && are_numbered (suc k) rows)

-- the search goes past a row of another name, or ends at a row of this name
rows-next : (rows : List Syscall) (i k : ℕ) (name : List ℕ) → are_numbered k rows ≡ true → i < length rows
    → bytes_eq (name_of (k + i)) name ≡ false → call_among (drop i rows) name ≡ call_among (drop (suc i) rows) name
rows-next [] i k name are within other = absurd (omega arith)
rows-next (row ∷ rows) zero k name are within other =
    let parts = and_parts (row.number == k) (bytes_eq row.name (name_of k) && are_numbered (suc k) rows) are in
    let named = and_parts (bytes_eq row.name (name_of k)) (are_numbered (suc k) rows) parts.1 in
    let same : row.name ≡ name_of k = (bytes_eq-Decides row.name (name_of k)).0 named.0 in
    let at : k + 0 ≡ k = omega arith in
    let different : bytes_eq row.name name ≡ false =
    ap (λ (n : List ℕ). bytes_eq n name) same ∙ ap (λ (j : ℕ). bytes_eq (name_of j) name) (sym at) ∙ other in
    rw different refl
rows-next (row ∷ rows) (suc i) k name are within other =
    let parts = and_parts (row.number == k) (bytes_eq row.name (name_of k) && are_numbered (suc k) rows) are in
    let named = and_parts (bytes_eq row.name (name_of k)) (are_numbered (suc k) rows) parts.1 in
    let at : k + suc i ≡ suc k + i = omega arith in
    rows-next rows i (suc k) name named.1 (omega arith) (ap (λ (j : ℕ). bytes_eq (name_of j) name) (sym at) ∙ other)

rows-here : (rows : List Syscall) (i k : ℕ) (name : List ℕ) → are_numbered k rows ≡ true → i < length rows
    → bytes_eq (name_of (k + i)) name ≡ true → call_among (drop i rows) name ≡ Some (k + i)
rows-here [] i k name are within this = absurd (omega arith)
rows-here (row ∷ rows) zero k name are within this =
    let parts = and_parts (row.number == k) (bytes_eq row.name (name_of k) && are_numbered (suc k) rows) are in
    let named = and_parts (bytes_eq row.name (name_of k)) (are_numbered (suc k) rows) parts.1 in
    let same : row.name ≡ name_of k = (bytes_eq-Decides row.name (name_of k)).0 named.0 in
    let at : k + 0 ≡ k = omega arith in
    let number : row.number ≡ k + 0 = eqb-true row.number k parts.0 ∙ sym at in
    let equal : bytes_eq row.name name ≡ true =
    ap (λ (n : List ℕ). bytes_eq n name) same ∙ ap (λ (j : ℕ). bytes_eq (name_of j) name) (sym at) ∙ this in
    rw equal (ap (λ (n : ℕ). Some n) number)
rows-here (row ∷ rows) (suc i) k name are within this =
    let parts = and_parts (row.number == k) (bytes_eq row.name (name_of k) && are_numbered (suc k) rows) are in
    let named = and_parts (bytes_eq row.name (name_of k)) (are_numbered (suc k) rows) parts.1 in
    let at : k + suc i ≡ suc k + i = omega arith in
    rows-here rows i (suc k) name named.1 (omega arith) (ap (λ (j : ℕ). bytes_eq (name_of j) name) (sym at) ∙ this)
    ∙ ap (λ (n : ℕ). Some n) (sym at)

-- there is a row for each call
rows-counted : length syscalls ≡ CALLS
rows-counted = refl

-- the search from the call of this number on
unfoldable pub call_from : ℕ → List ℕ → Option ℕ
call_from number name = call_among (drop (number - 1) syscalls) name

pub call_of-start : (name : List ℕ) → call_of name ≡ call_from 1 name
unfolding call_of call_from
call_of-start name = refl

pub call_from-next : (number : ℕ) (name : List ℕ) → 1 ≤ number → number ≤ CALLS → bytes_eq (name_of number) name ≡ false
    → call_from number name ≡ call_from (number + 1) name
unfolding call_from
call_from-next number name low high other =
    let at : 1 + (number - 1) ≡ number = omega arith in
    let next : suc (number - 1) ≡ number + 1 - 1 = omega arith in
    rows-next syscalls (number - 1) 1 name refl (omega (arith, rows-counted)) (ap (λ (j : ℕ). bytes_eq (name_of j) name) at ∙ other)
    ∙ ap (λ (j : ℕ). call_among (drop j syscalls) name) next

pub call_from-here : (number : ℕ) (name : List ℕ) → 1 ≤ number → number ≤ CALLS → bytes_eq (name_of number) name ≡ true
    → call_from number name ≡ Some number
unfolding call_from
call_from-here number name low high this =
    let at : 1 + (number - 1) ≡ number = omega arith in
    rows-here syscalls (number - 1) 1 name refl (omega (arith, rows-counted)) (ap (λ (j : ℕ). bytes_eq (name_of j) name) at ∙ this)
    ∙ ap (λ (n : ℕ). Some n) at

pub call_from-end : (name : List ℕ) → call_from (CALLS + 1) name ≡ None
unfolding call_from
call_from-end name = refl
