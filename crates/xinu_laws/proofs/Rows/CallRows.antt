-- Rows are found by number: what holds of all rows of a list holds of the one that is found.
use Rattle.std.proofs.Common.{◌≡◌, ℕ, ◌==◌, Bool, true, false, cond, List, [], ◌∷◌, filter, Option, Some, None, is_some, option_map, refl, sym, ap, subst, ◌∙◌}
use Rattle.std.specs.List.{AllByRecursion, list_all}
use Rattle.std.proofs.lemmas.Bool.{cond_both, and_parts, eqb-true}
use Rattle.xinu_model.specs.Calls.{calls}
use Rattle.xinu_base.specs.Syscalls.{Syscall, family_of, is_call, syscall_in, syscalls}
use Rattle.xinu_model.specs.Rows.{CallRow, found_in}

-- rows in an option are equal if the options are
pub same_row : (a b : CallRow) → Some a ≡ Some b → a ≡ b
same_row a b e = cc

-- What holds of each row holds of the row of a number.
pub of_row : (P : CallRow → Type 0) (rows : List CallRow) → AllByRecursion P rows → (number : ℕ) (r : CallRow)
    → found_in rows number ≡ Some r → P r
of_row P [] all number r = λ e. absurd (cc)
of_row P (row ∷ rows) all number r =
    cond_both (number == row.number) (Some row) (found_in rows number) (λ x. x ≡ Some r → P r)
    (λ _ e. subst P (same_row row r e) all.0) (λ _ e. of_row P rows all.1 number r e)

-- The row of a number has that number.
pub number_of_row : (rows : List CallRow) (number : ℕ) (r : CallRow) → found_in rows number ≡ Some r → r.number ≡ number
number_of_row [] number r = λ e. absurd (cc)
number_of_row (row ∷ rows) number r =
    cond_both (number == row.number) (Some row) (found_in rows number) (λ x. x ≡ Some r → r.number ≡ number)
    (λ b e. sym (eqb-true number row.number b ∙ ap (λ (x : CallRow). x.number) (same_row row r e)))
    (λ _ e. number_of_row rows number r e)

-- A test that the whole table passes each row passes.
pub all_rows : (test : CallRow → Bool) (rows : List CallRow) → list_all test rows ≡ true → AllByRecursion (λ r. test r ≡ true) rows
all_rows test [] h = tt
all_rows test (r ∷ rows) h = let e = and_parts (test r) (list_all test rows) h in (e.0, all_rows test rows e.1)

-- what holds of the rows that pass a test holds of a row that passes it
first_of : (P : CallRow → Type 0) (test : CallRow → Bool) (row : CallRow) (rows : List CallRow) (b : Bool) → b ≡ true
    → AllByRecursion P (cond b (row ∷ rows) rows) → P row
first_of P test row rows true e all = all.0
first_of P test row rows false e all = absurd (cc)

others_of : (P : CallRow → Type 0) (row : CallRow) (rows : List CallRow) (b : Bool) → AllByRecursion P (cond b (row ∷ rows) rows)
    → AllByRecursion P rows
others_of P row rows true all = all.1
others_of P row rows false all = all

-- What holds of the rows that pass a test holds of the row of a number, if it passes.
pub of_few : (P : CallRow → Type 0) (test : CallRow → Bool) (rows : List CallRow) → AllByRecursion P (filter test rows)
    → (number : ℕ) (r : CallRow) → found_in rows number ≡ Some r → test r ≡ true → P r
of_few P test [] all number r = λ e. absurd (cc)
of_few P test (row ∷ rows) all number r =
    cond_both (number == row.number) (Some row) (found_in rows number) (λ x. x ≡ Some r → test r ≡ true → P r)
    (λ _ e h. let f = same_row row r e in subst P f (first_of P test row (filter test rows) (test row) (ap test f ∙ h) all))
    (λ _. of_few P test rows (others_of P row (filter test rows) (test row) all) number r)

-- A number that has a row has a call.
has_call : (number : ℕ) (r : CallRow) → found_in calls number ≡ Some r → is_call number ≡ true
unfolding calls
has_call number r e =
    subst (λ n. is_call n ≡ true) (number_of_row calls number r e)
    (of_row (λ (x : CallRow). is_call x.number ≡ true) calls (all_rows (λ (x : CallRow). is_call x.number) calls refl) number r e)

-- the system calls one by one
all_listed : (test : Syscall → Bool) (rows : List Syscall) → list_all test rows ≡ true → AllByRecursion (λ c. test c ≡ true) rows
all_listed test [] h = tt
all_listed test (c ∷ rows) h = let e = and_parts (test c) (list_all test rows) h in (e.0, all_listed test rows e.1)

of_listed : (rows : List Syscall) → AllByRecursion (λ (c : Syscall). is_some (found_in calls c.number) ≡ true) rows → (number : ℕ)
    → is_some (syscall_in rows number) ≡ true → is_some (found_in calls number) ≡ true
of_listed [] all number = λ e. absurd (cc)
of_listed (c ∷ rows) all number =
    cond_both (number == c.number) (Some c) (syscall_in rows number) (λ x. is_some x ≡ true → is_some (found_in calls number) ≡ true)
    (λ b e. ap (λ n. is_some (found_in calls n)) (eqb-true number c.number b) ∙ all.0) (λ _ e. of_listed rows all.1 number e)

-- A number that has a call has a row.
has_row : (number : ℕ) → is_call number ≡ true → is_some (found_in calls number) ≡ true
unfolding calls
has_row number = of_listed syscalls (all_listed (λ (c : Syscall). is_some (found_in calls c.number)) syscalls refl) number

-- A number that has no call has no row.
pub no_row : (number : ℕ) → is_call number ≡ false → found_in calls number ≡ None
no_row number none = by_found (found_in calls number) refl
  where
    by_found : (found : Option CallRow) → found_in calls number ≡ found → found ≡ None
    by_found None e = refl
    by_found (Some r) e = let some = has_call number r e in absurd (cc)

-- what has no family isn't there
not_there : (found : Option Syscall) → option_map (λ (row : Syscall). row.family) found ≡ None → is_some found ≡ false
not_there None e = refl
not_there (Some row) e = absurd (cc)

-- A number without a family has no row.
pub no_family : (number : ℕ) → family_of number ≡ None → found_in calls number ≡ None
no_family number none = no_row number (not_there (syscall_in syscalls number) none)

-- A number has a row if and only if it has a call.
pub rows_are_syscalls : (number : ℕ) → is_some (found_in calls number) ≡ is_call number
rows_are_syscalls number = by_call (is_call number) refl
  where
    by_call : (b : Bool) → is_call number ≡ b → is_some (found_in calls number) ≡ b
    by_call true e = has_row number e
    by_call false e = ap is_some (no_row number e)
