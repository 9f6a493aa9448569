-- Mappings end, and go by the rows that were there first.
use Rattle.std.proofs.Common.{◌≡◌, ◌≢◌, ℕ, zero, suc, ◌≤◌, ◌==◌, false, List, [], ◌∷◌, ◌++◌, length, Option, Some, None, refl, sym, ap, ◌∙◌}
use Rattle.std.specs.Prelude.{nat_le}
use Rattle.std.proofs.lemmas.Bool.{cond_both, cond-true, cond-false, ne_eqb, leb-true, le-leb, true≢false}
use Rattle.xinu_model.specs.Names.Constants.{NM_MAXLEN, NM_MAXMAPS, NAMESPACE}
use Rattle.xinu_model.specs.Names.Mapping.{MappedName, fits_row, first_row, replaced, short_enough, replaced_by, replaced_once, replaced_times, map_name}
use Rattle.xinu_model.specs.Names.Mounting.{NameRow}
use Rattle.xinu_model.proofs.NameTimes.{nothing_left}

-- a name that isn't too long, if there is one
abbrev pub IsShort : Option MappedName → Type 0
IsShort None = Unit {0}
IsShort (Some m) = length m.name ≤ NM_MAXLEN

short_is : (m : MappedName) → IsShort (short_enough m)
short_is m = cond_both (nat_le (length m.name) NM_MAXLEN) (Some m) None IsShort (λ e. leb-true (length m.name) NM_MAXLEN e) (λ _. tt)

once_is_short : (rows : List NameRow) (name : List ℕ) → IsShort (replaced_once rows name)
once_is_short rows name = by_row (first_row name rows)
  where
    by_row : (r : Option NameRow) → IsShort (replaced_by r name)
    by_row None = tt
    by_row (Some row) = short_is (replaced row name)

-- the name of another device that isn't too long, if there is one
abbrev pub IsMapped : Option MappedName → Type 0
IsMapped None = Unit {0}
IsMapped (Some m) = (m.device ≢ NAMESPACE) × (length m.name ≤ NM_MAXLEN)

-- a name of a device that isn't the name space
elsewhere : (m : MappedName) → (m.device == NAMESPACE) ≡ false → length m.name ≤ NM_MAXLEN → IsMapped (Some m)
elsewhere m e h = ((λ (s : m.device ≡ NAMESPACE). true≢false (sym (ap (λ d. d == NAMESPACE) s) ∙ e)), h)

times_end : (n : ℕ) (rows : List NameRow) (o : Option MappedName) → IsShort o → IsMapped (replaced_times n rows o)
times_end zero rows None h = tt
times_end (suc n) rows None h = tt
times_end zero rows (Some m) h = cond_both (m.device == NAMESPACE) None (Some m) IsMapped (λ _. tt) (λ e. elsewhere m e h)
times_end (suc n) rows (Some m) h =
    cond_both (m.device == NAMESPACE) (replaced_times n rows (replaced_once rows m.name)) (Some m) IsMapped
    (λ _. times_end n rows (replaced_once rows m.name) (once_is_short rows m.name)) (λ e. elsewhere m e h)

pub mapping_ends : (rows : List NameRow) (name : List ℕ) → IsMapped (map_name rows name)
mapping_ends rows name =
    let m : MappedName = record { device = NAMESPACE; name = name } in times_end NM_MAXMAPS rows (short_enough m) (short_is m)

-- A name is replaced once if it isn't too long.
first_step : (n : ℕ) (rows : List NameRow) (name : List ℕ) → length name ≤ NM_MAXLEN
    → replaced_times (suc n) rows (short_enough (record { device = NAMESPACE; name = name }))
    ≡ replaced_times n rows (replaced_once rows name)
first_step n rows name h =
    ap (replaced_times (suc n) rows) (cond-true (nat_le (length name) NM_MAXLEN) _ _ (le-leb (length name) NM_MAXLEN h))

-- a name that no prefix begins
pub no_row : (rows : List NameRow) (name : List ℕ) → first_row name rows ≡ None → map_name rows name ≡ None
no_row rows name e =
    cond_both (nat_le (length name) NM_MAXLEN) (Some (record { device = NAMESPACE; name = name })) None
    (λ o. replaced_times NM_MAXMAPS rows o ≡ None)
    (λ _. ap (λ r. replaced_times 39 rows (replaced_by r name)) e) (λ _. refl)

-- a name of another device stays
other_stays : (n : ℕ) (rows : List NameRow) (m : MappedName) → m.device ≢ NAMESPACE
    → replaced_times n rows (short_enough m) ≡ short_enough m
other_stays n rows m other =
    cond_both (nat_le (length m.name) NM_MAXLEN) (Some m) None (λ o. replaced_times n rows o ≡ o)
    (λ _. by_number n) (λ _. nothing_left n rows)
  where
    by_number : (n : ℕ) → replaced_times n rows (Some m) ≡ Some m
    by_number zero = cond-false (m.device == NAMESPACE) _ _ (ne_eqb m.device NAMESPACE other)
    by_number (suc n) = cond-false (m.device == NAMESPACE) _ _ (ne_eqb m.device NAMESPACE other)

pub one_row : (rows : List NameRow) (name : List ℕ) (row : NameRow) → length name ≤ NM_MAXLEN → first_row name rows ≡ Some row
    → row.device ≢ NAMESPACE → map_name rows name ≡ short_enough (replaced row name)
one_row rows name row h e other =
    first_step 39 rows name h ∙ ap (λ r. replaced_times 39 rows (replaced_by r name)) e ∙ other_stays 39 rows (replaced row name) other

-- a name that its row gives back
same_again : (n : ℕ) (rows : List NameRow) (name : List ℕ) (row : NameRow) → first_row name rows ≡ Some row
    → replaced row name ≡ record { device = NAMESPACE; name = name }
    → replaced_times n rows (short_enough (record { device = NAMESPACE; name = name })) ≡ None
same_again n rows name row e back = by_size n
  where
    start : MappedName
    start = record { device = NAMESPACE; name = name }

    by_size : (n : ℕ) → replaced_times n rows (short_enough start) ≡ None
    by_size zero =
        cond_both (nat_le (length name) NM_MAXLEN) (Some start) None (λ o. replaced_times zero rows o ≡ None) (λ _. refl) (λ _. refl)
    by_size (suc n) =
        cond_both (nat_le (length name) NM_MAXLEN) (Some start) None (λ o. replaced_times (suc n) rows o ≡ None)
        (λ _. ap (λ r. replaced_times n rows (replaced_by r name)) e ∙ ap (λ m. replaced_times n rows (short_enough m)) back ∙ by_size n)
        (λ _. refl)

pub in_a_circle : (rows : List NameRow) (name : List ℕ) (row : NameRow) → first_row name rows ≡ Some row
    → replaced row name ≡ record { device = NAMESPACE; name = name } → map_name rows name ≡ None
in_a_circle rows name row e back = same_again NM_MAXMAPS rows name row e back

-- the first row that fits is the first with more rows after
found_first : (rows more : List NameRow) (name : List ℕ) (row : NameRow) → first_row name rows ≡ Some row
    → first_row name (rows ++ more) ≡ Some row
found_first [] more name row e = cc
found_first (r ∷ rows) more name row e =
    cond_both (fits_row name r) (Some r) (first_row name rows) (λ o. o ≡ Some row → first_row name ((r ∷ rows) ++ more) ≡ Some row)
    (λ b f. cond-true (fits_row name r) _ _ b ∙ f)
    (λ b f. cond-false (fits_row name r) _ _ b ∙ found_first rows more name row f) e

-- so a name that goes on goes on with more rows after
once_more : (rows more : List NameRow) (name : List ℕ) (m : MappedName) → replaced_once rows name ≡ Some m
    → replaced_once (rows ++ more) name ≡ Some m
once_more rows more name m e = by_row (first_row name rows) refl e
  where
    by_row : (r : Option NameRow) → first_row name rows ≡ r → replaced_by r name ≡ Some m → replaced_once (rows ++ more) name ≡ Some m
    by_row None at f = cc
    by_row (Some row) at f = ap (λ r. replaced_by r name) (found_first rows more name row at) ∙ f

times_more : (n : ℕ) (rows more : List NameRow) (o : Option MappedName) (m : MappedName) → replaced_times n rows o ≡ Some m
    → replaced_times n (rows ++ more) o ≡ Some m
times_more zero rows more None m e = e
times_more (suc n) rows more None m e = e
times_more zero rows more (Some x) m e = e
times_more (suc n) rows more (Some x) m e =
    cond_both (x.device == NAMESPACE) (replaced_times n rows (replaced_once rows x.name)) (Some x)
    (λ o. o ≡ Some m → replaced_times (suc n) (rows ++ more) (Some x) ≡ Some m)
    (λ b f. cond-true (x.device == NAMESPACE) _ _ b ∙ by_step (λ o m. times_more n rows more o m) (replaced_once rows x.name) refl f)
    (λ b f. cond-false (x.device == NAMESPACE) _ _ b ∙ f) e
  where
    by_step : ((o : Option MappedName) (m : MappedName) → replaced_times n rows o ≡ Some m → replaced_times n (rows ++ more) o ≡ Some m)
        → (o : Option MappedName) → replaced_once rows x.name ≡ o → replaced_times n rows o ≡ Some m
        → replaced_times n (rows ++ more) (replaced_once (rows ++ more) x.name) ≡ Some m
    by_step go None at f = let none = nothing_left n rows in cc
    by_step go (Some y) at f = ap (replaced_times n (rows ++ more)) (once_more rows more x.name y at) ∙ go (Some y) m f

pub later_rows : (rows more : List NameRow) (name : List ℕ) (m : MappedName) → map_name rows name ≡ Some m
    → map_name (rows ++ more) name ≡ Some m
later_rows rows more name m e = times_more NM_MAXMAPS rows more (short_enough (record { device = NAMESPACE; name = name })) m e
