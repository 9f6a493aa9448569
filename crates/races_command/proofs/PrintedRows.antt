-- The rows of a printed table, one by one.
use Rattle.std.proofs.Common.{◌≡◌, ◌∙◌, ℕ, ◌+◌, ◌<◌, ◌≤◌, List, [], ◌∷◌, ◌++◌, length, map, get_or, drop, refl, sym, ap, append_assoc}
use Rattle.std.specs.List.{sum}
use Rattle.std.proofs.lemmas.List.{append-nil, at_drop_all, drop_more}
use Rattle.std.proofs.lemmas.List.Sums.{sum_by-cons}
use Rattle.race_tables.specs.Rows.{Row}
use Rattle.races_command.specs.Printed.{row_text, rows_text}
use Rattle.xinu_base.specs.declared.events.Event.{Event}

rest_at : (table : List Row) (i : ℕ) (row : Row) → i < length table → row ≡ get_or table i row → drop i table ≡ row ∷ drop (i + 1) table
rest_at table i row inside is =
    drop_more table i row inside ∙ ap (λ (r : Row). r ∷ drop (i + 1) table) (sym is)

rows_at : (base : List Event) (number : ℕ) (row : Row) (table : List Row) → rows_text base number (row ∷ table) ≡ row_text base number row ++ rows_text base (number + 1) table
unfolding rows_text
rows_at base number row table = refl

rows_none : (base : List Event) (number : ℕ) → rows_text base number [] ≡ []
unfolding rows_text
rows_none base number = refl

-- one more row is printed
pub rows_step : (base : List Event) (t0 t1 all : List ℕ) (table : List Row) (i : ℕ) (row : Row) → t0 ++ rows_text base (i + 1) (drop i table) ≡ all → i < length table
    → row ≡ get_or table i row → t1 ≡ t0 ++ row_text base (i + 1) row → t1 ++ rows_text base (i + 1 + 1) (drop (i + 1) table) ≡ all
rows_step base t0 t1 all table i row is inside here added =
    let rest : rows_text base (i + 1) (drop i table) ≡ row_text base (i + 1) row ++ rows_text base (i + 1 + 1) (drop (i + 1) table) =
    ap (rows_text base (i + 1)) (rest_at table i row inside here) ∙ rows_at base (i + 1) row (drop (i + 1) table) in
    ap (λ (t : List ℕ). t ++ rows_text base (i + 1 + 1) (drop (i + 1) table)) added
    ∙ append_assoc t0 (row_text base (i + 1) row) (rows_text base (i + 1 + 1) (drop (i + 1) table))
    ∙ ap (λ (t : List ℕ). t0 ++ t) (sym rest)
    ∙ is

pub rows_end : (base : List Event) (t all : List ℕ) (table : List Row) (i : ℕ) → t ++ rows_text base (i + 1) (drop i table) ≡ all → length table ≤ i → t ≡ all
rows_end base t all table i is past =
    sym (ap (λ (s : List ℕ). t ++ s) (at_drop_all (rows_text base (i + 1)) table i past) ∙ ap (λ (s : List ℕ). t ++ s) (rows_none base (i + 1)) ∙ append-nil t) ∙ is

-- the counts of the rows that are left
pub counts_at : (table : List Row) (i : ℕ) (row : Row) → i < length table → row ≡ get_or table i row
    → sum (map (λ row. row.count) (drop i table)) ≡ row.count + sum (map (λ row. row.count) (drop (i + 1) table))
counts_at table i row inside here =
    ap (λ (xs : List Row). sum (map (λ row. row.count) xs)) (rest_at table i row inside here) ∙ sum_by-cons (λ (n : ℕ). n) row.count (map (λ (row : Row). row.count) (drop (i + 1) table))

pub counts_end : (table : List Row) (i : ℕ) → length table ≤ i → sum (map (λ row. row.count) (drop i table)) ≡ 0
counts_end table i past = at_drop_all (λ xs. sum (map (λ row. row.count) xs)) table i past
