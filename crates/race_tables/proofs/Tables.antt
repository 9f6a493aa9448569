-- What a table says of its runs.
use Rattle.std.proofs.Common.{◌≡◌, ◌≢◌, ◌∙◌, ℕ, zero, suc, ◌+◌, Bool, true, false, not, cond, List, [], ◌∷◌, ◌++◌, Some, length, map, refl, sym, ap, subst, arith, append_assoc, append-nil}
use Rattle.std.specs.List.{All, AllPairs, Contains, count_by, find, sum, sum_by}
use Rattle.std.proofs.lemmas.Bool.{both_ways, not-true}
use Rattle.std.proofs.lemmas.List.Elements.{All-cons, All-head, All-nil, All-tail, All-weaker, All-filter, Contains-append_right, filter_passes}
use Rattle.std.proofs.lemmas.List.Kept.{AllPairs-cons, AllPairs-filter}
use Rattle.std.proofs.lemmas.List.Sums.{sum_by-cons, sum-map}
use Rattle.race_tables.specs.Outcomes.{Outcome, are_equal}
use Rattle.race_tables.specs.Rows.{HasRow, Run, Row, counted, row_of, rows}
use Rattle.race_tables.proofs.Equal.{are_equal-same, are_equal-itself, are_equal-from, are_equal-turned}
use Rattle.race_tables.proofs.Added.{added, others, others-row, rows-push}

-- one of the later elements
later : {X : Type 0} (x y : X) (xs : List X) → Contains xs y → Contains (x ∷ xs) y
later x y xs among = Contains-append_right (x ∷ []) xs y among

-- the rows with other outcomes have others
have_others : (o : Outcome) (table : List Row) → All (λ row. are_equal o row.outcome ≡ false) (others o table)
have_others o table =
    All-weaker (λ row. not (are_equal o row.outcome) ≡ true) (λ row. are_equal o row.outcome ≡ false) (λ row is. not-true (are_equal o row.outcome) is)
    (others o table) (filter_passes (λ row. not (are_equal o row.outcome)) table)

pub all_differ : (runs : List Run) → AllPairs (λ one other. one.outcome ≢ other.outcome) (rows runs)
unfolding rows
all_differ [] = λ i j d below within. absurd (omega arith)
all_differ (x ∷ xs) =
    AllPairs-cons (λ one other. one.outcome ≢ other.outcome) (row_of x xs) (others x.outcome (rows xs))
    (All-weaker (λ row. are_equal x.outcome row.outcome ≡ false) (λ row. x.outcome ≢ row.outcome)
    (λ row differs same. both_ways (are_equal x.outcome row.outcome) differs (are_equal-from x.outcome row.outcome same))
    (others x.outcome (rows xs)) (have_others x.outcome (rows xs)))
    (AllPairs-filter (λ one other. one.outcome ≢ other.outcome) (λ row. not (are_equal x.outcome row.outcome)) (rows xs) (all_differ xs))

-- each row counts the runs with its outcome
abbrev Counts : List Run → Row → Type 0
Counts runs row = row.count ≡ count_by (λ run. are_equal row.outcome run.outcome) runs

count-cons : (o : Outcome) (x : Run) (xs : List Run) (b : Bool) → are_equal o x.outcome ≡ b
    → count_by (λ run. are_equal o run.outcome) (x ∷ xs) ≡ cond b 1 0 + count_by (λ run. are_equal o run.outcome) xs
count-cons o x xs b is =
    sum_by-cons (λ run. cond (are_equal o run.outcome) 1 0) x xs
    ∙ ap (λ (t : Bool). cond t 1 0 + count_by (λ run. are_equal o run.outcome) xs) is

differs-turned : (one other : Outcome) (b : Bool) → are_equal other one ≡ b → are_equal one other ≡ false → are_equal other one ≡ false
differs-turned one other false is differs = is
differs-turned one other true is differs = absurd (both_ways (are_equal one other) differs (are_equal-turned other one is))

both : {X : Type 0} (P Q R : X → Type 0) → ((x : X) → P x → Q x → R x) → (xs : List X) → All P xs → All Q xs → All R xs
both P Q R gives xs one other = λ k d within. gives _ (one k d within) (other k d within)

counts_more : (row : Row) (x : Run) (xs : List Run) → Counts xs row → are_equal row.outcome x.outcome ≡ false → Counts (x ∷ xs) row
counts_more row x xs counts differs = omega (arith, counts, count-cons row.outcome x xs false differs)

counts_first : (x : Run) (xs : List Run) → Counts (x ∷ xs) (row_of x xs)
counts_first x xs = omega (arith, count-cons x.outcome x xs true (are_equal-itself x.outcome))

pub all_count : (runs : List Run) → All (Counts runs) (rows runs)
unfolding rows
all_count [] = All-nil (Counts [])
all_count (x ∷ xs) =
    All-cons (Counts (x ∷ xs)) (row_of x xs) (others x.outcome (rows xs)) (counts_first x xs)
    (both (Counts xs) (λ row. are_equal x.outcome row.outcome ≡ false) (Counts (x ∷ xs))
    (λ row counts differs. counts_more row x xs counts (differs-turned x.outcome row.outcome (are_equal row.outcome x.outcome) refl differs))
    (others x.outcome (rows xs))
    (All-filter (λ row. not (are_equal x.outcome row.outcome)) (Counts xs) (rows xs) (all_count xs))
    (have_others x.outcome (rows xs)))

-- the first run with a row's outcome is the one that it names
abbrev IsFirst : List Run → Row → Type 0
IsFirst runs row = find (λ run. are_equal row.outcome run.outcome) runs ≡ Some (record { places = row.first; outcome = row.outcome })

find-cons : (o : Outcome) (x : Run) (xs : List Run) (b : Bool) → are_equal o x.outcome ≡ b
    → find (λ run. are_equal o run.outcome) (x ∷ xs) ≡ cond b (Some x) (find (λ run. are_equal o run.outcome) xs)
find-cons o x xs b is = ap (λ (t : Bool). cond t (Some x) (find (λ run. are_equal o run.outcome) xs)) is

first_later : (row : Row) (x : Run) (xs : List Run) → IsFirst xs row → are_equal row.outcome x.outcome ≡ false → IsFirst (x ∷ xs) row
first_later row x xs first differs = find-cons row.outcome x xs false differs ∙ first

pub all_first : (runs : List Run) → All (IsFirst runs) (rows runs)
unfolding rows
all_first [] = All-nil (IsFirst [])
all_first (x ∷ xs) =
    All-cons (IsFirst (x ∷ xs)) (row_of x xs) (others x.outcome (rows xs)) (find-cons x.outcome x xs true (are_equal-itself x.outcome))
    (both (IsFirst xs) (λ row. are_equal x.outcome row.outcome ≡ false) (IsFirst (x ∷ xs))
    (λ row first differs. first_later row x xs first (differs-turned x.outcome row.outcome (are_equal row.outcome x.outcome) refl differs))
    (others x.outcome (rows xs))
    (All-filter (λ row. not (are_equal x.outcome row.outcome)) (IsFirst xs) (rows xs) (all_first xs))
    (have_others x.outcome (rows xs)))

-- what holds of the placements of all runs holds of those of the rows
pub all_rows : (P : List ℕ → Type 0) (runs : List Run) → All (λ run. P run.places) runs → All (λ row. P row.first) (rows runs)
unfolding rows
all_rows P [] all = All-nil (λ row. P row.first)
all_rows P (x ∷ xs) all =
    All-cons (λ row. P row.first) (row_of x xs) (others x.outcome (rows xs)) (All-head (λ run. P run.places) x xs all)
    (All-filter (λ row. not (are_equal x.outcome row.outcome)) (λ row. P row.first) (rows xs) (all_rows P xs (All-tail (λ run. P run.places) x xs all)))

-- the counts add up
pub total : List Row → ℕ
total table = sum_by (λ row. row.count) table

total-cons : (row : Row) (table : List Row) → total (row ∷ table) ≡ row.count + total table
unfolding total
total-cons row table = sum_by-cons (λ row. row.count) row table

total-row : (run : Run) (row : Row) (table : List Row) (b : Bool) → are_equal row.outcome run.outcome ≡ b → total (added run table) ≡ total table + 1
    → total (added run (row ∷ table)) ≡ total (row ∷ table) + 1
total-row run row table true is rest =
    ap (λ (t : Bool). total (cond t (counted row ∷ table) (row ∷ added run table))) is
    ∙ omega (arith, total-cons (counted row) table, total-cons row table)
total-row run row table false is rest =
    ap (λ (t : Bool). total (cond t (counted row ∷ table) (row ∷ added run table))) is
    ∙ omega (arith, total-cons row (added run table), total-cons row table, rest)

pub total-added : (run : Run) (table : List Row) → total (added run table) ≡ total table + 1
unfolding total
total-added run [] = refl
total-added run (row ∷ table) = total-row run row table (are_equal row.outcome run.outcome) refl (total-added run table)

total-more : (more runs : List Run) → total (rows (runs ++ more)) ≡ total (rows runs) + length more
total-more [] runs = rw append-nil (omega arith)
total-more (x ∷ more) runs =
    let one : total (rows (runs ++ x ∷ [])) ≡ total (rows runs) + 1 = ap total (rows-push runs x) ∙ total-added x (rows runs) in
    let rest = total-more more (runs ++ x ∷ []) in
    ap (λ (xs : List Run). total (rows xs)) (sym (append_assoc runs (x ∷ []) more)) ∙ omega (arith, one, rest)

total-none : total (rows []) ≡ 0
unfolding rows total
total-none = refl

total-is : (table : List Row) → sum (map (λ row. row.count) table) ≡ total table
unfolding total
total-is table = sum-map (λ row. row.count) table

pub adds_up : (runs : List Run) → sum (map (λ row. row.count) (rows runs)) ≡ length runs
adds_up runs = total-is (rows runs) ∙ omega (arith, total-more runs [], total-none)

-- each run has its row
among_cons : (o : Outcome) (x row : Row) (table : List Row) (b : Bool) → are_equal o x.outcome ≡ b → Contains (others o table) row
    → Contains (others o (x ∷ table)) row
among_cons o x row table true is among = subst (λ (kept : List Row). Contains kept row) (sym (others-row o x table true is)) among
among_cons o x row table false is among =
    subst (λ (kept : List Row). Contains kept row) (sym (others-row o x table false is)) (later x row (others o table) among)

kept_among : (o : Outcome) (row : Row) (table : List Row) → are_equal o row.outcome ≡ false → Contains table row → Contains (others o table) row
kept_among o row [] differs among = absurd (omega (arith, among.1))
kept_among o row (x ∷ table) differs (zero, within, is) =
    let other : are_equal o x.outcome ≡ false = ap (λ (r : Row). are_equal o r.outcome) is ∙ differs in
    subst (λ (kept : List Row). Contains kept row) (sym (others-row o x table false other)) (0, omega arith, is)
kept_among o row (x ∷ table) differs (suc i, within, is) =
    among_cons o x row table (are_equal o x.outcome) refl (kept_among o row table differs (i, omega arith, is))

has_later : (x run : Run) (xs : List Run) (b : Bool) (has : HasRow (rows xs) run) → are_equal x.outcome has.row.outcome ≡ b
    → HasRow (row_of x xs ∷ others x.outcome (rows xs)) run
has_later x run xs true has is = record {
  row = row_of x xs;
  among = (0, omega arith, refl);
  is = are_equal-same x.outcome has.row.outcome is ∙ has.is;
}
has_later x run xs false has is = record {
  row = has.row;
  among = later (row_of x xs) has.row (others x.outcome (rows xs)) (kept_among x.outcome has.row (rows xs) is has.among);
  is = has.is;
}

pub all_have : (runs : List Run) → All (HasRow (rows runs)) runs
unfolding rows
all_have [] = All-nil (HasRow [])
all_have (x ∷ xs) =
    All-cons (HasRow (row_of x xs ∷ others x.outcome (rows xs))) x xs (record { row = row_of x xs; among = (0, omega arith, refl); is = refl })
    (All-weaker (HasRow (rows xs)) (HasRow (row_of x xs ∷ others x.outcome (rows xs)))
    (λ run has. has_later x run xs (are_equal x.outcome has.row.outcome) has refl) xs (all_have xs))

pub only : (row other : Row) → Contains (row ∷ []) other → row ≡ other
only row other (zero, within, is) = is
only row other (suc k, within, is) = absurd (omega (arith, within))

pub one_outcome : (runs : List Run) (row : Row) → rows runs ≡ row ∷ [] → All (λ run. run.outcome ≡ row.outcome) runs
one_outcome runs row one =
    All-weaker (HasRow (rows runs)) (λ run. run.outcome ≡ row.outcome)
    (λ run has.
    let same : row ≡ has.row = only row has.row (subst (λ (table : List Row). Contains table has.row) one has.among) in
    sym has.is ∙ ap (λ (r : Row). r.outcome) (sym same))
    runs (all_have runs)
