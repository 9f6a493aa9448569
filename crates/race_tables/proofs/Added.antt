-- A run that is added after others.
use Rattle.std.proofs.Common.{◌≡◌, ◌∙◌, ℕ, ◌+◌, Bool, true, false, not, cond, List, [], ◌∷◌, ◌++◌, refl, sym, ap, arith}
use Rattle.std.specs.List.{count_by, filter}
use Rattle.std.proofs.lemmas.Bool.{both_ways}
use Rattle.std.proofs.lemmas.List.Sums.{sum_by_push}
use Rattle.race_tables.specs.Outcomes.{Outcome, are_equal}
use Rattle.race_tables.specs.Rows.{Run, Row, counted, row_of, rows}
use Rattle.race_tables.proofs.Equal.{are_equal-same, are_equal-itself, are_equal-from, are_equal-turned}

-- a table that counts one run more
abbrev pub added : Run → List Row → List Row
added run [] = row_of run [] ∷ []
added run (row ∷ table) = cond (are_equal row.outcome run.outcome) (counted row ∷ table) (row ∷ added run table)

-- the rows with other outcomes
abbrev pub others : Outcome → List Row → List Row
others outcome table = filter (λ row. not (are_equal outcome row.outcome)) table

pub others-row : (o : Outcome) (row : Row) (table : List Row) (b : Bool) → are_equal o row.outcome ≡ b
    → others o (row ∷ table) ≡ cond b (others o table) (row ∷ others o table)
others-row o row table true is = rw is refl
others-row o row table false is = rw is refl

-- a run with this outcome changes nothing of the rows with other outcomes
dropped-row : (run : Run) (row : Row) (table : List Row) (b : Bool) → are_equal row.outcome run.outcome ≡ b
    → others run.outcome (added run table) ≡ others run.outcome table → others run.outcome (added run (row ∷ table)) ≡ others run.outcome (row ∷ table)
dropped-row run row table true is rest =
    let turned = are_equal-turned row.outcome run.outcome is in
    ap (λ (t : Bool). others run.outcome (cond t (counted row ∷ table) (row ∷ added run table))) is
    ∙ others-row run.outcome (counted row) table true turned
    ∙ sym (others-row run.outcome row table true turned)
dropped-row run row table false is rest =
    ap (λ (t : Bool). others run.outcome (cond t (counted row ∷ table) (row ∷ added run table))) is
    ∙ ap (λ (xs : List Row). cond (not (are_equal run.outcome row.outcome)) (row ∷ xs) xs) rest

pub dropped : (run : Run) (table : List Row) → others run.outcome (added run table) ≡ others run.outcome table
dropped run [] = others-row run.outcome (row_of run []) [] true (are_equal-itself run.outcome)
dropped run (row ∷ table) = dropped-row run row table (are_equal row.outcome run.outcome) refl (dropped run table)

-- a run with another outcome is added to the rows that are left
kept-row : (o : Outcome) (run : Run) (row : Row) (table : List Row) (a b : Bool) → are_equal row.outcome run.outcome ≡ a → are_equal o row.outcome ≡ b
    → are_equal o run.outcome ≡ false → others o (added run table) ≡ added run (others o table) → others o (added run (row ∷ table)) ≡ added run (others o (row ∷ table))
kept-row o run row table true true one two differs rest =
    absurd (both_ways (are_equal o run.outcome) differs
    (are_equal-from o run.outcome (are_equal-same o row.outcome two ∙ are_equal-same row.outcome run.outcome one)))
kept-row o run row table true false one two differs rest =
    ap (λ (t : Bool). others o (cond t (counted row ∷ table) (row ∷ added run table))) one
    ∙ others-row o (counted row) table false two
    ∙ sym (ap (added run) (others-row o row table false two) ∙ ap (λ (t : Bool). cond t (counted row ∷ others o table) (row ∷ added run (others o table))) one)
kept-row o run row table false true one two differs rest =
    ap (λ (t : Bool). others o (cond t (counted row ∷ table) (row ∷ added run table))) one
    ∙ others-row o row (added run table) true two
    ∙ rest
    ∙ sym (ap (added run) (others-row o row table true two))
kept-row o run row table false false one two differs rest =
    ap (λ (t : Bool). others o (cond t (counted row ∷ table) (row ∷ added run table))) one
    ∙ others-row o row (added run table) false two
    ∙ ap (λ (xs : List Row). row ∷ xs) rest
    ∙ sym (ap (added run) (others-row o row table false two) ∙ ap (λ (t : Bool). cond t (counted row ∷ others o table) (row ∷ added run (others o table))) one)

pub kept : (o : Outcome) (run : Run) (table : List Row) → are_equal o run.outcome ≡ false → others o (added run table) ≡ added run (others o table)
kept o run [] differs = others-row o (row_of run []) [] false differs
kept o run (row ∷ table) differs = kept-row o run row table (are_equal row.outcome run.outcome) (are_equal o row.outcome) refl refl differs (kept o run table differs)

-- the table of runs and one more
count-push : (o : Outcome) (runs : List Run) (run : Run) (b : Bool) → are_equal o run.outcome ≡ b
    → count_by (λ other. are_equal o other.outcome) (runs ++ run ∷ []) ≡ count_by (λ other. are_equal o other.outcome) runs + cond b 1 0
count-push o runs run b is =
    sum_by_push (λ other. cond (are_equal o other.outcome) 1 0) runs run
    ∙ ap (λ (t : Bool). count_by (λ other. are_equal o other.outcome) runs + cond t 1 0) is

push-row : (x : Run) (xs : List Run) (run : Run) (b : Bool) → are_equal x.outcome run.outcome ≡ b
    → row_of x (xs ++ run ∷ []) ∷ others x.outcome (added run (rows xs)) ≡ added run (row_of x xs ∷ others x.outcome (rows xs))
push-row x xs run true is =
    let count = count-push x.outcome xs run true is in
    let more : 1 + count_by (λ other. are_equal x.outcome other.outcome) (xs ++ run ∷ []) ≡ 1 + count_by (λ other. are_equal x.outcome other.outcome) xs + 1 =
    omega (arith, count) in
    let same : x.outcome ≡ run.outcome = are_equal-same x.outcome run.outcome is in
    let rest : others x.outcome (added run (rows xs)) ≡ others x.outcome (rows xs) =
    (rw same (dropped run (rows xs))) in
    ap (λ (n : ℕ). record { outcome = x.outcome; count = n; first = x.places } ∷ others x.outcome (added run (rows xs))) more
    ∙ ap (λ (table : List Row). counted (row_of x xs) ∷ table) rest
    ∙ sym (ap (λ (t : Bool). cond t (counted (row_of x xs) ∷ others x.outcome (rows xs)) (row_of x xs ∷ added run (others x.outcome (rows xs)))) is)
push-row x xs run false is =
    let count = count-push x.outcome xs run false is in
    let same : 1 + count_by (λ other. are_equal x.outcome other.outcome) (xs ++ run ∷ []) ≡ 1 + count_by (λ other. are_equal x.outcome other.outcome) xs =
    omega (arith, count) in
    ap (λ (n : ℕ). record { outcome = x.outcome; count = n; first = x.places } ∷ others x.outcome (added run (rows xs))) same
    ∙ ap (λ (table : List Row). row_of x xs ∷ table) (kept x.outcome run (rows xs) is)
    ∙ sym (ap (λ (t : Bool). cond t (counted (row_of x xs) ∷ others x.outcome (rows xs)) (row_of x xs ∷ added run (others x.outcome (rows xs)))) is)

pub rows-push : (runs : List Run) (run : Run) → rows (runs ++ run ∷ []) ≡ added run (rows runs)
unfolding rows
rows-push [] run = refl
rows-push (x ∷ xs) run =
    ap (λ (table : List Row). row_of x (xs ++ run ∷ []) ∷ others x.outcome table) (rows-push xs run)
    ∙ push-row x xs run (are_equal x.outcome run.outcome) refl
