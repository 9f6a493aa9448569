-- The row that counts one run more.
use Rattle.std.proofs.Common.{◌≡◌, ◌∙◌, ℕ, zero, suc, ◌+◌, ◌<◌, ◌≤◌, Bool, true, false, cond, List, [], ◌∷◌, ◌++◌, length, map, get_or, set, take, drop, append-nil, refl, sym, ap, arith}
use Rattle.std.specs.List.{sum}
use Rattle.std.proofs.lemmas.List.Sums.{get_or-le-sum_by, sum-map}
use Rattle.std.proofs.lemmas.List.{drop_all, take_all}
use Rattle.race_tables.specs.Outcomes.{Outcome, are_equal}
use Rattle.race_tables.specs.Rows.{Run, Row, counted, counted_at, place_of, row_of}
use Rattle.race_tables.proofs.Added.{added}

-- the row at a place is written
pub counted_at-is : (place : ℕ) (table : List Row) (d : Row) → place < length table → counted_at place table ≡ set table place (counted (get_or table place d))
counted_at-is place [] d within = absurd (omega (arith, within))
counted_at-is zero (row ∷ table) d within = refl
counted_at-is (suc place) (row ∷ table) d within = ap (λ (rest : List Row). row ∷ rest) (counted_at-is place table d (omega arith))

-- a slice of all rows, put back
pub written_back : (n : ℕ) (new old : List Row) → length new ≡ n → length old ≡ n → take n (new ++ drop (length new) old) ≡ new
written_back n new old one other =
    ap (λ (rest : List Row). take n (new ++ rest)) (drop_all (length new) old (omega arith)) ∙ ap (take n) (append-nil new) ∙ take_all n new (omega arith)

-- a count is at most their sum
pub count-le-sum : (table : List Row) (place : ℕ) (d : Row) → place < length table → (get_or table place d).count ≤ sum (map (λ row. row.count) table)
count-le-sum table place d within = omega (arith, get_or-le-sum_by (λ (row : Row). row.count) table place d within, sum-map (λ (row : Row). row.count) table)

place-cons : (o : Outcome) (row : Row) (table : List Row) (b : Bool) → are_equal row.outcome o ≡ b
    → place_of o (row ∷ table) ≡ cond b 0 (1 + place_of o table)
place-cons o row table true is = rw is refl
place-cons o row table false is = rw is refl

added-cons : (run : Run) (row : Row) (table : List Row) (b : Bool) → are_equal row.outcome run.outcome ≡ b
    → added run (row ∷ table) ≡ cond b (counted row ∷ table) (row ∷ added run table)
added-cons run row table b is = ap (λ (t : Bool). cond t (counted row ∷ table) (row ∷ added run table)) is

-- a run whose outcome has a row
place-row : (run : Run) (row : Row) (table : List Row) (b : Bool) → are_equal row.outcome run.outcome ≡ b
    → (place_of run.outcome table < length table → added run table ≡ counted_at (place_of run.outcome table) table)
    → place_of run.outcome (row ∷ table) < length (row ∷ table) → added run (row ∷ table) ≡ counted_at (place_of run.outcome (row ∷ table)) (row ∷ table)
place-row run row table true is rest within =
    added-cons run row table true is ∙ sym (ap (λ (k : ℕ). counted_at k (row ∷ table)) (place-cons run.outcome row table true is))
place-row run row table false is rest within =
    let at : place_of run.outcome (row ∷ table) ≡ suc (place_of run.outcome table) = omega (arith, place-cons run.outcome row table false is) in
    added-cons run row table false is
    ∙ ap (λ (xs : List Row). row ∷ xs) (rest (omega (arith, at, within)))
    ∙ sym (ap (λ (k : ℕ). counted_at k (row ∷ table)) at)

pub added-place : (run : Run) (table : List Row) → place_of run.outcome table < length table → added run table ≡ counted_at (place_of run.outcome table) table
added-place run [] within = absurd (omega (arith, within))
added-place run (row ∷ table) within = place-row run row table (are_equal row.outcome run.outcome) refl (added-place run table) within

-- a run whose outcome has none
end-row : (run : Run) (row : Row) (table : List Row) (b : Bool) → are_equal row.outcome run.outcome ≡ b
    → (length table ≤ place_of run.outcome table → added run table ≡ table ++ row_of run [] ∷ [])
    → length (row ∷ table) ≤ place_of run.outcome (row ∷ table) → added run (row ∷ table) ≡ row ∷ (table ++ row_of run [] ∷ [])
end-row run row table true is rest past = absurd (omega (arith, past, place-cons run.outcome row table true is))
end-row run row table false is rest past =
    added-cons run row table false is
    ∙ ap (λ (xs : List Row). row ∷ xs) (rest (omega (arith, past, place-cons run.outcome row table false is)))

pub added-end : (run : Run) (table : List Row) → length table ≤ place_of run.outcome table → added run table ≡ table ++ row_of run [] ∷ []
added-end run [] past = refl
added-end run (row ∷ table) past = end-row run row table (are_equal row.outcome run.outcome) refl (added-end run table) past
