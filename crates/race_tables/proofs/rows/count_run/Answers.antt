use Rattle.std.proofs.Common.{◌≡◌, ◌∙◌, ◌++◌, ◌∷◌, ◌<◌, ◌≤◌, [], ℕ, List, length, sym, ap, arith}
use Rattle.race_tables.specs.Rows.{Row, Run, counted_at, place_of}
use Rattle.race_tables.proofs.Added.{added, rows-push}
use Rattle.race_tables.proofs.Places.{added-end, added-place, written_back}
use Rattle.race_tables.proofs.rows.count_run.Goals as goal

pub returns-then-place-len-clause-added : goal.returns-then-place-len-clause-added
returns-then-place-len-clause-added c = λ runs is.
    let run : Run = record { places = c.args.places.now; outcome = c.args.outcome } in
    let table = c.args.table.now.items in
    let at : c.place_of-place.result ≡ place_of c.args.outcome table = c.place_of-place.ensures.place ∙ ap (place_of c.args.outcome) c.as_slice.ensures.value in
    let within : place_of c.args.outcome table < length table = omega (arith, at, c.if-place-len.true, c.len.ensures) in
    written_back c.args.table.now.len c.count_at.new.table table (omega (arith, c.count_at.auto.table, ap (λ (rows : List Row). length rows) c.as_mut_slice.ensures.value)) (omega arith)
    ∙ c.count_at.ensures.counted
    ∙ ap (counted_at c.place_of-place.result) c.as_mut_slice.ensures.value
    ∙ ap (λ k. counted_at k table) at
    ∙ sym (added-place run table within)
    ∙ ap (added run) is
    ∙ sym (rows-push runs run)

pub returns-clause-added : goal.returns-clause-added
returns-clause-added c = λ runs is.
    let run : Run = record { places = c.args.places.now; outcome = c.args.outcome } in
    let table = c.args.table.now.items in
    let at : c.place_of-place.result ≡ place_of c.args.outcome table = c.place_of-place.ensures.place ∙ ap (place_of c.args.outcome) c.as_slice.ensures.value in
    let past : length table ≤ place_of c.args.outcome table = omega (arith, at, c.if-place-len.false, c.len.ensures) in
    let row : c.new.result ≡ record { outcome = c.args.outcome; count = 1; first = c.args.places.now } =
    c.new.ensures.row ∙ ap (λ (first : List ℕ). record { outcome = c.args.outcome; count = 1; first = first }) c.in_ok-first.ensures.items in
    let pushed : c.push.new.self.items ≡ table ++ c.new.result ∷ [] = c.in_ok-push.ensures.items in
    pushed
    ∙ ap (λ (r : Row). table ++ r ∷ []) row
    ∙ sym (added-end run table past)
    ∙ ap (added run) is
    ∙ sym (rows-push runs run)
