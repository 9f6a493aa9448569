-- The last place that can move, and those after it.
use Rattle.std.proofs.Common.{◌≡◌, ◌∙◌, ◌+◌, ◌-◌, ◌<◌, ◌≤◌, ◌∷◌, ◌++◌, [], ℕ, suc, List, sym, ap, arith, length, drop, take, drop-cons, get_or, length-drop}
use Rattle.std.specs.List.{range_with_len}
use Rattle.std.proofs.lemmas.List.{take-append-drop}
use Rattle.std.proofs.lemmas.List.FromFn.{length-range_with_len}
use Rattle.preemptions.specs.Placements.{later}
use Rattle.preemptions.proofs.Order.{moves, moves_behind}
use Rattle.preemptions.proofs.next.move_on.Goals as goal

-- the places from the last one that moves on
moved_at : (within end : ℕ) (places new : List ℕ) → 0 < end → end ≤ length places → later within (drop end places) ≡ []
    → get_or places (end - 1) 0 + (length places - end) < within
    → new ≡ take (end - 1) places ++ range_with_len (get_or places (end - 1) 0 + 1) (length places - (end - 1))
    → later within places ≡ new ∷ later within new
moved_at within end places new some inside full room is =
    let k = get_or places (end - 1) 0 in
    let rest = drop end places in
    let front = take (end - 1) places in
    let next = range_with_len (k + 1) (length rest + 1) in
    let one : suc (end - 1) ≡ end = omega arith in
    let ahead : drop (end - 1) places ≡ k ∷ rest =
    drop-cons places (end - 1) 0 (omega arith) ∙ ap (λ (m : ℕ). k ∷ drop m places) one in
    let whole : places ≡ front ++ k ∷ rest = sym (take-append-drop (end - 1) places) ∙ ap (λ (back : List ℕ). front ++ back) ahead in
    let many : length places - (end - 1) ≡ length rest + 1 = omega (arith, length-drop end places) in
    let made : front ++ next ≡ new = sym (is ∙ ap (λ (m : ℕ). front ++ range_with_len (k + 1) m) many) in
    ap (later within) whole
    ∙ moves_behind within front (k ∷ rest) next (omega (arith, length-range_with_len (k + 1) (length rest + 1)))
    (moves within k rest full (omega (arith, length-drop end places)))
    ∙ ap (λ (xs : List ℕ). xs ∷ later within xs) made

pub returns-clause-next : goal.returns-clause-next
returns-clause-next c =
    let moved = c.last_that_moves-end.ensures in
    moved_at c.args.within c.last_that_moves-end.result c.args.places.now _ (omega arith) moved.inside moved.full (moved.moves (omega arith)) c.fill.ensures.filled
