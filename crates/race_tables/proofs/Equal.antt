-- The test of two outcomes decides whether they are equal.
use Rattle.std.proofs.Common.{◌≡◌, ◌∙◌, ℕ, true, List, ◌&&◌, refl, ap, sym}
use Rattle.std.specs.Prelude.{bytes_eq}
use Rattle.std.proofs.lemmas.Bool.{and_parts}
use Rattle.std.proofs.lemmas.Slice.Eq.{bytes_eq-Decides}
use Rattle.xinu_base.specs.declared.events.End.{End}
use Rattle.xinu_base.specs.declared.events.End.TheVariants.{Schedule, Done, Panic}
use Rattle.race_tables.specs.Outcomes.{Outcome, are_equal, ended_alike}

alike-same : (one other : End) → ended_alike one other ≡ true → one ≡ other
alike-same Schedule Schedule e = refl
alike-same Schedule Done e = absurd (cc)
alike-same Schedule Panic e = absurd (cc)
alike-same Done Schedule e = absurd (cc)
alike-same Done Done e = refl
alike-same Done Panic e = absurd (cc)
alike-same Panic Schedule e = absurd (cc)
alike-same Panic Done e = absurd (cc)
alike-same Panic Panic e = refl

alike-itself : (one : End) → ended_alike one one ≡ true
alike-itself Schedule = refl
alike-itself Done = refl
alike-itself Panic = refl

abbrev with_parts : List ℕ → List ℕ → List ℕ → End → Outcome
with_parts console traps left end = record { console = console; traps = traps; left = left; end = end }

-- outcomes with equal parts are equal
from_parts : (one other : Outcome) → one.console ≡ other.console → one.traps ≡ other.traps → one.left ≡ other.left → one.end ≡ other.end → one ≡ other
from_parts one other console traps left end =
    ap (λ (c : List ℕ). with_parts c one.traps one.left one.end) console
    ∙ ap (λ (t : List ℕ). with_parts other.console t one.left one.end) traps
    ∙ ap (λ (l : List ℕ). with_parts other.console other.traps l one.end) left
    ∙ ap (λ (e : End). with_parts other.console other.traps other.left e) end

-- outcomes for which the test holds are equal
pub are_equal-same : (one other : Outcome) → are_equal one other ≡ true → one ≡ other
unfolding are_equal
are_equal-same one other is =
    let first = and_parts (bytes_eq one.console other.console) (bytes_eq one.traps other.traps && (bytes_eq one.left other.left && ended_alike one.end other.end)) is in
    let second = and_parts (bytes_eq one.traps other.traps) (bytes_eq one.left other.left && ended_alike one.end other.end) first.1 in
    let third = and_parts (bytes_eq one.left other.left) (ended_alike one.end other.end) second.1 in
    from_parts one other ((bytes_eq-Decides one.console other.console).0 first.0) ((bytes_eq-Decides one.traps other.traps).0 second.0)
    ((bytes_eq-Decides one.left other.left).0 third.0) (alike-same one.end other.end third.1)

-- the test holds for an outcome and itself
pub are_equal-itself : (one : Outcome) → are_equal one one ≡ true
unfolding are_equal
are_equal-itself one =
    let console : bytes_eq one.console one.console ≡ true = (bytes_eq-Decides one.console one.console).1 refl in
    let traps : bytes_eq one.traps one.traps ≡ true = (bytes_eq-Decides one.traps one.traps).1 refl in
    let left : bytes_eq one.left one.left ≡ true = (bytes_eq-Decides one.left one.left).1 refl in
    let end : ended_alike one.end one.end ≡ true = alike-itself one.end in
    rw (console, traps, left, end) refl

-- it holds for equal outcomes
pub are_equal-from : (one other : Outcome) → one ≡ other → are_equal one other ≡ true
are_equal-from one other is = ap (λ (o : Outcome). are_equal one o) (sym is) ∙ are_equal-itself one

-- it asks neither for an order
pub are_equal-turned : (one other : Outcome) → are_equal one other ≡ true → are_equal other one ≡ true
are_equal-turned one other is = are_equal-from other one (sym (are_equal-same one other is))
