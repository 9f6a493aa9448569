-- The places stay until the next size begins.
use Rattle.std.proofs.Common.{◌≡◌, ◌+◌, ◌-◌, ◌<◌, ◌≤◌, ◌∷◌, [], ℕ, List, ap, refl, arith, length}
use Rattle.std.specs.List.{range_with_len}
use Rattle.std.proofs.lemmas.List.FromFn.{length-range_with_len}
use Rattle.preemptions.specs.Placements.{later, placements_after}
use Rattle.preemptions.specs.declared.stretches.Stretch.{Stretch}
use Rattle.preemptions.proofs.Order.{is_last, is_widest, grows}
use Rattle.preemptions.proofs.next.next_places.Goals as goal

-- the first of the next size
grown : (most : ℕ) (s : Stretch) (places same new : List ℕ) → same ≡ places → later s.within places ≡ [] → length same < most
    → length same < s.within - s.after → new ≡ range_with_len (s.after + 1) (length same + 1)
    → placements_after most s places ≡ new ∷ placements_after most s new
grown most s places same new kept full few room is =
    rw (is, kept) (grows most (length places + 1) s places full (omega (arith, few, ap (λ (xs : List ℕ). length xs) kept))
    (omega (arith, room, ap (λ (xs : List ℕ). length xs) kept)) refl)

grown_few : (most first : ℕ) (same new : List ℕ) → length same < most → new ≡ range_with_len first (length same + 1) → length new ≤ most
grown_few most first same new few is = omega (arith, ap (λ (xs : List ℕ). length xs) is, length-range_with_len first (length same + 1))

pub returns-then-len-most-clause-next : goal.returns-then-len-most-clause-next
returns-then-len-most-clause-next c =
    is_last c.args.most c.args.stretch c.args.places.now.items c.if-keep_size.ensures.next (omega (arith, c.if-keep_size.ensures.length))

pub returns-then-len-size-clause-next : goal.returns-then-len-size-clause-next
returns-then-len-size-clause-next c =
    is_widest c.args.most c.args.stretch c.args.places.now.items c.if-keep_size.ensures.next (omega (arith, c.if-keep_size.ensures.length))

pub returns-clause-next : goal.returns-clause-next
returns-clause-next c =
    grown c.args.most c.args.stretch c.args.places.now.items c.keep_size.new.places.items c.grow.new.places.items (c.if-keep_size.ensures.kept refl) c.if-keep_size.ensures.next
    (omega arith) (omega arith) c.in_ok-grow.ensures.first

pub returns-clause-few : goal.returns-clause-few
returns-clause-few c = grown_few c.args.most _ c.keep_size.new.places.items c.grow.new.places.items (omega arith) c.in_ok-grow.ensures.first
