-- One place less.
use Rattle.std.proofs.Common.{◌≡◌, ◌∙◌, ◌-◌, ◌∷◌, ℕ, suc, ap, arith, drop, drop-cons, get_or, length-drop}
use Rattle.std.proofs.Math.Seq.{drop-length}
use Rattle.preemptions.specs.Placements.{later}
use Rattle.preemptions.proofs.Order.{stays_full}
use Rattle.preemptions.proofs.Unfolded.{later-nil}
use Rattle.preemptions.proofs.next.last_that_moves.Goals as goal

pub loop-end-init : goal.loop-end-init
loop-end-init c =
    record {
      inside = omega arith;
      full = ap (later c.args.within) (drop-length c.args.places.now) ∙ later-nil c.args.within;
    }

pub loop-end-preserved : goal.loop-end-preserved
loop-end-preserved c =
    let l = c.loop-end in
    let places = c.args.places.now in
    let k = get_or places (l.end - 1) 0 in
    let rest = drop l.end places in
    let same : suc (l.end - 1) ≡ l.end = omega arith in
    let ahead : drop (l.end - 1) places ≡ k ∷ rest =
    drop-cons places (l.end - 1) 0 (omega (arith, l.invariant.inside)) ∙ ap (λ (m : ℕ). k ∷ drop m places) same in
    record {
      inside = omega (arith, l.invariant.inside);
      full = ap (later c.args.within) ahead
          ∙ stays_full c.args.within k rest l.invariant.full (omega (arith, c.if-place-places.false, length-drop l.end places));
    }
