-- What a process knows in an event is what its part knows.
use Rattle.std.proofs.Common.{◌≡◌, ◌≢◌, ◌∙◌, ◌++◌, ℕ, suc, length, List, [], ◌∷◌, ap, sym}
use Rattle.happens_before.specs.Clocks.{Clock, Clocks, clock_of, clocks_after, knows_in}
use Rattle.happens_before.specs.Histories.{Moment}
use Rattle.happens_before.specs.Races.{Made}
use Rattle.happens_before.proofs.Parts.{own_other, parts_now}
use Rattle.happens_before.proofs.Prefixes.{clocks_come}
use Rattle.race_detector.specs.Told.{Knows}

-- the clock of a part of the next event, of another process
part_knows : (h : List Moment) (m : Moment) (v u : ℕ) → u ≢ v
    → clock_of (h ++ m ∷ []) (suc (length h)) v u ≡ knows_in (suc (length h)) m (clocks_after h (length h)) v u
part_knows h m v u other =
    let n = suc (length h) in
    let c = clocks_after h (length h) in
    ap (λ (d : Clocks). d.kept n v u) (clocks_come h m)
    ∙ ap (λ (d : Clock). d u) (parts_now n (knows_in n m c) c.kept v)
    ∙ own_other n v (knows_in n m c v) u other

pub learnt_known : (h : List Moment) (m : Moment) (y : Made) (clock : Clock) → y.time.event ≡ suc (length h)
    → ((u : ℕ) → clock u ≡ knows_in (suc (length h)) m (clocks_after h (length h)) y.access.process u) → Knows (h ++ m ∷ []) y clock
learnt_known h m y clock now learns = record {
  same = λ u other.
      learns u ∙ sym (part_knows h m y.access.process u other) ∙ ap (λ n. clock_of (h ++ m ∷ []) n y.access.process u) (sym now);
}
