use Rattle.std.proofs.Common.{◌≡◌, ◌+◌, ◌-◌, ◌<◌, ◌≤◌, ◌∙◌, ap, sym, take, ℕ, List, Bool, true, false, arith}
use Rattle.xinu_model.specs.Files.Writing.{greatest, have_room}
use Rattle.reference_files.proofs.RoomBySize.{greatest_below, greatest_here, no_room_for_more}
use Rattle.reference_files.proofs.room.fitting.Goals as goal

pub returns-clause-fitting : goal.returns-clause-fitting
returns-clause-fitting c =
    let test : ℕ → Bool = λ k. have_room c.args.f.now (take k c.args.bytes.now) c.args.s.now in
    let l = c.loop-least in
    let same : l.least ≡ l.most = omega (arith, l.invariant.order, c.loop-least-test.false) in
    sym (greatest_here test l.least l.invariant.fits) ∙ ap (greatest test) same ∙ l.invariant.found

pub loop-least-preserved : goal.loop-least-preserved
loop-least-preserved c =
    let f = c.args.f.now in
    let bytes = c.args.bytes.now in
    let s = c.args.s.now in
    let test : ℕ → Bool = λ k. have_room f (take k bytes) s in
    let l = c.loop-least in
    let k = l.least + c.div_ceil.result in
    let above : l.least < k = omega (arith, c.div_ceil.ensures, c.loop-least-test.true) in
    let up_to : k ≤ l.most = omega (arith, c.div_ceil.ensures, c.loop-least-test.true) in
    let within = l.invariant.within in
    let none : test k ≡ false = ap (λ (x : List ℕ). have_room f x s) (sym c.split_at.ensures.front) ∙ sym c.have_room.ensures.room ∙ c.if-have_room.false in
    record {
      order = omega (arith, above);
      within = omega (arith, up_to, within);
      fits = l.invariant.fits;
      found = greatest_below test k l.most (omega (arith, above)) up_to
          (λ j h g. no_room_for_more f bytes s k j h (omega (arith, g, within)) none)
          ∙ l.invariant.found;
    }
