use Rattle.std.proofs.Common.{◌≡◌, ◌<◌, length, sym, ap, subst, Some}
use Rattle.std.specs.Prelude.{slice_get}
use Rattle.tty_driver.specs.Input.{Received, committed_in}
use Rattle.tty_driver.proofs.Splits.{taken, some_item}
use Rattle.tty_driver.proofs.input.Input.take.Goals as goal
use Rattle.tty_driver.proofs.input.Input.take.Goals.{in-Some, in-None}

pub returns : goal.returns
returns c =
    let i = c.self.inside in
    let view = c.self.view_is in
    let value = c.pop_front.ensures.value in
    let committed : committed_in i.typed i.ring.items ≡ c.args.self.now.committed = ap (λ (t : Received). t.committed) view in
    let some = subst (λ l. 0 < length l) (sym committed) c.requires.item in
    record {
      taken = elim c.match-pop_front.branch [
        | in-Some w ↦ (
            let item = w.in-Some in
            let is = w.result-is in
            let first : slice_get i.ring.items 0 ≡ Some c.match-pop_front.result = cc in
            let e = taken i.typed i.ring.items c.match-pop_front.result some first in
            let rest = e.committed in
            let line = e.line in
            rw c.pop_front.ensures.items (cc))
        | in-None w ↦ absurd (some_item i.typed i.ring.items some (let none = w.in-None in cc))
      ];
    }
