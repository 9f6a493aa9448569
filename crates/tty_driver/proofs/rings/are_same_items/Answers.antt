use Rattle.std.proofs.Common.{◌≡◌, ◌∙◌, ◌+◌, ◌<◌, add-one, ap, sym, arith, ℕ, List, take, length}
use Rattle.std.proofs.Math.Seq.{take-suc}
use Rattle.std.proofs.lemmas.Option.{get_or_from_slice_get}
use Rattle.std.specs.Prelude.{Some}
use Rattle.std.specs.List.{slice_get}
use Rattle.tty_driver.proofs.rings.are_same_items.Goals as goal

-- two lists with the same items up to a place, and the same one there
one_more : {A : Type 0} (xs ys : List A) (k : ℕ) (x : A) → k < length xs → k < length ys → take k xs ≡ take k ys → slice_get xs k ≡ Some x → slice_get ys k ≡ Some x →
    take (k + 1) xs ≡ take (k + 1) ys
one_more xs ys k x inside within before here there =
    let e = get_or_from_slice_get xs k x x here in
    let e' = get_or_from_slice_get ys k x x there in
    let o = add-one k in
    let s = take-suc xs k x inside in
    let s' = take-suc ys k x within in
    cc

pub loop-k-preserved : goal.loop-k-preserved
loop-k-preserved c =
    let within : c.loop-k.k < length c.args.ring.now.items = omega (arith, c.loop-k-test.true, c.len-k-end.ensures.len) in
    let within' : c.loop-k.k < length c.args.other.now.items = omega (arith, within, c.if-len.false, c.len.ensures.len, c.len-2.ensures.len) in
    one_more _ _ _ _ within within' c.loop-k.invariant (sym c.in-Some-Some.ensures ∙ ap Some (c.is_same.ensures.equal.0 c.if-not-is_same.false)) (sym c.in-Some-Some.ensures')
