use Rattle.std.proofs.Common.{arith, ◌≡◌, ◌∙◌, sym, ap, true, false, ℕ, List, ◌∷◌, ◌++◌, ◌-◌, length, slice_index, slice_set, [], length-set, subst}
use Rattle.lfs_check.specs.Walks.{walk, walk_end, is_open}
use Rattle.lfs_check.proofs.Walking.{walk-stop, walk-none, walk-more, is_open-goes_on, Marks-more, Marks, goes_on-below, walk-few}
use Rattle.lfs_check.proofs.walks.walk_chain.Goals as goal

pub returns-clause-met : goal.returns-clause-met
returns-clause-met c = sym (walk-none _ _ _ _ _ c.loop-left.at (omega arith)).0 ∙ c.loop-left.invariant.met

pub returns-clause-end : goal.returns-clause-end
returns-clause-end c = sym (walk-none _ _ _ _ c.loop-left.met.items _ (omega arith)).1 ∙ c.loop-left.invariant.end

pub returns-then-not-may_go_on-clause-met : goal.returns-then-not-may_go_on-clause-met
returns-then-not-may_go_on-clause-met c =
    let opens : is_open c.loop-left.seen.items c.args.low c.args.high c.loop-left.at ≡ false =
    ap (λ s. is_open s c.args.low c.args.high c.loop-left.at) (sym c.deref.ensures.value) ∙ sym c.may_go_on.ensures ∙ c.if-not-may_go_on.true in
    let stops = sym (is_open-goes_on c.loop-left.seen.items c.loop-left.met.items (length c.args.links.now) c.args.low c.args.high c.loop-left.at c.requires c.loop-left.invariant.marks) ∙ opens in
    sym (walk-stop _ _ _ c.loop-left.left _ c.loop-left.at stops).0 ∙ c.loop-left.invariant.met

pub returns-then-not-may_go_on-clause-end : goal.returns-then-not-may_go_on-clause-end
returns-then-not-may_go_on-clause-end c =
    let opens : is_open c.loop-left.seen.items c.args.low c.args.high c.loop-left.at ≡ false =
    ap (λ s. is_open s c.args.low c.args.high c.loop-left.at) (sym c.deref.ensures.value) ∙ sym c.may_go_on.ensures ∙ c.if-not-may_go_on.true in
    let stops = sym (is_open-goes_on c.loop-left.seen.items c.loop-left.met.items (length c.args.links.now) c.args.low c.args.high c.loop-left.at c.requires c.loop-left.invariant.marks) ∙ opens in
    sym (walk-stop _ _ _ c.loop-left.left c.loop-left.met.items c.loop-left.at stops).1 ∙ c.loop-left.invariant.end

pub loop-left-preserved : goal.loop-left-preserved
loop-left-preserved c =
    let opens : is_open c.loop-left.seen.items c.args.low c.args.high c.loop-left.at ≡ true =
    ap (λ s. is_open s c.args.low c.args.high c.loop-left.at) (sym c.deref.ensures.value) ∙ sym c.may_go_on.ensures ∙ c.if-not-may_go_on.false in
    let goes = sym (is_open-goes_on c.loop-left.seen.items c.loop-left.met.items (length c.args.links.now) c.args.low c.args.high c.loop-left.at c.requires c.loop-left.invariant.marks) ∙ opens in
    let w = walk-more c.args.links.now c.args.low c.args.high c.loop-left.left c.loop-left.met.items c.loop-left.at (omega arith) goes in
    let pushed : c.push.new.self.items ≡ c.loop-left.met.items ++ c.loop-left.at ∷ [] = c.in_ok-push.ensures.items in
    record {
      met = ap (λ m. walk c.args.links.now c.args.low c.args.high (c.loop-left.left - 1) m (slice_index c.args.links.now c.loop-left.at)) pushed ∙ sym w.0 ∙ c.loop-left.invariant.met;
      end = ap (λ m. walk_end c.args.links.now c.args.low c.args.high (c.loop-left.left - 1) m (slice_index c.args.links.now c.loop-left.at)) pushed ∙ sym w.1 ∙ c.loop-left.invariant.end;
      size = length-set c.loop-left.seen.items c.loop-left.at true ∙ c.loop-left.invariant.size;
      marks = (let P : List ℕ → Type 0 = λ m. Marks (slice_set c.loop-left.seen.items c.loop-left.at true) m (length c.args.links.now) in
          subst P (sym pushed) (Marks-more c.loop-left.seen.items c.loop-left.met.items (length c.args.links.now) c.loop-left.at (omega (arith, goes_on-below c.args.low c.args.high c.loop-left.at c.loop-left.met.items goes)) c.loop-left.invariant.marks));
    }

pub returns-clause-few : goal.returns-clause-few
returns-clause-few c = (let e = ap length (sym (walk-none _ _ _ _ _ c.loop-left.at (omega arith)).0 ∙ c.loop-left.invariant.met) in let b = walk-few c.args.links.now c.args.low c.args.high c.args.steps c.args.start in omega (arith, e, b))

pub returns-then-not-may_go_on-clause-few : goal.returns-then-not-may_go_on-clause-few
returns-then-not-may_go_on-clause-few c = (let e = ap length (returns-then-not-may_go_on-clause-met c) in let b = walk-few c.args.links.now c.args.low c.args.high c.args.steps c.args.start in omega (arith, e, b))
