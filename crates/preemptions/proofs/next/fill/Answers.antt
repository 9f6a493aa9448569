use Rattle.std.proofs.Common.{◌≡◌, ◌∙◌, ◌+◌, ◌-◌, ◌++◌, ◌∷◌, [], ℕ, List, sym, ap, arith, rules, length, take, append_assoc, append-nil, slice_set}
use Rattle.std.specs.List.{range_with_len}
use Rattle.std.proofs.lemmas.List.{take_more_set, take_all}
use Rattle.preemptions.proofs.Order.{range_with_len-more}
use Rattle.preemptions.proofs.next.fill.Goals as goal

pub loop-i-init : goal.loop-i-init
loop-i-init c =
    let none : c.args.from + 0 ≡ c.args.from = omega arith in
    record {
      size = search rules;
      filled = ap (λ (n : ℕ). take n c.args.places.now) none ∙ sym (append-nil (take c.args.from c.args.places.now));
    }

pub loop-i-preserved : goal.loop-i-preserved
loop-i-preserved c =
    let l = c.loop-i in
    let front = take c.args.from c.args.places.now in
    let more : c.args.from + (l.i + 1) ≡ c.args.from + l.i + 1 = omega arith in
    record {
      size = search rules;
      filled = ap (λ (n : ℕ). take n (slice_set l.places (c.args.from + l.i) (c.args.first + l.i))) more
          ∙ take_more_set l.places (c.args.from + l.i) (c.args.first + l.i) (omega (arith, l.invariant.size))
          ∙ ap (λ (xs : List ℕ). xs ++ (c.args.first + l.i) ∷ []) l.invariant.filled
          ∙ append_assoc front (range_with_len c.args.first l.i) ((c.args.first + l.i) ∷ [])
          ∙ ap (λ (xs : List ℕ). front ++ xs) (sym (range_with_len-more c.args.first l.i));
    }

pub returns : goal.returns
returns c =
    let l = c.loop-i in
    let front = take c.args.from c.args.places.now in
    let all : l.i ≡ length c.args.places.now - c.args.from = omega arith in
    record {
      filled = sym (take_all (c.args.from + l.i) l.places (omega (arith, l.invariant.size)))
          ∙ l.invariant.filled
          ∙ ap (λ (n : ℕ). front ++ range_with_len c.args.first n) all;
    }
