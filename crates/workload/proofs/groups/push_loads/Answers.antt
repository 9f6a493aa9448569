-- Each argument is two instructions.
use Rattle.std.proofs.Common.{◌∙◌, ◌≡◌, ◌+◌, ◌∷◌, [], ◌++◌, List, ℕ, drop, sym, ap, arith, append-nil, length-append}
use Rattle.std.proofs.lemmas.List.{drop_all, drop_more}
use Rattle.asm_syntax.specs.Statements.{load}
use Rattle.workload.specs.Groups.{loads_of, after_arguments}
use Rattle.workload.specs.declared.shapes.Argument.{Argument}
use Rattle.workload.proofs.Turns.{loads_turn, loads_of-nil, after_arguments-cons, after_arguments-nil}
use Rattle.workload.proofs.groups.push_loads.Goals as goal

pub loop-k-preserved : goal.loop-k-preserved
loop-k-preserved c =
    let l = c.loop-k in
    let register : 10 + (l.k + 1) ≡ 10 + l.k + 1 = omega arith in
    let args = c.args.args.now in
    let split = drop_more args l.k _ c.loop-k-test.true in
    let rest = drop (l.k + 1) args in
    record {
      words = rw (c.in_ok-push-2.ensures.items, c.in_ok-push.ensures.items, c.value_of-value.ensures.draws, register)
          (loads_turn c.args.place (10 + l.k) _ rest l.draws _ _ l.words.items _ (c.load-upper.ensures.words ∙ ap (load (10 + l.k)) c.value_of-value.ensures.value)
          (ap (λ (left : List Argument). l.words.items ++ loads_of c.args.place (10 + l.k) left l.draws) (sym split) ∙ l.invariant.words));
      draws = rw c.value_of-value.ensures.draws
          (sym (after_arguments-cons _ rest l.draws) ∙ ap (λ (left : List Argument). after_arguments left l.draws) (sym split) ∙ l.invariant.draws);
      size = rw (c.in_ok-push-2.ensures.items, c.in_ok-push.ensures.items)
          (omega (arith, l.invariant.size, length-append l.words.items (c.load-upper.result.0 ∷ []), length-append (l.words.items ++ c.load-upper.result.0 ∷ []) (c.load-upper.result.1 ∷ [])));
    }

pub returns-clause-words : goal.returns-clause-words
returns-clause-words c =
    let l = c.loop-k in
    let none = drop_all l.k c.args.args.now (omega arith) in
    sym (append-nil l.words.items)
    ∙ ap (λ (more : List ℕ). l.words.items ++ more)
    (sym (loads_of-nil c.args.place (10 + l.k) l.draws) ∙ ap (λ (left : List Argument). loads_of c.args.place (10 + l.k) left l.draws) (sym none))
    ∙ l.invariant.words

pub returns-clause-draws : goal.returns-clause-draws
returns-clause-draws c =
    let l = c.loop-k in
    let none = drop_all l.k c.args.args.now (omega arith) in
    sym (after_arguments-nil l.draws) ∙ ap (λ (left : List Argument). after_arguments left l.draws) (sym none) ∙ l.invariant.draws
