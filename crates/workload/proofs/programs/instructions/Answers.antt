-- One group after another.
use Rattle.std.proofs.Common.{◌∙◌, ◌≡◌, ◌-◌, ◌++◌, ℕ, List, sym, ap, arith, append-nil, length, rules}
use Rattle.std.specs.Prelude.{vec_len}
use Rattle.workload.specs.Groups.{groups, after_groups}
use Rattle.workload.specs.Programs.{repeated}
use Rattle.workload.proofs.Turns.{groups_turn, after_groups_turn, groups-zero, after_groups-zero}
use Rattle.workload.proofs.programs.instructions.Goals as goal

pub loop-preserved : goal.loop-preserved
loop-preserved c =
    let l = c.loop in
    let g = c.in_ok-push_group.ensures in
    record {
      words = rw g.draws (groups_turn c.args.place c.args.kinds 64 l.counter l.draws l.words.items _ _ c.loop-test.true g.words l.invariant.words);
      draws = rw g.draws (after_groups_turn c.args.kinds 64 l.counter l.draws _ c.loop-test.true l.invariant.draws);
      size = omega (arith, g.size, l.invariant.size);
    }

pub returns-clause-words : goal.returns-clause-words
returns-clause-words c =
    let l = c.loop in
    let done : 64 - l.counter ≡ 0 = omega arith in
    let whole =
    sym (append-nil l.words.items)
    ∙ ap (λ (more : List ℕ). l.words.items ++ more)
    (sym (groups-zero c.args.place c.args.kinds l.draws) ∙ ap (λ (n : ℕ). groups c.args.place c.args.kinds n l.draws) (sym done))
    ∙ l.invariant.words in
    let size : vec_len l.words ≡ length l.words.items = search rules in
    rw (c.in_ok-push.ensures.items, c.word_with.ensures.word, c.len.ensures, size) (ap repeated whole)

pub returns-clause-draws : goal.returns-clause-draws
returns-clause-draws c =
    let l = c.loop in
    let done : 64 - l.counter ≡ 0 = omega arith in
    sym (after_groups-zero c.args.kinds l.draws) ∙ ap (λ (n : ℕ). after_groups c.args.kinds n l.draws) (sym done) ∙ l.invariant.draws
