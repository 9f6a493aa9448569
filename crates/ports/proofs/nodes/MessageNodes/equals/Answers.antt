use Rattle.std.proofs.Common.{◌≡◌, ◌∙◌, ℕ, List, [], ◌∷◌, ◌++◌, length, take, sym, ap, rules, arith}
use Rattle.std.proofs.lemmas.List.{take_all, take_more}
use Rattle.ports.specs.Nodes.{queue_at}
use Rattle.ports.proofs.Linking.{many_queues}
use Rattle.ports.proofs.nodes.MessageNodes.equals.Goals as goal

pub loop-q-preserved : goal.loop-q-preserved
loop-q-preserved c =
    let a = c.args.self.now in
    let b = c.args.other.now in
    let q = c.loop-q.q in
    let len : length a ≡ 30 = ap (λ (qs : List (List ℕ)). length qs) (sym c.self.view_is) ∙ many_queues c.self.inside.words c.self.inside.links in
    let len' : length b ≡ 30 = ap (λ (qs : List (List ℕ)). length qs) (sym c.other.view_is) ∙ many_queues c.other.inside.words c.other.inside.links in
    let same : queue_at a q ≡ queue_at b q =
    sym (ap (queue_at a) c.at.ensures.number) ∙ c.has_same_messages.ensures.same.0 (search rules) ∙ ap (queue_at b) c.at.ensures.number in
    take_more a q [] (omega (arith, len, c.loop-q-test.true)) ∙ ap (λ l. l ++ queue_at a q ∷ []) c.loop-q.invariant
    ∙ ap (λ m. take q b ++ m ∷ []) same ∙ sym (take_more b q [] (omega (arith, len', c.loop-q-test.true)))

pub returns : goal.returns
returns c =
    let a = c.args.self.now in
    let b = c.args.other.now in
    let len : length a ≡ 30 = ap (λ (qs : List (List ℕ)). length qs) (sym c.self.view_is) ∙ many_queues c.self.inside.words c.self.inside.links in
    let len' : length b ≡ 30 = ap (λ (qs : List (List ℕ)). length qs) (sym c.other.view_is) ∙ many_queues c.other.inside.words c.other.inside.links in
    record {
      equal = (
        λ _. sym (take_all c.loop-q.q a (omega (arith, len, c.loop-q-test.false))) ∙ c.loop-q.invariant
            ∙ take_all c.loop-q.q b (omega (arith, len', c.loop-q-test.false)),
        λ _. search rules,
      );
    }
