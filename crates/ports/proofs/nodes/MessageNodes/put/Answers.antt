use Rattle.std.proofs.Common.{◌≡◌, ◌∙◌, ◌+◌, ◌++◌, ◌∷◌, [], List, length, pos, set, sym, ap, subst, arith}
use Rattle.queue_table.specs.Lists.{Entry, list_at, place, with_list}
use Rattle.queue_table.specs.Table.{lists}
use Rattle.queue_table.proofs.Laws.{first_none}
use Rattle.ports.specs.Nodes.{AreNodes, queue_at, queues, with_queue}
use Rattle.ports.proofs.Linking.{moved, put_nodes, put_queues, taken_loose}
use Rattle.ports.proofs.nodes.MessageNodes.put.Goals as goal

-- the lists as the code leaves them
lists_are : (c : goal.After-self-1) → lists c.enqueue.new.self ≡ moved (lists c.self.inside.links) 0 (c.args.port + 1) c.in-Some.node
lists_are c =
    c.enqueue.ensures.lists
    ∙ ap (λ i. with_list (lists c.dequeue.new.self) (i + 1) (list_at (lists c.dequeue.new.self) (i + 1) ++ (c.in-Some.node, pos 0) ∷ [])) c.index.ensures.index
    ∙ ap (λ ls. with_list ls (c.args.port + 1) (list_at ls (c.args.port + 1) ++ (c.in-Some.node, pos 0) ∷ [])) c.in-Some.ensures.lists

pub enqueue-requires : goal.enqueue-requires
enqueue-requires c =
    let b = c.index.ensures.bound in let none = ap (λ ls. place ls c.in-Some.node) c.in-Some.ensures.lists ∙ taken_loose c.self.inside.links 0 c.in-Some.node (omega arith) c.in-Some.ensures.first in
    (omega arith, (c.in-Some.ensures.below, (omega (arith, b), none)))

pub invariant_of-self : goal.invariant_of-self
invariant_of-self c =
    let F : List (List Entry) → Type 0 = λ ls. AreNodes (set c.self.inside.words c.in-Some.node c.args.message) ls (c.self.inside.used + 1) in
    let b = c.index.ensures.bound in
    let i = c.index.ensures.index in
    subst F (sym (lists_are c))
    (put_nodes c.self.inside.links c.self.inside.words c.self.inside.used c.args.port c.in-Some.node c.args.message c.self.invariant c.self.told
    c.in-Some.ensures.below (omega (arith, b, i)) c.in-Some.ensures.first)

pub invariant_of-self-in_default : goal.invariant_of-self-in_default
invariant_of-self-in_default c =
    let none : length (list_at (lists c.self.inside.links) 0) ≡ 0 = ap length (first_none (list_at (lists c.self.inside.links) 0) c.in_default.ensures.first) in
    let f = c.self.invariant.free in
    let n = c.self.invariant.counted in
    let r = c.requires.room in
    let v = ap Rattle.ports.specs.Nodes.total c.self.view_is in
    absurd (omega (arith, none, f, n, r, v))

pub returns-in-Some : goal.returns-in-Some
returns-in-Some c = record {
  put = ap (queues _) (lists_are c)
      ∙ put_queues c.self.inside.links c.self.inside.words c.args.port c.in-Some.node c.args.message c.self.told c.in-Some.ensures.below c.in-Some.ensures.first
      ∙ ap (λ qs. with_queue c.args.port (queue_at qs c.args.port ++ c.args.message ∷ []) qs) c.self.view_is;
}
