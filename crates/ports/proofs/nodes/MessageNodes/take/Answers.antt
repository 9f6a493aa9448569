use Rattle.std.proofs.Common.{◌≡◌, ◌∙◌, ◌<◌, ◌+◌, ◌-◌, ◌++◌, ◌∷◌, [], List, Some, None, drop, pos, sym, ap, subst, arith}
use Rattle.std.proofs.lemmas.List.{set-get_or}
use Rattle.queue_table.specs.Lists.{Entry, first_process, list_at, place, with_list}
use Rattle.queue_table.specs.Table.{lists}
use Rattle.queue_table.proofs.Laws.{rest_of_none}
use Rattle.ports.specs.Nodes.{AreNodes, first_of, queue_at, queues, with_queue}
use Rattle.ports.proofs.Linking.{moved, no_first, taken_first, taken_loose, taken_nodes, taken_queues, taken_some}
use Rattle.ports.proofs.nodes.MessageNodes.take.Goals as goal

-- the lists as the code leaves them
lists_are : (c : goal.After-result-1) → lists c.enqueue.new.self ≡ moved (lists c.self.inside.links) (c.args.port + 1) 0 c.in_ok-node.node
lists_are c =
    c.enqueue.ensures.lists
    ∙ ap (λ ls. with_list ls 0 (list_at ls 0 ++ (c.in_ok-node.node, pos 0) ∷ [])) c.in_ok-node.ensures.lists
    ∙ ap (λ i. moved (lists c.self.inside.links) (i + 1) 0 c.in_ok-node.node) c.index.ensures.index

-- the node is the first of the port
first_is_node : (c : goal.After-result-1) → Some c.in_ok-node.node ≡ first_process (list_at (lists c.self.inside.links) (c.args.port + 1))
first_is_node c = c.in_ok-node.ensures.first ∙ ap (λ i. first_process (list_at (lists c.self.inside.links) (i + 1))) c.index.ensures.index

-- the port has none
none_is_node : (c : goal.After-from_residual) → None ≡ first_process (list_at (lists c.self.inside.links) (c.args.port + 1))
none_is_node c = c.in_err-node.ensures.first ∙ ap (λ i. first_process (list_at (lists c.self.inside.links) (i + 1))) c.index.ensures.index

-- and so it has no messages
nothing : (c : goal.After-from_residual) → queue_at c.args.self.now c.args.port ≡ []
nothing c = ap (λ qs. queue_at qs c.args.port) (sym c.self.view_is) ∙ no_first c.self.inside.links c.self.inside.words c.args.port (none_is_node c)

-- the number of the port
below : (c : goal.After-result-1) → c.args.port < 30
below c = let b = c.index.ensures.bound in let i = c.index.ensures.index in omega (arith, b, i)

pub returns-in_err-node-clause-first : goal.returns-in_err-node-clause-first
returns-in_err-node-clause-first c = c.from_residual.ensures ∙ sym (ap first_of (nothing c))

pub returns-in_err-node-clause-rest : goal.returns-in_err-node-clause-rest
returns-in_err-node-clause-rest c =
    ap (queues c.self.inside.words) (c.in_err-node.ensures.lists ∙ rest_of_none (lists c.self.inside.links) (c.index.result + 1) c.in_err-node.ensures.first)
    ∙ c.self.view_is ∙ sym (set-get_or c.args.self.now c.args.port [])
    ∙ ap (λ l. with_queue c.args.port l c.args.self.now) (nothing c ∙ sym (ap (drop 1) (nothing c)))

pub enqueue-requires : goal.enqueue-requires
enqueue-requires c =
    let b = c.index.ensures.bound in let none = ap (λ ls. place ls c.in_ok-node.node) c.in_ok-node.ensures.lists
    ∙ taken_loose c.self.inside.links (c.index.result + 1) c.in_ok-node.node (omega (arith, b)) c.in_ok-node.ensures.first in
    (omega arith, (c.in_ok-node.ensures.below, (omega arith, none)))

pub overflow_sub-self : goal.overflow_sub-self
overflow_sub-self c =
    taken_some c.self.inside.links c.self.inside.words c.self.inside.used c.index.result c.in_ok-node.node c.self.invariant c.index.ensures.bound c.in_ok-node.ensures.first

pub invariant_of-self-2 : goal.invariant_of-self-2
invariant_of-self-2 c =
    let F : List (List Entry) → Type 0 = λ ls. AreNodes c.self.inside.words ls (c.self.inside.used - 1) in
    subst F (sym (lists_are c))
    (taken_nodes c.self.inside.links c.self.inside.words c.self.inside.used c.args.port c.in_ok-node.node c.self.invariant (below c) (first_is_node c))

pub returns-clause-first : goal.returns-clause-first
returns-clause-first c =
    taken_first c.self.inside.links c.self.inside.words c.args.port c.in_ok-node.node (first_is_node c)
    ∙ ap (λ qs. first_of (queue_at qs c.args.port)) c.self.view_is

pub returns-clause-rest : goal.returns-clause-rest
returns-clause-rest c =
    ap (queues c.self.inside.words) (lists_are c)
    ∙ taken_queues c.self.inside.links c.self.inside.words c.args.port c.in_ok-node.node (first_is_node c)
    ∙ ap (λ qs. with_queue c.args.port (drop 1 (queue_at qs c.args.port)) qs) c.self.view_is
