use Rattle.std.proofs.Common.{◌≡◌, ◌∙◌, ◌+◌, ◌++◌, ◌∷◌, [], length, drop, pos, ap, arith}
use Rattle.std.proofs.lemmas.List.{length-append}
use Rattle.queue_table.specs.Lists.{list_at, place}
use Rattle.queue_table.specs.Table.{lists}
use Rattle.queue_table.proofs.Laws.{list_at-same, place_fresh, place_pushed, queues_of}
use Rattle.ports.proofs.Queues.{others_stay}
use Rattle.ports.proofs.nodes.free_all.Goals as goal

pub loop-node-init : goal.loop-node-init
loop-node-init c = (
  λ p le. ap (λ ls. place ls p) c.requires.empty ∙ place_fresh 31 p,
  ap (λ ls. length (list_at ls 0)) c.requires.empty,
  ap (drop 1) c.requires.empty,
)

pub loop-node-preserved : goal.loop-node-preserved
loop-node-preserved c =
    let t = c.loop-node.links in
    let n = c.loop-node.node in
    let i = c.loop-node.invariant in
    let l = list_at (lists t) 0 ++ (n, pos 0) ∷ [] in
    let here = i.0 n (omega arith) in
    let many = queues_of t in
    let a : length l ≡ length (list_at (lists t) 0) + 1 = length-append (list_at (lists t) 0) ((n, pos 0) ∷ []) in
    let s = ap length (list_at-same (lists t) 0 l (omega (arith, many))) in
    let k = i.1 in (
      λ p le. ap (λ ls. place ls p) c.enqueue.ensures.lists
          ∙ (place_pushed (lists t) 0 n (pos 0) here (omega (arith, many))).1 p (omega (arith, le)) ∙ i.0 p (omega (arith, le)),
      ap (λ ls. length (list_at ls 0)) c.enqueue.ensures.lists ∙ omega (arith, a, s, k),
      ap (drop 1) c.enqueue.ensures.lists ∙ others_stay (lists t) l ∙ i.2,
    )
