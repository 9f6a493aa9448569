-- A node moves from the free ones to a port, with a message, and back.
use Rattle.std.proofs.Common.{◌≡◌, ◌∙◌, ℕ, zero, suc, ◌+◌, ◌-◌, ◌<◌, ◌≤◌, pos, List, [], ◌∷◌, ◌++◌, length, map, drop, replicate, get_or, set, Some, None, refl, sym, ap, arith}
use Rattle.std.proofs.lemmas.List.{get_or-set_same, length-append}
use Rattle.queue_table.specs.declared.table.QueueTable.{QueueTable}
use Rattle.queue_table.specs.Lists.{Entry, first_process, list_at, place, rest_of, with_list}
use Rattle.queue_table.specs.Table.{lists}
use Rattle.queue_table.proofs.Laws.{first_is, first_none, list_at-other, list_at-same, place_rest, queues_of}
use Rattle.ports.specs.Nodes.{AreNodes, contents, first_of, queue_at, queues, total, with_queue}
use Rattle.ports.proofs.Queues.{contents_last, free_changed, list_changed, loose_changed, queue_is, total_changed}

-- how many messages a list of nodes holds
length_contents : (words : List ℕ) (l : List Entry) → length (contents words l) ≡ length l
length_contents words [] = refl
length_contents words (e ∷ l) = ap suc (length_contents words l)

-- how many lists there are but the first
length_behind : (ls : List (List Entry)) → length (drop 1 ls) ≡ length ls - 1
length_behind [] = omega arith
length_behind (l ∷ ls) = omega arith

-- how many queues of messages there are
pub many_queues : (words : List ℕ) (t : QueueTable 100 31) → length (queues words (lists t)) ≡ 30
unfolding queues
many_queues words t =
    let m = length_mapped words (drop 1 (lists t)) in let d = length_behind (lists t) in let q = queues_of t in omega (arith, m, d, q)
  where
    length_mapped : (words : List ℕ) (ls : List (List Entry)) → length (map (contents words) ls) ≡ length ls
    length_mapped words [] = refl
    length_mapped words (l ∷ ls) = ap suc (length_mapped words ls)

-- the first node of a list is in no list once it was taken out
pub taken_loose : (t : QueueTable 100 31) (q n : ℕ) → q < 31 → Some n ≡ first_process (list_at (lists t) q)
    → place (with_list (lists t) q (rest_of (list_at (lists t) q))) n ≡ None
taken_loose t q n lt h =
    let f = first_is (list_at (lists t) q) n h in (place_rest t q (n, f.0) (rest_of (list_at (lists t) q)) lt f.1).0

-- the lists once a node has moved from the front of one to the end of another
abbrev pub moved : List (List Entry) → ℕ → ℕ → ℕ → List (List Entry)
moved ls from to n =
    let rest = with_list ls from (rest_of (list_at ls from)) in with_list rest to (list_at rest to ++ (n, pos 0) ∷ [])

-- the messages once a free node has moved to a port with a message
pub put_queues : (t : QueueTable 100 31) (words : List ℕ) (q n m : ℕ) → length words ≡ 100 → n < 100 → Some n ≡ first_process (list_at (lists t) 0)
    → queues (set words n m) (moved (lists t) 0 (q + 1) n) ≡ with_queue q (queue_at (queues words (lists t)) q ++ m ∷ []) (queues words (lists t))
put_queues t words q n m len lt h =
    let rest = with_list (lists t) 0 (rest_of (list_at (lists t) 0)) in
    let w = set words n m in
    let i : q + 1 ≡ suc q = omega arith in
    let F : List (List ℕ) → List (List ℕ) = λ qs. with_queue q (queue_at qs q ++ m ∷ []) qs in
    let same : queues w rest ≡ queues words (lists t) =
    loose_changed words rest n m (taken_loose t 0 n (omega arith) h) ∙ free_changed words (lists t) (rest_of (list_at (lists t) 0)) in
    ap (λ j. queues w (with_list rest j (list_at rest j ++ (n, pos 0) ∷ []))) i
    ∙ list_changed w rest q (list_at rest (suc q) ++ (n, pos 0) ∷ [])
    ∙ ap (λ l. with_queue q l (queues w rest)) (contents_last w (list_at rest (suc q)) (n, pos 0))
    ∙ ap (λ x. with_queue q (contents w (list_at rest (suc q)) ++ x ∷ []) (queues w rest)) (get_or-set_same words n m 0 (omega (arith, len, lt)))
    ∙ ap (λ l. with_queue q (l ++ m ∷ []) (queues w rest)) (sym (queue_is w rest q)) ∙ ap F same

-- how many nodes are free then
free_after_put : (t : QueueTable 100 31) (q n : ℕ) → Some n ≡ first_process (list_at (lists t) 0)
    → length (list_at (moved (lists t) 0 (q + 1) n) 0) + 1 ≡ length (list_at (lists t) 0)
free_after_put t q n h =
    let l = rest_of (list_at (lists t) 0) in
    let rest = with_list (lists t) 0 l in
    let f = first_is (list_at (lists t) 0) n h in
    let a = ap length (list_at-other rest (q + 1) (list_at rest (q + 1) ++ (n, pos 0) ∷ []) 0 (omega arith)) in
    let b = ap length (list_at-same (lists t) 0 l (let m = queues_of t in omega (arith, m))) in
    let d = ap length f.1 in omega (arith, a, b, d)

-- and that each node is free or has a message
pub put_nodes : (t : QueueTable 100 31) (words : List ℕ) (used q n m : ℕ) → AreNodes words (lists t) used → length words ≡ 100 → n < 100 → q < 30
    → Some n ≡ first_process (list_at (lists t) 0)
    → AreNodes (set words n m) (moved (lists t) 0 (q + 1) n) (used + 1)
put_nodes t words used q n m are len lt below h =
    let qs = queues words (lists t) in
    let p = ap total (put_queues t words q n m len lt h) in
    let c = total_changed qs q (queue_at qs q ++ m ∷ []) (let k = many_queues words t in omega (arith, k, below)) in
    let a : length (queue_at qs q ++ m ∷ []) ≡ length (queue_at qs q) + 1 = length-append (queue_at qs q) (m ∷ []) in
    let f = free_after_put t q n h in
    let x = are.counted in
    let y = are.free in
    record { counted = omega (arith, p, c, a, x); free = omega (arith, f, y) }

-- the messages once the first node of a port is free again
pub taken_queues : (t : QueueTable 100 31) (words : List ℕ) (q n : ℕ) → Some n ≡ first_process (list_at (lists t) (q + 1))
    → queues words (moved (lists t) (q + 1) 0 n) ≡ with_queue q (drop 1 (queue_at (queues words (lists t)) q)) (queues words (lists t))
taken_queues t words q n h =
    let i : q + 1 ≡ suc q = omega arith in
    let l = rest_of (list_at (lists t) (suc q)) in
    let rest = with_list (lists t) (suc q) l in
    ap (λ j. queues words (moved (lists t) j 0 n)) i
    ∙ free_changed words rest (list_at rest 0 ++ (n, pos 0) ∷ [])
    ∙ list_changed words (lists t) q l
    ∙ ap (λ r. with_queue q r (queues words (lists t)))
    (contents_rest (list_at (lists t) (suc q)) ∙ ap (drop 1) (sym (queue_is words (lists t) q)))
  where
    contents_rest : (l : List Entry) → contents words (rest_of l) ≡ drop 1 (contents words l)
    contents_rest [] = refl
    contents_rest (e ∷ l) = refl

-- its message is the first
pub taken_first : (t : QueueTable 100 31) (words : List ℕ) (q n : ℕ) → Some n ≡ first_process (list_at (lists t) (q + 1))
    → Some (get_or words n 0) ≡ first_of (queue_at (queues words (lists t)) q)
taken_first t words q n h =
    let i : q + 1 ≡ suc q = omega arith in
    let f = first_is (list_at (lists t) (q + 1)) n h in
    sym (ap first_of (queue_is words (lists t) q ∙ ap (λ j. contents words (list_at (lists t) j)) (sym i) ∙ ap (contents words) f.1))

-- how many messages there are then
taken_total : (t : QueueTable 100 31) (words : List ℕ) (q n : ℕ) → q < 30 → Some n ≡ first_process (list_at (lists t) (q + 1))
    → total (queues words (moved (lists t) (q + 1) 0 n)) + 1 ≡ total (queues words (lists t))
taken_total t words q n below h =
    let qs = queues words (lists t) in
    let p = ap total (taken_queues t words q n h) in
    let c = total_changed qs q (drop 1 (queue_at qs q)) (let k = many_queues words t in omega (arith, k, below)) in
    let s = shorter (queue_at qs q) (get_or words n 0) (taken_first t words q n h) in
    omega (arith, p, c, s)
  where
    shorter : (l : List ℕ) (m : ℕ) → Some m ≡ first_of l → length (drop 1 l) + 1 ≡ length l
    shorter [] m h = absurd (cc)
    shorter (x ∷ l) m h = omega arith

-- and how many nodes are free
free_after_take : (t : QueueTable 100 31) (q n : ℕ) → length (list_at (moved (lists t) (q + 1) 0 n) 0) ≡ length (list_at (lists t) 0) + 1
free_after_take t q n =
    let l = rest_of (list_at (lists t) (q + 1)) in
    let rest = with_list (lists t) (q + 1) l in
    let a = ap length (list_at-other (lists t) (q + 1) l 0 (omega arith)) in
    let b = ap length (list_at-same rest 0 (list_at rest 0 ++ (n, pos 0) ∷ []) (let m = queues_of t in let k = length_with (lists t) (q + 1) l in omega (arith, m, k))) in
    let d : length (list_at rest 0 ++ (n, pos 0) ∷ []) ≡ length (list_at rest 0) + 1 = length-append (list_at rest 0) ((n, pos 0) ∷ []) in
    omega (arith, a, b, d)
  where
    length_with : (ls : List (List Entry)) (q : ℕ) (l : List Entry) → length (with_list ls q l) ≡ length ls
    length_with [] q l = refl
    length_with (x ∷ ls) zero l = refl
    length_with (x ∷ ls) (suc q) l = ap suc (length_with ls q l)

-- there was a message
pub taken_some : (t : QueueTable 100 31) (words : List ℕ) (used q n : ℕ) → AreNodes words (lists t) used → q < 30
    → Some n ≡ first_process (list_at (lists t) (q + 1)) → 1 ≤ used
taken_some t words used q n are below h =
    let s = taken_total t words q n below h in let x = are.counted in omega (arith, s, x)

-- and each node is free or has a message
pub taken_nodes : (t : QueueTable 100 31) (words : List ℕ) (used q n : ℕ) → AreNodes words (lists t) used → q < 30
    → Some n ≡ first_process (list_at (lists t) (q + 1))
    → AreNodes words (moved (lists t) (q + 1) 0 n) (used - 1)
taken_nodes t words used q n are below h =
    let s = taken_total t words q n below h in
    let f = free_after_take t q n in
    let x = are.counted in
    let y = are.free in
    record { counted = omega (arith, s, x); free = omega (arith, s, f, x, y) }

-- a port without a first node has no messages
pub no_first : (t : QueueTable 100 31) (words : List ℕ) (q : ℕ) → None ≡ first_process (list_at (lists t) (q + 1)) → queue_at (queues words (lists t)) q ≡ []
no_first t words q h =
    let i : q + 1 ≡ suc q = omega arith in
    queue_is words (lists t) q ∙ ap (λ j. contents words (list_at (lists t) j)) (sym i)
    ∙ ap (contents words) (first_none (list_at (lists t) (q + 1)) h)

-- the messages of new lists
pub fresh_queues : (words : List ℕ) (ls : List (List Entry)) → drop 1 ls ≡ replicate 30 [] → queues words ls ≡ replicate 30 []
unfolding queues
fresh_queues words ls h = ap (map (contents words)) h

-- all nodes are free then
pub fresh_nodes : (words : List ℕ) (ls : List (List Entry)) → length (list_at ls 0) ≡ 100 → drop 1 ls ≡ replicate 30 [] → AreNodes words ls 0
fresh_nodes words ls free h =
    record { counted = ap total (fresh_queues words ls h); free = omega (arith, free) }

-- the messages of a port are those of its nodes
pub queue_of_port : (words : List ℕ) (ls : List (List Entry)) (q : ℕ) → queue_at (queues words ls) q ≡ contents words (list_at ls (q + 1))
queue_of_port words ls q = let i : q + 1 ≡ suc q = omega arith in queue_is words ls q ∙ ap (λ j. contents words (list_at ls j)) (sym i)

-- a port has no more messages than all have
one_of_all : (qs : List (List ℕ)) (q : ℕ) → length (queue_at qs q) ≤ total qs
one_of_all [] q = omega arith
one_of_all (x ∷ qs) zero = omega arith
one_of_all (x ∷ qs) (suc q) = let h = one_of_all qs q in omega (arith, h)

-- and so at most a hundred nodes
pub few_nodes : (t : QueueTable 100 31) (words : List ℕ) (used q : ℕ) → AreNodes words (lists t) used → q < 30 → length (list_at (lists t) (q + 1)) ≤ 100
few_nodes t words used q are below =
    let a = ap length (queue_of_port words (lists t) q) in
    let b = length_contents words (list_at (lists t) (q + 1)) in
    let c = one_of_all (queues words (lists t)) q in
    let x = are.counted in
    let y = are.free in
    omega (arith, a, b, c, x, y)
