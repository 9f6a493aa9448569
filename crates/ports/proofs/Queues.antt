-- The queues of messages that lists of nodes hold, and how they change with the lists.
use Rattle.std.proofs.Common.{◌≡◌, ◌≢◌, ◌∙◌, ℕ, zero, suc, ◌+◌, ◌<◌, Bool, true, false, cond, List, [], ◌∷◌, ◌++◌, length, map, drop, get_or, set, None, refl, sym, ap, arith, nat_eq}
use Rattle.std.proofs.lemmas.Bool.{eq-eqb, false≢true}
use Rattle.std.proofs.lemmas.List.{get_or-set_other, map-set}
use Rattle.queue_table.specs.Lists.{Entry, is_listed, list_at, place, with_list}
use Rattle.queue_table.proofs.Laws.{place-none}
use Rattle.ports.specs.Nodes.{contents, queue_at, queues, total, with_queue}

-- another list of free nodes leaves the others
pub others_stay : (ls : List (List Entry)) (l : List Entry) → drop 1 (with_list ls 0 l) ≡ drop 1 ls
others_stay [] l = refl
others_stay (x ∷ ls) l = refl

-- another list of a port's
pub another_list : (ls : List (List Entry)) (q : ℕ) (l : List Entry) → drop 1 (with_list ls (suc q) l) ≡ set (drop 1 ls) q l
another_list [] zero l = refl
another_list [] (suc q) l = refl
another_list (x ∷ ls) q l = refl

-- the list of a port's nodes
pub list_behind : (ls : List (List Entry)) (q : ℕ) → list_at ls (suc q) ≡ get_or (drop 1 ls) q []
list_behind [] zero = refl
list_behind [] (suc q) = refl
list_behind (x ∷ ls) q = refl

-- messages of each port, from a list of nodes for each
contents_at : (words : List ℕ) (ls : List (List Entry)) (q : ℕ) → queue_at (map (contents words) ls) q ≡ contents words (get_or ls q [])
contents_at words [] zero = refl
contents_at words [] (suc q) = refl
contents_at words (l ∷ ls) zero = refl
contents_at words (l ∷ ls) (suc q) = contents_at words ls q

-- the messages of a port are those of its nodes
pub queue_is : (words : List ℕ) (ls : List (List Entry)) (q : ℕ) → queue_at (queues words ls) q ≡ contents words (list_at ls (suc q))
unfolding queues
queue_is words ls q = contents_at words (drop 1 ls) q ∙ ap (contents words) (sym (list_behind ls q))

-- if the free nodes change, no messages do
pub free_changed : (words : List ℕ) (ls : List (List Entry)) (l : List Entry) → queues words (with_list ls 0 l) ≡ queues words ls
unfolding queues
free_changed words ls l = ap (map (contents words)) (others_stay ls l)

-- if the nodes of a port change, its messages do
pub list_changed : (words : List ℕ) (ls : List (List Entry)) (q : ℕ) (l : List Entry)
    → queues words (with_list ls (suc q) l) ≡ with_queue q (contents words l) (queues words ls)
unfolding queues
list_changed words ls q l =
    ap (map (contents words)) (another_list ls q l) ∙ map-set (contents words) (drop 1 ls) q l

-- another word of a node that isn't in a list leaves its messages
pub word_changed : (words : List ℕ) (n m : ℕ) (l : List Entry) → is_listed n l ≡ false → contents (set words n m) l ≡ contents words l
word_changed words n m [] h = refl
word_changed words n m (e ∷ l) h = go (λ f. word_changed words n m l f) (nat_eq n e.0) refl
  where
    go : (is_listed n l ≡ false → contents (set words n m) l ≡ contents words l) → (b : Bool) → nat_eq n e.0 ≡ b
        → contents (set words n m) (e ∷ l) ≡ contents words (e ∷ l)
    go later true t = absurd (false≢true (sym h ∙ ap (λ b. cond b true (is_listed n l)) t))
    go later false t =
        let other : e.0 ≢ n = λ s. false≢true (sym t ∙ eq-eqb n e.0 (sym s)) in
        let rest = later (sym (ap (λ b. cond b true (is_listed n l)) t) ∙ h) in
        ap (λ w. w ∷ contents (set words n m) l) (get_or-set_other words n e.0 m 0 other)
        ∙ ap (λ r. get_or words e.0 0 ∷ r) rest

-- the same of some lists
words_changed : (words : List ℕ) (n m : ℕ) (ls : List (List Entry)) → ((i : ℕ) → is_listed n (get_or ls i []) ≡ false)
    → map (contents (set words n m)) ls ≡ map (contents words) ls
words_changed words n m [] h = refl
words_changed words n m (l ∷ ls) h =
    ap (λ x. x ∷ map (contents (set words n m)) ls) (word_changed words n m l (h 0))
    ∙ ap (λ r. contents words l ∷ r) (words_changed words n m ls (λ i. h (suc i)))

-- another word of a node that is in no list leaves all messages
pub loose_changed : (words : List ℕ) (ls : List (List Entry)) (n m : ℕ) → place ls n ≡ None → queues (set words n m) ls ≡ queues words ls
unfolding queues
loose_changed words ls n m none =
    words_changed words n m (drop 1 ls) (λ i. ap (is_listed n) (sym (list_behind ls i)) ∙ place-none ls n none (suc i))

-- messages of a list with one more node
pub contents_last : (words : List ℕ) (l : List Entry) (e : Entry) → contents words (l ++ e ∷ []) ≡ contents words l ++ get_or words e.0 0 ∷ []
contents_last words [] e = refl
contents_last words (x ∷ l) e = ap (λ r. get_or words x.0 0 ∷ r) (contents_last words l e)

-- how many messages there are once a port has others
pub total_changed : (qs : List (List ℕ)) (q : ℕ) (l : List ℕ) → q < length qs
    → total (with_queue q l qs) + length (queue_at qs q) ≡ total qs + length l
total_changed [] q l lt = absurd (omega (arith, lt))
total_changed (x ∷ qs) zero l lt = omega arith
total_changed (x ∷ qs) (suc q) l lt = let h = total_changed qs q l (omega (arith, lt)) in omega (arith, h)

-- a queue that is replaced twice
pub replaced_twice : (qs : List (List ℕ)) (q : ℕ) (l m : List ℕ) → with_queue q m (with_queue q l qs) ≡ with_queue q m qs
replaced_twice [] q l m = refl
replaced_twice (x ∷ qs) zero l m = refl
replaced_twice (x ∷ qs) (suc q) l m = ap (λ r. x ∷ r) (replaced_twice qs q l m)
