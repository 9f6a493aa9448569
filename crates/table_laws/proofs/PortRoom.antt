-- Room in ports, and tokens of their semaphores.
use Rattle.std.proofs.Common.{◌≡◌, ℕ, zero, suc, ◌≤◌, List, [], ◌∷◌, length, set, get_or, Some, arith, ◌<◌, true, int_lt}
use Rattle.xinu_model.specs.Ports.Queues.{MessagePort, nodes, port_at, PortQueue}
use Rattle.xinu_model.specs.Tables.{no_semaphore, Semaphore}
use Rattle.std.proofs.lemmas.Int.{ints}
use Rattle.xinu_model.specs.Semaphores.Counts.{count_of, most_tokens}

-- fewer tokens of one semaphore are no more of any
pub fewer_set : (l : List Semaphore) (sem r n : ℕ) → n ≤ (get_or l sem no_semaphore).tokens
    → (get_or (set l sem (record (get_or l sem no_semaphore) { tokens = n })) r no_semaphore).tokens ≤ (get_or l r no_semaphore).tokens
fewer_set [] zero zero n h = omega arith
fewer_set [] zero (suc r) n h = omega arith
fewer_set [] (suc sem) zero n h = omega arith
fewer_set [] (suc sem) (suc r) n h = omega arith
fewer_set (x ∷ l) zero zero n h = h
fewer_set (x ∷ l) zero (suc r) n h = omega arith
fewer_set (x ∷ l) (suc sem) zero n h = omega arith
fewer_set (x ∷ l) (suc sem) (suc r) n h = fewer_set l sem r n h

-- a port holds no more messages than all do
pub one_of_nodes : (ports : List MessagePort) (q : ℕ) (queue : PortQueue) → (port_at ports q).queue ≡ Some queue → length queue.messages ≤ nodes ports
one_of_nodes [] zero queue e = absurd (cc)
one_of_nodes [] (suc q) queue e = absurd (cc)
one_of_nodes (port ∷ ports) zero queue e = rw e (omega arith)
one_of_nodes (port ∷ ports) (suc q) queue e = (let h = one_of_nodes ports q queue e in omega (arith, h))

-- a semaphore with few tokens can be signalled
pub few_tokens : (x : Semaphore) (n : ℕ) → x.tokens < n → n ≤ 2147483647 → int_lt (count_of x) most_tokens ≡ true
few_tokens x n h g = grind (arith, ints)
