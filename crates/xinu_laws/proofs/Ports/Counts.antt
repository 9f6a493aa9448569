-- A count if nothing passes, and how many messages all ports hold after one of them is written.
use Rattle.std.proofs.Common.{◌≡◌, ℕ, zero, suc, ◌+◌, ◌<◌, Bool, true, false, cond, List, [], ◌∷◌, length, get_or, set, refl, arith}
use Rattle.xinu_model.specs.Ports.Queues.{MessagePort, port_at, queued, nodes}
use Rattle.xinu_model.specs.Sound.Tables.{times}

-- if no place passes the count is zero
pub times_none : {A : Type 0} (test : A → Bool) (d : A) (xs : List A) → ((i : ℕ) → test (get_or xs i d) ≡ true → ⊥) → times test xs ≡ 0
times_none test d [] h = refl
times_none test d (x ∷ xs) h = go (test x) (times test xs) (h 0) (times_none test d xs (λ i. h (suc i)))
  where
    go : (a : Bool) (n : ℕ) → (a ≡ true → ⊥) → n ≡ 0 → cond a (suc n) n ≡ 0
    go true n k e = absurd (k refl)
    go false n k e = e

-- a port that is written exchanges its messages
pub nodes-set : (ports : List MessagePort) (q : ℕ) (x : MessagePort) → q < length ports
    → nodes (set ports q x) + length (queued (port_at ports q).queue) ≡ nodes ports + length (queued x.queue)
nodes-set [] q x h = absurd (omega arith)
nodes-set (p ∷ ports) zero x h = omega arith
nodes-set (p ∷ ports) (suc q) x h = let e = nodes-set ports q x (omega arith) in omega arith
