use Rattle.std.proofs.Common.{◌≡◌, ◌++◌, ◌∷◌, reverse, true, ap, subst, ◌∙◌, arith}
use Rattle.std.specs.List.{AllByRecursion}
use Rattle.std.specs.Option.{option_to_list}
use Rattle.xinu_model.specs.Pools.Buffers.{buffers, is_in}
use Rattle.buffer_pools.specs.Buffers.{pool_of}
use Rattle.buffer_pools.proofs.Free.{has_taken, last_first}
use Rattle.buffer_pools.proofs.Places.{after_word, placed_with, word_before}
use Rattle.buffer_pools.proofs.pool.Pool.take.Goals as goal

-- the buffer that is taken was the first
taken : (c : goal.After-unwrap) → reverse c.self.inside.free.items ≡ c.unwrap.result ∷ reverse c.pop.new.self.items
taken c = last_first c.pop.new.self.items c.self.inside.free.items c.unwrap.result
    (c.pop.ensures.items ∙ ap (λ r. c.pop.new.self.items ++ option_to_list r) c.unwrap.ensures)

-- it is one of the pool
is_one : (c : goal.After-unwrap) → is_in c.unwrap.result (buffers (pool_of c.self.inside)) ≡ true
is_one c = let all : AllByRecursion (λ a. is_in a (buffers (pool_of c.self.inside)) ≡ true)
    (c.unwrap.result ∷ reverse c.pop.new.self.items) =
    subst (AllByRecursion (λ a. is_in a (buffers (pool_of c.self.inside)) ≡ true)) (taken c) c.self.invariant.buffers.buffers in all.0

pub invariant_of-self : goal.invariant_of-self
invariant_of-self c =
    record {
      room = (let r = c.self.invariant.room in let k = c.pop.ensures.capacity in omega arith);
      placed = placed_with (pool_of c.self.inside) (reverse c.pop.new.self.items) c.self.invariant.placed;
      buffers = has_taken (pool_of c.self.inside) c.unwrap.result (reverse c.pop.new.self.items) c.self.invariant.buffers (taken c);
    }

pub returns-clause-after_word : goal.returns-clause-after_word
returns-clause-after_word c = after_word (pool_of c.self.inside) c.self.invariant.placed c.unwrap.result (is_one c)

pub returns-clause-word : goal.returns-clause-word
returns-clause-word c = word_before (pool_of c.self.inside) c.self.invariant.placed c.unwrap.result (is_one c)
