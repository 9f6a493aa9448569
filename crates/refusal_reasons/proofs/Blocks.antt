-- The heap has a block if and only if enough free cells in a row begin somewhere.
use Rattle.std.proofs.Common.{◌≡◌, ◌∙◌, ℕ, zero, suc, ◌+◌, ◌*◌, ◌≤◌, ◌==◌, Bool, true, false, not, cond, ◌&&◌, ◌||◌, List, [], ◌∷◌, refl, sym, ap, arith, Option, Some, None, ◌<◌, max}
use Rattle.std.specs.List.{list_any}
use Rattle.std.specs.Prelude.{is_some, nat_le, option_map}
use Rattle.std.proofs.lemmas.Bool.{ne_eqb, leb-true}
use Rattle.refusal_reasons.specs.Memory.{has_free}
use Rattle.xinu_model.specs.Heap.Cells.{Block, Heap, begins_with, cells_for, grant_at, highest_free, lowest_free, or_here, stack_at, take_memory, take_stack, Grant}
use Rattle.xinu_model.specs.Pools.Buffers.{pool_bytes, whole_words}
use Rattle.xinu_model.specs.Process.Creation.{stack_size}

-- the lowest cells are found if there are some
lowest_found : (k : ℕ) (cells : List Bool) → is_some (lowest_free k cells) ≡ has_free k cells
lowest_found k [] = refl
lowest_found k (c ∷ cells) = by_first (begins_with true k (c ∷ cells)) (lowest_free k cells) (lowest_found k cells)
  where
    by_first : (b : Bool) (o : Option ℕ) → is_some o ≡ has_free k cells
        → is_some (cond b (Some 0) (option_map suc o)) ≡ (b || has_free k cells)
    by_first true o e = refl
    by_first false None e = e
    by_first false (Some n) e = e

-- 0, if a test holds
abbrev zero_if : Bool → Option ℕ
zero_if b = cond b (Some 0) None

-- and so are the highest
highest_found : (k : ℕ) (cells : List Bool) → is_some (highest_free k cells) ≡ has_free k cells
highest_found k [] = refl
highest_found k (c ∷ cells) = by_rest (highest_free k cells) (begins_with true k (c ∷ cells)) refl (highest_found k cells)
  where
    by_rest : (o : Option ℕ) (b : Bool) → b ≡ begins_with true k (c ∷ cells) → is_some o ≡ has_free k cells
        → is_some (or_here k (c ∷ cells) o) ≡ (b || has_free k cells)
    by_rest (Some n) true f e = refl
    by_rest (Some n) false f e = e
    by_rest None true f e = ap (λ b. is_some (zero_if b)) (sym f)
    by_rest None false f e = ap (λ b. is_some (zero_if b)) (sym f) ∙ e

-- memory is granted if some bytes are asked for, and there is a block
granted_at : (h : Heap) (k : ℕ) (o : Option ℕ) → is_some (grant_at h k o) ≡ is_some o
granted_at h k None = refl
granted_at h k (Some n) = refl

pub memory_found : (n : ℕ) (h : Heap) → is_some (take_memory n h) ≡ (not (n == 0) && has_free (cells_for n) h.cells)
memory_found n h = by_size (n == 0)
  where
    by_size : (b : Bool) → is_some (cond b None (grant_at h (cells_for n) (lowest_free (cells_for n) h.cells)))
        ≡ (not b && has_free (cells_for n) h.cells)
    by_size true = refl
    by_size false = granted_at h (cells_for n) (lowest_free (cells_for n) h.cells) ∙ lowest_found (cells_for n) h.cells

-- and so is a stack
stacked_at : (h : Heap) (k : ℕ) (o : Option ℕ) → is_some (stack_at h k o) ≡ is_some o
stacked_at h k None = refl
stacked_at h k (Some n) = refl

pub stack_found : (n : ℕ) (h : Heap) → is_some (take_stack n h) ≡ (not (n == 0) && has_free (cells_for n) h.cells)
stack_found n h = by_size (n == 0)
  where
    by_size : (b : Bool) → is_some (cond b None (stack_at h (cells_for n) (highest_free (cells_for n) h.cells)))
        ≡ (not b && has_free (cells_for n) h.cells)
    by_size true = refl
    by_size false = stacked_at h (cells_for n) (highest_free (cells_for n) h.cells) ∙ highest_found (cells_for n) h.cells

-- no stack of a process is empty
pub some_stack : (wanted : ℕ) → (stack_size wanted == 0) ≡ false
some_stack wanted = ne_eqb (stack_size wanted) 0 (λ e. omega arith)

-- and no pool
pub some_pool : (size n : ℕ) → nat_le 1 n ≡ true → (pool_bytes (whole_words size) n == 0) ≡ false
some_pool size n e = some_buffers (whole_words size) n (leb-true 1 n e)
  where
    some_buffers : (w n : ℕ) → 1 ≤ n → (n * (w + 4) == 0) ≡ false
    some_buffers w zero h = absurd (omega arith)
    some_buffers w (suc n) h = ne_eqb (suc n * (w + 4)) 0 (λ e. omega arith)

-- a place is found if there is a block
mapped_some : (o : Option Grant) → is_some (option_map (λ (g : Grant). g.address) o) ≡ is_some o
mapped_some None = refl
mapped_some (Some g) = refl

pub opposite : (a b : Bool) → a ≡ not b → b ≡ not a
opposite true true e = absurd (cc)
opposite true false e = refl
opposite false true e = refl
opposite false false e = absurd (cc)

pub place_none : (n : ℕ) (h : Heap) (o : Option ℕ) (b : Bool) → 0 < n → o ≡ option_map (λ (g : Grant). g.address) (take_memory n h)
    → is_some o ≡ not b → b ≡ not (has_free (cells_for n) h.cells)
place_none n h o b some e f =
    opposite (is_some o) b f
    ∙ ap not (ap is_some e ∙ mapped_some (take_memory n h) ∙ memory_found n h ∙ ap (λ t. not t && has_free (cells_for n) h.cells) (ne_eqb n 0 (λ z. omega (arith, some, z))))

-- a stack has as many cells as what was asked for
pub whole_stack : (wanted : ℕ) → cells_for (stack_size wanted) ≡ cells_for (max wanted 400)
whole_stack wanted = omega arith

-- what passes a test in a list of which so much is left
pub found_here : (test : Block → Bool) (whole left rest : List Block) (b : Block) → list_any test whole ≡ list_any test left → left ≡ b ∷ rest
    → test b ≡ true → true ≡ list_any test whole
found_here test whole left rest b e f h = sym (e ∙ ap (list_any test) f ∙ ap (λ t. t || list_any test rest) h)

pub found_later : (test : Block → Bool) (whole left rest : List Block) (b : Block) → list_any test whole ≡ list_any test left → left ≡ b ∷ rest
    → test b ≡ false → list_any test whole ≡ list_any test rest
found_later test whole left rest b e f h = e ∙ ap (list_any test) f ∙ ap (λ t. t || list_any test rest) h

pub found_nowhere : (test : Block → Bool) (whole left : List Block) → list_any test whole ≡ list_any test left → left ≡ [] → false ≡ list_any test whole
found_nowhere test whole left e f = sym (e ∙ ap (list_any test) f)
