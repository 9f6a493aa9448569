-- What a search over the cells finds is what a search over the blocks finds.
use Rattle.std.proofs.Common.{◌≡◌, ℕ, zero, suc, ◌+◌, ◌-◌, ◌<◌, ◌≤◌, Bool, true, false, List, [], ◌∷◌, ◌++◌, length, Option, Some, None}
use Rattle.std.proofs.Common.{refl, ap, ◌∙◌, cond, arith}
use Rattle.std.specs.Prelude.{replicate, option_map}
use Rattle.std.proofs.lemmas.List.{length-replicate}
use Rattle.xinu_model.specs.Heap.Cells.{begins_with, or_here, lowest_free, highest_free}
use Rattle.freelist_memory.specs.Blocks.{block_at, cells_of, AreBlocks}
use Rattle.freelist_memory.specs.Searches.{AreShort, IsLowest, IsHighest}
use Rattle.freelist_memory.specs.declared.blocks.FreeBlock.{FreeBlock}
use Rattle.freelist_memory.proofs.Order.{block_order}

-- No free cells begin here.
abbrev pub Stops : List Bool → Type 0
Stops l = (k : ℕ) → begins_with true (suc k) l ≡ false

-- taken cells stop
stops_taken : (n : ℕ) (l : List Bool) → 0 < n → Stops (replicate n false ++ l)
stops_taken zero l z = absurd (omega arith)
stops_taken (suc n) l z = λ k. refl

-- so does the end
stops_end : (n : ℕ) → Stops (replicate n false)
stops_end zero = λ k. refl
stops_end (suc n) = λ k. refl

-- The cells after a block begin with none that is free.
pub stops_after : (at : ℕ) (bs : List FreeBlock) (to last : ℕ) → AreBlocks (at + 1) bs to → Stops (cells_of at bs last)
stops_after at [] to last h = stops_end (last - at)
stops_after at (b ∷ bs) to last h =
    let low = h.0 in
    stops_taken (b.first - at) (replicate b.count true ++ cells_of (b.first + b.count) bs last) (omega arith)

-- more cells don't begin with the free ones of a block
begins_short : (k m : ℕ) (l : List Bool) → m < k → Stops l → begins_with true k (replicate m true ++ l) ≡ false
begins_short zero m l w s = absurd (omega arith)
begins_short (suc k) zero l w s = s k
begins_short (suc k) (suc m) l w s = begins_short k m l (omega arith) s

-- as many do, and fewer
begins_long : (k m : ℕ) (l : List Bool) → k ≤ m → begins_with true k (replicate m true ++ l) ≡ true
begins_long zero m l w = refl
begins_long (suc k) zero l w = absurd (omega arith)
begins_long (suc k) (suc m) l w = begins_long k m l (omega arith)

-- a place that was found, further on
abbrev pub further : ℕ → Option ℕ → Option ℕ
further n None = None
further n (Some i) = Some (n + i)

-- one place further, and n more
further_more : (n : ℕ) (o : Option ℕ) → option_map suc (further n o) ≡ further (suc n) o
further_more n None = refl
further_more n (Some i) = ap Some (let e : suc (n + i) ≡ suc n + i = omega arith in e)

-- no place further
further_none : (o : Option ℕ) → o ≡ further 0 o
further_none None = refl
further_none (Some i) = ap Some (let e : i ≡ 0 + i = omega arith in e)

-- the search from below goes on after taken cells
lowest_taken : (k n : ℕ) (l : List Bool) → 0 < k → lowest_free k (replicate n false ++ l) ≡ further n (lowest_free k l)
lowest_taken k zero l z = further_none (lowest_free k l)
lowest_taken zero (suc n) l z = absurd (omega arith)
lowest_taken (suc k) (suc n) l z = ap (option_map suc) (lowest_taken (suc k) n l z) ∙ further_more n (lowest_free (suc k) l)

-- and after a short block
lowest_short : (k m : ℕ) (l : List Bool) → m < k → Stops l → lowest_free k (replicate m true ++ l) ≡ further m (lowest_free k l)
lowest_short k zero l w s = further_none (lowest_free k l)
lowest_short k (suc m) l w s =
    ap (λ b. cond b (Some 0) (option_map suc (lowest_free k (replicate m true ++ l)))) (begins_short k (suc m) l w s)
    ∙ ap (option_map suc) (lowest_short k m l (omega arith) s)
    ∙ further_more m (lowest_free k l)

-- it ends at a long one
lowest_long : (k m : ℕ) (l : List Bool) → 0 < k → k ≤ m → lowest_free k (replicate m true ++ l) ≡ Some 0
lowest_long k zero l z w = absurd (omega arith)
lowest_long k (suc m) l z w = ap (λ b. cond b (Some 0) (option_map suc (lowest_free k (replicate m true ++ l)))) (begins_long k (suc m) l w)

-- it finds nothing among taken cells
lowest_end : (k n : ℕ) → 0 < k → lowest_free k (replicate n false) ≡ None
lowest_end k zero z = refl
lowest_end zero (suc n) z = absurd (omega arith)
lowest_end (suc k) (suc n) z = ap (option_map suc) (lowest_end (suc k) n z)

-- The search from below finds the lowest block that is long enough.
pub lowest_found : (k at from : ℕ) (bs : List FreeBlock) (to last i n : ℕ) → 0 < k → at ≤ from → AreBlocks from bs to → IsLowest k bs i
    → at + n ≡ (block_at bs i).first
    → lowest_free k (cells_of at bs last) ≡ Some n
lowest_found k at from [] to last i n z w h f e = absurd (let p = f.place in omega arith)
lowest_found k at from (b ∷ bs) to last zero n z w h f e =
    let low = h.0 in
    let rest = cells_of (b.first + b.count) bs last in
    lowest_taken k (b.first - at) (replicate b.count true ++ rest) z
    ∙ ap (further (b.first - at)) (lowest_long k b.count rest z f.long)
    ∙ ap Some (let g : b.first - at + 0 ≡ n = omega arith in g)
lowest_found k at from (b ∷ bs) to last (suc i) n z w h f e =
    let low = h.0 in
    let place = f.place in
    let rest = cells_of (b.first + b.count) bs last in
    let order = block_order (b.first + b.count + 1) bs to i h.2 (omega arith) in
    let later : IsLowest k bs i = record { place = omega arith; long = f.long; before = λ j v. f.before (suc j) (omega arith) } in
    let m = (block_at bs i).first - (b.first + b.count) in
    let g : b.first + b.count + m ≡ (block_at bs i).first = omega arith in
    lowest_taken k (b.first - at) (replicate b.count true ++ rest) z
    ∙ ap (further (b.first - at)) (lowest_short k b.count rest (f.before 0 (omega arith)) (stops_after (b.first + b.count) bs to last h.2)
    ∙ ap (further b.count) (lowest_found k (b.first + b.count) (b.first + b.count + 1) bs to last i m z (omega arith) h.2 later g))
    ∙ ap Some (let r : b.first - at + (b.count + m) ≡ n = omega arith in r)

-- It finds nothing if none is.
pub lowest_nowhere : (k at from : ℕ) (bs : List FreeBlock) (to last : ℕ) → 0 < k → AreBlocks from bs to → AreShort k bs
    → lowest_free k (cells_of at bs last) ≡ None
lowest_nowhere k at from [] to last z h s = lowest_end k (last - at) z
lowest_nowhere k at from (b ∷ bs) to last z h s =
    let rest = cells_of (b.first + b.count) bs last in
    lowest_taken k (b.first - at) (replicate b.count true ++ rest) z
    ∙ ap (further (b.first - at)) (lowest_short k b.count rest (s 0 (omega arith)) (stops_after (b.first + b.count) bs to last h.2)
    ∙ ap (further b.count) (lowest_nowhere k (b.first + b.count) (b.first + b.count + 1) bs to last z h.2 (λ j v. s (suc j) (omega arith))))

-- the search from above: what it found further on
highest_front : (k : ℕ) (front l : List Bool) (n : ℕ) → highest_free k l ≡ Some n → highest_free k (front ++ l) ≡ Some (length front + n)
highest_front k [] l n e = e ∙ ap Some (let g : n ≡ 0 + n = omega arith in g)
highest_front k (c ∷ front) l n e =
    ap (or_here k (c ∷ (front ++ l))) (highest_front k front l n e)
    ∙ ap Some (let g : suc (length front + n) ≡ suc (length front) + n = omega arith in g)

-- nothing among taken cells
highest_end : (k n : ℕ) → 0 < k → highest_free k (replicate n false) ≡ None
highest_end k zero z = refl
highest_end zero (suc n) z = absurd (omega arith)
highest_end (suc k) (suc n) z = ap (or_here (suc k) (false ∷ replicate n false)) (highest_end (suc k) n z)

-- nothing in taken cells before cells in which nothing is
highest_taken : (k n : ℕ) (l : List Bool) → 0 < k → highest_free k l ≡ None → highest_free k (replicate n false ++ l) ≡ None
highest_taken k zero l z e = e
highest_taken zero (suc n) l z e = absurd (omega arith)
highest_taken (suc k) (suc n) l z e = ap (or_here (suc k) (false ∷ (replicate n false ++ l))) (highest_taken (suc k) n l z e)

-- nor in a short block
highest_short : (k m : ℕ) (l : List Bool) → m < k → Stops l → highest_free k l ≡ None → highest_free k (replicate m true ++ l) ≡ None
highest_short k zero l w s e = e
highest_short k (suc m) l w s e =
    ap (or_here k (true ∷ (replicate m true ++ l))) (highest_short k m l (omega arith) s e)
    ∙ ap (λ b. cond b (Some 0) None) (begins_short k (suc m) l w s)

-- the last cells of a long one
highest_long : (k m n : ℕ) (l : List Bool) → 0 < k → n + k ≡ m → Stops l → highest_free k l ≡ None
    → highest_free k (replicate m true ++ l) ≡ Some n
highest_long k zero n l z w s e = absurd (omega arith)
highest_long k (suc m) zero l z w s e =
    ap (or_here k (true ∷ (replicate m true ++ l))) (highest_short k m l (omega arith) s e)
    ∙ ap (λ b. cond b (Some 0) None) (begins_long k (suc m) l (omega arith))
highest_long k (suc m) (suc n) l z w s e = ap (or_here k (true ∷ (replicate m true ++ l))) (highest_long k m n l z (omega arith) s e)

-- The search from above finds nothing if no block is long enough.
pub highest_nowhere : (k at from : ℕ) (bs : List FreeBlock) (to last : ℕ) → 0 < k → AreBlocks from bs to → AreShort k bs
    → highest_free k (cells_of at bs last) ≡ None
highest_nowhere k at from [] to last z h s = highest_end k (last - at) z
highest_nowhere k at from (b ∷ bs) to last z h s =
    let rest = cells_of (b.first + b.count) bs last in
    highest_taken k (b.first - at) (replicate b.count true ++ rest) z
    (highest_short k b.count rest (s 0 (omega arith)) (stops_after (b.first + b.count) bs to last h.2)
    (highest_nowhere k (b.first + b.count) (b.first + b.count + 1) bs to last z h.2 (λ j v. s (suc j) (omega arith))))

-- It finds the last cells of the highest block that is long enough.
pub highest_found : (k at from : ℕ) (bs : List FreeBlock) (to last i n : ℕ) → 0 < k → at ≤ from → AreBlocks from bs to → IsHighest k bs i
    → at + n + k ≡ (block_at bs i).first + (block_at bs i).count
    → highest_free k (cells_of at bs last) ≡ Some n
highest_found k at from [] to last i n z w h f e = absurd (let p = f.place in omega arith)
highest_found k at from (b ∷ bs) to last zero n z w h f e =
    let low = h.0 in
    let long = f.long in
    let rest = cells_of (b.first + b.count) bs last in
    let none =
    highest_nowhere k (b.first + b.count) (b.first + b.count + 1) bs to last z h.2 (λ j v. f.after (suc j) (omega arith) (omega arith))
    in
    let front = length-replicate (b.first - at) false in
    highest_front k (replicate (b.first - at) false) (replicate b.count true ++ rest) (b.count - k)
    (highest_long k b.count (b.count - k) rest z (omega arith) (stops_after (b.first + b.count) bs to last h.2) none)
    ∙ ap Some (let g : length (replicate (b.first - at) false) + (b.count - k) ≡ n = omega arith in g)
highest_found k at from (b ∷ bs) to last (suc i) n z w h f e =
    let low = h.0 in
    let place = f.place in
    let long = f.long in
    let rest = cells_of (b.first + b.count) bs last in
    let order = block_order (b.first + b.count + 1) bs to i h.2 (omega arith) in
    let later : IsHighest k bs i =
    record { place = omega arith; long = f.long; after = λ j v u. f.after (suc j) (omega arith) (omega arith) } in
    let m = (block_at bs i).first + (block_at bs i).count - k - (b.first + b.count) in
    let g : b.first + b.count + m + k ≡ (block_at bs i).first + (block_at bs i).count = omega arith in
    let front = length-replicate (b.first - at) false in
    let own = length-replicate b.count true in
    highest_front k (replicate (b.first - at) false) (replicate b.count true ++ rest) (length (replicate b.count true) + m)
    (highest_front k (replicate b.count true) rest m
    (highest_found k (b.first + b.count) (b.first + b.count + 1) bs to last i m z (omega arith) h.2 later g))
    ∙ ap Some (let r : length (replicate (b.first - at) false) + (length (replicate b.count true) + m) ≡ n = omega arith in r)
