-- What putting a block into a gap writes: the block alone, or one block in place of those that touch.
use Rattle.std.proofs.Common.{◌≡◌, ℕ, zero, suc, ◌+◌, ◌-◌, ◌/◌, ◌<◌, ◌≤◌, List, ◌∷◌, ◌++◌, length, take, drop, get_or, add_assoc, sym, ap}
use Rattle.std.proofs.Common.{◌∙◌, subst, arith, ⊎_elim}
use Rattle.std.specs.Prelude.{slice_set}
use Rattle.std.specs.List.{insert, remove}
use Rattle.std.proofs.lemmas.Bool.{cases_lt}
use Rattle.std.proofs.lemmas.List.Edits.{length-insert}
use Rattle.freelist_memory.specs.Blocks.{block_at, AreBlocks}
use Rattle.freelist_memory.specs.Gaps.{floor_at, ceiling_at, IsGap, IsGiven}
use Rattle.freelist_memory.specs.declared.blocks.FreeBlock.{FreeBlock}
use Rattle.freelist_memory.proofs.Order.{set_around, block_end, blocks_length}
use Rattle.freelist_memory.proofs.Gaps.{ceiling_in, ceiling_past, given_alone, given_below, given_above, given_between, set_removed}
use Rattle.freelist_memory.proofs.Taken.{block_read}

-- What a gap touches after it is there.
pub after_in : (bs : List FreeBlock) (at first k last : ℕ) → IsGap bs at first k last → first + k ≡ ceiling_at at bs (last + 1)
    → at < length bs
after_in bs at first k last g e =
    ⊎_elim
    (λ (w : at < length bs). w)
    (λ (w : length bs ≤ at). absurd (let past = ceiling_past at bs (last + 1) w in let within = g.within in omega arith))
    (cases_lt at (length bs))

-- What it touches before it is there.
pub before_in : (bs : List FreeBlock) (at first k last : ℕ) → IsGap bs at first k last → first + 1 ≡ floor_at at bs → 0 < at
before_in bs zero first k last g e = absurd (omega arith)
before_in bs (suc i) first k last g e = omega arith

-- It touches nothing: the block alone.
pub put_alone : (bs : List FreeBlock) (at : ℕ) (b : FreeBlock) (last : ℕ) → IsGap bs at b.first b.count last
    → (b.first + 1 ≡ floor_at at bs → ⊥) → (b.first + b.count ≡ ceiling_at at bs (last + 1) → ⊥)
    → IsGiven bs (insert bs at b) b.first b.count last
put_alone bs at b last g low high = let v = g.low in let w = g.high in given_alone bs at b.first b.count last g (omega arith) (omega arith)

-- It touches the block after it.
pub put_below : (bs : List FreeBlock) (at : ℕ) (b after : FreeBlock) (last : ℕ) → IsGap bs at b.first b.count last
    → (b.first + 1 ≡ floor_at at bs → ⊥) → b.first + b.count ≡ ceiling_at at bs (last + 1) → after ≡ get_or bs at after
    → IsGiven bs (slice_set bs at (record { first = b.first; count = b.count + after.count })) b.first b.count last
put_below bs at b after last g low e r =
    let v = g.low in
    let w = after_in bs at b.first b.count last g e in
    let P : List FreeBlock → Type 0 = λ l. IsGiven bs l b.first b.count last in
    let Q : FreeBlock → Type 0 =
    λ a. IsGiven bs (slice_set bs at (record { first = b.first; count = b.count + a.count })) b.first b.count last in
    subst Q (sym (block_read bs at after w r))
    (subst P (sym (set_around bs at (record { first = b.first; count = b.count + (block_at bs at).count }) w))
    (given_below bs at b.first b.count last g w (omega arith) (e ∙ ceiling_in at bs (last + 1) w)))

-- where the block before it ends
before_end : (bs : List FreeBlock) (i first : ℕ) → first + 1 ≡ floor_at (suc i) bs → (block_at bs i).first + (block_at bs i).count ≡ first
before_end bs i first e = omega arith

-- one place before the next
before_suc : (i : ℕ) → suc i - 1 ≡ i
before_suc i = omega arith

-- It touches the block before it.
pub put_above : (bs : List FreeBlock) (at : ℕ) (b before : FreeBlock) (last : ℕ) → IsGap bs at b.first b.count last
    → b.first + 1 ≡ floor_at at bs → (b.first + b.count ≡ ceiling_at at bs (last + 1) → ⊥) → before ≡ get_or bs (at - 1) before
    → IsGiven bs (slice_set bs (at - 1) (record { first = before.first; count = before.count + b.count })) b.first b.count last
put_above bs zero b before last g e high r = absurd (omega arith)
put_above bs (suc i) b before last g e high r =
    let v = g.high in
    let place = g.place in
    let w : i < length bs = omega arith in
    let read = block_read bs i before w (r ∙ ap (λ j. get_or bs j before) (before_suc i)) in
    let P : List FreeBlock → Type 0 = λ l. IsGiven bs l b.first b.count last in
    let Q : FreeBlock → Type 0 =
    λ a. IsGiven bs (slice_set bs (suc i - 1) (record { first = a.first; count = a.count + b.count })) b.first b.count last in
    let new : FreeBlock = record { first = (block_at bs i).first; count = (block_at bs i).count + b.count } in
    subst Q (sym read)
    (subst P (sym (ap (λ j. slice_set bs j new) (before_suc i) ∙ set_around bs i new w))
    (given_above bs i b.first b.count last g (before_end bs i b.first e) (omega arith)))

-- It touches both.
pub put_between : (bs : List FreeBlock) (at : ℕ) (b before after : FreeBlock) (last : ℕ) → IsGap bs at b.first b.count last
    → b.first + 1 ≡ floor_at at bs → b.first + b.count ≡ ceiling_at at bs (last + 1) → before ≡ get_or bs (at - 1) before
    → after ≡ get_or bs at after
    → IsGiven bs (slice_set (remove bs at) (at - 1) (record { first = before.first; count = before.count + b.count + after.count })) b.first
    b.count last
put_between bs zero b before after last g e f r q = absurd (omega arith)
put_between bs (suc i) b before after last g e f r q =
    let v = after_in bs (suc i) b.first b.count last g f in
    let w : i < length bs = omega arith in
    let c = block_at bs (suc i) in
    let read = block_read bs i before w (r ∙ ap (λ j. get_or bs j before) (before_suc i)) in
    let read_after = block_read bs (suc i) after v q in
    let P : List FreeBlock → Type 0 = λ l. IsGiven bs l b.first b.count last in
    let Q : FreeBlock → Type 0 =
    λ a. IsGiven bs (slice_set (remove bs (suc i)) (suc i - 1) (record { first = a.first; count = a.count + b.count + after.count }))
    b.first b.count last in
    let R : FreeBlock → Type 0 =
    λ d. IsGiven bs
    (slice_set (remove bs (suc i)) (suc i - 1)
    (record { first = (block_at bs i).first; count = (block_at bs i).count + b.count + d.count }))
    b.first b.count last in
    let new : FreeBlock = record { first = (block_at bs i).first; count = (block_at bs i).count + b.count + c.count } in
    let same : new ≡ record { first = (block_at bs i).first; count = (block_at bs i).count + (b.count + c.count) } =
    ap (λ n. record { first = (block_at bs i).first; count = n }) (add_assoc (block_at bs i).count b.count c.count) in
    subst Q (sym read)
    (subst R (sym read_after)
    (subst P
    (sym
    (ap (λ j. slice_set (remove bs (suc i)) j new) (before_suc i) ∙ set_removed bs i new v
    ∙ ap (λ a. take i bs ++ a ∷ drop (suc (suc i)) bs) same))
    (given_between bs i b.first b.count last g v (before_end bs i b.first e) (f ∙ ceiling_in (suc i) bs (last + 1) v))))

-- A block that was read ends among the cells.
pub read_within : (bs : List FreeBlock) (i : ℕ) (b : FreeBlock) (last : ℕ) → i < length bs → b ≡ get_or bs i b → AreBlocks 0 bs (last + 1)
    → b.first + b.count ≤ last
read_within bs i b last w r h =
    let P : FreeBlock → Type 0 = λ a. a.first + a.count ≤ last in
    let end = block_end 0 bs (last + 1) i h w in
    subst P (sym (block_read bs i b w r)) (omega arith)

-- If a gap touches nothing, there is a record for a block more.
pub alone_room : (bs : List FreeBlock) (at : ℕ) (b : FreeBlock) (last : ℕ) → IsGap bs at b.first b.count last
    → (b.first + 1 ≡ floor_at at bs → ⊥) → (b.first + b.count ≡ ceiling_at at bs (last + 1) → ⊥)
    → length bs < last / 2 + 1
alone_room bs at b last g low high =
    let many = blocks_length 0 (insert bs at b) (last + 1) (put_alone bs at b last g low high).blocks in
    let more = length-insert bs at b g.place in
    omega arith
