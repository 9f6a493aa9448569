-- The blocks of a file are freed, one after another.
use Rattle.std.proofs.Common.{◌≡◌, ◌≢◌, ℕ, zero, suc, ◌+◌, ◌-◌, ◌/◌, ◌%◌, ◌<◌, ◌≤◌, nat_lt, List, [], ◌∷◌, ◌++◌, length, drop, refl, sym, ap, ◌∙◌, arith, slice_index, slice_set, get_or-set_same, length-set, length-drop, ⊎_elim}
use Rattle.std.proofs.lemmas.List.{append-nil, drop_all}
use Rattle.std.proofs.lemmas.Bool.{cases_eq}
use Rattle.lfs_format.specs.declared.Entry.{Entry}
use Rattle.lfs_format.specs.declared.Index.{Index}
use Rattle.lfs_format.specs.Words.{word_of}
use Rattle.lfs_format.specs.Indexes.{index_at, IsIndexPut}
use Rattle.lfs_check.specs.declared.fields.Header.{Header}
use Rattle.lfs_check.specs.Geometries.{index_count}
use Rattle.lfs_check.specs.Rules.{block_in}
use Rattle.lfs_check.specs.Meets.{null, times_met}
use Rattle.lfs_check.specs.Laid.{Places, no_index, numbers_at, index_in}
use Rattle.lfs_check.specs.Fields.{numbered_values, link_in_bytes}
use Rattle.lfs_check.specs.Disks.{disk_geometry, block_put, entries}
use Rattle.lfs_check.proofs.Numbered.{numbered-at}
use Rattle.lfs_check.proofs.Steps.{times-two, at_most_one}
use Rattle.lfs_check.proofs.BlockPuts.{put_same, put_other}
use Rattle.lfs_check.proofs.Writes.{link_read}
use Rattle.file_laws.specs.Middle.{shape_with, IsMiddle}
use Rattle.file_laws.specs.Changing.{IsCut}
use Rattle.file_laws.proofs.Rewritten.{entry_count}
use Rattle.file_laws.proofs.Middles.{middle_held}
use Rattle.file_laws.proofs.Freed.{middle_dropped, middle_data_freed, middle_index_freed, middle_index_held}
use Rattle.file_laws.proofs.Reached.{middle_read, index_on}
use Rattle.file_laws.proofs.Patched.{held_range, times_first}

-- a list from an element on
drop_first : (xs : List ℕ) (j : ℕ) → j < length xs → drop j xs ≡ slice_index xs j ∷ drop (suc j) xs
drop_first [] j h = absurd (omega (arith, h))
drop_first (x ∷ xs) zero h = refl
drop_first (x ∷ xs) (suc j) h = drop_first xs j (omega (arith, h))

-- an element after others
slice_drop : (xs : List ℕ) (a k : ℕ) → slice_index (drop a xs) k ≡ slice_index xs (a + k)
slice_drop xs zero k = ap (slice_index xs) (let e : k ≡ 0 + k = omega arith in e)
slice_drop [] (suc a) k = refl
slice_drop (x ∷ xs) (suc a) k = slice_drop xs a k ∙ ap (slice_index (x ∷ xs)) (let e : suc (a + k) ≡ suc a + k = omega arith in e)

-- The file is cut, in memory: none of its blocks is free yet.
pub cut_begins : (n : ℕ) (base disk : List ℕ) (header : Header) (slot : ℕ) (entry after : Entry) (p : Places) (bytes : List ℕ)
    → IsMiddle n base disk header slot entry p bytes → p.held_index ≡ [] → p.held_data ≡ [] → after.name ≡ entry.name → after.size ≡ 0
    → after.first ≡ null
    → IsCut n base disk header slot after (record p {
      chains = slice_set p.chains slot [];
      datas = slice_set p.datas slot [];
      held_index = numbers_at p.chains slot ++ p.held_index;
      held_data =
          numbers_at p.datas slot ++ p.held_data;
    }) (numbers_at p.chains slot) (numbers_at p.datas slot) 0 0
cut_begins n base disk header slot entry after p bytes m no_index no_data name size first =
    let chain = numbers_at p.chains slot in let blocks = numbers_at p.datas slot in
    let low = m.low in let s = m.slot_is in let cl = m.laid.chains in let dl = m.laid.datas in
    let count = entry_count disk n m.long (omega (arith, low)) in let t = length-set (entries disk) slot entry in
    record {
      middle = middle_dropped n base disk header slot entry after p bytes m name size first;
      held_index = ap (λ x. chain ++ x) no_index ∙ append-nil chain;
      held_data = ap (λ x. blocks ++ x) no_data ∙ append-nil blocks;
      no_chain = get_or-set_same p.chains slot [] [] (omega (arith, count, s, t, cl));
      no_blocks = get_or-set_same p.datas slot [] [] (omega (arith, count, s, t, dl));
      index = λ k l h. (middle_read n base disk header slot entry p bytes m).index k h;
    }

-- A data block of the file is written with the number of the first free one, and is then the first.
pub cut_data : (n : ℕ) (base disk : List ℕ) (header : Header) (slot : ℕ) (entry : Entry) (p : Places) (chain blocks : List ℕ) (j c : ℕ)
    (block : List ℕ)
    → IsCut n base disk header slot entry p chain blocks j c → c < length blocks → length block ≡ 512 → word_of block ≡ header.free_data
    → IsCut n base (block_put disk (slice_index blocks c) block) (record header { free_data = slice_index blocks c }) slot entry
    (record p { free_data = slice_index blocks c ∷ p.free_data; held_data = drop (suc c) blocks }) chain blocks j (suc c)
cut_data n base disk header slot entry p chain blocks j c block cut h wide word =
    let b = slice_index blocks c in let m = cut.middle in
    let made = block_put disk b block in
    let held : p.held_data ≡ b ∷ drop (suc c) blocks = cut.held_data ∙ drop_first blocks c h in
    let t = times_first b p.held_data (drop (suc c) blocks) held in
    let range = held_range n base disk header slot entry p [] b m t in
    let put = middle_held n base disk header slot entry p [] b block m t wide in
    let link : slice_index (numbered_values (link_in_bytes made) n) b ≡ header.free_data =
    numbered-at (link_in_bytes made) n b 0 range.1 ∙ link_read made b ∙ ap word_of (put_same disk b n block m.long range.1 wide) ∙ word in
    record {
      middle = middle_data_freed n base made header slot entry p [] b (drop (suc c) blocks) put held link;
      held_index = cut.held_index;
      held_data = refl;
      no_chain = cut.no_chain;
      no_blocks = cut.no_blocks;
      index = λ k l q. (let r = cut.index k l q in let i = slice_index chain k in let below = r.below in let low = range.0 in
          record {
            below = below;
            read = ap (index_at (i % 7)) (put_other disk b n block (6 + i / 7) m.long range.1 wide (λ e.
                omega (arith, e, below, low))) ∙ r.read;
          });
    }

-- An index block of the file is written with the number of the first free one, and is then the first.
pub cut_index : (n : ℕ) (base disk : List ℕ) (header : Header) (slot : ℕ) (entry : Entry) (p : Places) (chain blocks : List ℕ) (j c : ℕ)
    (index : Index) (block : List ℕ)
    → IsCut n base disk header slot entry p chain blocks j c → j < length chain → index.next ≡ header.free_index
    → IsIndexPut (block_in disk (6 + slice_index chain j / 7)) (slice_index chain j % 7) index block
    → IsCut n base (block_put disk (6 + slice_index chain j / 7) block) (record header { free_index = slice_index chain j }) slot entry
    (record p { free_index = slice_index chain j ∷ p.free_index; held_index = drop (suc j) chain }) chain blocks (suc j) c
cut_index n base disk header slot entry p chain blocks j c index block cut h next put =
    let i = slice_index chain j in let m = cut.middle in let at = 6 + i / 7 in
    let made = block_put disk at block in
    let held : p.held_index ≡ i ∷ drop (suc j) chain = cut.held_index ∙ drop_first chain j h in
    let t = times_first i p.held_index (drop (suc j) chain) held in
    let below = (cut.index j (omega arith) h).below in let low = m.low in
    let in_n : at < n = omega (arith, below, low) in
    let written = middle_index_held n base disk header slot entry p [] i index block m t put in
    let named : (index_in (shape_with n made header slot entry) i).next ≡ header.free_index =
    ap (λ (x : Index). x.next) (index_on n made header slot entry i below
    ∙ ap (index_at (i % 7)) (put_same disk at n block m.long in_n put.long) ∙ put.here) ∙ next in
    record {
      middle = middle_index_freed n base made header slot entry p [] i (drop (suc j) chain) written held named;
      held_index = refl;
      held_data = cut.held_data;
      no_chain = cut.no_chain;
      no_blocks = cut.no_blocks;
      index = λ k l q. (let r = cut.index k (omega (arith, l)) q in let x = slice_index chain k in let lower = r.below in
          let ne : x ≢ i = λ e. (let v = times_first_two k j chain p.held_index cut.held_index q l e in let one = m.laid.one_index i in
          let most = at_most_one (nat_lt i (index_count (disk_geometry n))) in omega (arith, v, one, most)) in
          record {
            below = lower;
            read = ⊎_elim
                (λ (s : 6 + x / 7 ≡ at). (ap (λ b. index_at (x % 7) (block_in made b)) s
                ∙ ap (index_at (x % 7)) (put_same disk at n block m.long in_n put.long)
                ∙ put.there (x % 7) (omega arith) (λ e. ne (omega (arith, e, s))) ∙ ap (λ b. index_at (x % 7) (block_in disk b)) (sym s)
                ∙ r.read))
                (λ (o : 6 + x / 7 ≢ at). (ap (index_at (x % 7)) (put_other disk at n block (6 + x / 7) m.long in_n put.long o) ∙ r.read))
                (cases_eq (6 + x / 7) at);
          });
    }
  where
    times_first_two : (k j : ℕ) (chain held : List ℕ) → held ≡ drop j chain → k < length chain → suc j ≤ k
        → slice_index chain k ≡ slice_index chain j → 2 ≤ times_met (slice_index chain j) held
    times_first_two k j chain held is q l e =
        let x = slice_index chain j in
        let zero_at : slice_index (drop j chain) 0 ≡ x = slice_drop chain j 0
        ∙ ap (slice_index chain) (let z : j + 0 ≡ j = omega arith in z) in
        let later_at : slice_index (drop j chain) (k - j) ≡ x = slice_drop chain j (k - j)
        ∙ ap (slice_index chain) (let z : j + (k - j) ≡ k = omega (arith, l) in z) ∙ e in
        let d = length-drop j chain in
        let two = times-two (drop j chain) 0 (k - j) x (λ z. omega (arith, z, l)) (omega (arith, d, q, l))
        (omega (arith, d, q, l)) zero_at later_at in
        let s : times_met x held ≡ times_met x (drop j chain) = ap (times_met x) is in omega (arith, two, s)

-- All blocks of the file are free.
pub cut_ends : (n : ℕ) (base disk : List ℕ) (header : Header) (slot : ℕ) (entry : Entry) (p : Places) (chain blocks : List ℕ) (j c : ℕ)
    → IsCut n base disk header slot entry p chain blocks j c → length chain ≤ j → length blocks ≤ c
    → (p.held_index ≡ []) × (p.held_data ≡ [])
cut_ends n base disk header slot entry p chain blocks j c cut a b =
    (cut.held_index ∙ drop_all j chain a, cut.held_data ∙ drop_all c blocks b)
