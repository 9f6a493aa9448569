-- Each step of a call keeps how files lie.
use Rattle.std.proofs.Common.{◌≡◌, ◌≢◌, ℕ, zero, suc, ◌+◌, ◌*◌, ◌/◌, ◌<◌, ◌≤◌, Bool, true, false, cond, not, ◌&&◌, nat_lt, nat_eq, List, [], ◌∷◌, ◌++◌, length, slice_index, slice_index_or, slice_set, take, drop, replicate, refl, sym, ap, ◌∙◌, subst, arith, get_or-set_other, get_or-set_same, length-set, ⊎_elim, eq-eqb}
use Rattle.std.proofs.Common.{append_assoc, length-append, length-drop}
use Rattle.std.proofs.lemmas.List.{drop-append-le, take-append-le}
use Rattle.std.proofs.lemmas.Bool.{cases_eq, false≢true}
use Rattle.lfs_format.specs.declared.Entry.{Entry}
use Rattle.lfs_format.specs.declared.Index.{Index}
use Rattle.lfs_check.specs.Rules.{entry_is_used}
use Rattle.lfs_format.specs.Directory.{void_entry}
use Rattle.lfs_check.specs.Laid.{Shape, no_index, index_in, entry_in, IsChain, Places, numbers_at, times_in, index_for, FileLies, Laid, with_header, data_taken, data_put, index_put, data_freed, entry_put}
use Rattle.lfs_check.specs.Meets.{null, times_met}

-- an element of a list is in it
pub times-at : (xs : List ℕ) (j n : ℕ) → j < length xs → slice_index xs j ≡ n → 1 ≤ times_met n xs
times-at [] j n h e = absurd (omega arith)
times-at (x ∷ xs) zero n h e = let t : nat_eq x n ≡ true = eq-eqb x n e in rw t (omega arith)
times-at (x ∷ xs) (suc j) n h e = let i = times-at xs j n (omega arith) e in omega (arith, i)

-- a number at two places is met at least twice
pub times-two : (xs : List ℕ) (j k n : ℕ) → j ≢ k → j < length xs → k < length xs → slice_index xs j ≡ n → slice_index xs k ≡ n → 2 ≤ times_met n xs
times-two [] j k n ne h i e f = absurd (omega arith)
times-two (x ∷ xs) zero zero n ne h i e f = absurd (ne refl)
times-two (x ∷ xs) zero (suc k) n ne h i e f = let t : nat_eq x n ≡ true = eq-eqb x n e in let one = times-at xs k n (omega arith) f in rw t (omega (arith, one))
times-two (x ∷ xs) (suc j) zero n ne h i e f = let t : nat_eq x n ≡ true = eq-eqb x n f in let one = times-at xs j n (omega arith) e in rw t (omega (arith, one))
times-two (x ∷ xs) (suc j) (suc k) n ne h i e f = let two = times-two xs j k n (λ s. ne (ap suc s)) (omega arith) (omega arith) e f in omega (arith, two)

-- no other number of a chain is met
pub differs : (xs : List ℕ) (j n : ℕ) → times_met n xs ≡ 0 → j < length xs → slice_index xs j ≢ n
differs xs j n z h e = let t = times-at xs j n h e in omega (arith, t, z)

-- the chain without its first
pub IsChain-rest : (next : ℕ → ℕ) (head : ℕ) (b : ℕ) (rest : List ℕ) → IsChain next head (b ∷ rest) → IsChain next (next head) rest
IsChain-rest next head b rest c = record {
  starts = ap next c.starts ∙ c.goes_on 0 (omega arith);
  goes_on = λ j h. c.goes_on (suc j) (omega arith);
}

-- a number before the first
pub IsChain-more : (next : ℕ → ℕ) (head b : ℕ) (rest : List ℕ) → IsChain next head rest → next b ≡ head → IsChain next b (b ∷ rest)
IsChain-more next head b rest c e = record { starts = refl; goes_on = at_each }
  where
    at_each : (j : ℕ) → j < length (b ∷ rest) → next (slice_index (b ∷ rest) j) ≡ slice_index_or (b ∷ rest) (suc j) null
    at_each zero h = e ∙ c.starts
    at_each (suc j) h = c.goes_on j (omega arith)

-- a chain stays if the next of its numbers stay
pub IsChain-same : (next next' : ℕ → ℕ) (head : ℕ) (chain : List ℕ) → IsChain next head chain → ((j : ℕ) → j < length chain → next' (slice_index chain j) ≡ next (slice_index chain j)) → IsChain next' head chain
IsChain-same next next' head chain c same = record { starts = c.starts; goes_on = λ j h. same j h ∙ c.goes_on j h }

-- a number is in two lists as often as in both together
pub times-append : (n : ℕ) (xs ys : List ℕ) → times_met n (xs ++ ys) ≡ times_met n xs + times_met n ys
times-append n [] ys = omega arith
times-append n (x ∷ xs) ys = let i = times-append n xs ys in omega (arith, i)

-- one list of several
pub times_in-part : (n : ℕ) (lists : List (List ℕ)) (e : ℕ) → times_met n (numbers_at lists e) ≤ times_in n lists
times_in-part n [] e = omega arith
times_in-part n (l ∷ lists) zero = omega arith
times_in-part n (l ∷ lists) (suc e) = let i = times_in-part n lists e in omega (arith, i)

-- two lists of several
pub times_in-two : (n : ℕ) (lists : List (List ℕ)) (e f : ℕ) → e ≢ f → times_met n (numbers_at lists e) + times_met n (numbers_at lists f) ≤ times_in n lists
times_in-two n [] e f ne = omega arith
times_in-two n (l ∷ lists) zero zero ne = absurd (ne refl)
times_in-two n (l ∷ lists) zero (suc f) ne = let i = times_in-part n lists f in omega (arith, i)
times_in-two n (l ∷ lists) (suc e) zero ne = let i = times_in-part n lists e in omega (arith, i)
times_in-two n (l ∷ lists) (suc e) (suc f) ne = let i = times_in-two n lists e f (λ s. ne (ap suc s)) in omega (arith, i)

-- another list in the place of one
pub times_in-set : (n : ℕ) (lists : List (List ℕ)) (e : ℕ) (l' : List ℕ) → e < length lists → times_in n (slice_set lists e l') + times_met n (numbers_at lists e) ≡ times_in n lists + times_met n l'
times_in-set n [] e l' h = absurd (omega arith)
times_in-set n (l ∷ lists) zero l' h = omega arith
times_in-set n (l ∷ lists) (suc e) l' h = let i = times_in-set n lists e l' (omega arith) in omega (arith, i)

-- a test counts for at most one
pub at_most_one : (b : Bool) → cond b 1 0 ≤ 1
at_most_one true = omega arith
at_most_one false = omega arith

-- taking a free data block: only the directory in memory changes
pub Laid-data_taken : (many low high : ℕ) (d : Shape) (p : Places) (b : ℕ) (rest : List ℕ) → p.free_data ≡ b ∷ rest → Laid many low high d p
    → Laid many low high (data_taken d) (record p { free_data = rest; held_data = b ∷ p.held_data })
Laid-data_taken many low high d p b rest e l =
    let P : List ℕ → Type 0 = λ xs. IsChain (λ n. slice_index d.links n) d.header.free_data xs in
    let c = subst P e l.free_data in
    record {
      chains = l.chains;
      datas = l.datas;
      file = λ n h u. record { indexes = (l.file n h u).indexes; datas = (l.file n h u).datas; first = (l.file n h u).first; each = (l.file n h u).each };
      no_file = l.no_file;
      free_index = l.free_index;
      free_data = IsChain-rest (λ n. slice_index d.links n) d.header.free_data b rest c;
      one_index = l.one_index;
      one_data = λ n. (let one = l.one_data n in let f : times_met n p.free_data ≡ times_met n (b ∷ rest) = ap (times_met n) e in omega (arith, one, f));
    }

-- a block that is held is in no other place
pub held_data_alone : (many low high : ℕ) (d : Shape) (p : Places) (b : ℕ) → Laid many low high d p → 1 ≤ times_met b p.held_data → (times_met b p.free_data ≡ 0) × (times_in b p.datas ≡ 0)
held_data_alone many low high d p b l h =
    let one = l.one_data b in
    let most = at_most_one (nat_lt b high && not (nat_lt b low)) in
    (omega (arith, one, most), omega (arith, one, most))

-- a held index block is in no chain and isn't free
pub held_index_alone : (many low high : ℕ) (d : Shape) (p : Places) (i : ℕ) → Laid many low high d p → 1 ≤ times_met i p.held_index → (times_met i p.free_index ≡ 0) × (times_in i p.chains ≡ 0)
held_index_alone many low high d p i l h =
    let one = l.one_index i in
    let most = at_most_one (nat_lt i many) in
    (omega (arith, one, most), omega (arith, one, most))

-- writing a block that isn't free, as its fields tell
pub Laid-link : (many low high : ℕ) (d : Shape) (p : Places) (b word : ℕ) → times_met b p.free_data ≡ 0 → Laid many low high d p → Laid many low high (data_put d b word) p
Laid-link many low high d p b word away l =
    record {
      chains = l.chains;
      datas = l.datas;
      file = λ n k u. record { indexes = (l.file n k u).indexes; datas = (l.file n k u).datas; first = (l.file n k u).first; each = (l.file n k u).each };
      no_file = l.no_file;
      free_index = l.free_index;
      free_data = IsChain-same (λ n. slice_index d.links n) (λ n. slice_index (slice_set d.links b word) n) d.header.free_data p.free_data l.free_data
          (λ j k. get_or-set_other d.links b (slice_index p.free_data j) word 0 (differs p.free_data j b away k));
      one_index = l.one_index;
      one_data = l.one_data;
    }

-- writing a block that is held
pub Laid-data_put : (many low high : ℕ) (d : Shape) (p : Places) (b word : ℕ) → 1 ≤ times_met b p.held_data → Laid many low high d p → Laid many low high (data_put d b word) p
Laid-data_put many low high d p b word h l =
    let away = held_data_alone many low high d p b l h in
    record {
      chains = l.chains;
      datas = l.datas;
      file = λ n k u. record { indexes = (l.file n k u).indexes; datas = (l.file n k u).datas; first = (l.file n k u).first; each = (l.file n k u).each };
      no_file = l.no_file;
      free_index = l.free_index;
      free_data = IsChain-same (λ n. slice_index d.links n) (λ n. slice_index (slice_set d.links b word) n) d.header.free_data p.free_data l.free_data
          (λ j k. get_or-set_other d.links b (slice_index p.free_data j) word 0 (differs p.free_data j b away.0 k));
      one_index = l.one_index;
      one_data = l.one_data;
    }

-- writing an index block that is held
pub Laid-index_put : (many low high : ℕ) (d : Shape) (p : Places) (i : ℕ) (index : Index) → 1 ≤ times_met i p.held_index → Laid many low high d p → Laid many low high (index_put d i index) p
Laid-index_put many low high d p i index h l =
    let away = held_index_alone many low high d p i l h in
    record {
      chains = l.chains;
      datas = l.datas;
      file = λ n k u. record {
        indexes = (l.file n k u).indexes;
        datas = (l.file n k u).datas;
        first = (l.file n k u).first;
        each = λ j m. (let none : times_met i (numbers_at p.chains n) ≡ 0 = (let part = times_in-part i p.chains n in omega (arith, part, away.1)) in
            get_or-set_other d.indexes i (slice_index (numbers_at p.chains n) j) index no_index (differs (numbers_at p.chains n) j i none m) ∙ (l.file n k u).each j m);
      };
      no_file = l.no_file;
      free_index = IsChain-same (λ n. (index_in d n).next) (λ n. (index_in (index_put d i index) n).next) d.header.free_index p.free_index l.free_index
          (λ j k. ap (λ (x : Index). x.next) (get_or-set_other d.indexes i (slice_index p.free_index j) index no_index (differs p.free_index j i away.0 k)));
      free_data = l.free_data;
      one_index = l.one_index;
      one_data = l.one_data;
    }

-- giving the block that is held first back to the free ones, once it names them
pub Laid-data_freed : (many low high : ℕ) (d : Shape) (p : Places) (b : ℕ) (rest : List ℕ) → p.held_data ≡ b ∷ rest → slice_index d.links b ≡ d.header.free_data → Laid many low high d p
    → Laid many low high (data_freed d b) (record p { free_data = b ∷ p.free_data; held_data = rest })
Laid-data_freed many low high d p b rest e named l =
    record {
      chains = l.chains;
      datas = l.datas;
      file = λ n h u. record { indexes = (l.file n h u).indexes; datas = (l.file n h u).datas; first = (l.file n h u).first; each = (l.file n h u).each };
      no_file = l.no_file;
      free_index = l.free_index;
      free_data = IsChain-more (λ n. slice_index d.links n) d.header.free_data b p.free_data l.free_data named;
      one_index = l.one_index;
      one_data = λ n. (let one = l.one_data n in let f : times_met n p.held_data ≡ times_met n (b ∷ rest) = ap (times_met n) e in omega (arith, one, f));
    }

-- the index blocks that are full stay as they are if data blocks are appended
pub index_for-more : (j : ℕ) (chain blocks more : List ℕ) → 16 * j + 16 ≤ length blocks → index_for j chain (blocks ++ more) ≡ index_for j chain blocks
index_for-more j chain blocks more h =
    let nulls = replicate 16 null in
    let rest = drop (16 * j) blocks in
    let long : 16 ≤ length rest = omega (arith, length-drop (16 * j) blocks) in
    let one : take 16 (drop (16 * j) (blocks ++ more) ++ nulls) ≡ take 16 rest =
    ap (λ x. take 16 (x ++ nulls)) (drop-append-le (16 * j) blocks more (omega arith)) ∙ ap (take 16) (append_assoc rest more nulls) ∙ take-append-le 16 rest (more ++ nulls) long in
    let two : take 16 (rest ++ nulls) ≡ take 16 rest = take-append-le 16 rest nulls long in
    ap (λ (x : List ℕ). let r : Index = record { next = slice_index_or chain (suc j) null; offset = 8192 * j; blocks = x } in r) (one ∙ sym two)

-- a file lies where it lay, if its index blocks stay
pub FileLies-same : (d d' : Shape) (entry : Entry) (chain blocks : List ℕ) → FileLies d entry chain blocks
    → ((j : ℕ) → j < length chain → index_in d' (slice_index chain j) ≡ index_in d (slice_index chain j)) → FileLies d' entry chain blocks
FileLies-same d d' entry chain blocks f same = record { indexes = f.indexes; datas = f.datas; first = f.first; each = λ j h. same j h ∙ f.each j h }

-- the file of an entry to which a data block was added, in an index block with room
pub FileLies-added : (d : Shape) (entry entry' : Entry) (chain blocks : List ℕ) (b j : ℕ) → FileLies d entry chain blocks
    → suc j ≡ length chain → length blocks < 16 * length chain → slice_index chain j < length d.indexes → times_met (slice_index chain j) chain ≤ 1
    → entry'.first ≡ entry.first → (entry'.size + 8191) / 8192 ≡ length chain → (entry'.size + 511) / 512 ≡ length blocks + 1
    → FileLies (index_put d (slice_index chain j) (index_for j chain (blocks ++ b ∷ []))) entry' chain (blocks ++ b ∷ [])
FileLies-added d entry entry' chain blocks b j f last room below once first i_size d_size = record {
  indexes = sym i_size;
  datas = length-append blocks (b ∷ []) ∙ sym d_size;
  first = first ∙ f.first;
  each = λ k h. ⊎_elim
      (λ same. (ap (λ n. index_in (index_put d (slice_index chain j) (index_for j chain (blocks ++ b ∷ []))) (slice_index chain n)) same
      ∙ get_or-set_same d.indexes (slice_index chain j) (index_for j chain (blocks ++ b ∷ [])) no_index below
      ∙ ap (λ n. index_for n chain (blocks ++ b ∷ [])) (sym same)))
      (λ other. (let away : slice_index chain k ≢ slice_index chain j = λ e. (let two = times-two chain k j (slice_index chain j) other (omega arith) (omega arith) e refl in omega (arith, two, once)) in
      let full : 16 * k + 16 ≤ length blocks = omega (arith, f.indexes, f.datas, h, other, last) in
      get_or-set_other d.indexes (slice_index chain j) (slice_index chain k) (index_for j chain (blocks ++ b ∷ [])) no_index away ∙ f.each k h ∙ sym (index_for-more k chain blocks (b ∷ []) full)))
      (cases_eq k j);
}

-- a file of another entry, when the index block of a file is written
pub FileLies-other : (many low high : ℕ) (d : Shape) (p : Places) (e f i : ℕ) (index : Index) → Laid many low high d p → e ≢ f → 1 ≤ times_met i (numbers_at p.chains e)
    → FileLies d (entry_in d f) (numbers_at p.chains f) (numbers_at p.datas f) → FileLies (index_put d i index) (entry_in d f) (numbers_at p.chains f) (numbers_at p.datas f)
FileLies-other many low high d p e f i index l ne has lies =
    let none : times_met i (numbers_at p.chains f) ≡ 0 = (let two = times_in-two i p.chains e f ne in let one = l.one_index i in let most = at_most_one (nat_lt i many) in omega (arith, two, one, most, has)) in
    FileLies-same d (index_put d i index) (entry_in d f) (numbers_at p.chains f) (numbers_at p.datas f) lies
    (λ j h. get_or-set_other d.indexes i (slice_index (numbers_at p.chains f) j) index no_index (differs (numbers_at p.chains f) j i none h))

-- what changes when a data block is added to the file of an entry
abbrev pub added : Shape → ℕ → ℕ → Entry → Index → Shape
added d e i entry index = entry_put (index_put d i index) e entry

-- files still lie after a held data block was added to one of them
pub Laid-data_added : (many low high : ℕ) (d : Shape) (p : Places) (e j b : ℕ) (rest : List ℕ) (entry' : Entry) → Laid many low high d p
    → e < length d.entries → entry_is_used (entry_in d e) ≡ true → entry_is_used entry' ≡ true
    → p.held_data ≡ b ∷ rest → suc j ≡ length (numbers_at p.chains e) → length (numbers_at p.datas e) < 16 * length (numbers_at p.chains e)
    → slice_index (numbers_at p.chains e) j < length d.indexes
    → entry'.first ≡ (entry_in d e).first → (entry'.size + 8191) / 8192 ≡ length (numbers_at p.chains e) → (entry'.size + 511) / 512 ≡ length (numbers_at p.datas e) + 1
    → Laid many low high (added d e (slice_index (numbers_at p.chains e) j) entry' (index_for j (numbers_at p.chains e) (numbers_at p.datas e ++ b ∷ [])))
    (record p { datas = slice_set p.datas e (numbers_at p.datas e ++ b ∷ []); held_data = rest })
Laid-data_added many low high d p e j b rest entry' l h used used' held last room below first i_size d_size =
    let chain = numbers_at p.chains e in
    let blocks = numbers_at p.datas e in
    let i = slice_index chain j in
    let index = index_for j chain (blocks ++ b ∷ []) in
    let d' = added d e i entry' index in
    let has : 1 ≤ times_met i chain = times-at chain j i (omega arith) refl in
    let part = times_in-part i p.chains e in
    let all = l.one_index i in
    let most = at_most_one (nat_lt i many) in
    let once : times_met i chain ≤ 1 = omega (arith, part, all, most) in
    let free : times_met i p.free_index ≡ 0 = omega (arith, part, all, most, has) in
    let in_datas : e < length p.datas = omega (arith, l.datas, h) in
    let len : length d'.entries ≡ length d.entries = length-set d.entries e entry' in
    let mine : FileLies d' entry' chain (blocks ++ b ∷ []) = (let m = FileLies-added d (entry_in d e) entry' chain blocks b j (l.file e h used) last room below once first i_size d_size in record { indexes = m.indexes; datas = m.datas; first = m.first; each = m.each }) in
    record {
      chains = l.chains ∙ sym len;
      datas = length-set p.datas e (blocks ++ b ∷ []) ∙ l.datas ∙ sym len;
      file = λ f k u. ⊎_elim
          (λ same. (let P : ℕ → Type 0 = λ n. FileLies d' (entry_in d' n) (numbers_at p.chains n) (numbers_at (slice_set p.datas e (blocks ++ b ∷ [])) n) in
          let at_e : entry_in d' e ≡ entry' = get_or-set_same d.entries e entry' void_entry h in
          let data_e : numbers_at (slice_set p.datas e (blocks ++ b ∷ [])) e ≡ blocks ++ b ∷ [] = get_or-set_same p.datas e (blocks ++ b ∷ []) [] in_datas in
          let Q : Entry → Type 0 = λ x. FileLies d' x chain (numbers_at (slice_set p.datas e (blocks ++ b ∷ [])) e) in
          let R : List ℕ → Type 0 = λ x. FileLies d' entry' chain x in
          subst P (sym same) (subst Q (sym at_e) (subst R (sym data_e) mine))))
          (λ other. (let ne : e ≢ f = λ s. other (sym s) in
          let at_f : entry_in d' f ≡ entry_in d f = get_or-set_other d.entries e f entry' void_entry other in
          let data_f : numbers_at (slice_set p.datas e (blocks ++ b ∷ [])) f ≡ numbers_at p.datas f = get_or-set_other p.datas e f (blocks ++ b ∷ []) [] other in
          let used_f : entry_is_used (entry_in d f) ≡ true = ap entry_is_used (sym at_f) ∙ u in
          let lies = FileLies-other many low high d p e f i index l ne has (l.file f (omega (arith, k, len)) used_f) in
          let lies' : FileLies d' (entry_in d f) (numbers_at p.chains f) (numbers_at p.datas f) = record { indexes = lies.indexes; datas = lies.datas; first = lies.first; each = lies.each } in
          let Q : Entry → Type 0 = λ x. FileLies d' x (numbers_at p.chains f) (numbers_at (slice_set p.datas e (blocks ++ b ∷ [])) f) in
          let R : List ℕ → Type 0 = λ x. FileLies d' (entry_in d f) (numbers_at p.chains f) x in
          subst Q (sym at_f) (subst R (sym data_f) lies')))
          (cases_eq f e);
      no_file = λ f k u. ⊎_elim
          (λ same. absurd (false≢true (sym u ∙ ap (λ n. entry_is_used (entry_in d' n)) same ∙ ap entry_is_used (get_or-set_same d.entries e entry' void_entry h) ∙ used')))
          (λ other. (let at_f : entry_in d' f ≡ entry_in d f = get_or-set_other d.entries e f entry' void_entry other in
          let no = l.no_file f (omega (arith, k, len)) (ap entry_is_used (sym at_f) ∙ u) in
          (no.0, get_or-set_other p.datas e f (blocks ++ b ∷ []) [] other ∙ no.1)))
          (cases_eq f e);
      free_index = IsChain-same (λ n. (index_in d n).next) (λ n. (index_in d' n).next) d.header.free_index p.free_index l.free_index
          (λ k m. ap (λ (x : Index). x.next) (get_or-set_other d.indexes i (slice_index p.free_index k) index no_index (differs p.free_index k i free m)));
      free_data = l.free_data;
      one_index = l.one_index;
      one_data = λ n. (let one = l.one_data n in let f : times_met n p.held_data ≡ times_met n (b ∷ rest) = ap (times_met n) held in
          let s = times_in-set n p.datas e (blocks ++ b ∷ []) in_datas in let a = times-append n blocks (b ∷ []) in omega (arith, one, f, s, a));
    }

-- an empty file in an unused entry
pub Laid-created : (many low high : ℕ) (d : Shape) (p : Places) (e count : ℕ) (entry' : Entry) → Laid many low high d p
    → e < length d.entries → entry_is_used (entry_in d e) ≡ false → entry'.size ≡ 0 → entry'.first ≡ null
    → Laid many low high (with_header (entry_put d e entry') (record d.header { files = count })) p
Laid-created many low high d p e count entry' l h unused size first =
    let d' = with_header (entry_put d e entry') (record d.header { files = count }) in
    let len : length d'.entries ≡ length d.entries = length-set d.entries e entry' in
    let at_e : entry_in d' e ≡ entry' = get_or-set_same d.entries e entry' void_entry h in
    let none = l.no_file e h unused in
    record {
      chains = l.chains ∙ sym len;
      datas = l.datas ∙ sym len;
      file = λ f k u. ⊎_elim
          (λ same. (let P : ℕ → Type 0 = λ n. FileLies d' (entry_in d' n) (numbers_at p.chains n) (numbers_at p.datas n) in
          let Q : Entry → Type 0 = λ x. FileLies d' x (numbers_at p.chains e) (numbers_at p.datas e) in
          let c : length (numbers_at p.chains e) ≡ 0 = ap length none.0 in
          let b : length (numbers_at p.datas e) ≡ 0 = ap length none.1 in
          let mine : FileLies d' entry' (numbers_at p.chains e) (numbers_at p.datas e) = record {
            indexes = omega (arith, c, size);
            datas = omega (arith, b, size);
            first = first ∙ sym (ap (λ xs. slice_index_or xs 0 null) none.0);
            each = λ j m. absurd (omega (arith, m, c));
          } in
          subst P (sym same) (subst Q (sym at_e) mine)))
          (λ other. (let at_f : entry_in d' f ≡ entry_in d f = get_or-set_other d.entries e f entry' void_entry other in
          let lies = l.file f (omega (arith, k, len)) (ap entry_is_used (sym at_f) ∙ u) in
          let lies' : FileLies d' (entry_in d f) (numbers_at p.chains f) (numbers_at p.datas f) = record { indexes = lies.indexes; datas = lies.datas; first = lies.first; each = lies.each } in
          let Q : Entry → Type 0 = λ x. FileLies d' x (numbers_at p.chains f) (numbers_at p.datas f) in
          subst Q (sym at_f) lies'))
          (cases_eq f e);
      no_file = λ f k u. ⊎_elim
          (λ same. (let P : ℕ → Type 0 = λ n. (numbers_at p.chains n ≡ []) × (numbers_at p.datas n ≡ []) in subst P (sym same) none))
          (λ other. l.no_file f (omega (arith, k, len)) (ap entry_is_used (sym (get_or-set_other d.entries e f entry' void_entry other)) ∙ u))
          (cases_eq f e);
      free_index = l.free_index;
      free_data = l.free_data;
      one_index = l.one_index;
      one_data = l.one_data;
    }
