-- Lemmas on the entries of a directory block.
use Rattle.std.proofs.Common.{◌≡◌, ℕ, zero, suc, ◌+◌, ◌*◌, ◌^◌, ◌<◌, ◌≤◌, ◌-◌, List, [], ◌∷◌, ◌++◌, length, get_or, slice_index, take, drop, refl, sym, ap, ◌∙◌, arith, append_assoc, add-one, length-append, length-drop, length-take}
use Rattle.std.proofs.lemmas.List.{drop_at, take_at, drop-take, take_all, drop_all, append-nil, take_more, flat_map_more}
use Rattle.std.proofs.lemmas.Slice.{take-put_mid}
use Rattle.std.proofs.Math.Seq.{drop-drop}
use Rattle.std.specs.List.{flat_map}
use borrow.Rule.Slice.PartMut.{put_mid}
use Rattle.lfs_format.specs.declared.Entry.{Entry}
use Rattle.lfs_format.specs.declared.Dir.{Dir}
use Rattle.lfs_format.specs.Words.{words_of, word_bytes}
use Rattle.lfs_format.specs.Pieces.{pieces_of}
use Rattle.lfs_format.specs.Directory.{entry_made, entry_of, entry_bytes, dir_of, dir_made, dir_words, dir_bytes, dir_ending, EntryFits, void_entry, entry_1_made, entry_1_of}
use Rattle.lfs_format.proofs.Words.{words_of-take, words_of-bytes, length-word_bytes}

-- a write after a front
put_tail : (front rest ys : List ℕ) (a k : ℕ) → length front ≡ a → length rest ≤ k → put_mid a k (front ++ rest) ys ≡ front ++ ys
put_tail front rest ys a k f r =
    let one : take a (front ++ rest) ≡ front = take_at front rest a f in
    let two : drop k (drop a (front ++ rest)) ≡ [] = ap (drop k) (drop_at front rest a f) ∙ drop_all k rest r in
    ap (λ x. x ++ (ys ++ drop k (drop a (front ++ rest)))) one ∙ ap (λ x. front ++ (ys ++ x)) two ∙ ap (λ x. front ++ x) (append-nil ys)

name_of-take : (width m : ℕ) (bytes : List ℕ) → m ≡ 8 + width → take width (drop 8 (take m bytes)) ≡ take width (drop 8 bytes)
name_of-take width m bytes e =
    let short : length (take width (drop 8 bytes)) ≤ width = omega (arith, length-take width (drop 8 bytes)) in
    ap (λ k. take width (drop 8 (take k bytes))) e ∙ ap (take width) (drop-take 8 width bytes) ∙ take_all width (take width (drop 8 bytes)) short

-- no byte after the entry is read
pub entry_of-take : (m : ℕ) (bytes : List ℕ) → m ≡ 36 → entry_of (take m bytes) ≡ entry_of bytes
entry_of-take m bytes e =
    let words : words_of 2 (take m bytes) ≡ words_of 2 bytes = words_of-take 2 m bytes (omega arith) in
    ap (λ w. entry_made w (take 28 (drop 8 (take m bytes)))) words ∙ ap (entry_made (words_of 2 bytes)) (name_of-take 28 m bytes e)

pub entry_1_of-take : (m : ℕ) (bytes : List ℕ) → m ≡ 24 → entry_1_of (take m bytes) ≡ entry_1_of bytes
entry_1_of-take m bytes e =
    let words : words_of 2 (take m bytes) ≡ words_of 2 bytes = words_of-take 2 m bytes (omega arith) in
    ap (λ w. entry_1_made w (take 16 (drop 8 (take m bytes)))) words ∙ ap (entry_1_made (words_of 2 bytes)) (name_of-take 16 m bytes e)

-- one value more
pub pieces_of-more : {A : Type 0} → (read : List ℕ → A) (width n : ℕ) (bytes : List ℕ) → pieces_of read width (n + 1) bytes ≡ pieces_of read width n bytes ++ read (drop (width * n) bytes) ∷ []
unfolding pieces_of
pieces_of-more read width zero bytes = let e : 0 ≡ width * 0 = omega arith in ap (λ k. read (drop k bytes) ∷ []) e
pieces_of-more read width (suc n) bytes =
    let i = pieces_of-more read width n (drop width bytes) in
    let e : width + width * n ≡ width * suc n = grind arith in
    let step : pieces_of read width (suc n + 1) bytes ≡ read bytes ∷ pieces_of read width (n + 1) (drop width bytes) = rw (add-one, add-one) refl in
    step ∙ ap (λ x. read bytes ∷ x) i ∙ ap (λ x. read bytes ∷ (pieces_of read width n (drop width bytes) ++ read x ∷ [])) (drop-drop (width * n) width bytes ∙ ap (λ k. drop k bytes) e)

pub length-entry_bytes : (entry : Entry) → EntryFits entry → length (entry_bytes entry) ≡ 36
unfolding entry_bytes
length-entry_bytes entry f = length-append (word_bytes (entry.size ∷ entry.first ∷ [])) entry.name ∙ (let l = length-word_bytes (entry.size ∷ entry.first ∷ []) in let n = f.name in omega (arith, l, n))

two_fit : (a b : ℕ) → a < 2 ^ 32 → b < 2 ^ 32 → (k : ℕ) → slice_index (a ∷ b ∷ []) k < 2 ^ 32
two_fit a b p q zero = p
two_fit a b p q (suc zero) = q
two_fit a b p q (suc (suc k)) = omega arith

three_fit : (a b c : ℕ) → a < 2 ^ 32 → b < 2 ^ 32 → c < 2 ^ 32 → (k : ℕ) → slice_index (a ∷ b ∷ c ∷ []) k < 2 ^ 32
three_fit a b c p q r zero = p
three_fit a b c p q r (suc zero) = q
three_fit a b c p q r (suc (suc zero)) = r
three_fit a b c p q r (suc (suc (suc k))) = omega arith

-- an entry that was written is read again
pub entry_of-bytes : (entry : Entry) (rest : List ℕ) → EntryFits entry → entry_of (entry_bytes entry ++ rest) ≡ entry
unfolding entry_bytes
entry_of-bytes entry rest f =
    let ws = entry.size ∷ entry.first ∷ [] in
    let split : entry_bytes entry ++ rest ≡ word_bytes ws ++ (entry.name ++ rest) = append_assoc (word_bytes ws) entry.name rest in
    let words : words_of 2 (entry_bytes entry ++ rest) ≡ ws = ap (words_of 2) split ∙ words_of-bytes ws (entry.name ++ rest) (two_fit entry.size entry.first f.size f.first) in
    let name : take 28 (drop 8 (entry_bytes entry ++ rest)) ≡ entry.name =
    ap (λ x. take 28 (drop 8 x)) split ∙ ap (take 28) (drop_at (word_bytes ws) (entry.name ++ rest) 8 (length-word_bytes ws)) ∙ take_at entry.name rest 28 f.name in
    ap (λ w. entry_made w (take 28 (drop 8 (entry_bytes entry ++ rest)))) words ∙ ap (entry_made ws) name

pub entries_of-bytes : (entries : List Entry) (rest : List ℕ) → ((k : ℕ) → k < length entries → EntryFits (get_or entries k void_entry)) → pieces_of entry_of 36 (length entries) (flat_map entry_bytes entries ++ rest) ≡ entries
unfolding pieces_of
entries_of-bytes [] rest f = refl
entries_of-bytes (e ∷ entries) rest f =
    let fits = f 0 (omega arith) in
    let split : flat_map entry_bytes (e ∷ entries) ++ rest ≡ entry_bytes e ++ (flat_map entry_bytes entries ++ rest) = append_assoc (entry_bytes e) (flat_map entry_bytes entries) rest in
    let i = entries_of-bytes entries rest (λ k h. f (suc k) (omega arith)) in
    let head = ap entry_of split ∙ entry_of-bytes e (flat_map entry_bytes entries ++ rest) fits in
    let tail = ap (λ x. pieces_of entry_of 36 (length entries) (drop 36 x)) split ∙ ap (pieces_of entry_of 36 (length entries)) (drop_at (entry_bytes e) (flat_map entry_bytes entries ++ rest) 36 (length-entry_bytes e fits)) ∙ i in
    ap (λ x. x ∷ pieces_of entry_of 36 (length entries) (drop 36 (flat_map entry_bytes (e ∷ entries) ++ rest))) head ∙ ap (λ x. e ∷ x) tail

-- a directory block that was written is read again
pub dir_of-bytes : (dir : Dir) → dir.free_data < 2 ^ 32 → dir.free_index < 2 ^ 32 → dir.files < 2 ^ 32 → length dir.entries ≡ 13
    → ((k : ℕ) → k < 13 → EntryFits (get_or dir.entries k void_entry)) → dir_of (dir_bytes dir) ≡ dir
unfolding dir_of dir_bytes
dir_of-bytes dir a b c l f =
    let ws = dir_words dir in
    let tail = flat_map entry_bytes dir.entries ++ dir_ending in
    let split : dir_bytes dir ≡ word_bytes ws ++ tail = append_assoc (word_bytes ws) (flat_map entry_bytes dir.entries) dir_ending in
    let words : words_of 3 (dir_bytes dir) ≡ ws = ap (words_of 3) split ∙ words_of-bytes ws tail (three_fit dir.free_data dir.free_index dir.files a b c) in
    let entries : pieces_of entry_of 36 13 (drop 12 (dir_bytes dir)) ≡ dir.entries =
    ap (λ x. pieces_of entry_of 36 13 (drop 12 x)) split ∙ ap (pieces_of entry_of 36 13) (drop_at (word_bytes ws) tail 12 (length-word_bytes ws))
    ∙ ap (λ n. pieces_of entry_of 36 n tail) (sym l) ∙ entries_of-bytes dir.entries dir_ending (λ k h. f k (omega arith)) in
    ap (λ w. dir_made w (pieces_of entry_of 36 13 (drop 12 (dir_bytes dir)))) words ∙ ap (dir_made ws) entries

pub put_entry-is : (words part dst name' name : List ℕ) → dst ≡ word_bytes words → length words ≡ 2 → length part ≡ 36 → name' ≡ name
    → put_mid 8 (length (dst ++ drop 8 part) - 8) (dst ++ drop 8 part) name' ≡ word_bytes words ++ name
put_entry-is words part dst name' name e l p n =
    let eight : length dst ≡ 8 = ap length e ∙ length-word_bytes words ∙ ap (λ k. 4 * k) l in
    let r : length (drop 8 part) ≤ length (dst ++ drop 8 part) - 8 = omega (arith, length-append dst (drop 8 part), eight) in
    put_tail dst (drop 8 part) name' 8 (length (dst ++ drop 8 part) - 8) eight r ∙ ap (λ x. x ++ name') e ∙ ap (λ x. word_bytes words ++ x) n

-- one entry more of a block that is written
pub written_more : (front block part : List ℕ) (entries : List Entry) (e : ℕ) → e < length entries → 12 + 36 * e ≤ length block → part ≡ entry_bytes (get_or entries e void_entry) → length part ≡ 36
    → take (12 + 36 * e) block ≡ front ++ flat_map entry_bytes (take e entries)
    → take (12 + 36 * (e + 1)) (put_mid (12 + 36 * e) 36 block part) ≡ front ++ flat_map entry_bytes (take (e + 1) entries)
written_more front block part entries e lt room p l inv =
    take-put_mid (12 + 36 * e) 36 block part (12 + 36 * (e + 1)) (omega arith) room
    ∙ ap (λ x. x ++ part) inv ∙ ap (λ x. (front ++ flat_map entry_bytes (take e entries)) ++ x) p
    ∙ flat_map_more entry_bytes front (take e entries) (get_or entries e void_entry) ∙ ap (λ x. front ++ flat_map entry_bytes x) (sym (take_more entries e void_entry lt))

pub length-put : (a k : ℕ) (block part : List ℕ) → length part ≡ k → a + k ≤ length block → length (put_mid a k block part) ≡ length block
length-put a k block part l h =
    let t = length-take a block in let d = length-drop k (drop a block) in let e = length-drop a block in
    let one = length-append (take a block) (part ++ drop k (drop a block)) in
    let two = length-append part (drop k (drop a block)) in omega (arith, t, d, e, one, two, l)

-- the block after its last write
pub written_all : (front block part ending : List ℕ) (entries : List Entry) (e : ℕ) → length block ≡ 512 → e ≡ 13 → length entries ≡ 13 → part ≡ ending
    → take (12 + 36 * e) block ≡ front ++ flat_map entry_bytes (take e entries) → put_mid 480 32 block part ≡ (front ++ flat_map entry_bytes entries) ++ ending
written_all front block part ending entries e l thirteen many same inv =
    let at : 480 ≡ 12 + 36 * e = omega arith in
    let all : take e entries ≡ entries = take_all e entries (omega arith) in
    let one : take 480 block ≡ front ++ flat_map entry_bytes entries = ap (λ k. take k block) at ∙ inv ∙ ap (λ x. front ++ flat_map entry_bytes x) all in
    let none : drop 32 (drop 480 block) ≡ [] = drop_all 32 (drop 480 block) (omega (arith, length-drop 480 block)) in
    ap (λ x. x ++ (part ++ drop 32 (drop 480 block))) one ∙ ap (λ x. (front ++ flat_map entry_bytes entries) ++ (part ++ x)) none
    ∙ ap (λ x. (front ++ flat_map entry_bytes entries) ++ x) (append-nil part ∙ same)
