-- A new index block comes to a file.
use Rattle.std.proofs.Common.{◌≡◌, ℕ, zero, suc, ◌+◌, ◌*◌, ◌/◌, ◌%◌, ◌<◌, true, not, nat_eq, List, [], ◌∷◌, ◌++◌, length, take, refl, sym, ap, ◌∙◌, subst, arith, slice_index, slice_index_or, slice_set, get_or-set_same, get_or-set_other, length-set}
use Rattle.std.specs.List.{flat_map}
use Rattle.std.proofs.lemmas.List.{set-set}
use Rattle.std.proofs.lemmas.Bool.{false≢true}
use Rattle.lfs_format.specs.declared.Entry.{Entry}
use Rattle.lfs_format.specs.Words.{word_of}
use Rattle.lfs_format.specs.Directory.{void_entry}
use Rattle.lfs_format.specs.Indexes.{IsIndexPut}
use Rattle.lfs_check.specs.declared.fields.Header.{Header}
use Rattle.lfs_check.specs.Geometries.{index_count, first_data}
use Rattle.lfs_check.specs.Rules.{block_in, entry_is_used}
use Rattle.lfs_check.specs.Meets.{times_met}
use Rattle.lfs_check.specs.Laid.{Shape, Places, numbers_at, index_in, index_for, index_put}
use Rattle.lfs_check.specs.Clean.{LaidIn}
use Rattle.lfs_check.specs.Fields.{index_in_bytes}
use Rattle.lfs_check.proofs.Numbered.{length_numbered}
use Rattle.lfs_check.proofs.Steps.{times_in-part, Laid-link}
use Rattle.lfs_check.proofs.Changed.{Laid-changed, Changes}
use Rattle.lfs_check.proofs.Instances.{linked}
use Rattle.lfs_check.specs.Disks.{block_put, entries, entry_at, disk_geometry}
use Rattle.file_laws.specs.Middle.{shape_with, content_at, IsMiddle}
use Rattle.file_laws.proofs.Rewritten.{entry_count}
use Rattle.file_laws.proofs.Middles.{middle_put, shape_index, no_data}
use Rattle.lfs_check.specs.Laid as laid

-- A file without index blocks gets its first, which the call holds and which has the held data block's number: only the entry changes, in memory.
pub middle_first : (n : ℕ) (base disk : List ℕ) (header : Header) (slot : ℕ) (entry entry' : Entry) (p : Places) (bytes : List ℕ) (i b : ℕ)
    (hi hd : List ℕ) → IsMiddle n base disk header slot entry p bytes
    → p.held_index ≡ i ∷ hi → p.held_data ≡ b ∷ hd → numbers_at p.chains slot ≡ [] → numbers_at p.datas slot ≡ []
    → index_in (shape_with n disk header slot entry) i ≡ index_for 0 (i ∷ []) (b ∷ [])
    → entry'.name ≡ entry.name → entry'.first ≡ i → (entry'.size + 8191) / 8192 ≡ 1 → (entry'.size + 511) / 512 ≡ 1
    → IsMiddle n base disk header slot entry' (record p {
      chains = slice_set p.chains slot (i ∷ []);
      datas = slice_set p.datas slot (b ∷ []);
      held_index = hi;
      held_data = hd;
    })
    (content_at disk (record p {
      chains = slice_set p.chains slot (i ∷ []);
      datas = slice_set p.datas slot (b ∷ []);
      held_index = hi;
      held_data = hd;
    }) slot entry'.size)
middle_first n base disk header slot entry entry' p bytes i b hi hd m held_i held_d no_chain no_datas written name first i_size d_size =
    let g = disk_geometry n in let d = shape_with n disk header slot entry in
    let low = m.low in
    let count : length (entries disk) ≡ 78 = entry_count disk n m.long (omega (arith, low)) in
    let inside : slot < length d.entries = (let t = length-set (entries disk) slot entry in let s = m.slot_is in
    omega (arith, count, s, t)) in
    let p' : Places = record p {
      chains = slice_set p.chains slot (i ∷ []);
      datas = slice_set p.datas slot (b ∷ []);
      held_index = hi;
      held_data = hd;
    } in
    let used : entry_is_used entry' ≡ true = ap (λ x. not (nat_eq (slice_index x 0) 0)) (name ∙ m.named) ∙ m.was_used in
    let change : Changes d (laid.entry_put d slot entry') p slot entry' (i ∷ []) (b ∷ []) hi hd = record {
      in_range = inside;
      entries = refl;
      free_index = refl;
      free_data = refl;
      links = refl;
      others = λ k a c. refl;
      used = λ u. record { indexes = sym i_size; datas = sym d_size; first = first; each = one_index d slot entry' i b written };
      unused = λ u. absurd (false≢true (sym u ∙ used));
      same_index = λ k. (let s : times_met k p.held_index ≡ times_met k (i ∷ hi) = ap (times_met k) held_i in
          let z : times_met k (numbers_at p.chains slot) ≡ 0 = ap (times_met k) no_chain in omega (arith, s, z));
      same_data = λ k. (let s : times_met k p.held_data ≡ times_met k (b ∷ hd) = ap (times_met k) held_d in
          let z : times_met k (numbers_at p.datas slot) ≡ 0 = ap (times_met k) no_datas in omega (arith, s, z));
    } in
    let lies = Laid-changed (index_count g) (first_data g) n d (laid.entry_put d slot entry') p slot entry' (i ∷ [])
    (b ∷ []) hi hd change m.laid in
    let R : List Entry → Type 0 = λ es. LaidIn g (let s : Shape =
    record { header = header; entries = es; indexes = d.indexes; links = d.links } in s) p' in
    record {
      from = m.from;
      long = m.long;
      directory = m.directory;
      laid = subst R (set-set (entries disk) slot entry entry') lies;
      named = name ∙ m.named;
      others = λ k l ne u. ap (λ bs. take (entry_at base k).size (flat_map (block_in disk) bs))
          (get_or-set_other p.datas slot k (b ∷ []) [] ne) ∙ m.others k l ne u;
      mine = refl;
    }
  where
    one_index : (d : Shape) (slot : ℕ) (entry' : Entry) (i b : ℕ) → index_in d i ≡ index_for 0 (i ∷ []) (b ∷ []) → (j : ℕ)
        → j < length (i ∷ []) → index_in (laid.entry_put d slot entry') (slice_index (i ∷ []) j) ≡ index_for j (i ∷ []) (b ∷ [])
    one_index d slot entry' i b w zero h = w
    one_index d slot entry' i b w (suc j) h = absurd (omega (arith, h))

-- The last index block, which is full, names an index block that the call holds and that has the held data block's number.
pub middle_linked : (n : ℕ) (base disk : List ℕ) (header : Header) (slot : ℕ) (entry entry' : Entry) (p : Places) (bytes : List ℕ)
    (j i b : ℕ) (hi hd : List ℕ) (block : List ℕ) → IsMiddle n base disk header slot entry p bytes
    → p.held_index ≡ i ∷ hi → p.held_data ≡ b ∷ hd → suc j ≡ length (numbers_at p.chains slot)
    → length (numbers_at p.datas slot) ≡ 16 * length (numbers_at p.chains slot)
    → slice_index (numbers_at p.chains slot) j < index_count (disk_geometry n)
    → index_in (shape_with n disk header slot entry) i ≡ index_for (suc j) (numbers_at p.chains slot ++ i ∷ [])
    (numbers_at p.datas slot ++ b ∷ [])
    → entry'.name ≡ entry.name → entry'.first ≡ entry.first → (entry'.size + 8191) / 8192 ≡ length (numbers_at p.chains slot) + 1
    → (entry'.size + 511) / 512 ≡ length (numbers_at p.datas slot) + 1
    → IsIndexPut (block_in disk (6 + slice_index (numbers_at p.chains slot) j / 7)) (slice_index (numbers_at p.chains slot) j % 7)
    (index_for j (numbers_at p.chains slot ++ i ∷ []) (numbers_at p.datas slot ++ b ∷ [])) block
    → IsMiddle n base (block_put disk (6 + slice_index (numbers_at p.chains slot) j / 7) block) header slot entry'
    (record p {
      chains = slice_set p.chains slot (numbers_at p.chains slot ++ i ∷ []);
      datas = slice_set p.datas slot (numbers_at p.datas slot ++ b ∷ []);
      held_index = hi;
      held_data = hd;
    })
    (content_at (block_put disk (6 + slice_index (numbers_at p.chains slot) j / 7) block)
    (record p {
      chains = slice_set p.chains slot (numbers_at p.chains slot ++ i ∷ []);
      datas = slice_set p.datas slot (numbers_at p.datas slot ++ b ∷ []);
      held_index = hi;
      held_data = hd;
    }) slot entry'.size)
middle_linked n base disk header slot entry entry' p bytes j i b hi hd block m held_i held_d last full below written name first i_size d_size q =
    let g = disk_geometry n in
    let chain = numbers_at p.chains slot in let blocks = numbers_at p.datas slot in let k = slice_index chain j in let at = 6 + k / 7 in
    let index = index_for j (chain ++ i ∷ []) (blocks ++ b ∷ []) in
    let d = shape_with n disk header slot entry in
    let p' : Places = record p {
      chains = slice_set p.chains slot (chain ++ i ∷ []);
      datas = slice_set p.datas slot (blocks ++ b ∷ []);
      held_index = hi;
      held_data = hd;
    } in
    let low = m.low in
    let in_disk : at < first_data g = omega (arith, below) in
    let in_n : at < n = omega (arith, in_disk, low) in
    let count : length (entries disk) ≡ 78 = entry_count disk n m.long (omega (arith, low)) in
    let inside : slot < length (entries disk) = (let s = m.slot_is in omega (arith, count, s)) in
    let inside' : slot < length d.entries = (let t = length-set (entries disk) slot entry in omega (arith, inside, t)) in
    let here : slice_index_or d.entries slot void_entry ≡ entry = get_or-set_same (entries disk) slot entry void_entry inside in
    let used : entry_is_used entry ≡ true = ap (λ x. not (nat_eq (slice_index x 0) 0)) m.named ∙ m.was_used in
    let used' : entry_is_used entry' ≡ true = ap (λ x. not (nat_eq (slice_index x 0) 0)) name ∙ used in
    let below' : k < length d.indexes = (let t = length_numbered (index_in_bytes g disk) (index_count g) in omega (arith, below, t)) in
    let change = linked (index_count g) (first_data g) n d p slot j i b hi hd entry' m.laid inside' (ap entry_is_used here
    ∙ used) used' held_i held_d last full below' written (first ∙ ap (λ (x : Entry). x.first) (sym here)) i_size d_size in
    let lies = Laid-changed (index_count g) (first_data g) n d _ p slot entry' (chain ++ i ∷ []) (blocks ++ b ∷ []) hi hd change m.laid in
    let twice : slice_set d.entries slot entry' ≡ slice_set (entries disk) slot entry' = set-set (entries disk) slot entry entry' in
    let R : List Entry → Type 0 = λ es. LaidIn g (let s : Shape =
    record { header = header; entries = es; indexes = slice_set d.indexes k index; links = d.links } in s) p' in
    let lies' = subst R twice lies in
    let none = no_data n d p at m.laid in_disk in
    let P : Shape → Type 0 = λ x. LaidIn g x p' in
    middle_put n base disk header header slot entry entry' p p' bytes at block m (omega arith) in_n q.long
    (λ f ne. (let part = times_in-part at p.datas f in let z = none.0 in omega (arith, part, z)))
    (λ f ne. get_or-set_other p.datas slot f (blocks ++ b ∷ []) [] ne) name
    (subst P (sym (shape_index n disk header slot entry' k index block m.long in_n below q))
    (Laid-link (index_count g) (first_data g) n (index_put (shape_with n disk header slot entry') k index) p' at
    (word_of block) none.1 lies'))
