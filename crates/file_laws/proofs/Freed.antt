-- The steps of a call that gives a file's blocks back.
use Rattle.std.proofs.Common.{◌≡◌, ℕ, zero, suc, ◌+◌, ◌/◌, ◌%◌, ◌<◌, ◌≤◌, false, cond, nat_lt, List, [], ◌∷◌, ◌++◌, length, take, refl, sym, ap, ◌∙◌, subst, arith, slice_index, slice_set, get_or-set_same, get_or-set_other, length-set, ⊎_elim}
use Rattle.std.specs.List.{flat_map}
use Rattle.std.proofs.lemmas.List.{set-set}
use Rattle.std.proofs.lemmas.Bool.{cases_lt}
use Rattle.std.proofs.lemmas.Bool.Decides.{nat_tests}
use Rattle.lfs_format.specs.declared.Entry.{Entry}
use Rattle.lfs_format.specs.declared.Index.{Index}
use Rattle.lfs_format.specs.Words.{word_of}
use Rattle.lfs_format.specs.Indexes.{IsIndexPut}
use Rattle.lfs_check.specs.declared.fields.Header.{Header}
use Rattle.lfs_check.specs.Geometries.{index_count, first_data}
use Rattle.lfs_check.specs.Rules.{block_in}
use Rattle.lfs_check.specs.Meets.{null, times_met}
use Rattle.lfs_check.specs.Laid.{Shape, Places, numbers_at, index_in, index_put}
use Rattle.lfs_check.specs.Clean.{LaidIn}
use Rattle.lfs_check.specs.Fields.{numbered_values, link_in_bytes}
use Rattle.lfs_check.proofs.Steps.{times_in-part, differs, Laid-link, Laid-index_put, Laid-data_freed}
use Rattle.lfs_check.proofs.Changed.{Laid-changed}
use Rattle.lfs_check.proofs.Instances.{dropped}
use Rattle.lfs_check.specs.Disks.{block_put, entries, entry_at, disk_geometry}
use Rattle.lfs_check.proofs.BlockPuts.{put_other}
use Rattle.lfs_check.proofs.IndexSteps.{Laid-index_taken, Laid-index_freed}
use Rattle.file_laws.specs.Middle.{shape_with, IsMiddle}
use Rattle.file_laws.proofs.Created.{flat_same}
use Rattle.file_laws.proofs.Rewritten.{entry_count}
use Rattle.file_laws.proofs.Middles.{middle_put, shape_index, no_data}

-- of no bytes none are taken
take-nil : (n : ℕ) → take {A = ℕ} n [] ≡ []
take-nil zero = refl
take-nil (suc n) = refl

-- The file is cut to nothing, in memory: the call holds its blocks.
pub middle_dropped : (n : ℕ) (base disk : List ℕ) (header : Header) (slot : ℕ) (entry entry' : Entry) (p : Places) (bytes : List ℕ)
    → IsMiddle n base disk header slot entry p bytes
    → entry'.name ≡ entry.name → entry'.size ≡ 0 → entry'.first ≡ null
    → IsMiddle n base disk header slot entry' (record p {
      chains = slice_set p.chains slot [];
      datas = slice_set p.datas slot [];
      held_index = numbers_at p.chains slot ++ p.held_index;
      held_data = numbers_at p.datas slot ++ p.held_data;
    }) []
middle_dropped n base disk header slot entry entry' p bytes m name size first =
    let g = disk_geometry n in let d = shape_with n disk header slot entry in
    let low = m.low in
    let count : length (entries disk) ≡ 78 = entry_count disk n m.long (omega (arith, low)) in
    let inside : slot < length d.entries = (let t = length-set (entries disk) slot entry in let s = m.slot_is in
    omega (arith, count, s, t)) in
    let p' : Places = record p {
      chains = slice_set p.chains slot [];
      datas = slice_set p.datas slot [];
      held_index = numbers_at p.chains slot ++ p.held_index;
      held_data = numbers_at p.datas slot ++ p.held_data;
    } in
    let lies = Laid-changed (index_count g) (first_data g) n d _ p slot entry' [] [] _ _
    (dropped d p slot entry' inside size first) m.laid in
    let R : List Entry → Type 0 = λ es. LaidIn g (let s : Shape =
    record { header = header; entries = es; indexes = d.indexes; links = d.links } in s) p' in
    let datas_long = m.laid.datas in
    record {
      from = m.from;
      long = m.long;
      directory = m.directory;
      laid = subst R (set-set (entries disk) slot entry entry') lies;
      named = name ∙ m.named;
      others = λ k l ne u. ap (λ bs. take (entry_at base k).size (flat_map (block_in disk) bs)) (get_or-set_other p.datas slot k [] [] ne)
          ∙ m.others k l ne u;
      mine = ap (λ bs. take entry'.size (flat_map (block_in disk) bs))
          (get_or-set_same p.datas slot [] [] (omega (arith, inside, datas_long))) ∙ take-nil entry'.size;
    }

-- The data block that is held first goes before the free ones, once its first word names them.
pub middle_data_freed : (n : ℕ) (base disk : List ℕ) (header : Header) (slot : ℕ) (entry : Entry) (p : Places) (bytes : List ℕ) (b : ℕ)
    (rest : List ℕ) → IsMiddle n base disk header slot entry p bytes
    → p.held_data ≡ b ∷ rest → slice_index (numbered_values (link_in_bytes disk) n) b ≡ header.free_data
    → IsMiddle n base disk (record header { free_data = b }) slot entry (record p { free_data = b ∷ p.free_data; held_data = rest }) bytes
middle_data_freed n base disk header slot entry p bytes b rest m e named = record {
  from = m.from;
  long = m.long;
  directory = m.directory;
  laid = Laid-data_freed (index_count (disk_geometry n)) (first_data (disk_geometry n)) n
      (shape_with n disk header slot entry) p b rest e named m.laid;
  named = m.named;
  others = m.others;
  mine = m.mine;
}

-- The index block that is held first goes before the free ones, once it names them.
pub middle_index_freed : (n : ℕ) (base disk : List ℕ) (header : Header) (slot : ℕ) (entry : Entry) (p : Places) (bytes : List ℕ) (i : ℕ)
    (rest : List ℕ) → IsMiddle n base disk header slot entry p bytes
    → p.held_index ≡ i ∷ rest → (index_in (shape_with n disk header slot entry) i).next ≡ header.free_index
    → IsMiddle n base disk (record header { free_index = i }) slot entry (record p {
      free_index = i ∷ p.free_index;
      held_index = rest;
    }) bytes
middle_index_freed n base disk header slot entry p bytes i rest m e named = record {
  from = m.from;
  long = m.long;
  directory = m.directory;
  laid = Laid-index_freed (index_count (disk_geometry n)) (first_data (disk_geometry n)) n
      (shape_with n disk header slot entry) p i rest e named m.laid;
  named = m.named;
  others = m.others;
  mine = m.mine;
}

-- The first free index block is taken, in memory.
pub middle_index_taken : (n : ℕ) (base disk : List ℕ) (header : Header) (slot : ℕ) (entry : Entry) (p : Places) (bytes : List ℕ) (i : ℕ)
    (rest : List ℕ) → IsMiddle n base disk header slot entry p bytes
    → p.free_index ≡ i ∷ rest
    → IsMiddle n base disk (record header {
      free_index =
          (index_in (shape_with n disk header slot entry) header.free_index).next;
    }) slot entry (record p {
      free_index = rest;
      held_index = i ∷ p.held_index;
    }) bytes
middle_index_taken n base disk header slot entry p bytes i rest m e = record {
  from = m.from;
  long = m.long;
  directory = m.directory;
  laid = Laid-index_taken (index_count (disk_geometry n)) (first_data (disk_geometry n)) n
      (shape_with n disk header slot entry) p i rest e m.laid;
  named = m.named;
  others = m.others;
  mine = m.mine;
}

-- An index block that the call holds is written. The file's bytes stay.
pub middle_index_held : (n : ℕ) (base disk : List ℕ) (header : Header) (slot : ℕ) (entry : Entry) (p : Places) (bytes : List ℕ) (i : ℕ)
    (index : Index) (block : List ℕ) → IsMiddle n base disk header slot entry p bytes
    → 1 ≤ times_met i p.held_index → IsIndexPut (block_in disk (6 + i / 7)) (i % 7) index block
    → IsMiddle n base (block_put disk (6 + i / 7) block) header slot entry p bytes
middle_index_held n base disk header slot entry p bytes i index block m held q =
    let g = disk_geometry n in let d = shape_with n disk header slot entry in let at = 6 + i / 7 in
    let one = m.laid.one_index i in let low = m.low in
    let below : i < index_count g = in_index (index_count g) i (omega (arith, one, held)) in
    let in_disk : at < first_data g = omega (arith, below) in
    let in_n : at < n = omega (arith, in_disk, low) in
    let none = no_data n d p at m.laid in_disk in
    let P : Shape → Type 0 = λ x. LaidIn g x p in
    let Q : List ℕ → Type 0 = λ x. IsMiddle n base (block_put disk at block) header slot entry p x in
    let part = times_in-part at p.datas slot in let z = none.0 in
    subst Q (ap (take entry.size) (flat_same (block_in (block_put disk at block)) (block_in disk) (numbers_at p.datas slot) (λ j l.
    put_other disk at n block (slice_index (numbers_at p.datas slot) j) m.long in_n q.long
    (differs (numbers_at p.datas slot) j at (omega (arith, part, z)) l))) ∙ m.mine)
    (middle_put n base disk header header slot entry entry p p bytes at block m (omega arith) in_n q.long
    (λ k ne. (let part = times_in-part at p.datas k in omega (arith, part, z))) (λ k ne. refl) refl
    (subst P (sym (shape_index n disk header slot entry i index block m.long in_n below q))
    (Laid-link (index_count g) (first_data g) n (index_put d i index) p at (word_of block) none.1
    (Laid-index_put (index_count g) (first_data g) n d p i index held m.laid))))
  where
    in_index : (many i : ℕ) → 1 ≤ cond (nat_lt i many) 1 0 → i < many
    in_index many i h = ⊎_elim (λ lt. lt) (λ ge. (let e : nat_lt i many ≡ false = grind (arith, nat_tests) in
        let z : ◌≡◌ {A = ℕ} (cond (nat_lt i many) 1 0) 0 = ap (λ c. cond c 1 0) e in absurd (omega (arith, h, z)))) (cases_lt i many)
