-- A disk on which all files but one are kept holds the files at rest, if that one isn't.
use Rattle.std.proofs.Common.{◌≡◌, ◌≢◌, ℕ, zero, suc, ◌<◌, ◌≤◌, Bool, true, false, cond, List, [], ◌∷◌, length, take, refl, sym, ap, ◌∙◌, subst, arith, slice_index_or, ⊎_elim, ◌⊎◌, inl, inr, Option, Some, None, bytes_eq}
use Rattle.std.specs.Option.{option_map}
use Rattle.std.specs.List.{flat_map, find}
use Rattle.std.proofs.lemmas.Bool.{cases_eq, false≢true, and_parts}
use Rattle.std.proofs.lemmas.Slice.Eq.{bytes_eq-Decides}
use Rattle.lfs_format.specs.declared.Entry.{Entry}
use Rattle.lfs_format.specs.Directory.{void_entry}
use Rattle.lfs_check.specs.Rules.{entry_is_used, is_name}
use Rattle.lfs_check.specs.Meets.{times_met}
use Rattle.lfs_check.specs.Checks.{met_of, need_data, data_row}
use Rattle.lfs_check.specs.declared.geometry.Geometry.{Geometry}
use Rattle.lfs_check.specs.Laid.{FileLies, Places, numbers_at}
use Rattle.lfs_check.specs.Fields.{geometry_of, fields_of}
use Rattle.lfs_check.specs.Disks.{disk_geometry, entries, entry_at, is_this}
use Rattle.lfs_check.proofs.Right.{version_is}
use Rattle.lfs_check.proofs.Steps.{times_in-two, times_in-part}
use Rattle.lfs_check.proofs.KeepsAll.{either-way}
use Rattle.lfs_layout.specs.Files.{bare_name}
use Rattle.lfs_layout.specs.Images.{IsCleanImage}
use Rattle.xinu_model.specs.Files.Stored.{StoredFile, file_named}
use Rattle.file_laws.specs.StoredFiles.{stored, stored_files, entry_chain, entry_data}
use Rattle.file_laws.specs.Holds.{HasStored, Holds}
use Rattle.file_laws.proofs.Names.{name_padded}
use Rattle.file_laws.proofs.Named.{IsName, bytes_sized, length_entries, names_differ, named_by, file_in}
use Rattle.file_laws.proofs.Kept.{IsKept, ended_geometry}

-- a test passes in a place of a list, and not before it
record IsFound (test : Entry → Bool) (es : List Entry) : Type 0 where
  place : ℕ
  below : place < length es
  passes : test (slice_index_or es place void_entry) ≡ true
  is : find test es ≡ Some (slice_index_or es place void_entry)

-- it passes nowhere
record IsNowhere (test : Entry → Bool) (es : List Entry) : Type 0 where
  all : (k : ℕ) → k < length es → test (slice_index_or es k void_entry) ≡ false
  is : find test es ≡ None

-- one of the two is so
found_or_not : (test : Entry → Bool) (es : List Entry) → IsFound test es ⊎ IsNowhere test es
found_or_not test [] = inr (record { all = λ k h. absurd (omega (arith, h)); is = refl })
found_or_not test (e ∷ es) = either-way (test e) (λ v. test e ≡ v → IsFound test (e ∷ es) ⊎ IsNowhere test (e ∷ es))
    (λ _ t. inl (record { place = 0; below = omega arith; passes = t; is = ap (λ v. cond v (Some e) (find test es)) t }))
    (λ _ t. ⊎_elim
    (λ (f : IsFound test es). inl (record {
      place = suc f.place;
      below = (let b = f.below in omega (arith, b));
      passes = f.passes;
      is = ap (λ v. cond v (Some e) (find test es)) t ∙ f.is;
    }))
    (λ (f : IsNowhere test es). inr (record { all = nowhere e es t f.all; is = ap (λ v. cond v (Some e) (find test es)) t ∙ f.is }))
    (found_or_not test es))
    refl
  where
    nowhere : (e : Entry) (es : List Entry) → test e ≡ false → ((k : ℕ) → k < length es → test (slice_index_or es k void_entry) ≡ false)
        → (k : ℕ) → k < length (e ∷ es) → test (slice_index_or (e ∷ es) k void_entry) ≡ false
    nowhere e es t all zero h = t
    nowhere e es t all (suc k) h = all k (omega (arith, h))

-- The disk holds the files of the base whose names are at rest.
pub kept_holds : (n : ℕ) (base disk : List ℕ) (slot : ℕ) (p : Places) (rests : List ℕ → Bool) → IsCleanImage base
    → IsKept n base disk slot p
    → (slot < 78 → entry_is_used (entry_at base slot) ≡ true → rests (bare_name (entry_at base slot).name) ≡ false)
    → (slot < 78 → entry_is_used (entry_at disk slot) ≡ true → rests (bare_name (entry_at disk slot).name) ≡ false)
    → Holds disk (stored_files base) rests
kept_holds n base disk slot p rests c kept busy now = record {
  version = version_is disk n kept.long kept.low kept.ends;
  each = each;
  chains = λ i j k hj hk ne rj rk. ⊎_elim
      (λ zj. (let one = most_chain i k hk rk in let z = no_chain i j hj rj zj in omega (arith, one, z)))
      (λ nj. ⊎_elim
      (λ zk. (let one = most_chain i j hj rj in let z = no_chain i k hk rk zk in omega (arith, one, z)))
      (λ nk. (let a = times_in-two i p.chains j k ne in let one = kept.one_index i in let q = ap (times_met i) (kept.chain j hj nj) in
      let r = ap (times_met i) (kept.chain k hk nk) in omega (arith, a, one, q, r)))
      (cases_eq k slot))
      (cases_eq j slot);
  datas = λ b j k hj hk ne rj rk. ⊎_elim
      (λ zj. (let one = most_data b k hk rk in let z = no_data b j hj rj zj in omega (arith, one, z)))
      (λ nj. ⊎_elim
      (λ zk. (let one = most_data b j hj rj in let z = no_data b k hk rk zk in omega (arith, one, z)))
      (λ nk. (let a = times_in-two b p.datas j k ne in let one = kept.one_data b in let q = ap (times_met b) (kept.data_is j hj nj) in
      let r = ap (times_met b) (kept.data_is k hk nk) in omega (arith, a, one, q, r)))
      (cases_eq k slot))
      (cases_eq j slot);
  once = λ b k hk rk. (most_chain b k hk rk, most_data b k hk rk);
}
  where
    -- the entry of the slot has no file at rest
    no_file : (k : ℕ) → k < 78 → rests (bare_name (entry_at disk k).name) ≡ true → k ≡ slot → entry_is_used (entry_at disk k) ≡ false
    no_file k h r e = either-way (entry_is_used (entry_at disk k)) (λ v. entry_is_used (entry_at disk k) ≡ v → v ≡ false)
        (λ _ u. absurd (false≢true (sym (now (let q : slot < 78 = omega (arith, h, e) in
        q) (ap (λ i. entry_is_used (entry_at disk i)) (sym e) ∙ u)) ∙ ap (λ i. rests (bare_name (entry_at disk i).name)) (sym e) ∙ r)))
        (λ _ u. refl) refl

    no_chain : (i k : ℕ) → k < 78 → rests (bare_name (entry_at disk k).name) ≡ true → k ≡ slot
        → times_met i (entry_chain disk (entry_at disk k)) ≡ 0
    no_chain i k h r e = let x = entry_at disk k in let g = geometry_of disk in
        ap (λ v. times_met i (cond v (met_of g (fields_of g disk).indexes x) [])) (no_file k h r e)

    no_data : (b k : ℕ) → k < 78 → rests (bare_name (entry_at disk k).name) ≡ true → k ≡ slot
        → times_met b (entry_data disk (entry_at disk k)) ≡ 0
    no_data b k h r e = let x = entry_at disk k in let g = geometry_of disk in let ix = (fields_of g disk).indexes in
        ap (λ v. times_met b (cond v (take (need_data x) (flat_map (data_row ix) (met_of g ix x))) [])) (no_file k h r e)

    most_chain : (i k : ℕ) → k < 78 → rests (bare_name (entry_at disk k).name) ≡ true → times_met i (entry_chain disk (entry_at disk k)) ≤ 1
    most_chain i k h r = ⊎_elim
        (λ e. (let z = no_chain i k h r e in omega (arith, z)))
        (λ ne. (let q = ap (times_met i) (kept.chain k h ne) in let part = times_in-part i p.chains k in let one = kept.one_index i in
        omega (arith, q, part, one)))
        (cases_eq k slot)

    most_data : (b k : ℕ) → k < 78 → rests (bare_name (entry_at disk k).name) ≡ true → times_met b (entry_data disk (entry_at disk k)) ≤ 1
    most_data b k h r = ⊎_elim
        (λ e. (let z = no_data b k h r e in omega (arith, z)))
        (λ ne. (let q = ap (times_met b) (kept.data_is k h ne) in let part = times_in-part b p.datas k in let one = kept.one_data b in
        omega (arith, q, part, one)))
        (cases_eq k slot)

    count : length (entries base) ≡ 78
    count = (length_entries base c).0

    -- a file of the base lies in its blocks
    lies : (k : ℕ) → k < 78 → k ≢ slot → entry_is_used (entry_at base k) ≡ true
        → FileLies (fields_of (geometry_of disk) disk) (entry_at disk k) (entry_chain disk (entry_at disk k)) (entry_data disk (entry_at disk k))
    lies k h ne u =
        let x = entry_at disk k in
        let P : List ℕ → Type 0 = λ chain. FileLies (fields_of (disk_geometry n) disk) x chain (numbers_at p.datas k) in
        let Q : List ℕ → Type 0 = λ blocks. FileLies (fields_of (disk_geometry n) disk) x (entry_chain disk x) blocks in
        let R : Geometry → Type 0 = λ g. FileLies (fields_of g disk) x (entry_chain disk x) (entry_data disk x) in
        subst R (sym (ended_geometry n disk kept.long kept.low kept.ends))
        (subst Q (sym (kept.data_is k h ne)) (subst P (sym (kept.chain k h ne)) (kept.lies k h ne u)))

    -- a used entry of a name
    is_so : (name : List ℕ) (e : Entry) → is_this name e ≡ true → (entry_is_used e ≡ true) × (e.name ≡ name)
    is_so name e t = let two = and_parts (entry_is_used e) (bytes_eq e.name name) t in (two.0, (bytes_eq-Decides e.name name).0 two.1)

    -- the entry of the slot hasn't a name at rest
    not_slot : (name : List ℕ) (k : ℕ) → k < 78 → rests (bare_name name) ≡ true → k ≡ slot → is_this name (entry_at disk k) ≡ false
    not_slot name k h r e = either-way (is_this name (entry_at disk k)) (λ v. is_this name (entry_at disk k) ≡ v → v ≡ false)
        (λ _ t. (let two = is_so name (entry_at disk k) t in absurd (false≢true (sym (no_file k h (ap (λ x. rests (bare_name x)) two.1
        ∙ r) e) ∙ two.0)))) (λ _ t. refl) refl

    each : (name : List ℕ) → is_name 27 name ≡ true → length name ≡ 28 → rests (bare_name name) ≡ true
        → HasStored disk name (file_named (bare_name name) (stored_files base))
    each name is long r =
        let h : IsName name = record { padded = name_padded 27 name is; long = long } in
        let by = named_by base name c h in
        let file : Option Entry → Option StoredFile = λ o.
        option_map stored (option_map (file_in (geometry_of base) (fields_of (geometry_of base) base).indexes base) o) in
        let P : Option StoredFile → Type 0 = λ o. HasStored disk name o in
        subst P (sym by) (⊎_elim
        (λ (f : IsFound (is_this name) (entries base)). (let k = f.place in
        let two = is_so name (entry_at base k) f.passes in
        let lt : k < 78 = (let b = f.below in let c = count in omega (arith, b, c)) in
        let ne : k ≢ slot = λ q. false≢true (sym (busy (let z : slot < 78 = omega (arith, lt, q) in
        z) (ap (λ i. entry_is_used (entry_at base i)) (sym q) ∙ two.0)) ∙ ap (λ i. rests (bare_name (entry_at base i).name)) (sym q)
        ∙ ap (λ x. rests (bare_name x)) two.1 ∙ r) in
        subst P (sym (ap file f.is)) (record {
          slot = k;
          below = lt;
          this = ap (is_this name) (kept.entry k lt ne) ∙ f.passes;
          read = kept.bytes k lt ne two.0;
          size = ap (λ (e : Entry). e.size) (kept.entry k lt ne) ∙ sym (bytes_sized base c k lt two.0);
          lies = lies k lt ne two.0;
          only = λ j l other. ⊎_elim (λ q. not_slot name j l r q) (λ q. ap (is_this name) (kept.entry j l q)
              ∙ alone name k j lt l other two.0 two.1) (cases_eq j slot);
        })))
        (λ (f : IsNowhere (is_this name) (entries base)). subst P (sym (ap file f.is))
        (λ k l. ⊎_elim (λ q. not_slot name k l r q) (λ q. ap (is_this name) (kept.entry k l q)
        ∙ f.all k (let c = count in omega (arith, l, c))) (cases_eq k slot)))
        (found_or_not (is_this name) (entries base)))
      where
        alone : (name : List ℕ) (k j : ℕ) → k < 78 → j < 78 → j ≢ k → entry_is_used (entry_at base k) ≡ true → (entry_at base k).name ≡ name
            → is_this name (entry_at base j) ≡ false
        alone name k j hk hj ne u e = either-way (is_this name (entry_at base j)) (λ v. is_this name (entry_at base j) ≡ v → v ≡ false)
            (λ _ t. (let two = and_parts (entry_is_used (entry_at base j)) (bytes_eq (entry_at base j).name name) t in
            absurd (false≢true (sym (names_differ base c k j hk hj ne u two.0) ∙ ap (bytes_eq (entry_at base j).name) e ∙ two.1)))) (λ _ t.
            refl) refl
