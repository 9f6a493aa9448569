-- A file that is judged to be held is on the disk, as it is said.
use Rattle.std.proofs.Common.{arith, ◌≡◌, ◌≢◌, ◌∙◌, ℕ, zero, suc, ◌+◌, ◌/◌, ◌<◌, ◌≤◌, Bool, true, false, cond, not, ◌&&◌, if◌then◌else◌, ◌==◌, nat_eq, List, [], ◌∷◌, ◌++◌, length, take, get_or, Option, Some, None, refl, sym, ap, subst}
use Rattle.std.specs.List.{flat_map}
use Rattle.std.specs.Option.{option_map}
use Rattle.std.specs.Prelude.{count_by, is_none}
use Rattle.std.proofs.lemmas.Bool.{and_parts, false≢true}
use Rattle.std.proofs.lemmas.Bool.Decides.{nat_tests}
use Rattle.std.proofs.lemmas.List.Sums.{sum_by-cons}
use Rattle.std.proofs.lemmas.Slice.Eq.{bytes_eq-Decides}
use Rattle.files_c.specs.Held.{IsHeld, name_in}
use Rattle.files_c.specs.Judging.{has_bytes, holds, holds_file, holds_none, is_disk, judged, times_named}
use Rattle.files_c.specs.Spans.{is_span, span}
use Rattle.files_c.specs.declared.judging.FileAtRest.{FileAtRest}
use Rattle.file_laws.specs.Holds.{HasFile, HasStored}
use Rattle.lfs_check.proofs.Directories.{entries_are}
use Rattle.lfs_check.proofs.Cleans.{FileFacts, file_lies}
use Rattle.lfs_check.proofs.Images.{fields_shape, sized_blocks, sized_most}
use Rattle.lfs_check.proofs.KeptRead.{none-is}
use Rattle.lfs_check.proofs.Nones.{offsets-each, rows-each}
use Rattle.lfs_check.specs.Checks.{data_row, end_of_walk, met_of, need_data, need_index, offsets_fault, rows_fault}
use Rattle.lfs_check.specs.Clean.{chain_in, data_in}
use Rattle.lfs_check.specs.Disks.{entries, entry_at, is_this}
use Rattle.lfs_check.specs.Fields.{directory_entries, fields_of, geometry_of, is_version_2}
use Rattle.lfs_check.specs.Geometries.{longest_name, room}
use Rattle.lfs_check.specs.Kept.{has_sound_fields, has_sound_walk, is_hidden, is_kept, is_none as no_fault, is_sound, is_whole, kept_entries, kept_from, stand_once, whole_chains, whole_datas}
use Rattle.lfs_check.specs.Laid.{FileLies}
use Rattle.lfs_check.specs.Meets.{null}
use Rattle.lfs_check.specs.Rules.{entry_is_used, is_larger, is_name, rule_0}
use Rattle.lfs_check.specs.declared.geometry.Geometry.{Geometry}
use Rattle.lfs_format.specs.Directory.{void_entry}
use Rattle.lfs_format.specs.declared.Entry.{Entry}
use Rattle.lfs_format.specs.declared.Index.{Index}
use Rattle.lfs_layout.proofs.CleanOpens.{wide_2}
use Rattle.lfs_layout.proofs.CleanRoom.{length_bytes}
use Rattle.lfs_layout.proofs.FilesSet.{bytes_named}
use Rattle.lfs_layout.proofs.KeptFiles.{whole_is}
use Rattle.lfs_layout.specs.Files.{File, content_of, entry_named, found, is_text, padded_name, content_named}
use Rattle.lfs_layout.specs.Images.{kept_files}

-- An entry of a name among entries, of which it is whole.
pub record IsFound (g : Geometry) (ix : List Index) (es : List Entry) (name : List ℕ) (e : Entry) : Type 0 where
  pub place : ℕ
  pub below : place < length es
  pub is : get_or es place void_entry ≡ e
  pub whole : is_whole g ix e ≡ true
  pub this : is_this name e ≡ true

-- a kept entry is whole
kept_is_whole : (g : Geometry) (ix : List Index) (es before : List Entry) (x : Entry) → is_kept g ix es before x ≡ true → is_whole g ix x ≡ true
kept_is_whole g ix es before x s =
    let a = is_whole g ix x in let b = not (is_hidden g ix before x) in
    let c = stand_once (chain_in g ix x) (whole_chains g ix es) in let d = stand_once (data_in g ix x) (whole_datas g ix es) in
    (and_parts a b (and_parts (a && b) c (and_parts (a && b && c) d s).0).0).0

-- an entry that is found among some is found among one more
found_later : (g : Geometry) (ix : List Index) (x : Entry) (rest : List Entry) (name : List ℕ) (e : Entry) → IsFound g ix rest name e → IsFound g ix (x ∷ rest) name e
found_later g ix x rest name e f =
    let b = f.below in record { place = suc f.place; below = omega (arith, b); is = f.is; whole = f.whole; this = f.this }

-- the first of the kept entries is the one, or a later one is
found_first : (g : Geometry) (ix : List Index) (x : Entry) (rest : List Entry) (name : List ℕ) (e : Entry) (o : Option Entry) (t : Bool) → is_whole g ix x ≡ true
    → is_this name x ≡ t → (o ≡ Some e → IsFound g ix rest name e) → cond t (Some x) o ≡ Some e → IsFound g ix (x ∷ rest) name e
found_first g ix x rest name e o true w t later h =
    let same : x ≡ e = cc in
    record {
      place = 0;
      below = omega arith;
      is = same;
      whole = subst (λ (y : Entry). is_whole g ix y ≡ true) same w;
      this = subst (λ (y : Entry). is_this name y ≡ true) same t;
    }
found_first g ix x rest name e o false w t later h = found_later g ix x rest name e (later h)

-- an entry is kept or not
found_kept : (g : Geometry) (ix : List Index) (x : Entry) (rest K : List Entry) (name : List ℕ) (e : Entry) (b : Bool) → (b ≡ true → is_whole g ix x ≡ true)
    → (entry_named name K ≡ Some e → IsFound g ix rest name e) → entry_named name (cond b (x ∷ K) K) ≡ Some e → IsFound g ix (x ∷ rest) name e
found_kept g ix x rest K name e true w later h = found_first g ix x rest name e (entry_named name K) (is_this name x) (w refl) refl later h
found_kept g ix x rest K name e false w later h = found_later g ix x rest name e (later h)

-- the entry of a name among the kept ones is whole
pub found_in : (g : Geometry) (ix : List Index) (es before rest : List Entry) (name : List ℕ) (e : Entry)
    → entry_named name (kept_from g ix es before rest) ≡ Some e → IsFound g ix rest name e
found_in g ix es before [] name e h = absurd (cc)
found_in g ix es before (x ∷ rest) name e h =
    found_kept g ix x rest (kept_from g ix es (before ++ x ∷ []) rest) name e (is_kept g ix es before x) (kept_is_whole g ix es before x)
    (found_in g ix es (before ++ x ∷ []) rest name e) h

-- how many of one entry more pass a test
one_more : (test : Entry → Bool) (e : Entry) (es : List Entry) (b : Bool) → test e ≡ b → count_by test (e ∷ es) ≡ cond b 1 0 + count_by test es
one_more test e es b t = sum_by-cons (λ x. cond (test x) 1 0) e es ∙ ap (λ b. cond b 1 0 + count_by test es) t

-- no entry passes a test that none is counted for
pub none_passes : (test : Entry → Bool) (es : List Entry) → count_by test es ≡ 0 → (j : ℕ) → j < length es → test (get_or es j void_entry) ≡ false
none_passes test [] c j h = absurd (omega (arith, h))
none_passes test (e ∷ es) c zero h = first (test e) refl
  where
    first : (b : Bool) → test e ≡ b → test e ≡ false
    first false t = t
    first true t = let more = one_more test e es true t in absurd (omega (arith, more, c))
none_passes test (e ∷ es) c (suc j) h =
    let more = sum_by-cons (λ x. cond (test x) 1 0) e es in none_passes test es (omega (arith, more, c)) j (omega (arith, h))

-- no other entry passes a test that one is counted for
pub one_passes : (test : Entry → Bool) (es : List Entry) → count_by test es ≡ 1 → (k : ℕ) → k < length es → test (get_or es k void_entry) ≡ true
    → (j : ℕ) → j < length es → j ≢ k → test (get_or es j void_entry) ≡ false
one_passes test [] c k hk t j h n = absurd (omega (arith, h))
one_passes test (e ∷ es) c zero hk t zero h n = absurd (n refl)
one_passes test (e ∷ es) c zero hk t (suc j) h n =
    let more = one_more test e es true t in none_passes test es (omega (arith, more, c)) j (omega (arith, h))
one_passes test (e ∷ es) c (suc k) hk t zero h n = first (test e) refl
  where
    first : (b : Bool) → test e ≡ b → test e ≡ false
    first false s = s
    first true s =
        let more = one_more test e es true s in
        absurd (false≢true (sym (none_passes test es (omega (arith, more, c)) k (omega (arith, hk))) ∙ t))
one_passes test (e ∷ es) c (suc k) hk t (suc j) h n =
    either (test e) refl (λ c1. one_passes test es c1 k (omega (arith, hk)) t j (omega (arith, h)) (λ z. n (ap suc z)))
  where
    either : (b : Bool) → test e ≡ b → (count_by test es ≡ 1 → test (get_or es j void_entry) ≡ false) → test (get_or es j void_entry) ≡ false
    either false s rest = let more = one_more test e es false s in rest (omega (arith, more, c))
    either true s rest = let more = one_more test e es true s in none_passes test es (omega (arith, more, c)) j (omega (arith, h))

-- the file of a whole entry lies in its blocks
pub whole_lies : (disk : List ℕ) (e : Entry) → is_whole (geometry_of disk) (fields_of (geometry_of disk) disk).indexes e ≡ true
    → FileLies (fields_of (geometry_of disk) disk) e (chain_in (geometry_of disk) (fields_of (geometry_of disk) disk).indexes e)
    (data_in (geometry_of disk) (fields_of (geometry_of disk) disk).indexes e)
whole_lies disk e w =
    let g = geometry_of disk in
    let d = fields_of g disk in
    let ix = d.indexes in
    let a = entry_is_used e in let b = is_name (longest_name g) e.name in let c = not (is_larger (room g) e) in
    let p = nat_eq (length (met_of g ix e)) (need_index e) in let q = nat_eq (end_of_walk g ix e) null in
    let r = no_fault (rows_fault g ix (need_data e) (met_of g ix e)) in let o = no_fault (offsets_fault g ix 0 (met_of g ix e)) in
    let sound = and_parts (has_sound_fields g e) (has_sound_walk g ix e) (and_parts (is_sound g ix e) (stand_once (data_in g ix e) (data_in g ix e)) w).0 in
    let used : entry_is_used e ≡ true = (and_parts a b (and_parts (a && b) c sound.0).0).0 in
    let walk = and_parts (p && q && r) o sound.1 in
    let rows = and_parts (p && q) r walk.0 in
    let ends = and_parts p q rows.0 in
    let facts : FileFacts g ix e = record {
      len = number (length (met_of g ix e)) (need_index e) ends.0;
      end = number (end_of_walk g ix e) null ends.1;
      rows = rows-each g ix (need_data e) (met_of g ix e) (none-is (rows_fault g ix (need_data e) (met_of g ix e)) rows.1);
      offsets = offsets-each g ix 0 (met_of g ix e) (none-is (offsets_fault g ix 0 (met_of g ix e)) walk.1);
    } in
    subst (λ (v : Bool). FileLies d e (cond v (met_of g ix e) []) (cond v (take (need_data e) (flat_map (data_row ix) (met_of g ix e))) [])) (sym used) (file_lies g d (fields_shape g disk) e facts)
  where
    number : (m n : ℕ) → nat_eq m n ≡ true → m ≡ n
    number m n t = grind (arith, nat_tests)

-- What is known of a disk of version 2.
pub record IsReadable (disk : List ℕ) : Type 0 where
  pub version : is_version_2 disk ≡ true
  pub size : rule_0 (geometry_of disk) disk ≡ None
  pub many : length (entries disk) ≡ 78

-- bytes that are a disk have 78 entries
pub readable : (disk : List ℕ) → is_disk disk ≡ true → IsReadable disk
unfolding entries
readable disk is =
    let parts = and_parts (is_version_2 disk) (is_none (rule_0 (geometry_of disk) disk)) is in
    let r0 = nothing (rule_0 (geometry_of disk) disk) parts.1 in
    let low : 14 ≤ length disk / 512 = subst (λ (b : Bool). cond b 14 8 ≤ length disk / 512) parts.0 (sized_most disk r0).0 in
    record {
      version = parts.0;
      size = r0;
      many = (wide_2 disk (length disk / 512) (sized_blocks disk r0) (omega (arith, low))).0;
    }
  where
    nothing : (o : Option ℕ) → is_none o ≡ true → o ≡ None
    nothing None h = refl
    nothing (Some a) h = absurd (false≢true h)

-- a test passes, if what depends on it does
pub tested : (a b : Bool) → (if a then b else false) ≡ true → (a ≡ true) × (b ≡ true)
tested true b h = (refl, h)
tested false b h = absurd (false≢true h)

pub number_is : (a b : ℕ) → (a == b) ≡ true → a ≡ b
number_is a b t = grind (arith, nat_tests)

-- bytes that were found and compared are these
pub found_bytes : (o : Option (List ℕ)) (bytes : List ℕ) → has_bytes o bytes ≡ true → o ≡ Some bytes
found_bytes None bytes h = absurd (false≢true h)
found_bytes (Some b) bytes h = ap Some ((bytes_eq-Decides b bytes).0 h)

-- a name that was found is that of an entry with these bytes
pub entry_found : (f : Entry → List ℕ) (o : Option Entry) (bytes : List ℕ) → option_map f o ≡ Some bytes → (e : Entry) × ((o ≡ Some e) × (f e ≡ bytes))
entry_found f None bytes h = absurd (cc)
entry_found f (Some e) bytes h = (e, (refl, (cc)))

-- the file that is judged to be there is on the disk
pub file_held : (disk text bytes : List ℕ) → is_disk disk ≡ true
    → holds_file (kept_files disk) (directory_entries (geometry_of disk) disk) text bytes ≡ true → HasFile disk (padded_name text) bytes
file_held disk text bytes is h =
    let d = readable disk is in
    let g = geometry_of disk in
    let ix = (fields_of g disk).indexes in
    let es = directory_entries g disk in
    let name = padded_name text in
    let same : es ≡ entries disk = entries_are disk d.version in
    let parts = tested (is_text text) (if times_named name es == 1 then has_bytes (found text (kept_files disk)) bytes else false) h in
    let both = tested (times_named name es == 1) (has_bytes (found text (kept_files disk)) bytes) parts.1 in
    let one = number_is (times_named name es) 1 both.0 in
    let read = found_bytes (found text (kept_files disk)) bytes both.1 in
    let named : content_named name (kept_files disk) ≡ Some bytes = sym (ap (λ (b : Bool). cond b (content_named name (kept_files disk)) None) parts.0) ∙ read in
    let one_of = entry_found (content_of g ix disk) (entry_named name (kept_entries g ix es)) bytes (sym (bytes_named g ix disk name (kept_entries g ix es)) ∙ named) in
    let e = one_of.0 in
    let f = found_in g ix es [] es name e one_of.1.0 in
    let long : length es ≡ 78 = ap length same ∙ d.many in
    let below = f.below in
    let at : entry_at disk f.place ≡ e = ap (λ (l : List Entry). get_or l f.place void_entry) (sym same) ∙ f.is in
    let shape = fields_shape g disk in
    let sized : length (content_of g ix disk e) ≡ e.size = length_bytes g ix disk (length disk / 512) e (sized_blocks disk d.size) (whole_is g ix e shape.rows f.whole) in
    record {
      slot = f.place;
      below = omega (arith, below, long);
      this = ap (is_this name) at ∙ f.this;
      only = λ k lt n. ap (λ (l : List Entry). is_this name (get_or l k void_entry)) (sym same)
          ∙ one_passes (is_this name) es one f.place below (ap (is_this name) f.is ∙ f.this) k (omega (arith, lt, long)) n;
      read = ap (content_of g ix disk) at ∙ one_of.1.1;
      size = ap (λ (x : Entry). x.size) at ∙ sym sized ∙ ap length one_of.1.1;
      lies = subst (λ (x : Entry). FileLies (fields_of g disk) x (chain_in g ix x) (data_in g ix x)) (sym at) (whole_lies disk e f.whole);
    }

-- the file that is judged not to be there has no entry
pub none_held : (disk text : List ℕ) → is_disk disk ≡ true → holds_none (directory_entries (geometry_of disk) disk) text ≡ true
    → (k : ℕ) → k < 78 → is_this (padded_name text) (entry_at disk k) ≡ false
none_held disk text is h k lt =
    let d = readable disk is in
    let es = directory_entries (geometry_of disk) disk in
    let name = padded_name text in
    let same : es ≡ entries disk = entries_are disk d.version in
    let none = number_is (times_named name es) 0 (tested (is_text text) (times_named name es == 0) h).1 in
    let long : length es ≡ 78 = ap length same ∙ d.many in
    ap (λ (l : List Entry). is_this name (get_or l k void_entry)) (sym same) ∙ none_passes (is_this name) es none k (omega (arith, lt, long))

-- a judgement of 1 is a yes
pub true_of : (b : Bool) → ◌≡◌ {A = ℕ} (if b then 1 else 0) 1 → b ≡ true
true_of true h = refl
true_of false h = absurd (omega (arith, h))

-- a file that is judged to be held is, as it is said
pub judged_held : (disk texts : List ℕ) (f : FileAtRest) → is_disk disk ≡ true
    → judged (kept_files disk) (directory_entries (geometry_of disk) disk) texts f ≡ 1 → IsHeld disk texts f
judged_held disk texts f is one = go (f.exists == 0) inner
  where
    K : List File
    K = kept_files disk

    E : List Entry
    E = directory_entries (geometry_of disk) disk

    inner : (if f.exists == 0 then holds_none E (name_in texts f) else holds_file K E (name_in texts f) (span texts f.at f.bytes)) ≡ true
    inner =
        (tested (is_span texts f.at f.bytes) _ (tested (is_span texts f.name f.name_bytes) _ (true_of (holds K E texts f) one)).1).1

    go : (t : Bool) → (if t then holds_none E (name_in texts f) else holds_file K E (name_in texts f) (span texts f.at f.bytes)) ≡ true
        → HasStored disk (padded_name (name_in texts f)) (if t then None else Some (record { name = name_in texts f; bytes = span texts f.at f.bytes }))
    go true h = none_held disk (name_in texts f) is h
    go false h = file_held disk (name_in texts f) (span texts f.at f.bytes) is h
