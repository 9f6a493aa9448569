-- No block is in two files that are judged to be held, nor twice in one.
use Rattle.std.proofs.Common.{arith, ◌≡◌, ◌≢◌, ◌∙◌, ℕ, zero, suc, ◌+◌, ◌<◌, ◌≤◌, Bool, true, false, cond, if◌then◌else◌, ◌==◌, List, [], ◌∷◌, length, get_or, Option, Some, None, refl, sym, ap, bytes_eq, inl, inr}
use Rattle.std.specs.List.{flat_map}
use Rattle.std.proofs.lemmas.Bool.{and_parts, cases_eq, false≢true}
use Rattle.std.proofs.lemmas.Slice.Eq.{bytes_eq-Decides}
use Rattle.files_c.specs.Held.{AreApart, IsOnce, name_in}
use Rattle.files_c.specs.Judging.{has_bytes, holds, holds_file, holds_none, is_disk, judged, times_named}
use Rattle.files_c.specs.Spans.{is_span, span}
use Rattle.files_c.specs.declared.judging.FileAtRest.{FileAtRest}
use Rattle.files_c.proofs.Held.{entry_found, found_bytes, found_in, number_is, one_passes, readable, tested, true_of}
use Rattle.lfs_check.proofs.Cleans.{times-flat}
use Rattle.lfs_check.proofs.Directories.{entries_are}
use Rattle.lfs_check.proofs.Keeping.{kept_apart}
use Rattle.lfs_check.proofs.Steps.{times-append}
use Rattle.lfs_check.specs.Clean.{chain_in, data_in}
use Rattle.lfs_check.specs.Disks.{entries, entry_at, is_this}
use Rattle.lfs_check.specs.Fields.{directory_entries, fields_of, geometry_of}
use Rattle.lfs_check.specs.Kept.{kept_entries}
use Rattle.lfs_check.specs.Meets.{times_met}
use Rattle.lfs_check.specs.Rules.{entry_is_used}
use Rattle.lfs_check.specs.declared.geometry.Geometry.{Geometry}
use Rattle.lfs_format.specs.Directory.{void_entry}
use Rattle.lfs_format.specs.declared.Entry.{Entry}
use Rattle.lfs_format.specs.declared.Index.{Index}
use Rattle.lfs_layout.proofs.FilesSet.{bytes_named}
use Rattle.lfs_layout.specs.Files.{content_named, content_of, entry_named, found, is_text, padded_name}
use Rattle.lfs_layout.specs.Images.{kept_files}

-- the lists of two places are in the lists of all
two_flat : (n : ℕ) (f : Entry → List ℕ) (es : List Entry) (j k : ℕ) → j < length es → k < length es → j ≢ k
    → times_met n (f (get_or es j void_entry)) + times_met n (f (get_or es k void_entry)) ≤ times_met n (flat_map f es)
two_flat n f [] j k hj hk d = absurd (omega (arith, hj))
two_flat n f (e ∷ es) zero zero hj hk d = absurd (d refl)
two_flat n f (e ∷ es) zero (suc k) hj hk d =
    let t = times-append n (f e) (flat_map f es) in let i = times-flat n f es k (omega (arith, hk)) in omega (arith, t, i)
two_flat n f (e ∷ es) (suc j) zero hj hk d =
    let t = times-append n (f e) (flat_map f es) in let i = times-flat n f es j (omega (arith, hj)) in omega (arith, t, i)
two_flat n f (e ∷ es) (suc j) (suc k) hj hk d =
    let t = times-append n (f e) (flat_map f es) in
    let i = two_flat n f es j k (omega (arith, hj)) (omega (arith, hk)) (λ s. d (ap suc s)) in omega (arith, t, i)

-- The place of an entry among entries.
record IsPlaced (es : List Entry) (e : Entry) : Type 0 where
  place : ℕ
  below : place < length es
  is : get_or es place void_entry ≡ e

-- the first entry of a name is the first one, or is placed later
placed_first : (x : Entry) (es : List Entry) (e : Entry) (o : Option Entry) (t : Bool) → (o ≡ Some e → IsPlaced es e) → cond t (Some x) o ≡ Some e → IsPlaced (x ∷ es) e
placed_first x es e o true later h = record { place = 0; below = omega arith; is = (cc) }
placed_first x es e o false later h = let p = later h in let b = p.below in record { place = suc p.place; below = omega (arith, b); is = p.is }

-- the entry of a name has a place
placed_in : (name : List ℕ) (es : List Entry) (e : Entry) → entry_named name es ≡ Some e → IsPlaced es e
placed_in name [] e h = absurd (cc)
placed_in name (x ∷ es) e h = placed_first x es e (entry_named name es) (is_this name x) (placed_in name es e) h

-- The entry of a file that is judged to be there: it is kept, and no other entry has its name.
pub record IsEntryOf (disk name : List ℕ) (e : Entry) : Type 0 where
  pub kept : entry_named name (kept_entries (geometry_of disk) (fields_of (geometry_of disk) disk).indexes (directory_entries (geometry_of disk) disk)) ≡ Some e
  pub this : is_this name e ≡ true
  pub only : (j : ℕ) → j < 78 → is_this name (entry_at disk j) ≡ true → entry_at disk j ≡ e

-- a file that is judged to be there has such an entry
entry_held : (disk text bytes : List ℕ) → is_disk disk ≡ true
    → holds_file (kept_files disk) (directory_entries (geometry_of disk) disk) text bytes ≡ true → (e : Entry) × IsEntryOf disk (padded_name text) e
entry_held disk text bytes is h =
    let d = readable disk is in
    let g = geometry_of disk in
    let ix = (fields_of g disk).indexes in
    let es = directory_entries g disk in
    let name = padded_name text in
    let same : es ≡ entries disk = entries_are disk d.version in
    let parts = tested (is_text text) (if times_named name es == 1 then has_bytes (found text (kept_files disk)) bytes else false) h in
    let both = tested (times_named name es == 1) (has_bytes (found text (kept_files disk)) bytes) parts.1 in
    let one = number_is (times_named name es) 1 both.0 in
    let read = found_bytes (found text (kept_files disk)) bytes both.1 in
    let named : content_named name (kept_files disk) ≡ Some bytes = sym (ap (λ (b : Bool). cond b (content_named name (kept_files disk)) None) parts.0) ∙ read in
    let one_of = entry_found (content_of g ix disk) (entry_named name (kept_entries g ix es)) bytes (sym (bytes_named g ix disk name (kept_entries g ix es)) ∙ named) in
    let e = one_of.0 in
    let f = found_in g ix es [] es name e one_of.1.0 in
    let long : length es ≡ 78 = ap length same ∙ d.many in
    let at : (j : ℕ) → entry_at disk j ≡ get_or es j void_entry = λ j. ap (λ (l : List Entry). get_or l j void_entry) (sym same) in (
      e,
      record {
        kept = one_of.1.0;
        this = f.this;
        only = λ j lt t. elim (cases_eq j f.place) [
          | inl s ↦ at j ∙ ap (λ (k : ℕ). get_or es k void_entry) s ∙ f.is
          | inr n ↦ absurd (false≢true (sym (one_passes (is_this name) es one f.place f.below (ap (is_this name) f.is ∙ f.this) j (omega (arith, lt, long)) n)
              ∙ sym (ap (is_this name) (at j)) ∙ t))
        ];
      },
    )

-- an entry has no two names
one_name : (name other : List ℕ) (e : Entry) → is_this name e ≡ true → is_this other e ≡ true → name ≡ other
one_name name other e a b =
    sym ((bytes_eq-Decides e.name name).0 (and_parts (entry_is_used e) (bytes_eq e.name name) a).1)
    ∙ (bytes_eq-Decides e.name other).0 (and_parts (entry_is_used e) (bytes_eq e.name other) b).1

-- kept entries of two names share no block
kept_two : (g : Geometry) (ix : List Index) (es : List Entry) (name other : List ℕ) (e f : Entry) (b : ℕ) → entry_named name (kept_entries g ix es) ≡ Some e
    → entry_named other (kept_entries g ix es) ≡ Some f → e ≢ f
    → (times_met b (chain_in g ix e) + times_met b (chain_in g ix f) ≤ 1) × (times_met b (data_in g ix e) + times_met b (data_in g ix f) ≤ 1)
kept_two g ix es name other e f b he hf n =
    let K = kept_entries g ix es in
    let p = placed_in name K e he in
    let q = placed_in other K f hf in
    let differ : p.place ≢ q.place = λ s. n (sym p.is ∙ ap (λ (k : ℕ). get_or K k void_entry) s ∙ q.is) in
    let chains = two_flat b (chain_in g ix) K p.place q.place p.below q.below differ in
    let datas = two_flat b (data_in g ix) K p.place q.place p.below q.below differ in
    let most = kept_apart g ix es b in
    let c = most.0 in
    let d = most.1 in
    let ce = ap (λ (x : Entry). times_met b (chain_in g ix x)) p.is in
    let cf = ap (λ (x : Entry). times_met b (chain_in g ix x)) q.is in
    let de = ap (λ (x : Entry). times_met b (data_in g ix x)) p.is in
    let df = ap (λ (x : Entry). times_met b (data_in g ix x)) q.is in
    (omega (arith, chains, c, ce, cf), omega (arith, datas, d, de, df))

-- a kept entry has no block twice
kept_one : (g : Geometry) (ix : List Index) (es : List Entry) (name : List ℕ) (e : Entry) (b : ℕ) → entry_named name (kept_entries g ix es) ≡ Some e
    → (times_met b (chain_in g ix e) ≤ 1) × (times_met b (data_in g ix e) ≤ 1)
kept_one g ix es name e b he =
    let K = kept_entries g ix es in
    let p = placed_in name K e he in
    let chains = times-flat b (chain_in g ix) K p.place p.below in
    let datas = times-flat b (data_in g ix) K p.place p.below in
    let most = kept_apart g ix es b in
    let c = most.0 in
    let d = most.1 in
    let ce = ap (λ (x : Entry). times_met b (chain_in g ix x)) p.is in
    let de = ap (λ (x : Entry). times_met b (data_in g ix x)) p.is in
    (omega (arith, chains, c, ce), omega (arith, datas, d, de))

-- a file that is judged to be there is there
there : (disk texts : List ℕ) (f : FileAtRest) → judged (kept_files disk) (directory_entries (geometry_of disk) disk) texts f ≡ 1 → (f.exists == 0) ≡ false
    → holds_file (kept_files disk) (directory_entries (geometry_of disk) disk) (name_in texts f) (span texts f.at f.bytes) ≡ true
there disk texts f one exists =
    let K = kept_files disk in
    let E = directory_entries (geometry_of disk) disk in
    let none = holds_none E (name_in texts f) in
    let some = holds_file K E (name_in texts f) (span texts f.at f.bytes) in
    let inner = (tested (is_span texts f.at f.bytes) (if f.exists == 0 then none else some) (tested (is_span texts f.name f.name_bytes)
    (if is_span texts f.at f.bytes then (if f.exists == 0 then none else some) else false) (true_of (holds K E texts f) one)).1).1 in
    sym (ap (λ (t : Bool). if t then none else some) exists) ∙ inner

-- two files of different names that are judged to be there share no block
pub judged_apart : (disk texts : List ℕ) (f g : FileAtRest) → is_disk disk ≡ true
    → judged (kept_files disk) (directory_entries (geometry_of disk) disk) texts f ≡ 1 → judged (kept_files disk) (directory_entries (geometry_of disk) disk) texts g ≡ 1
    → (f.exists == 0) ≡ false → (g.exists == 0) ≡ false → padded_name (name_in texts f) ≢ padded_name (name_in texts g)
    → AreApart disk (padded_name (name_in texts f)) (padded_name (name_in texts g))
judged_apart disk texts f g is jf jg ef eg differ j k b lj lk tj tk =
    let G = geometry_of disk in
    let ix = (fields_of G disk).indexes in
    let x = entry_held disk (name_in texts f) (span texts f.at f.bytes) is (there disk texts f jf ef) in
    let y = entry_held disk (name_in texts g) (span texts g.at g.bytes) is (there disk texts g jg eg) in
    let other : x.0 ≢ y.0 = λ s. differ (one_name (padded_name (name_in texts f)) (padded_name (name_in texts g)) x.0 x.1.this
    (ap (is_this (padded_name (name_in texts g))) s ∙ y.1.this)) in
    let two = kept_two G ix (directory_entries G disk) (padded_name (name_in texts f)) (padded_name (name_in texts g)) x.0 y.0 b x.1.kept y.1.kept other in
    let c = two.0 in
    let d = two.1 in
    let cx = ap (λ (e : Entry). times_met b (chain_in G ix e)) (x.1.only j lj tj) in
    let cy = ap (λ (e : Entry). times_met b (chain_in G ix e)) (y.1.only k lk tk) in
    let dx = ap (λ (e : Entry). times_met b (data_in G ix e)) (x.1.only j lj tj) in
    let dy = ap (λ (e : Entry). times_met b (data_in G ix e)) (y.1.only k lk tk) in
    (omega (arith, c, cx, cy), omega (arith, d, dx, dy))

-- a file that is judged to be there has no block twice
pub judged_once : (disk texts : List ℕ) (f : FileAtRest) → is_disk disk ≡ true
    → judged (kept_files disk) (directory_entries (geometry_of disk) disk) texts f ≡ 1 → (f.exists == 0) ≡ false → IsOnce disk (padded_name (name_in texts f))
judged_once disk texts f is jf ef j b lj tj =
    let G = geometry_of disk in
    let ix = (fields_of G disk).indexes in
    let x = entry_held disk (name_in texts f) (span texts f.at f.bytes) is (there disk texts f jf ef) in
    let one = kept_one G ix (directory_entries G disk) (padded_name (name_in texts f)) x.0 b x.1.kept in
    let c = one.0 in
    let d = one.1 in
    let cx = ap (λ (e : Entry). times_met b (chain_in G ix e)) (x.1.only j lj tj) in
    let dx = ap (λ (e : Entry). times_met b (data_in G ix e)) (x.1.only j lj tj) in
    (omega (arith, c, cx), omega (arith, d, dx))
