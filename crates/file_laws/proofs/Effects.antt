-- The effects of calls on the files of a clean disk.
use Rattle.std.proofs.Common.{◌≡◌, ◌≢◌, ℕ, ◌+◌, ◌<◌, ◌≤◌, ◌==◌, Bool, true, false, cond, not, ◌&&◌, ◌||◌, nat_lt, nat_le, if◌then◌else◌, List, [], ◌∷◌, ◌++◌, length, map, take, drop, refl, sym, ap, ◌∙◌, arith, slice_set, bytes_eq, length-take, Option, Some, None, is_some, pos, negsuc}
use Rattle.std.proofs.lemmas.List.{set-get_or, take-append-drop}
use Rattle.std.specs.Option.{option_map}
use Rattle.std.proofs.lemmas.Bool.Decides.{nat_tests}
use Rattle.std.proofs.lemmas.Slice.Eq.{bytes_eq-Decides}
use Rattle.lfs_check.specs.Rules.{entry_is_used}
use Rattle.lfs_check.specs.Fields.{geometry_of, fields_of, directory_entries}
use Rattle.lfs_check.specs.Disks.{entries, entry_at, is_this}
use Rattle.lfs_check.proofs.Directories.{entries_are}
use Rattle.lfs_layout.specs.Files.{File, bare_name, files_of, placed_files, sorted}
use Rattle.lfs_layout.specs.Images.{IsCleanImage}
use Rattle.lfs_layout.proofs.CleanOpens.{placed_names}
use Rattle.xinu_model.specs.Files.Calls as model
use Rattle.xinu_model.specs.Files.Calls.{file_effect}
use Rattle.xinu_model.specs.Files.Stored.{StoredFile, file_named, bytes_in, with_contents, without_file}
use Rattle.xinu_model.specs.Files.Systems.{OpenFile, FileSystem, FileEffect, open_at, open_bytes, on_open, is_open, replies, refused_effect}
use Rattle.xinu_model.specs.Files.Writing.{overwritten, files_with, fitting, write_file, truncate_file, have_room, putc_file, put_bytes}
use Rattle.xinu_model.specs.Files.Reading.{read_file, getc_file, first_byte, taken}
use Rattle.file_laws.specs.StoredFiles.{stored, stored_files, entry_bytes}
use Rattle.file_laws.proofs.Named.{AreApartFiles, file_by, entry_by, file_in, find_at, by_entries, named_at, bytes_sized, names_apart, clean_names, entry_name, entry_right, length_entries}
use Rattle.file_laws.proofs.Finished.{with_bytes, stored_rewritten, sorted_rewritten}

-- the bytes of an open file are those of its entry
pub open_bytes_is : (base : List ℕ) (slot : ℕ) (f : OpenFile) (s : FileSystem) → IsCleanImage base → slot < 78
    → entry_is_used (entry_at base slot) ≡ true
    → s.files ≡ stored_files base → f.name ≡ bare_name (entry_at base slot).name → open_bytes f s ≡ entry_bytes base (entry_at base slot)
open_bytes_is base slot f s c h u files name =
    ap (λ fs. bytes_in (file_named f.name fs)) files ∙ ap (λ x. bytes_in (file_named x (stored_files base))) name
    ∙ ap bytes_in (named_at base c slot h u)

-- A write puts as many of its bytes as there is room for.
pub write_effect : (base made new : List ℕ) (d slot k : ℕ) (f : OpenFile) (s : FileSystem) → IsCleanImage base → slot < 78
    → entry_is_used (entry_at base slot) ≡ true
    → open_at s d ≡ Some f → f.may_write ≡ true → s.files ≡ stored_files base → f.name ≡ bare_name (entry_at base slot).name
    → fitting f new s ≡ k → 0 < k → k ≤ length new
    → stored_files made ≡ with_contents (bare_name (entry_at base slot).name)
    (overwritten f.position (take k new) (entry_bytes base (entry_at base slot))) (stored_files base)
    → ◌≡◌ {A = FileEffect} (file_effect (model.Write d (length new)) new s)
    (record {
      system = record s {
        files = stored_files made;
        devices =
            slice_set s.devices d (Some (record f { position = f.position + k }));
      };
      reply = pos k;
      bytes = [];
    })
write_effect base made new d slot k f s c h u at may files name fit some few is =
    let old = entry_bytes base (entry_at base slot) in
    let bytes = open_bytes_is base slot f s c h u files name in
    let taken : length (take k new) ≡ k = (let t = length-take k new in omega (arith, t, few)) in
    let put : files_with f (take k new) s ≡ stored_files made =
    ap (λ b. with_contents f.name (overwritten f.position (take k new) b) s.files) bytes
    ∙ ap (λ x. with_contents x (overwritten f.position (take k new) old) s.files) name
    ∙ ap (with_contents (bare_name (entry_at base slot).name) (overwritten f.position (take k new) old)) files ∙ sym is in
    let none : (k == 0) ≡ false = grind (arith, nat_tests) in
    let go : ℕ → FileEffect = λ j. if not f.may_write || (nat_lt 0 (length new) && (j == 0)) then refused_effect s
    else replies (pos j) (record s {
      files = files_with f (take j new) s;
      devices = slice_set s.devices d (Some (record f { position = f.position + length (take j new) }));
    }) in
    let from : List StoredFile → ℕ → FileEffect = λ fs p. replies (pos k) (record s {
      files = fs;
      devices = slice_set s.devices d (Some (record f { position = f.position + p }));
    }) in
    ap (λ o. on_open o (λ g. write_file d new g s) s) at ∙ ap go fit
    ∙ ap (λ v. if not v || (nat_lt 0 (length new) && (k == 0)) then refused_effect s else from (files_with f (take k new) s)
    (length (take k new))) may
    ∙ ap (λ v. if nat_lt 0 (length new) && v then refused_effect s else from (files_with f (take k new) s) (length (take k new))) none
    ∙ never (nat_lt 0 (length new)) (refused_effect s) (from (files_with f (take k new) s) (length (take k new)))
    ∙ ap (λ fs. from fs (length (take k new))) put ∙ ap (from (stored_files made)) taken
  where
    never : (v : Bool) (a b : FileEffect) → (if v && false then a else b) ≡ b
    never true a b = refl
    never false a b = refl

-- A write of bytes for some of which there is room isn't refused.
pub write_granted : (new : List ℕ) (d : ℕ) (f : OpenFile) (s : FileSystem) → open_at s d ≡ Some f → f.may_write ≡ true
    → 0 < fitting f new s → (file_effect (model.Write d (length new)) new s).reply ≢ negsuc 0
write_granted new d f s at may some refused =
    let k = fitting f new s in
    let none : (k == 0) ≡ false = grind (arith, nat_tests) in
    let done : FileEffect = replies (pos k) (put_bytes (take k new) d f s) in
    let is : (file_effect (model.Write d (length new)) new s).reply ≡ pos k =
    ap (λ o. (on_open o (λ g. write_file d new g s) s).reply) at
    ∙ ap (λ v. (if not v || (nat_lt 0 (length new) && (k == 0)) then refused_effect s else done).reply) may
    ∙ ap (λ v. (if nat_lt 0 (length new) && v then refused_effect s else done).reply) none
    ∙ never (nat_lt 0 (length new)) (refused_effect s) done in
    absurd (cc (sym is ∙ refused))
  where
    never : (v : Bool) (a b : FileEffect) → (if v && false then a else b).reply ≡ b.reply
    never true a b = refl
    never false a b = refl

-- A write of some bytes for none of which there is room is refused.
pub write_refused : (new : List ℕ) (d : ℕ) (f : OpenFile) (s : FileSystem) → open_at s d ≡ Some f → fitting f new s ≡ 0 → 0 < length new
    → file_effect (model.Write d (length new)) new s ≡ refused_effect s
write_refused new d f s at fit some =
    let t : nat_lt 0 (length new) ≡ true = grind (arith, nat_tests) in
    let to : ℕ → FileEffect = λ j. if not f.may_write || (nat_lt 0 (length new) && (j == 0)) then refused_effect s
    else replies (pos j) (record s {
      files = files_with f (take j new) s;
      devices = slice_set s.devices d (Some (record f { position = f.position + length (take j new) }));
    }) in
    ap (λ o. on_open o (λ g. write_file d new g s) s) at ∙ ap to fit
    ∙ ap (λ v. if not f.may_write || (v && true) then refused_effect s
    else replies (pos 0) (record s {
      files = files_with f (take 0 new) s;
      devices = slice_set s.devices d (Some (record f { position = f.position + length (take 0 new) }));
    })) t
    ∙ both (not f.may_write) (refused_effect s) _
  where
    both : (v : Bool) (a b : FileEffect) → (if v || true then a else b) ≡ a
    both true a b = refl
    both false a b = refl

-- A file that gets the bytes that it has stays.
same_bytes : (name bytes : List ℕ) (files : List File) → AreApartFiles files → (f : File) → file_by name files ≡ Some f → f.bytes ≡ bytes
    → map (with_bytes name bytes) files ≡ files
same_bytes name bytes [] a f at is = refl
same_bytes name bytes (g ∷ files) a f at is =
    let P : Bool → Type 0 = λ v. bytes_eq g.name name ≡ v → cond v (Some g) (file_by name files) ≡ Some f
    → (let x : File = record { name = g.name; bytes = cond v bytes g.bytes } in x) ∷ map (with_bytes name bytes) files ≡ g ∷ files in
    let yes : P true = λ t e. (let same : g ≡ f = some_same g f e in let other : g.name ≡ name = (bytes_eq-Decides g.name name).0 t in
    ap (λ b. (let x : File = record { name = g.name; bytes = b } in x) ∷ map (with_bytes name bytes) files) (sym is
    ∙ ap (λ (x : File). x.bytes) (sym same))
    ∙ ap (λ fs. g ∷ fs) (no_name name bytes files (ap (λ n. file_by n files) (sym other) ∙ a.0))) in
    let no : P false = λ t e. ap (λ fs. g ∷ fs) (same_bytes name bytes files a.1 f e is) in
    let split : (v : Bool) → P v = λ v. elim v as (λ v. P v) [ true ↦ yes | false ↦ no ] in
    split (bytes_eq g.name name) refl at
  where
    some_same : (a b : File) → ◌≡◌ {A = Option File} (Some a) (Some b) → a ≡ b
    some_same a b e = cc (e)

    no_name : (name bytes : List ℕ) (files : List File) → file_by name files ≡ None → map (with_bytes name bytes) files ≡ files
    no_name name bytes [] none = refl
    no_name name bytes (g ∷ files) none =
        let Q : Bool → Type 0 = λ v. cond v (Some g) (file_by name files) ≡ None
        → (let x : File = record { name = g.name; bytes = cond v bytes g.bytes } in x) ∷ map (with_bytes name bytes) files ≡ g ∷ files in
        let yes : Q true = λ e. absurd (cc (e)) in
        let no : Q false = λ e. ap (λ fs. g ∷ fs) (no_name name bytes files e) in
        let split : (v : Bool) → Q v = λ v. elim v as (λ v. Q v) [ true ↦ yes | false ↦ no ] in
        split (bytes_eq g.name name) none

-- A file of a clean disk that gets the bytes that it has leaves the files as they are.
pub kept_contents : (base : List ℕ) (slot : ℕ) → IsCleanImage base → slot < 78 → entry_is_used (entry_at base slot) ≡ true
    → with_contents (bare_name (entry_at base slot).name) (entry_bytes base (entry_at base slot)) (stored_files base) ≡ stored_files base
unfolding stored_files
kept_contents base slot c h u =
    let e = entry_at base slot in let name = e.name in let bytes = entry_bytes base e in
    let g = geometry_of base in let ix = (fields_of g base).indexes in let dir = directory_entries g base in
    let len = (length_entries base c).0 in
    let this : is_this name e ≡ true = ap (λ v. v && bytes_eq name name) u ∙ (bytes_eq-Decides name name).1 refl in
    let found : file_by name (placed_files base) ≡ Some (file_in g ix base e) =
    by_entries g ix base name dir ∙ ap (λ es. option_map (file_in g ix base) (entry_by name es)) (entries_are base c.version)
    ∙ ap (option_map (file_in g ix base))
    (find_at (is_this name) (entries base) slot (omega (arith, h, len)) (entry_right base c slot h u).first this) in
    let apart = names_apart [] (placed_files base) (placed_names base c.faultless) in
    sym (stored_rewritten name bytes (files_of base) (entry_name base c slot h u) (clean_names base c))
    ∙ ap (map stored) (sym (sorted_rewritten name bytes (placed_files base))
    ∙ ap sorted (same_bytes name bytes (placed_files base) apart (file_in g ix base e) found refl))

-- A write of no bytes changes nothing.
pub empty_write : (base : List ℕ) (d slot : ℕ) (f : OpenFile) (s : FileSystem) → IsCleanImage base → slot < 78
    → entry_is_used (entry_at base slot) ≡ true
    → open_at s d ≡ Some f → f.may_write ≡ true → s.files ≡ stored_files base → f.name ≡ bare_name (entry_at base slot).name
    → file_effect (model.Write d 0) [] s ≡ replies (pos 0) s
empty_write base d slot f s c h u at may files name =
    let old = entry_bytes base (entry_at base slot) in
    let bytes = open_bytes_is base slot f s c h u files name in
    let whole : overwritten f.position [] old ≡ old = ap (λ k. take f.position old ++ drop k old) (let z : f.position + 0 ≡ f.position =
    omega arith in z) ∙ take-append-drop f.position old in
    let put : files_with f [] s ≡ s.files =
    ap (λ b. with_contents f.name (overwritten f.position [] b) s.files) bytes ∙ ap (λ b. with_contents f.name b s.files) whole
    ∙ ap (λ x. with_contents x old s.files) name
    ∙ ap (with_contents (bare_name (entry_at base slot).name) old) files ∙ kept_contents base slot c h u ∙ sym files in
    let to : List StoredFile → ℕ → FileEffect = λ fs k. replies (pos 0) (record s {
      files = fs;
      devices = slice_set s.devices d (Some (record f { position = k }));
    }) in
    ap (λ o. on_open o (λ g. write_file d [] g s) s) at
    ∙ ap (λ v. if not v || (false && true) then refused_effect s else to (files_with f [] s) (f.position + 0)) may
    ∙ ap (λ fs. to fs (f.position + 0)) put ∙ ap (to s.files) (let z : f.position + 0 ≡ f.position = omega arith in z)
    ∙ ap (λ o. replies (pos 0) (record s { devices = slice_set s.devices d o })) (sym at)
    ∙ ap (λ ds. replies (pos 0) (record s { devices = ds })) (set-get_or s.devices d None)

-- A truncation of a file that may be written isn't refused.
pub truncate_granted : (bytes : List ℕ) (d : ℕ) (f : OpenFile) (s : FileSystem) → open_at s d ≡ Some f → f.may_write ≡ true
    → (file_effect (model.Truncate d) bytes s).reply ≢ negsuc 0
truncate_granted bytes d f s at may refused =
    let done : FileEffect = replies (pos 0) (record s {
      files = with_contents f.name [] s.files;
      devices = slice_set s.devices d (Some (record f { position = 0 }));
    }) in
    let is : (file_effect (model.Truncate d) bytes s).reply ≡ pos 0 = ap (λ o. (on_open o (λ g. truncate_file d g s) s).reply) at
    ∙ ap (λ v. (if not v then refused_effect s else done).reply) may in
    absurd (cc (sym is ∙ refused))

-- A truncation leaves the file empty, and the device at its begin.
pub truncate_effect : (base made bytes : List ℕ) (d slot : ℕ) (f : OpenFile) (s : FileSystem) → open_at s d ≡ Some f → f.may_write ≡ true
    → s.files ≡ stored_files base → f.name ≡ bare_name (entry_at base slot).name
    → stored_files made ≡ with_contents (bare_name (entry_at base slot).name) [] (stored_files base)
    → ◌≡◌ {A = FileEffect} (file_effect (model.Truncate d) bytes s)
    (record {
      system = record s { files = stored_files made; devices = slice_set s.devices d (Some (record f { position = 0 })) };
      reply = pos 0;
      bytes = [];
    })
truncate_effect base made bytes d slot f s at may files name is =
    let to : List StoredFile → FileEffect = λ fs. replies (pos 0) (record s {
      files = fs;
      devices = slice_set s.devices d (Some (record f { position = 0 }));
    }) in
    ap (λ o. on_open o (λ g. truncate_file d g s) s) at ∙ ap (λ v.
    if not v then refused_effect s else to (with_contents f.name [] s.files)) may
    ∙ ap (λ x. to (with_contents x [] s.files)) name ∙ ap (λ fs. to (with_contents (bare_name (entry_at base slot).name) [] fs)) files
    ∙ ap to (sym is)

-- A deletion takes the file away.
pub delete_effect : (base made bytes : List ℕ) (slot : ℕ) (s : FileSystem) → IsCleanImage base → slot < 78
    → entry_is_used (entry_at base slot) ≡ true
    → is_open (bare_name (entry_at base slot).name) s ≡ false → s.files ≡ stored_files base
    → stored_files made ≡ without_file (bare_name (entry_at base slot).name) (stored_files base)
    → ◌≡◌ {A = FileEffect} (file_effect (model.Delete (bare_name (entry_at base slot).name)) bytes s) (record {
      system =
          record s { files = stored_files made };
      reply = pos 0;
      bytes = [];
    })
delete_effect base made bytes slot s c h u closed files is =
    let name = bare_name (entry_at base slot).name in
    let some : is_some (file_named name s.files) ≡ true = ap (λ fs. is_some (file_named name fs)) files
    ∙ ap is_some (named_at base c slot h u) in
    let to : List StoredFile → FileEffect = λ fs. replies (pos 0) (record s { files = fs }) in
    ap (λ v. if v || not (is_some (file_named name s.files)) then refused_effect s else to (without_file name s.files)) closed
    ∙ ap (λ v. if false || not v then refused_effect s else to (without_file name s.files)) some
    ∙ ap (λ fs. to (without_file name fs)) files ∙ ap to (sym is)

-- A deletion of a file that is there and isn't open isn't refused.
pub delete_granted : (base bytes : List ℕ) (slot : ℕ) (s : FileSystem) → IsCleanImage base → slot < 78
    → entry_is_used (entry_at base slot) ≡ true
    → is_open (bare_name (entry_at base slot).name) s ≡ false → s.files ≡ stored_files base
    → (file_effect (model.Delete (bare_name (entry_at base slot).name)) bytes s).reply ≢ negsuc 0
delete_granted base bytes slot s c h u closed files refused =
    let name = bare_name (entry_at base slot).name in
    let some : is_some (file_named name s.files) ≡ true = ap (λ fs. is_some (file_named name fs)) files
    ∙ ap is_some (named_at base c slot h u) in
    let done : FileEffect = replies (pos 0) (record s { files = without_file name s.files }) in
    let is : (file_effect (model.Delete name) bytes s).reply ≡ pos 0 =
    ap (λ v. (if v || not (is_some (file_named name s.files)) then refused_effect s else done).reply) closed
    ∙ ap (λ v. (if false || not v then refused_effect s else done).reply) some in
    absurd (cc (sym is ∙ refused))

-- It is refused if there is no such file.
pub delete_refused : (name bytes : List ℕ) (s : FileSystem) → file_named name s.files ≡ None
    → file_effect (model.Delete name) bytes s ≡ refused_effect s
delete_refused name bytes s none =
    ap (λ o. if is_open name s || not (is_some o) then refused_effect s else replies (pos 0) (record s {
      files =
          without_file name s.files;
    })) none
    ∙ both (is_open name s) (refused_effect s) (replies (pos 0) (record s { files = without_file name s.files }))
  where
    both : (v : Bool) (a b : FileEffect) → (if v || true then a else b) ≡ a
    both true a b = refl
    both false a b = refl

-- A read of some bytes before the end gives as many as there are.
pub read_effect : (base bytes : List ℕ) (d n slot many : ℕ) (f : OpenFile) (s : FileSystem) → IsCleanImage base → slot < 78
    → entry_is_used (entry_at base slot) ≡ true
    → open_at s d ≡ Some f → f.may_read ≡ true → s.files ≡ stored_files base → f.name ≡ bare_name (entry_at base slot).name → 0 < n
    → f.position < (entry_at base slot).size
    → many ≡ length (take n (drop f.position (entry_bytes base (entry_at base slot))))
    → ◌≡◌ {A = FileEffect} (file_effect (model.Read d n) bytes s)
    (record {
      system = record s { devices = slice_set s.devices d (Some (record f { position = f.position + many })) };
      reply = pos many;
      bytes = take n (drop f.position (entry_bytes base (entry_at base slot)));
    })
read_effect base bytes d n slot many f s c h u at may files name some within is =
    let old = entry_bytes base (entry_at base slot) in
    let open_is = open_bytes_is base slot f s c h u files name in
    let sized = bytes_sized base c slot h u in
    let to : List ℕ → FileEffect = λ b. taken (take n (drop f.position b)) d f s in
    let zero_is : (n == 0) ≡ false = grind (arith, nat_tests) in
    let inside : nat_le (length old) f.position ≡ false = (let q : f.position < length old = omega (arith, within, sized) in
    grind (arith, nat_tests)) in
    ap (λ o. on_open o (λ g. read_file d n g s) s) at
    ∙ ap (λ v. if not v then refused_effect s else
    (if n == 0 then replies (pos 0) s else
    (if nat_le (length (open_bytes f s)) f.position then replies (negsuc 1) s else to (open_bytes f s)))) may
    ∙ ap (λ v. if v then replies (pos 0) s else
    (if nat_le (length (open_bytes f s)) f.position then replies (negsuc 1) s else to (open_bytes f s))) zero_is
    ∙ ap (λ b. if nat_le (length b) f.position then replies (negsuc 1) s else to b) open_is
    ∙ ap (λ v. if v then replies (negsuc 1) s else to old) inside
    ∙ ap (λ k. let r : FileEffect = record {
      system = record s {
        devices =
            slice_set s.devices d (Some (record f { position = f.position + k }));
      };
      reply = pos k;
      bytes = take n (drop f.position old);
    } in
    r) (sym is)

-- A `getc` before the end gives the byte at the position.
pub getc_effect : (base bytes : List ℕ) (d slot b : ℕ) (f : OpenFile) (s : FileSystem) → IsCleanImage base → slot < 78
    → entry_is_used (entry_at base slot) ≡ true
    → open_at s d ≡ Some f → f.may_read ≡ true → s.files ≡ stored_files base → f.name ≡ bare_name (entry_at base slot).name
    → take 1 (drop f.position (entry_bytes base (entry_at base slot))) ≡ b ∷ []
    → ◌≡◌ {A = FileEffect} (file_effect (model.Getc d) bytes s)
    (record {
      system = record s { devices = slice_set s.devices d (Some (record f { position = f.position + 1 })) };
      reply = pos b;
      bytes = [];
    })
getc_effect base bytes d slot b f s c h u at may files name is =
    let open_is = open_bytes_is base slot f s c h u files name in
    ap (λ o. on_open o (λ g. getc_file d g s) s) at ∙ ap (λ v.
    if not v then refused_effect s else first_byte (take 1 (drop f.position (open_bytes f s))) d f s) may
    ∙ ap (λ x. first_byte (take 1 (drop f.position x)) d f s) open_is ∙ ap (λ x. first_byte x d f s) is

-- `putc` puts its byte if it fits.
pub putc_effect : (base made bytes : List ℕ) (d slot b : ℕ) (f : OpenFile) (s : FileSystem) → IsCleanImage base → slot < 78
    → entry_is_used (entry_at base slot) ≡ true
    → open_at s d ≡ Some f → f.may_write ≡ true → s.files ≡ stored_files base → f.name ≡ bare_name (entry_at base slot).name
    → fitting f (b ∷ []) s ≡ 1
    → stored_files made ≡ with_contents (bare_name (entry_at base slot).name)
    (overwritten f.position (b ∷ []) (entry_bytes base (entry_at base slot))) (stored_files base)
    → ◌≡◌ {A = FileEffect} (file_effect (model.Putc d b) bytes s)
    (record {
      system = record s {
        files = stored_files made;
        devices =
            slice_set s.devices d (Some (record f { position = f.position + 1 }));
      };
      reply = pos 0;
      bytes = [];
    })
putc_effect base made bytes d slot b f s c h u at may files name fit is =
    let old = entry_bytes base (entry_at base slot) in
    let open_is = open_bytes_is base slot f s c h u files name in
    let put : files_with f (b ∷ []) s ≡ stored_files made =
    ap (λ x. with_contents f.name (overwritten f.position (b ∷ []) x) s.files) open_is
    ∙ ap (λ x. with_contents x (overwritten f.position (b ∷ []) old) s.files) name
    ∙ ap (with_contents (bare_name (entry_at base slot).name) (overwritten f.position (b ∷ []) old)) files ∙ sym is in
    let room : have_room f (b ∷ []) s ≡ true = one (have_room f (b ∷ []) s) fit in
    let to : List StoredFile → FileEffect = λ fs. replies (pos 0) (record s {
      files = fs;
      devices = slice_set s.devices d (Some (record f { position = f.position + 1 }));
    }) in
    ap (λ o. on_open o (λ g. putc_file d b g s) s) at ∙ ap (λ v.
    if not v || not (have_room f (b ∷ []) s) then refused_effect s else to (files_with f (b ∷ []) s)) may
    ∙ ap (λ v. if not v then refused_effect s else to (files_with f (b ∷ []) s)) room ∙ ap to put
  where
    one : (v : Bool) → ◌≡◌ {A = ℕ} (if v then 1 else 0) 1 → v ≡ true
    one true e = refl
    one false e = absurd (omega (arith, e))

-- It isn't refused if there is room.
pub putc_granted : (bytes : List ℕ) (d b : ℕ) (f : OpenFile) (s : FileSystem) → open_at s d ≡ Some f → f.may_write ≡ true
    → 0 < fitting f (b ∷ []) s → (file_effect (model.Putc d b) bytes s).reply ≢ negsuc 0
putc_granted bytes d b f s at may some refused =
    let room : have_room f (b ∷ []) s ≡ true = one (have_room f (b ∷ []) s) some in
    let done : FileEffect = replies (pos 0) (put_bytes (b ∷ []) d f s) in
    let is : (file_effect (model.Putc d b) bytes s).reply ≡ pos 0 = ap (λ o. (on_open o (λ g. putc_file d b g s) s).reply) at
    ∙ ap (λ v. (if not v || not (have_room f (b ∷ []) s) then refused_effect s else done).reply) may
    ∙ ap (λ v. (if not v then refused_effect s else done).reply) room in
    absurd (cc (sym is ∙ refused))
  where
    one : (v : Bool) → 0 < (if v then 1 else 0) → v ≡ true
    one true e = refl
    one false e = absurd (omega (arith, e))

-- It is refused if there is no room.
pub putc_refused : (bytes : List ℕ) (d b : ℕ) (f : OpenFile) (s : FileSystem) → open_at s d ≡ Some f → fitting f (b ∷ []) s ≡ 0
    → file_effect (model.Putc d b) bytes s ≡ refused_effect s
putc_refused bytes d b f s at fit =
    let none : have_room f (b ∷ []) s ≡ false = zero_of (have_room f (b ∷ []) s) fit in
    let rest : FileEffect = replies (pos 0) (record s {
      files = files_with f (b ∷ []) s;
      devices = slice_set s.devices d (Some (record f { position = f.position + 1 }));
    }) in
    ap (λ o. on_open o (λ g. putc_file d b g s) s) at ∙ ap (λ v. if not f.may_write || not v then refused_effect s else rest) none
    ∙ both (not f.may_write) (refused_effect s) rest
  where
    zero_of : (v : Bool) → ◌≡◌ {A = ℕ} (if v then 1 else 0) 0 → v ≡ false
    zero_of true e = absurd (omega (arith, e))
    zero_of false e = refl

    both : (v : Bool) (a b : FileEffect) → (if v || true then a else b) ≡ a
    both true a b = refl
    both false a b = refl
