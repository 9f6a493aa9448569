-- The end of a call that writes the directory.
use Rattle.std.proofs.Common.{◌≡◌, ◌≢◌, ℕ, ◌+◌, ◌*◌, ◌/◌, ◌<◌, ◌≤◌, Bool, true, false, cond, ◌||◌, nat_le, List, [], length, map, refl, sym, ap, ◌∙◌, subst, arith, slice_set, Option, Some, None, pos, if◌then◌else◌, not, nat_eq, slice_index, ◌%◌}
use Rattle.std.proofs.lemmas.Bool.{false≢true}
use Rattle.std.proofs.lemmas.Bool.Decides.{nat_tests}
use Rattle.lfs_check.specs.Rules.{entry_is_used, block_in}
use Rattle.lfs_check.proofs.Images.{image_blocks}
use Rattle.lfs_check.specs.Disks.{is_this, block_put, entry_at, entries, dir_with_entry, dir_with_header}
use Rattle.lfs_check.proofs.BlockPuts.{length_put}
use Rattle.lfs_layout.specs.Files.{bare_name}
use Rattle.lfs_layout.proofs.MadeRules.{name_used}
use Rattle.xinu_base.specs.declared.files.OpenMode.{OpenMode}
use Rattle.xinu_model.specs.Files.Modes.{reads, writes}
use Rattle.xinu_model.specs.Files.Stored.{StoredFile, file_named}
use Rattle.xinu_model.specs.Files.Systems.{FileSystem, FileEffect, free_device, refused_effect}
use Rattle.xinu_model.specs.Files.Opening.{open_stored, with_created}
use Rattle.file_laws.specs.StoredFiles.{stored_files}
use Rattle.file_laws.proofs.Names.{name_padded}
use Rattle.file_laws.proofs.Named.{IsName, named_none, length_entries}
use Rattle.file_laws.proofs.Counted.{files_counted, count_less}
use Rattle.local_files.specs.declared.OpenFile.{OpenFile}
use Rattle.local_files.specs.declared.Files.{Files}
use Rattle.local_files.specs.declared.FileCall.{FileCall}
use Rattle.local_files.specs.declared.FileCall.TheVariants.{Open}
use Rattle.local_files.specs.Hands.{system, IsMade, IsDevice, IsOpenOn, AreApart, IsCall, IsCreating, IsClosing, IsEntryWrite, IsHeaderRead, IsEntryBlock, IsHeaderBlock, files_after, MayLook, name_of, but_blocks}
use Rattle.local_files.specs.Steps.{device_at, answered, lowest_free, shown}
use Rattle.local_files.specs.Standing.{Stands, GoesTo, call_bytes}
use Rattle.local_files.specs.Opens.{opened}
use Rattle.local_files.proofs.Devices.{set_stands, shown_set}
use Rattle.xinu_model.specs.Files.Systems as systems
use Rattle.xinu_model.specs.Files.Calls as model
use Rattle.xinu_model.specs.Files.Opening as model_opening
use Rattle.local_files.specs.Standing as engine
use Rattle.local_files.specs.Opens.{opening as opening_file}
use Rattle.lfs_format.specs.Directory.{dir_of, IsDirBlock}
use Rattle.local_files.proofs.Standing.{on_made, with_block, with_disk, in_hand}
use Rattle.local_files.specs.declared.Phase.TheVariants.{Wants}
use Rattle.local_files.specs.declared.Purpose.TheVariants.{EntryRead, EntryWrite, HeaderRead, HeaderWrite}

-- how many blocks there are
pub blocks_many : (e : Files) (base disk : List ℕ) → Stands e base disk → (14 ≤ e.blocks) × (length disk ≡ 512 * e.blocks)
blocks_many e base disk s =
    let size = image_blocks base s.clean.faultless in
    let n = length base / 512 in
    let low : 14 ≤ n = (let P : Bool → Type 0 = λ b. cond b 14 8 ≤ n in subst P s.clean.version size.0) in
    let b = s.blocks in let w = s.whole in (omega (arith, low, b), w ∙ b)

-- the blocks of a disk that the engine stands for
pub put_whole : (e : Files) (base disk : List ℕ) (n : ℕ) → Stands e base disk → n < e.blocks
    → length (block_put disk n e.block) ≡ length base
put_whole e base disk n s h = length_put disk n e.blocks e.block (blocks_many e base disk s).1 h s.outgoing ∙ s.whole

-- the directory block of the entry was read
pub put_entry_goes : (e e' : Files) (base disk read : List ℕ) → e.phase ≡ Wants EntryRead → e' ≡ record e { phase = Wants EntryWrite; block = e'.block }
    → IsDirBlock (dir_with_entry (dir_of read) (e.slot % 13) e.entry) e'.block → Stands e base disk → read ≡ block_in disk (e.slot / 13)
    → GoesTo e'.phase e.call (call_bytes e) e e' base disk
put_entry_goes e e' base disk read phase new put s honest =
    let hand : IsClosing e base disk = in_hand phase s in
    let n : Files = record e { phase = Wants EntryWrite; block = e'.block } in
    let R : List ℕ → Type 0 = λ b. IsDirBlock (dir_with_entry (dir_of b) (e.slot % 13) e.entry) e'.block in
    let block : IsEntryBlock e disk e'.block = subst R honest put in
    let P : Files → Type 0 = λ x. GoesTo x.phase e.call (call_bytes e) e x base disk in
    subst P (sym new) (
      record {
        standing = with_block s.standing block.long;
        hand = record {
          ending = hand.ending;
          slot = hand.slot;
          held = hand.held;
          next = hand.next e'.block block;
          made = λ hb q. hand.made e'.block hb block q;
        };
      },
      refl,
      refl,
      refl,
    )

-- it is written
pub entry_written_goes : (e e' : Files) (base disk : List ℕ) → e.phase ≡ Wants EntryWrite → e' ≡ record e { phase = Wants HeaderRead }
    → Stands e base disk → GoesTo e'.phase e.call (call_bytes e) e e' base (block_put disk (e.slot / 13) e.block)
entry_written_goes e e' base disk phase new s =
    let n : Files = record e { phase = Wants HeaderRead } in
    let hand : IsEntryWrite e base disk = in_hand phase s in
    let many = blocks_many e base disk s in
    let at : e.slot / 13 < e.blocks = (let h = hand.slot in let m = many.0 in omega (arith, h, m)) in
    let after = block_put disk (e.slot / 13) e.block in
    let P : Files → Type 0 = λ x. GoesTo x.phase e.call (call_bytes e) e x base after in
    subst P (sym new) (
      record {
        standing = with_disk s.standing (put_whole e base disk (e.slot / 13) s at);
        hand = record {
          ending = hand.ending;
          slot = hand.slot;
          held = hand.next;
          made = hand.made;
        };
      },
      refl,
      refl,
      refl,
    )

-- the first directory block was read
pub put_header_goes : (e e' : Files) (base disk read : List ℕ) → e.phase ≡ Wants HeaderRead
    → e' ≡ record e { phase = Wants HeaderWrite; block = e'.block }
    → IsDirBlock (dir_with_header (dir_of read) e.header) e'.block → Stands e base disk → read ≡ block_in disk 0
    → GoesTo e'.phase e.call (call_bytes e) e e' base disk
put_header_goes e e' base disk read phase new put s honest =
    let hand : IsHeaderRead e base disk = in_hand phase s in
    let R : List ℕ → Type 0 = λ b. IsDirBlock (dir_with_header (dir_of b) e.header) e'.block in
    let block : IsHeaderBlock e disk e'.block = subst R honest put in
    let P : Files → Type 0 = λ x. GoesTo x.phase e.call (call_bytes e) e x base disk in
    subst P (sym new) (
      record {
        standing = with_block s.standing block.long;
        hand = record {
          ending = hand.ending;
          slot = hand.slot;
          held = hand.held;
          made = hand.made e'.block block;
        };
      },
      refl,
      refl,
      refl,
    )

-- of the made disk an open device's entry is as it was
others_open : (e : Files) (base made : List ℕ) (f : OpenFile) → IsMade (but_blocks e) base made → entry_is_used (entry_at base e.slot) ≡ false
    → IsOpenOn base f → IsOpenOn made f × (f.slot ≢ e.slot)
others_open e base made f m free o =
    let ne : f.slot ≢ e.slot = λ q. false≢true (sym free ∙ ap (λ k. entry_is_used (entry_at base k)) (sym q) ∙ ap entry_is_used o.entry
    ∙ o.used) in
    (record { slot = o.slot; entry = m.others f.slot ne ∙ o.entry; used = o.used; position = o.position }, ne)

-- what all devices have open is on the disk that is made
all_open : (e : Files) (base made : List ℕ) (o : Option OpenFile) → IsMade (but_blocks e) base made → entry_is_used (entry_at base e.slot) ≡ false
    → IsDevice base o → IsDevice made o
all_open e base made None m free h = tt
all_open e base made (Some f) m free h = (others_open e base made f m free h).0

-- what was open is apart from the file that is made
away_from : (e : Files) (base made : List ℕ) (o : Option OpenFile) (f : OpenFile) → f.slot ≡ e.slot → IsMade (but_blocks e) base made
    → entry_is_used (entry_at base e.slot) ≡ false → IsDevice base o → AreApart o (Some f) × AreApart (Some f) o
away_from e base made None f q m free h = (tt, tt)
away_from e base made (Some g) f q m free h = let ne = (others_open e base made g m free h).1 in (λ z. ne (z ∙ q), λ z. ne (sym z ∙ q))

-- an open that makes its file finds none of its name
pub absent_named : (e : Files) (name : List ℕ) (mode : OpenMode) (base disk : List ℕ) → e.call ≡ Open name mode → Stands e base disk
    → IsCreating (but_blocks e) base → file_named (bare_name name) (stored_files base) ≡ None
absent_named e name mode base disk is s h =
    let right : IsCall (Open name mode) = subst IsCall is h.call in
    let n : IsName name = record { padded = name_padded 27 name right.0; long = right.1 } in
    let none : (k : ℕ) → k < 78 → is_this name (entry_at base k) ≡ false =
    (let P : FileCall → Type 0 = λ c. (k : ℕ) → k < 78 → is_this (name_of c) (entry_at base k) ≡ false in subst P is h.none) in
    named_none base name s.clean n none

-- an open that makes its file has its effect
pub creates : (e : Files) (name : List ℕ) (mode : OpenMode) (base disk : List ℕ) → e.call ≡ Open name mode → Stands e base disk
    → IsCreating (but_blocks e) base
    → model.file_effect (model.Open (bare_name name) mode) [] (system e base) ≡ model_opening.opened (bare_name name) mode
    (with_created (bare_name name) (system e base))
creates e name mode base disk is s h =
    let sys : FileSystem = system e base in
    let look : MayLook (Open name mode) sys = (let P : FileCall → Type 0 = λ k. MayLook k sys in subst P is h.look) in
    let absent = absent_named e name mode base disk is s h in
    let len = (length_entries base s.clean).0 in
    let few : nat_le 78 (length (stored_files base)) ≡ false =
    (let c = files_counted base s.clean in let hs = h.slot in
    let l = count_less entry_is_used (entries base) e.slot (omega (arith, hs, len)) h.free in
    let q : length (stored_files base) < 78 = omega (arith, c, l, len) in grind (arith, nat_tests)) in
    let to : Bool → Bool → FileEffect = λ u v.
    if u || v then refused_effect sys else open_stored (file_named (bare_name name) sys.files) (bare_name name) mode sys in
    let from : Bool → Bool → FileEffect = λ u v.
    if u || v then refused_effect sys else model_opening.opened (bare_name name) mode (with_created (bare_name name) sys) in
    ap (λ u. to u (nat_le 6 (free_device sys.devices))) look.0 ∙ ap (to false) look.1
    ∙ ap (λ o. open_stored o (bare_name name) mode sys) absent ∙ ap (λ u. from u (nat_le 78 (length sys.files))) (h.may name mode is)
    ∙ ap (from false) few

-- the counts are written: the file is made, and open
pub made_open : (e : Files) (name : List ℕ) (mode : OpenMode) (base disk made : List ℕ) → e.call ≡ Open name mode → Stands e base disk
    → IsCreating (but_blocks e) base → IsMade (but_blocks e) base made
    → GoesTo (opened e.slot e.entry mode e).phase (Open name mode) [] e (opened e.slot e.entry mode e) base made
made_open e name mode base disk made is s h m =
    let sys : FileSystem = system e base in
    let right : IsCall (Open name mode) = subst IsCall is h.call in
    let look : MayLook (Open name mode) sys = (let P : FileCall → Type 0 = λ k. MayLook k sys in subst P is h.look) in
    let free : lowest_free e < 6 = (let t = look.1 in grind (arith, nat_tests)) in
    let f : OpenFile = opening_file e.slot e.entry mode in
    let named : e.entry.name ≡ name = h.named ∙ ap name_of is in
    let files : stored_files made ≡ files_after (Open name mode) e base = m.files ∙ ap (λ k. files_after k (but_blocks e) base) is in
    let d = lowest_free e in
    let result : List StoredFile → List (Option systems.OpenFile)
    → FileEffect = λ fs ds. record { system = record { blocks = e.blocks; files = fs; devices = ds }; reply = pos (4 + d); bytes = [] } in
    let at : List ℕ → systems.OpenFile = λ b. record { name = b; position = 0; may_read = reads mode; may_write = writes mode } in
    let effect : engine.HasEffect (Open name mode) [] sys (pos (4 + d)) [] (system (opened e.slot e.entry mode e) made) =
    creates e name mode base disk is s h
    ∙ ap (λ b. result (files_after (Open name mode) e base) (slice_set sys.devices d (Some (at b)))) (ap bare_name (sym named))
    ∙ ap (result (files_after (Open name mode) e base)) (sym (shown_set e.devices d (Some f)))
    ∙ ap (λ fs. result fs (map shown (slice_set e.devices d (Some f)))) (sym files) in
    let before : Stands (answered (pos 0) e) made made = record {
      standing = on_made s.standing (record {
        clean = m.clean;
        blocks = m.size ∙ s.blocks;
        six = s.six;
        device = λ c. all_open e base made (device_at e c) m h.free (s.device c);
        apart = s.apart;
      });
      hand = refl;
    } in
    let used : entry_is_used e.entry ≡ true = ap (λ x. not (nat_eq (slice_index x 0) 0)) named ∙ name_used 27 name right.0 in (
      effect,
      set_stands (pos (4 + d)) (answered (pos 0) e) made d (Some f) before free (record {
        slot = h.slot;
        entry = m.entry;
        used = used;
        position = omega arith;
      })
          (λ c ne. away_from e base made (device_at e c) f refl m h.free (s.device c)),
    )
