-- A name is looked for: it is in a block.
use Rattle.std.proofs.Common.{◌≡◌, ◌≢◌, ℕ, ◌+◌, ◌*◌, ◌<◌, ◌≤◌, Bool, true, false, ◌||◌, nat_lt, nat_le, nat_eq, ◌==◌, if◌then◌else◌, List, [], refl, sym, ap, ◌∙◌, subst, arith, slice_index_or, slice_set, Option, Some, None, pos, negsuc, bytes_eq, ⊎_elim}
use Rattle.std.proofs.lemmas.Bool.{false≢true, cases_lt, and_parts}
use Rattle.std.proofs.lemmas.Bool.Decides.{nat_tests}
use Rattle.std.proofs.lemmas.Slice.Eq.{bytes_eq-Decides}
use Rattle.lfs_format.specs.declared.Entry.{Entry}
use Rattle.lfs_format.specs.Directory.{dir_of, void_entry}
use Rattle.lfs_check.specs.declared.fields.Header.{Header}
use Rattle.lfs_check.specs.Rules.{entry_is_used, block_in}
use Rattle.lfs_check.specs.Fields.{header_2}
use Rattle.lfs_check.specs.Disks.{is_this, entry_at, header_on}
use Rattle.lfs_check.proofs.Directories.{entry_of_block}
use Rattle.lfs_check.proofs.KeepsAll.{either-way}
use Rattle.lfs_layout.specs.Files.{bare_name}
use Rattle.xinu_base.specs.declared.files.OpenMode.{OpenMode}
use Rattle.xinu_model.specs.Files.Modes.{reads, writes}
use Rattle.xinu_model.specs.Files.Stored.{StoredFile, file_named}
use Rattle.xinu_model.specs.Files.Systems.{FileEffect, free_device, refused_effect}
use Rattle.xinu_model.specs.Files.Opening.{open_stored}
use Rattle.file_laws.specs.StoredFiles.{stored_files, entry_bytes}
use Rattle.file_laws.proofs.Names.{name_padded}
use Rattle.file_laws.proofs.Named.{IsName, named_at}
use Rattle.local_files.specs.declared.OpenFile.{OpenFile}
use Rattle.local_files.specs.declared.Files.{Files}
use Rattle.local_files.specs.declared.FileCall.{FileCall}
use Rattle.local_files.specs.declared.FileCall.TheVariants.{Open, Delete, Close, Read, Write, Getc, Putc, Seek, Truncate, Size}
use Rattle.local_files.specs.Hands.{system, IsSearch, IsDevice, AreApart, IsCall, name_of, put_bytes, MayLook}
use Rattle.local_files.specs.Steps.{device_at, answered, lowest_free, is_this_open}
use Rattle.local_files.specs.Standing.{Stands, GoesTo, given_bytes, call_bytes, IsStanding}
use Rattle.local_files.specs.Opens.{IsLook, opened, finding, opening_at}
use Rattle.local_files.proofs.Closings.{blocks_many}
use Rattle.local_files.proofs.Devices.{answered_stands, set_stands, shown_set, is_open_same, not_open}
use Rattle.xinu_model.specs.Files.Systems as systems
use Rattle.xinu_model.specs.Files.Opening as model_opening
use Rattle.local_files.specs.Opens.{opening as opening_file}
use Rattle.local_files.specs.Cuts.{cutting}
use Rattle.local_files.proofs.Freeing.{goes_from}
use Rattle.local_files.proofs.CutWrites.{cutting_goes}
use Rattle.local_files.proofs.Standing.{at_base, in_hand}
use Rattle.local_files.specs.declared.Phase.TheVariants.{Wants}
use Rattle.local_files.specs.declared.Purpose.TheVariants.{Search}

-- facts of a search, for a call that opens a name
pub record Opening (e : Files) (name : List ℕ) (mode : OpenMode) (base : List ℕ) : Type 0 where
  pub right : IsCall (Open name mode)
  pub look : MayLook (Open name mode) (system e base)

-- the call in hand opens
pub opening_of : (e : Files) (name : List ℕ) (mode : OpenMode) (d : ℕ) (base disk : List ℕ) → e.call ≡ Open name mode → IsSearch e d base disk
    → Opening e name mode base
opening_of e name mode d base disk is h =
    let P : FileCall → Type 0 = λ k. MayLook k (system e base) in
    record { right = subst IsCall is h.call; look = subst P is h.look }

-- what an open does that isn't refused at once
pub begins_stored : (e : Files) (name : List ℕ) (mode : OpenMode) (base : List ℕ) (o : Option StoredFile)
    → MayLook (Open name mode) (system e base) → file_named (bare_name name) (stored_files base) ≡ o
    → model_opening.open_file (bare_name name) mode (system e base) ≡ open_stored o (bare_name name) mode (system e base)
begins_stored e name mode base o look is =
    let sys = system e base in
    let to : Bool → Bool → FileEffect = λ u v.
    if u || v then refused_effect sys else open_stored (file_named (bare_name name) sys.files) (bare_name name) mode sys in
    ap (λ u. to u (nat_le 6 (free_device sys.devices))) look.0 ∙ ap (to false) look.1 ∙ ap (λ o. open_stored o (bare_name name) mode sys) is

-- The name is in the block.
pub found_open : (e : Files) (name : List ℕ) (mode : OpenMode) (slot : ℕ) (entry : Entry) (base : List ℕ) → IsCall (Open name mode)
    → MayLook (Open name mode) (system e base) → Stands (answered (pos 0) e) base base
    → slot < 78 → entry_at base slot ≡ entry → is_this name entry ≡ true
    → GoesTo (finding (Open name mode) slot entry e).phase (Open name mode) [] e (finding (Open name mode) slot entry e) base base
found_open e name mode slot entry base right look s h at this =
    let sys = system e base in
    let two = and_parts (entry_is_used entry) (bytes_eq entry.name name) this in
    let same : entry.name ≡ name = (bytes_eq-Decides entry.name name).0 two.1 in
    let n : IsName name = record { padded = name_padded 27 name right.0; long = right.1 } in
    let used : entry_is_used (entry_at base slot) ≡ true = ap entry_is_used at ∙ two.0 in
    let there : file_named (bare_name name) (stored_files base) ≡ Some (record {
      name = bare_name (entry_at base slot).name;
      bytes = entry_bytes base (entry_at base slot);
    }) =
    ap (λ x. file_named (bare_name x) (stored_files base)) (sym same ∙ ap (λ (x : Entry). x.name) (sym at))
    ∙ named_at base s.clean slot h used in
    let start = begins_stored e name mode base _ look there in
    let d = lowest_free e in
    let free : d < 6 = (let t = look.1 in grind (arith, nat_tests)) in
    let free_test : nat_lt d 6 ≡ true = grind (arith, nat_tests) in
    let O : Bool → Type 0 = λ w. GoesTo (if w then opened slot entry mode e else answered (negsuc 0) e).phase (Open name mode) [] e
    (if w then opened slot entry mode e else answered (negsuc 0) e) base base in
    let f : OpenFile = opening_file slot entry mode in
    let at_name : List ℕ → systems.OpenFile = λ b. record { name = b; position = 0; may_read = reads mode; may_write = writes mode } in
    let result : List (Option systems.OpenFile) → FileEffect = λ ds.
    record { system = record { blocks = e.blocks; files = stored_files base; devices = ds }; reply = pos (4 + d); bytes = [] } in
    let closed : is_this_open name e.devices ≡ false = sym (is_open_same base name e.devices s.clean n s.device) ∙ look.0 in
    either-way mode.only_new
    (λ v. mode.only_new ≡ v → GoesTo (if v then answered (negsuc 0) e else opening_at slot entry mode e).phase (Open name mode) [] e
    (if v then answered (negsuc 0) e else opening_at slot entry mode e) base base)
    (λ _ t. (
      start ∙ ap (λ v. if v then refused_effect sys else model_opening.opened (bare_name name) mode sys) t,
      answered_stands
          (negsuc 0) (answered (pos 0) e) base s,
    ))
    (λ _ t. subst O (sym free_test) (
      start ∙ ap (λ v. if v then refused_effect sys else model_opening.opened (bare_name name) mode sys) t
          ∙ ap (λ b. result (slice_set sys.devices d (Some (at_name b)))) (ap bare_name (sym same))
          ∙ ap result (sym (shown_set e.devices d (Some f))),
      set_stands (pos (4 + d)) (answered (pos 0) e) base d (Some f) s free (record {
        slot = h;
        entry = at;
        used = two.0;
        position = omega arith;
      })
          (λ c ne. apart_from base (device_at e c) f at same (λ g q. not_open name e.devices c g closed q) (s.device c)),
    ))
    refl
  where
    apart_from : (base : List ℕ) (o : Option OpenFile) (f : OpenFile) → entry_at base f.slot ≡ f.entry → f.entry.name ≡ name
        → ((g : OpenFile) → o ≡ Some g → bytes_eq g.entry.name name ≡ false) → IsDevice base o → AreApart o (Some f) × AreApart (Some f) o
    apart_from base None f at same other h = (tt, tt)
    apart_from base (Some g) f at same other h =
        let ne : g.slot ≢ f.slot = λ q. (let e : g.entry.name ≡ name = ap (λ (x : Entry). x.name) (sym h.entry ∙ ap (entry_at base) q ∙ at)
        ∙ same in
        false≢true (sym (other g refl) ∙ (bytes_eq-Decides g.entry.name name).1 e)) in
        (ne, λ z. ne (sym z))

-- what is known of a call that looks, for another call
pub none_of : (e : Files) (base : List ℕ) (k : FileCall) → e.call ≡ k → MayLook e.call (system e base) → MayLook k (system e base)
none_of e base k is look = let L : FileCall → Type 0 = λ q. MayLook q (system e base) in subst L is look

-- the counts are those of the first block
pub head : (e : Files) (d : ℕ) (header : Header) (base read : List ℕ) → header ≡ (if d == 0 then header_2 (dir_of read) else e.header)
    → IsSearch e d base base → read ≡ block_in base d → header ≡ header_on base
unfolding header_on
head e d header base read counts h r =
    counts ∙ ⊎_elim
    (λ (lt : d < 1). (let z : d ≡ 0 = omega (arith, lt) in let t : nat_eq d 0 ≡ true = grind (arith, nat_tests) in
    ap (λ v. if v then header_2 (dir_of read) else e.header) t ∙ ap (λ b. header_2 (dir_of b)) (r ∙ ap (block_in base) z)))
    (λ (ge : 1 ≤ d). (let t : nat_eq d 0 ≡ false = grind (arith, nat_tests) in
    ap (λ v. if v then header_2 (dir_of read) else e.header) t ∙ h.header (omega (arith, ge))))
    (cases_lt d 1)

-- an entry of the block is that of the directory
pub entry_found : (e : Files) (d k : ℕ) (entry : Entry) (base disk read : List ℕ) → IsSearch e d base disk → Stands e base disk
    → read ≡ block_in disk d → k < 13 → entry ≡ slice_index_or (dir_of read).entries k void_entry → entry_at base (13 * d + k) ≡ entry
entry_found e d k entry base disk read h s honest below is =
    let many = blocks_many e base disk s in let blocks = s.blocks in let block = h.block in
    sym (is ∙ ap (λ b. slice_index_or (dir_of b).entries k void_entry) (honest ∙ ap (λ x. block_in x d) h.same)
    ∙ entry_of_block base e.blocks d k blocks (let m = many.0 in omega (arith, m)) block below)

-- what the code leaves, if the name is in block d
pub found_goes : (e e' : Files) (d k : ℕ) (header : Header) (entry : Entry) (name base disk read : List ℕ) → e.phase ≡ Wants (Search d)
    → header ≡ (if d == 0 then header_2 (dir_of read) else e.header)
    → e' ≡ finding e.call (13 * d + k) entry (record e { header = header }) → (IsLook e.call → name ≡ name_of e.call) → k < 13
    → is_this name entry ≡ true
    → entry ≡ slice_index_or (dir_of read).entries k void_entry → Stands e base disk → read ≡ block_in disk d
    → GoesTo e'.phase e.call (call_bytes e) e e' base disk
found_goes e e' d k header entry name base disk read phase counts new named below this is s honest =
    let hand : IsSearch e d base disk = in_hand phase s in
    let P : List ℕ → Type 0 = λ x. GoesTo e'.phase e.call (call_bytes e) e e' base x in
    let Q : Files → Type 0 = λ x. GoesTo x.phase e.call (call_bytes e) e x base base in
    subst P (sym hand.same) (subst Q (sym new) (by_call e.call refl hand))
  where
    e1 : Files
    e1 = record e { header = header }

    here : IsSearch e d base disk → entry_at base (13 * d + k) ≡ entry
    here h = entry_found e d k entry base disk read h s honest below is

    by_call : (c : FileCall) → e.call ≡ c → IsSearch e d base disk
        → GoesTo (finding c (13 * d + k) entry e1).phase c (given_bytes c (put_bytes e)) e (finding c (13 * d + k) entry e1) base base
    by_call (Open n mode) c h =
        let o = opening_of e n mode d base disk c h in
        let L : FileCall → Type 0 = λ q. IsLook q → name ≡ name_of q in
        let name_is : name ≡ n = (subst L c named) tt in
        let block = h.block in
        let idle : Stands (answered (pos 0) e1) base base = record {
          standing = at_base s.standing;
          hand = refl;
        } in
        let goes = found_open e1 n mode (13 * d + k) entry base o.right o.look idle (omega (arith, block, below)) (here h) (ap (λ x.
        is_this x entry) (sym name_is) ∙ this) in
        goes_from (finding (Open n mode) (13 * d + k) entry e1).phase (Open n mode) [] e1 e
        (finding (Open n mode) (13 * d + k) entry e1) base base refl goes
    by_call (Delete n) c h =
        let L : FileCall → Type 0 = λ q. IsLook q → name ≡ name_of q in
        let name_is : name ≡ n = (subst L c named) tt in
        let two = and_parts (entry_is_used entry) (bytes_eq entry.name name) this in
        let same : entry.name ≡ name = (bytes_eq-Decides entry.name name).0 two.1 in
        let block = h.block in
        let slot : 13 * d + k < 78 = omega (arith, block, below) in
        let read_is : read ≡ block_in base d = honest ∙ ap (λ x. block_in x d) h.same in
        let h2 : IsSearch e d base base = record {
          same = refl;
          block = h.block;
          call = h.call;
          look = h.look;
          none = h.none;
          free = h.free;
          header = h.header;
        } in
        let e2 : Files = record e1 { slot = 13 * d + k; entry = entry; call = Delete n } in
        let M : FileCall → Type 0 = λ q. MayLook q (system e base) in
        let s2 : IsStanding e2 base base = at_base s.standing in
        let goes = cutting_goes e2 base s2 slot (here h) two.0 (head e d header base read counts h2 read_is)
        (record {
          slot = slot;
          call = subst IsCall c h.call;
          closed = subst M c h.look;
          used = ap entry_is_used (here h)
              ∙ two.0;
          named = ap (λ (x : Entry). x.name) (here h) ∙ same ∙ name_is;
        }) in
        let C : FileCall → Type 0 = λ q. GoesTo (cutting entry (record e2 {
          call =
              q;
        })).phase (Delete n) [] e (cutting entry (record e2 { call = q })) base base in
        subst C (sym c) (goes_from (cutting entry e2).phase (Delete n) [] e2 e (cutting entry e2) base base refl goes)
    by_call (Close n) c h = absurd (none_of e base (Close n) c h.look)
    by_call (Read n m) c h = absurd (none_of e base (Read n m) c h.look)
    by_call (Write n) c h = absurd (none_of e base (Write n) c h.look)
    by_call (Getc n) c h = absurd (none_of e base (Getc n) c h.look)
    by_call (Putc n m) c h = absurd (none_of e base (Putc n m) c h.look)
    by_call (Seek n m) c h = absurd (none_of e base (Seek n m) c h.look)
    by_call (Truncate n) c h = absurd (none_of e base (Truncate n) c h.look)
    by_call (Size n) c h = absurd (none_of e base (Size n) c h.look)

-- The name isn't in the block.
