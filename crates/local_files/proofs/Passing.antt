-- A name is looked for: it is not in a block.
use Rattle.std.proofs.Common.{◌≡◌, ℕ, ◌+◌, ◌-◌, ◌*◌, ◌/◌, ◌%◌, ◌<◌, ◌≤◌, Bool, true, false, ◌||◌, nat_lt, nat_le, ◌==◌, if◌then◌else◌, List, [], length, refl, sym, ap, ◌∙◌, subst, arith, slice_index_or, None, pos, negsuc, ⊎_elim}
use Rattle.std.proofs.lemmas.Bool.{cases_lt}
use Rattle.std.proofs.lemmas.Bool.Decides.{nat_tests}
use Rattle.lfs_format.specs.declared.Entry.{Entry}
use Rattle.lfs_format.specs.Directory.{dir_of, void_entry, IsDirBlock}
use Rattle.lfs_check.specs.declared.fields.Header.{Header}
use Rattle.lfs_check.specs.Rules.{entry_is_used, block_in}
use Rattle.lfs_check.specs.Fields.{header_2}
use Rattle.lfs_check.specs.Disks.{is_this, entry_at, entries, header_on, block_put, dir_with_entry, dir_with_header}
use Rattle.lfs_check.proofs.Directories.{entry_of_block}
use Rattle.lfs_check.proofs.KeepsAll.{either-way}
use Rattle.lfs_layout.specs.Files.{bare_name}
use Rattle.xinu_base.specs.declared.files.OpenMode.{OpenMode}
use Rattle.xinu_model.specs.Files.Stored.{file_named}
use Rattle.xinu_model.specs.Files.Systems.{FileEffect, refused_effect}
use Rattle.xinu_model.specs.Files.Opening.{with_created}
use Rattle.file_laws.specs.StoredFiles.{stored_files, empty_entry, one_more}
use Rattle.file_laws.proofs.Names.{name_padded}
use Rattle.file_laws.proofs.Named.{IsName, named_none, length_entries}
use Rattle.file_laws.proofs.Counted.{files_counted, count_all}
use Rattle.file_laws.proofs.Created.{created}
use Rattle.file_laws.proofs.Resting.{clean_holds, creating_holds}
use Rattle.local_files.specs.declared.Files.{Files}
use Rattle.local_files.specs.declared.FileCall.{FileCall}
use Rattle.local_files.specs.declared.FileCall.TheVariants.{Open, Delete, Close, Read, Write, Getc, Putc, Seek, Truncate, Size}
use Rattle.local_files.specs.Hands.{system, IsSearch, IsFreeSlot, IsMade, IsEnding, IsCall, name_of, put_bytes, files_after, MayLook, but_blocks}
use Rattle.local_files.specs.Steps.{answered}
use Rattle.local_files.specs.Standing.{Stands, GoesTo, given_bytes, call_bytes}
use Rattle.local_files.specs.Opens.{IsNoted, IsLook, missing, searching_on}
use Rattle.local_files.proofs.Closings.{blocks_many}
use Rattle.xinu_model.specs.Files.Opening as model_opening
use Rattle.file_laws.proofs.Effects.{delete_refused}
use Rattle.local_files.proofs.Searching.{opening_of, begins_stored, none_of, head}
use Rattle.local_files.proofs.Standing.{at_base, in_hand}
use Rattle.local_files.specs.declared.Phase.TheVariants.{Wants}
use Rattle.local_files.specs.declared.Purpose.TheVariants.{Search, EntryRead}

-- what is known after one more block
record Passed (e : Files) (d slot : ℕ) (base : List ℕ) : Type 0 where
  none : (k : ℕ) → k < 13 * (d + 1) → is_this (name_of e.call) (entry_at base k) ≡ false
  free : IsFreeSlot base (13 * (d + 1)) slot

-- one more block does not have the name
passed : (e : Files) (d slot : ℕ) (name base : List ℕ) (es : List Entry) → IsSearch e d base base → name ≡ name_of e.call
    → ((k : ℕ) → k < 13 → slice_index_or es k void_entry ≡ entry_at base (13 * d + k))
    → ((k : ℕ) → k < 13 → is_this name (slice_index_or es k void_entry) ≡ false) → IsNoted d e.slot slot es → Passed e d slot base
passed e d slot name base es h name_is here not_here noted = record { none = all; free = record { found = found; full = full } }
  where
    inside : (k : ℕ) → k < 13 * (d + 1) → 13 * d ≤ k → (k - 13 * d < 13) × (13 * d + (k - 13 * d) ≡ k)
    inside k lt ge = (omega (arith, lt, ge), omega (arith, ge))

    all : (k : ℕ) → k < 13 * (d + 1) → is_this (name_of e.call) (entry_at base k) ≡ false
    all k lt = ⊎_elim (h.none k)
        (λ ge. (let i = inside k lt ge in
        ap (λ x. is_this x (entry_at base k)) (sym name_is) ∙ ap (λ j. is_this name (entry_at base j)) (sym i.1)
        ∙ ap (is_this name) (sym (here (k - 13 * d) i.0)) ∙ not_here (k - 13 * d) i.0))
        (cases_lt k (13 * d))

    found : slot < 78 → (slot < 13 * (d + 1)) × (entry_is_used (entry_at base slot) ≡ false)
    found lt = ⊎_elim
        (λ (b : e.slot < 78). (let q = noted.kept b in let f = h.free.found b in let below = f.0 in
        (omega (arith, q, below), ap (λ k. entry_is_used (entry_at base k)) q ∙ f.1)))
        (λ (b : 78 ≤ e.slot). (let f = noted.found b lt in let low = f.0 in let high = f.1 in
        let i : (slot - 13 * d < 13) × (13 * d + (slot - 13 * d) ≡ slot) = (omega (arith, low, high), omega (arith, low)) in (
          omega (arith, high),
          ap (λ k. entry_is_used (entry_at base k)) (sym i.1) ∙ ap entry_is_used (sym (here (slot - 13 * d) i.0))
              ∙ f.2,
        )))
        (cases_lt e.slot 78)

    full : 78 ≤ slot → (k : ℕ) → k < 13 * (d + 1) → entry_is_used (entry_at base k) ≡ true
    full ge k lt = ⊎_elim
        (λ (b : e.slot < 78). absurd (let q = noted.kept b in omega (arith, q, b, ge)))
        (λ (b : 78 ≤ e.slot). ⊎_elim (h.free.full b k)
        (λ m. (let i = inside k lt m in ap (λ j. entry_is_used (entry_at base j)) (sym i.1) ∙ ap entry_is_used (sym (here (k - 13 * d) i.0))
        ∙ noted.none ge (k - 13 * d) i.0))
        (cases_lt k (13 * d)))
        (cases_lt e.slot 78)

-- the search is over: there is no file of the name
pub missing_open : (e : Files) (name : List ℕ) (mode : OpenMode) (slot : ℕ) (header : Header) (base : List ℕ) → e.call ≡ Open name mode
    → IsCall (Open name mode) → MayLook (Open name mode) (system e base)
    → Stands (answered (pos 0) e) base base → ((k : ℕ) → k < 78 → is_this name (entry_at base k) ≡ false) → IsFreeSlot base 78 slot
    → header ≡ header_on base
    → GoesTo (missing (Open name mode) (record e {
      header = header;
      slot = slot;
    })).phase (Open name mode) [] e (missing (Open name mode) (record e { header = header; slot = slot })) base base
missing_open e name mode slot header base call right look s none free counts =
    let sys = system e base in
    let n : IsName name = record { padded = name_padded 27 name right.0; long = right.1 } in
    let absent : file_named (bare_name name) (stored_files base) ≡ None = named_none base name s.clean n none in
    let start = begins_stored e name mode base None look absent in
    let e1 : Files = record e { header = header; slot = slot } in
    let e2 : Files = record e1 { entry = empty_entry name; header = one_more header; phase = Wants EntryRead } in
    let to : Bool → Bool → FileEffect = λ u v.
    if u || v then refused_effect sys else model_opening.opened (bare_name name) mode (with_created (bare_name name) sys) in
    let len = (length_entries base s.clean).0 in
    let count = files_counted base s.clean in
    let refused : Stands (answered (negsuc 0) e1) base base =
    record {
      standing = at_base s.standing;
      hand = refl;
    } in
    let G : Bool → Bool → Type 0 = λ u v.
    GoesTo (if u || v then answered (negsuc 0) e1 else e2).phase (Open name mode) [] e
    (if u || v then answered (negsuc 0) e1 else e2) base base in
    either-way mode.only_old
    (λ u. mode.only_old ≡ u → G u (nat_le 78 slot))
    (λ _ t. (start ∙ ap (λ u. to u (nat_le 78 (length sys.files))) t, refused))
    (λ _ t. either-way (nat_le 78 slot)
    (λ v. nat_le 78 slot ≡ v → G false v)
    (λ _ w. (let full : 78 ≤ slot = grind (arith, nat_tests) in
    let all = count_all entry_is_used (entries base) (λ k l. free.full full k (omega (arith, l, len))) in
    let many : nat_le 78 (length sys.files) ≡ true = (let q : 78 ≤ length (stored_files base) = omega (arith, count, all, len) in
    grind (arith, nat_tests)) in
    (start ∙ ap (λ u. to u (nat_le 78 (length sys.files))) t ∙ ap (to false) many, refused)))
    (λ _ w. (let low : slot < 78 = grind (arith, nat_tests) in
    let f = free.found low in
    let becomes : (eb hb : List ℕ) → IsDirBlock (dir_with_entry (dir_of (block_in base (slot / 13))) (slot % 13) (empty_entry name)) eb
    → IsDirBlock (dir_with_header (dir_of (block_in (block_put base (slot / 13) eb) 0)) (one_more header)) hb
    → IsMade (but_blocks e2) base (block_put (block_put base (slot / 13) eb) 0 hb) = λ eb hb ee hh. (
    let Q : Header → Type 0 = λ x. IsDirBlock (dir_with_header (dir_of (block_in (block_put base (slot / 13) eb) 0)) (one_more x)) hb in
    let m = created base slot name eb hb s.clean low f.1 right.0 right.1 none ee (subst Q counts hh) in
    record {
      clean = m.clean;
      size = m.size;
      files = m.files
          ∙ ap (λ q. files_after q (but_blocks e2) base) (sym call);
      entry = m.entry;
      others = m.others;
    }) in (
      record {
        standing = at_base s.standing;
        hand = record {
          slot = low;
          made = becomes;
          held = λ rests busy. clean_holds base rests s.clean;
          next = λ eb ee rests busy.
              creating_holds base slot (empty_entry name) eb rests s.clean low f.1 ee
              (sym (ap (λ v. rests (bare_name (if v then (entry_at base slot).name else name))) f.1) ∙ busy);
          ending = (let E : FileCall → Type 0 = λ q. IsEnding q (but_blocks e2) base in
              subst E (sym call) (record {
                slot = low;
                call = subst IsCall (sym call) right;
                look =
                    (let M : FileCall → Type 0 = λ q. MayLook q sys in subst M (sym call) look);
                none = (let N : FileCall → Type 0 = λ q. (k : ℕ) → k < 78 → is_this (name_of q) (entry_at base k) ≡ false in
                    subst N (sym call) none);
                named = ap name_of (sym call);
                empty = refl;
                free = f.1;
                may = λ x y q. same_mode name x mode y (sym call ∙ q) t;
              }));
        };
      },
      call,
      ap (λ q. given_bytes q (put_bytes e2)) call,
      refl,
    )))
    refl)
    refl
  where
    same_mode : (a b : List ℕ) (x y : OpenMode) → ◌≡◌ {A = FileCall} (Open a x) (Open b y) → x.only_old ≡ false → y.only_old ≡ false
    same_mode a b x y q t = ap only_old_of (sym q) ∙ t
      where
        only_old_of : FileCall → Bool
        only_old_of (Open n mode) = mode.only_old
        only_old_of _ = false

-- the search is over for a deletion: it is refused
missing_delete : (e : Files) (name : List ℕ) (slot : ℕ) (header : Header) (base : List ℕ) → IsCall (Delete name)
    → Stands (answered (pos 0) e) base base → ((k : ℕ) → k < 78 → is_this name (entry_at base k) ≡ false)
    → GoesTo (missing (Delete name) (record e {
      header = header;
      slot = slot;
    })).phase (Delete name) [] e (missing (Delete name) (record e { header = header; slot = slot })) base base
missing_delete e name slot header base right s none =
    let n : IsName name = record { padded = name_padded 27 name right.0; long = right.1 } in (
      delete_refused (bare_name name) [] (system e base) (named_none base name s.clean n none),
      record {
        standing = at_base s.standing;
        hand = refl;
      },
    )

-- what the code leaves, if the name isn't in block d
pub pass_goes : (e e' : Files) (d : ℕ) (header : Header) (name base disk read : List ℕ) → e.phase ≡ Wants (Search d)
    → header ≡ (if d == 0 then header_2 (dir_of read) else e.header)
    → e' ≡ searching_on d (record e { header = header; slot = e'.slot }) → (IsLook e.call → name ≡ name_of e.call)
    → ((k : ℕ) → k < 13 → is_this name (slice_index_or (dir_of read).entries k void_entry) ≡ false)
    → IsNoted d e.slot e'.slot (dir_of read).entries
    → Stands e base disk → read ≡ block_in disk d → GoesTo e'.phase e.call (call_bytes e) e e' base disk
pass_goes e e' d header name base disk read phase counts new named not_here noted s honest =
    let P : List ℕ → Type 0 = λ x. GoesTo e'.phase e.call (call_bytes e) e e' base x in
    let Q : Files → Type 0 = λ x. GoesTo x.phase e.call (call_bytes e) e x base base in
    let next : Files = record e1 { phase = Wants (Search (d + 1)) } in
    subst P (sym hand.same) (subst Q (sym new) (either-way (nat_lt d 5)
    (λ v. nat_lt d 5 ≡ v → Q (if v then next else missing e.call e1))
    (λ _ t. (
      record {
        standing = at_base s.standing;
        hand = record {
          same = refl;
          block = (let lt : d < 5 = grind (arith, nat_tests) in omega (arith, lt));
          call = h.call;
          look = h.look;
          none = q.none;
          free = q.free;
          header = λ z. counts_is;
        };
      },
      refl,
      refl,
      refl,
    ))
    (λ _ t. (let five : d ≡ 5 = (let ge : 5 ≤ d = grind (arith, nat_tests) in let b = h.block in omega (arith, ge, b)) in
    let N : ℕ → Type 0 = λ m. (k : ℕ) → k < 13 * (m + 1) → is_this (name_of e.call) (entry_at base k) ≡ false in
    let F : ℕ → Type 0 = λ m. IsFreeSlot base (13 * (m + 1)) e'.slot in
    by_call e.call refl (subst N five q.none) (subst F five q.free)))
    refl))
  where
    hand : IsSearch e d base disk
    hand = in_hand phase s

    h : IsSearch e d base base
    h = record {
      same = refl;
      block = hand.block;
      call = hand.call;
      look = hand.look;
      none = hand.none;
      free = hand.free;
      header = hand.header;
    }

    e1 : Files
    e1 = record e { header = header; slot = e'.slot }

    read_is : read ≡ block_in base d
    read_is = honest ∙ ap (λ x. block_in x d) hand.same

    counts_is : header ≡ header_on base
    counts_is = head e d header base read counts h read_is

    looks : IsLook e.call
    looks = looks_of e.call refl h.look
      where
        looks_of : (k : FileCall) → e.call ≡ k → MayLook k (system e base) → IsLook k
        looks_of (Open n mode) c l = tt
        looks_of (Delete n) c l = tt
        looks_of (Close n) c l = absurd l
        looks_of (Read n m) c l = absurd l
        looks_of (Write n) c l = absurd l
        looks_of (Getc n) c l = absurd l
        looks_of (Putc n m) c l = absurd l
        looks_of (Seek n m) c l = absurd l
        looks_of (Truncate n) c l = absurd l
        looks_of (Size n) c l = absurd l

    q : Passed e d e'.slot base
    q = let many = blocks_many e base disk s in let blocks = s.blocks in let block = h.block in
        passed e d e'.slot name base (dir_of read).entries h (named looks)
        (λ k lt. ap (λ b. slice_index_or (dir_of b).entries k void_entry) read_is
        ∙ entry_of_block base e.blocks d k blocks (let m = many.0 in omega (arith, m)) block lt) not_here noted

    idle : Stands (answered (pos 0) e) base base
    idle = record {
      standing = at_base s.standing;
      hand = refl;
    }

    by_call : (c : FileCall) → e.call ≡ c → ((k : ℕ) → k < 78 → is_this (name_of e.call) (entry_at base k) ≡ false)
        → IsFreeSlot base 78 e'.slot → GoesTo (missing c e1).phase c (given_bytes c (put_bytes e)) e (missing c e1) base base
    by_call (Open n mode) c none free =
        let o = opening_of e n mode d base base c h in
        let M : FileCall → Type 0 = λ w. (k : ℕ) → k < 78 → is_this (name_of w) (entry_at base k) ≡ false in
        missing_open e n mode e'.slot header base c o.right o.look idle (subst M c none) free counts_is
    by_call (Delete n) c none free =
        let M : FileCall → Type 0 = λ w. (k : ℕ) → k < 78 → is_this (name_of w) (entry_at base k) ≡ false in
        missing_delete e n e'.slot header base (subst IsCall c h.call) idle (subst M c none)
    by_call (Close n) c none free = absurd (none_of e base (Close n) c h.look)
    by_call (Read n m) c none free = absurd (none_of e base (Read n m) c h.look)
    by_call (Write n) c none free = absurd (none_of e base (Write n) c h.look)
    by_call (Getc n) c none free = absurd (none_of e base (Getc n) c h.look)
    by_call (Putc n m) c none free = absurd (none_of e base (Putc n m) c h.look)
    by_call (Seek n m) c none free = absurd (none_of e base (Seek n m) c h.look)
    by_call (Truncate n) c none free = absurd (none_of e base (Truncate n) c h.look)
    by_call (Size n) c none free = absurd (none_of e base (Size n) c h.look)
