-- The steps of a call that puts bytes: which block it goes on to.
use Rattle.std.proofs.Common.{◌≡◌, ◌≢◌, ℕ, suc, ◌+◌, ◌/◌, ◌<◌, ◌≤◌, Bool, true, false, ◌||◌, nat_le, List, length, refl, sym, ap, ◌∙◌, subst, arith, negsuc, if◌then◌else◌, nat_eq, slice_index, ◌&&◌, ◌%◌, ⊎_elim, take, nat_lt, ◌==◌, inl, inr}
use Rattle.std.proofs.lemmas.Bool.{false≢true, cases_lt, and_parts}
use Rattle.std.proofs.lemmas.Bool.Decides.{nat_tests}
use Rattle.lfs_check.specs.Disks.{entry_at}
use Rattle.file_laws.specs.StoredFiles.{entry_bytes}
use Rattle.local_files.specs.declared.Files.{Files}
use Rattle.local_files.specs.declared.Phase.{Phase}
use Rattle.local_files.specs.Hands.{put_bytes}
use Rattle.local_files.specs.Putting.{IsPutting, IsReady, IsAt}
use Rattle.local_files.specs.Steps.{answered, at_byte}
use Rattle.local_files.specs.Wanted.{going_on}
use Rattle.local_files.specs.Standing.{GoesTo, call_bytes, IsStanding}
use Rattle.xinu_model.specs.Files.Writing.{overwritten}
use Rattle.std.proofs.Common.{◌-◌, drop}
use Rattle.lfs_format.specs.declared.Index.{Index}
use Rattle.lfs_check.specs.Meets.{null}
use Rattle.lfs_check.specs.Laid.{Places, numbers_at, index_for}
use Rattle.lfs_check.specs.declared.fields.Header.{Header}
use Rattle.lfs_check.proofs.KeepsAll.{either-way}
use Rattle.file_laws.specs.Middle.{IsMiddle}
use Rattle.file_laws.specs.Changing.{IsReadBy}
use Rattle.file_laws.proofs.Reached.{middle_read, free_data_first, free_data_some, free_data_none, free_index_none}
use Rattle.local_files.proofs.Freeing.{some_at}
use Rattle.local_files.proofs.CutSteps.{index_on_disk}
use Rattle.local_files.proofs.Taking.{block_of}
use Rattle.local_files.specs.Puts.{end_put, at_end, target, reach_to, in_place, appending, next_put}
use Rattle.file_laws.specs.Fitting.{IsFull}
use Rattle.local_files.proofs.Putting.{where_put, put_size, end_put_goes}
use Rattle.local_files.specs.declared.Phase.TheVariants.{Wants}
use Rattle.local_files.specs.declared.Purpose.TheVariants.{Reach, PatchRead, TakeRead}

-- what is put, once a block is written or taken
abbrev pub put_changed : (e : Files) (ph : Phase) (ix : Index) (hd : Header) (a r : ℕ) (b : List ℕ) (base disk made : List ℕ) (p p2 : Places)
    → IsPutting e base disk p → hd.files ≡ e.header.files
    → IsMiddle e.blocks base made hd e.slot e.entry p2
    (overwritten e.counters.position (take e.counters.done (put_bytes e)) (entry_bytes base (entry_at base e.slot)))
    → IsPutting (record e { phase = ph; index = ix; header = hd; at = a; reached = r; block = b }) base made p2
put_changed e ph ix hd a r b base disk made p p2 u files middle = record {
  call = u.call;
  file = u.file;
  open_is = u.open_is;
  writes = u.writes;
  slot = u.slot;
  position = u.position;
  most = u.most;
  few = u.few;
  some = u.some;
  files = files ∙ u.files;
  middle = middle;
}

-- it does not depend on what the call waits for
abbrev pub put_kept : (e : Files) (ph : Phase) (ix : Index) (a r : ℕ) (b : List ℕ) (base disk : List ℕ) (p : Places)
    → IsPutting e base disk p
    → IsPutting (record e { phase = ph; index = ix; at = a; reached = r; block = b }) base disk p
put_kept e ph ix a r b base disk p u = put_changed e ph ix e.header a r b base disk disk p p u refl u.middle

-- the index block that a call is at, with other fields of the engine
abbrev pub at_kept : (e : Files) (ph : Phase) (b : List ℕ) (p : Places) → IsAt e p → IsAt (record e { phase = ph; block = b }) p
at_kept e ph b p c = record { below = c.below; at = c.at; index = c.index }

-- a call that goes on, with other fields of the engine
abbrev pub ready_kept : (e : Files) (ph : Phase) (b base disk : List ℕ) → IsReady e base disk
    → IsReady (record e { phase = ph; block = b }) base disk
ready_kept e ph b base disk r = record {
  places = r.places;
  putting = put_kept e ph e.index e.at e.reached b base disk r.places r.putting;
  no_index = r.no_index;
  no_data = r.no_data;
  fresh = r.fresh;
  cursor = at_kept e ph b r.places r.cursor;
  near = r.near;
}

-- the tests of the next bytes
pub ends_is : (e : Files) → at_end e ≡ true → (at_byte e ≡ e.entry.size) × (at_byte e % 512 ≡ 0)
ends_is e t = let two = and_parts (nat_eq (at_byte e) e.entry.size) (at_byte e % 512 == 0) t in let a = two.0 in let b = two.1 in
    ((grind (arith, nat_tests)), (grind (arith, nat_tests)))

-- at the size, but within a block
pub not_ends : (e : Files) → at_end e ≡ false → at_byte e ≡ e.entry.size → at_byte e % 512 ≢ 0
not_ends e t same z =
    let a : nat_eq (at_byte e) e.entry.size ≡ true = grind (arith, nat_tests) in
    false≢true (sym t ∙ ap (λ v. v && (at_byte e % 512 == 0)) a ∙ ap (λ k. k == 0) z)

-- the data block of bytes that go into the file
pub inside_is : (e : Files) (base disk : List ℕ) (p : Places) → IsStanding e base disk → (u : IsPutting e base disk p) → at_end e ≡ false
    → at_byte e / 512 < length (numbers_at p.datas e.slot)
inside_is e base disk p s u t =
    let r = (middle_read e.blocks base disk e.header e.slot e.entry p
    (overwritten e.counters.position (take e.counters.done (put_bytes e)) (entry_bytes base (entry_at base e.slot))) u.middle).blocks_long in
    let q = where_put e base disk p s u in let z = put_size e base disk p s u in
    ⊎_elim
    (λ (lt : at_byte e < e.entry.size). omega (arith, lt, r))
    (λ (ge : e.entry.size ≤ at_byte e). (let same : at_byte e ≡ e.entry.size = omega (arith, ge, q, z) in let n = not_ends e t same in
    omega (arith, same, n, r)))
    (cases_lt (at_byte e) e.entry.size)

-- the index block of bytes within the file
pub target_in : (e : Files) → at_end e ≡ false → target e ≡ at_byte e / 8192
target_in e t = ap (λ v. if v && nat_lt 0 (at_byte e) then (at_byte e - 1) / 8192 else at_byte e / 8192) t

-- the index block of bytes at the end
pub target_end : (e : Files) → at_end e ≡ true → 0 < at_byte e → target e ≡ (at_byte e - 1) / 8192
target_end e t h = let a : nat_lt 0 (at_byte e) ≡ true = grind (arith, nat_tests) in
    ap (λ v. if v && nat_lt 0 (at_byte e) then (at_byte e - 1) / 8192 else at_byte e / 8192) t
    ∙ ap (λ v. if v then (at_byte e - 1) / 8192 else at_byte e / 8192) a

module _ (e : Files) (base disk : List ℕ) (s : IsStanding e base disk) (r : IsReady e base disk) where
  abbrev pub G : Files → Type 0
  G x = GoesTo x.phase e.call (call_bytes e) e x base disk

  abbrev p : Places
  p = r.places

  abbrev u : IsPutting e base disk p
  u = r.putting

  abbrev bytes : List ℕ
  bytes = overwritten e.counters.position (take e.counters.done (put_bytes e)) (entry_bytes base (entry_at base e.slot))

  read : IsReadBy e.blocks disk e.entry (numbers_at p.chains e.slot) (numbers_at p.datas e.slot)
  read = middle_read e.blocks base disk e.header e.slot e.entry p bytes u.middle

  low : 14 ≤ e.blocks
  low = u.middle.low

  -- goes on to an index block
  reaching_goes : (rest at : ℕ) → e.counters.done < e.counters.total → rest ≤ target e → target e < length (numbers_at p.chains e.slot)
      → at ≡ slice_index (numbers_at p.chains e.slot) (target e - rest) → (0 < rest → e.reached ≡ 0) → G (going_on (Reach rest at) e)
  reaching_goes rest at left few below here start =
      let b = (read.index (target e - rest) (omega (arith, below))).below in
      let on : nat_lt (6 + at / 7) e.blocks ≡ true = ap (λ k. nat_lt (6 + k / 7) e.blocks) here ∙ index_on_disk e.blocks _ low b in
      let e2 : Files = record e { phase = Wants (Reach rest at) } in
      let P : Bool → Type 0 = λ v. G (if v then e2 else answered (negsuc 0) e) in
      subst P (sym on) (
        record {
          standing = s;
          hand = record {
            ready = ready_kept e (Wants (Reach rest at)) e.block base disk r;
            left = left;
            few = few;
            below = below;
            start = start;
            here = here;
          };
        },
        refl,
        refl,
        refl,
      )

  reach_to_goes : e.counters.done < e.counters.total → target e < length (numbers_at p.chains e.slot) → e.reached ≢ target e + 1 → G (reach_to e)
  reach_to_goes left below other =
      either-way (e.reached == 0) (λ v. (e.reached == 0) ≡ v
      → G (if v then going_on (Reach (target e) e.entry.first) e else going_on (Reach 0 e.index.next) e))
      (λ _ t. (reaching_goes (target e) e.entry.first left (omega arith) below (read.first
      ∙ some_at (numbers_at p.chains e.slot) 0 null (omega (arith, below))
      ∙ ap (slice_index (numbers_at p.chains e.slot)) (let z : 0 ≡ target e - target e = omega arith in z)) (λ _. zero_is e.reached t)))
      (λ _ t. (let some : 0 < e.reached = above e.reached t in let near = r.near some in let a = near.0 in let b = near.1 in
      let same : suc (e.reached - 1) ≡ target e - 0 = omega (arith, some, a, b, other) in
      reaching_goes 0 e.index.next left (omega arith) below (ap (λ (x : Index). x.next) (r.cursor.index some)
      ∙ some_at (numbers_at p.chains e.slot) (suc (e.reached - 1)) null (omega (arith, same, below))
      ∙ ap (slice_index (numbers_at p.chains e.slot)) same) (λ h. absurd (omega (arith, h)))))
      refl
    where
      zero_is : (k : ℕ) → (k == 0) ≡ true → k ≡ 0
      zero_is k z = grind (arith, nat_tests)

      above : (k : ℕ) → (k == 0) ≡ false → 0 < k
      above k z = grind (arith, nat_tests)

  -- the next bytes go into a data block of the file
  in_place_goes : e.counters.done < e.counters.total → at_end e ≡ false → G (in_place e)
  in_place_goes left inside =
      let q = at_byte e in
      let lt = inside_is e base disk p s u inside in
      let t_is = target_in e inside in
      let bl = read.blocks_long in let cl = read.chain_long in
      let below : target e < length (numbers_at p.chains e.slot) = omega (arith, t_is, lt, bl, cl) in
      either-way (e.reached == target e + 1) (λ v. (e.reached == target e + 1) ≡ v
      → G (if v then going_on (PatchRead (slice_index e.index.blocks (q / 512 % 16))) e else reach_to e))
      (λ _ t. (let same : e.reached ≡ target e + 1 = grind (arith, nat_tests) in
      let index : e.index ≡ index_for (q / 8192) (numbers_at p.chains e.slot) (numbers_at p.datas e.slot) =
      r.cursor.index (omega (arith, same))
      ∙ ap (λ j. index_for j (numbers_at p.chains e.slot) (numbers_at p.datas e.slot)) (omega (arith, same, t_is)) in
      let here : slice_index e.index.blocks (q / 512 % 16) ≡ slice_index (numbers_at p.datas e.slot) (q / 512) =
      block_of e base q (numbers_at p.chains e.slot) (numbers_at p.datas e.slot) index lt in
      let high = (read.block (q / 512) lt).1 in
      let b = slice_index e.index.blocks (q / 512 % 16) in
      let on : nat_lt b e.blocks ≡ true = (let z : b < e.blocks = omega (arith, here, high) in grind (arith, nat_tests)) in
      let e2 : Files = record e { phase = Wants (PatchRead b) } in
      let P : Bool → Type 0 = λ v. G (if v then e2 else answered (negsuc 0) e) in
      subst P (sym on) (
        record {
          standing = s;
          hand = record {
            ready = ready_kept e (Wants (PatchRead b)) e.block base disk r;
            left = left;
            reached = same;
            inside = inside;
            here = here;
          };
        },
        refl,
        refl,
        refl,
      )))
      (λ _ t. reach_to_goes left below (λ z. false≢true (sym t ∙ same_test e.reached (target e + 1) z)))
      refl
    where
      same_test : (a b : ℕ) → a ≡ b → (a == b) ≡ true
      same_test a b z = grind (arith, nat_tests)

  -- the next bytes need a new data block
  appending_goes : e.counters.done < e.counters.total → at_end e ≡ true → G (appending e)
  appending_goes left ends =
      let q = at_byte e in
      let m = u.middle in
      let q_is = where_put e base disk p s u in
      let at = ends_is e ends in
      let size_end : e.entry.size ≡ e.counters.position + e.counters.done = sym at.0 ∙ q_is in
      let whole : e.entry.size % 512 ≡ 0 = ap (λ k. k % 512) (sym at.0) ∙ at.1 in
      let next : Bool → Files = λ w. if w then going_on (TakeRead e.header.free_data) e else reach_to e in
      let last : Bool → Files = λ v. if v then end_put e else next ((q == 0) || (e.reached == target e + 1)) in
      let stop : IsFull p e.entry.size → G (end_put e) = λ full.
      end_put_goes e base disk p s u r.no_index r.no_data r.fresh (inr (size_end, full)) in
      either-way (e.header.free_data == null) (λ a. (e.header.free_data == null) ≡ a
      → G (last (a || ((q % 8192 == 0) && (e.header.free_index == null)))))
      (λ _ t. (let z : e.header.free_data ≡ null = is_so e.header.free_data null t in
      stop (inl (record {
        free = free_data_none e.blocks base disk e.header e.slot e.entry p bytes m z;
        held = r.no_data;
        whole = whole;
      }))))
      (λ _ t. (let some : e.header.free_data ≢ null = λ z. false≢true (sym t ∙ same_test e.header.free_data null z) in
      either-way (q % 8192 == 0) (λ b. (q % 8192 == 0) ≡ b → G (last (b && (e.header.free_index == null))))
      (λ _ t2. (let z2 : q % 8192 ≡ 0 = is_so (q % 8192) 0 t2 in
      either-way (e.header.free_index == null) (λ c. (e.header.free_index == null) ≡ c → G (last c))
      (λ _ t3. (let z3 : e.header.free_index ≡ null = is_so e.header.free_index null t3 in
      stop (inr (record {
        free = free_index_none e.blocks base disk e.header e.slot e.entry p bytes m z3;
        held = r.no_index;
        whole = ap (λ k. k % 8192) (sym at.0) ∙ z2;
      }))))
      (λ _ t3. goes_on some (λ _ z3. false≢true (sym t3 ∙ same_test e.header.free_index null z3)))
      refl))
      (λ _ t2. goes_on some (λ z2. absurd (false≢true (sym t2 ∙ same_test (q % 8192) 0 z2))))
      refl))
      refl
    where
      is_so : (a b : ℕ) → (a == b) ≡ true → a ≡ b
      is_so a b t = grind (arith, nat_tests)

      same_test : (a b : ℕ) → a ≡ b → (a == b) ≡ true
      same_test a b z = grind (arith, nat_tests)

      goes_on : e.header.free_data ≢ null → (at_byte e % 8192 ≡ 0 → e.header.free_index ≢ null)
          → G (if (at_byte e == 0) || (e.reached == target e + 1) then going_on (TakeRead e.header.free_data) e else reach_to e)
      goes_on some index =
          let q = at_byte e in
          let at = ends_is e ends in
          let cl = read.chain_long in
          let take_it : (0 < q → e.reached ≡ target e + 1) → G (going_on (TakeRead e.header.free_data) e) = λ reached. (
          let m = u.middle in
          let f = free_data_first e.blocks base disk e.header e.slot e.entry p bytes e.header.free_data (drop 1 p.free_data) m
          (free_data_some e.blocks base disk e.header e.slot e.entry p bytes m some) in
          let high = f.high in
          let on : nat_lt e.header.free_data e.blocks ≡ true = grind (arith, nat_tests) in
          let e2 : Files = record e { phase = Wants (TakeRead e.header.free_data) } in
          let P : Bool → Type 0 = λ v. G (if v then e2 else answered (negsuc 0) e) in
          subst P (sym on) (
            record {
              standing = s;
              hand = record {
                ready = ready_kept e (Wants (TakeRead e.header.free_data)) e.block base disk r;
                left = left;
                ends = ends;
                reached = reached;
                head = refl;
                some = some;
                index = index;
              };
            },
            refl,
            refl,
            refl,
          )) in
          either-way (q == 0) (λ a. (q == 0) ≡ a → G (if a || (e.reached == target e + 1) then going_on (TakeRead e.header.free_data) e else reach_to e))
          (λ _ t. (let z : q ≡ 0 = is_so q 0 t in take_it (λ h. absurd (omega (arith, h, z)))))
          (λ _ t. (let h : 0 < q = above q t in
          either-way (e.reached == target e + 1) (λ b. (e.reached == target e + 1) ≡ b → G (if b then going_on (TakeRead e.header.free_data) e else reach_to e))
          (λ _ t2. take_it (λ _. is_so e.reached (target e + 1) t2))
          (λ _ t2. (let t_is = target_end e ends h in let a = at.0 in
          reach_to_goes left (omega (arith, t_is, h, a, cl)) (λ z. false≢true (sym t2 ∙ same_test e.reached (target e + 1) z))))
          refl))
          refl
        where
          above : (k : ℕ) → (k == 0) ≡ false → 0 < k
          above k z = grind (arith, nat_tests)

  -- The call goes on with the bytes that are left.
  pub next_put_goes : G (next_put e)
  next_put_goes =
      either-way (nat_le e.counters.total e.counters.done) (λ v. nat_le e.counters.total e.counters.done ≡ v
      → G (if v then end_put e else (if at_end e then appending e else in_place e)))
      (λ _ t. (let ge : e.counters.total ≤ e.counters.done = grind (arith, nat_tests) in let few = u.few in
      end_put_goes e base disk p s u r.no_index r.no_data r.fresh (inl (omega (arith, ge, few)))))
      (λ _ t. (let left : e.counters.done < e.counters.total = grind (arith, nat_tests) in
      either-way (at_end e) (λ v. at_end e ≡ v → G (if v then appending e else in_place e)) (λ _ a. appending_goes left a) (λ _ a.
      in_place_goes left a) refl))
      refl
