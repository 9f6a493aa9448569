-- How files lie when only fields change that say nothing of it.
use Rattle.std.proofs.Common.{◌≡◌, ℕ, ◌<◌, ◌≤◌, Bool, true, false, cond, not, ◌&&◌, nat_lt, length, refl, sym, ap, ◌∙◌, subst, arith, slice_index, slice_index_or, ⊎_elim}
use Rattle.std.proofs.lemmas.Bool.{cases_lt}
use Rattle.std.proofs.lemmas.Bool.Decides.{nat_tests}
use Rattle.lfs_format.specs.declared.Entry.{Entry}
use Rattle.lfs_format.specs.declared.Index.{Index}
use Rattle.lfs_format.specs.Directory.{void_entry}
use Rattle.lfs_check.specs.Rules.{entry_is_used}
use Rattle.lfs_check.specs.Laid.{Shape, Places, Laid, IsChain, no_index, index_in, entry_in, numbers_at, FileLies}
use Rattle.lfs_check.proofs.Steps.{times-at, times_in-part, IsChain-same, FileLies-same}

-- a number that is somebody's is a data block
pub in_range : (low high b : ℕ) → 1 ≤ cond (nat_lt b high && not (nat_lt b low)) 1 0 → (low ≤ b) × (b < high)
in_range low high b h = (
  ⊎_elim (λ lt. (let a : nat_lt b low ≡ true = grind (arith, nat_tests) in
      let z : ◌≡◌ {A = ℕ} (cond (nat_lt b high && not (nat_lt b low)) 1 0) 0 = ap (λ v. cond (nat_lt b high && not v) 1 0) a
      ∙ none (nat_lt b high) in absurd (omega (arith, h, z)))) (λ ge. ge) (cases_lt b low),
  ⊎_elim (λ lt. lt) (λ ge. (let e : nat_lt b high ≡ false = grind (arith, nat_tests) in
      let z : ◌≡◌ {A = ℕ} (cond (nat_lt b high && not (nat_lt b low)) 1 0) 0 = ap (λ v. cond (v && not (nat_lt b low)) 1 0) e in
      absurd (omega (arith, h, z)))) (cases_lt b high),
)
  where
    none : (v : Bool) → ◌≡◌ {A = ℕ} (cond (v && false) 1 0) 0
    none true = refl
    none false = refl

-- the links of data blocks, the index blocks, the entries and the heads stay
pub record IsMoved (low high : ℕ) (d d' : Shape) : Type 0 where
  pub entries : d'.entries ≡ d.entries
  pub indexes : d'.indexes ≡ d.indexes
  pub free_index : d'.header.free_index ≡ d.header.free_index
  pub free_data : d'.header.free_data ≡ d.header.free_data
  pub links : (b : ℕ) → low ≤ b → b < high → slice_index d'.links b ≡ slice_index d.links b

-- files lie as they lay
pub Laid-moved : (many low high : ℕ) (d d' : Shape) (p : Places) → IsMoved low high d d' → Laid many low high d p → Laid many low high d' p
Laid-moved many low high d d' p m l =
    let at : (e : ℕ) → entry_in d' e ≡ entry_in d e = λ e. ap (λ es. slice_index_or es e void_entry) m.entries in
    let index : (i : ℕ) → index_in d' i ≡ index_in d i = λ i. ap (λ xs. slice_index_or xs i no_index) m.indexes in
    let len = ap length m.entries in
    record {
      chains = l.chains ∙ sym len;
      datas = l.datas ∙ sym len;
      file = λ e h u. (let P : Entry → Type 0 = λ x. FileLies d' x (numbers_at p.chains e) (numbers_at p.datas e) in
          subst P (sym (at e)) (FileLies-same d d' (entry_in d e) (numbers_at p.chains e) (numbers_at p.datas e)
          (l.file e (omega (arith, h, len)) (ap entry_is_used (sym (at e)) ∙ u)) (λ j k. index (slice_index (numbers_at p.chains e) j))));
      no_file = λ e h u. l.no_file e (omega (arith, h, len)) (ap entry_is_used (sym (at e)) ∙ u);
      free_index = (let c = IsChain-same (λ i. (index_in d i).next) (λ i.
          (index_in d' i).next) d.header.free_index p.free_index l.free_index (λ j h.
          ap (λ (x : Index). x.next) (index (slice_index p.free_index j))) in
          let P : ℕ → Type 0 = λ h. IsChain (λ i. (index_in d' i).next) h p.free_index in subst P (sym m.free_index) c);
      free_data = (let c = IsChain-same (λ b. slice_index d.links b) (λ b.
          slice_index d'.links b) d.header.free_data p.free_data l.free_data (λ j h. (let b = slice_index p.free_data j in
          let t = times-at p.free_data j b h refl in let one = l.one_data b in
          let r = in_range low high b (omega (arith, t, one)) in m.links b r.0 r.1)) in
          let P : ℕ → Type 0 = λ h. IsChain (λ b. slice_index d'.links b) h p.free_data in subst P (sym m.free_data) c);
      one_index = l.one_index;
      one_data = l.one_data;
    }

-- the data blocks of a file are data blocks
pub data_range : (many low high : ℕ) (d : Shape) (p : Places) (e j : ℕ) → Laid many low high d p → j < length (numbers_at p.datas e)
    → (low ≤ slice_index (numbers_at p.datas e) j) × (slice_index (numbers_at p.datas e) j < high)
data_range many low high d p e j l h =
    let b = slice_index (numbers_at p.datas e) j in
    let t = times-at (numbers_at p.datas e) j b h refl in let part = times_in-part b p.datas e in let one = l.one_data b in
    in_range low high b (omega (arith, t, part, one))
