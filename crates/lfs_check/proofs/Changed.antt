-- One lemma for each change of one file: its entry, its blocks and those that the call holds.
use Rattle.std.proofs.Common.{◌≡◌, ◌≢◌, ℕ, ◌+◌, ◌<◌, true, false, nat_lt, List, [], length, slice_index, slice_index_or, slice_set, refl, sym, ap, ◌∙◌, subst, arith, get_or-set_other, get_or-set_same, length-set, ⊎_elim}
use Rattle.std.proofs.lemmas.Bool.{cases_eq}
use Rattle.lfs_format.specs.declared.Entry.{Entry}
use Rattle.lfs_format.specs.declared.Index.{Index}
use Rattle.lfs_check.specs.Rules.{entry_is_used}
use Rattle.lfs_format.specs.Directory.{void_entry}
use Rattle.lfs_check.specs.Laid.{Shape, index_in, entry_in, IsChain, Places, numbers_at, FileLies, Laid}
use Rattle.lfs_check.specs.Meets.{times_met}
use Rattle.lfs_check.proofs.Steps.{times-at, times_in-part, times_in-two, times_in-set, at_most_one, FileLies-same, IsChain-same}

-- What changes if only the file of entry e does: its entry, index blocks of its own or held ones, and who owns them.
pub record Changes (d d' : Shape) (p : Places) (e : ℕ) (entry' : Entry) (chain' blocks' held_index' held_data' : List ℕ) : Type 0 where
  pub in_range : e < length d.entries
  pub entries : d'.entries ≡ slice_set d.entries e entry'
  pub free_index : d'.header.free_index ≡ d.header.free_index
  pub free_data : d'.header.free_data ≡ d.header.free_data
  pub links : d'.links ≡ d.links
  pub others : (i : ℕ) → times_met i (numbers_at p.chains e) ≡ 0 → times_met i p.held_index ≡ 0 → index_in d' i ≡ index_in d i
  pub used : entry_is_used entry' ≡ true → FileLies d' entry' chain' blocks'
  pub unused : entry_is_used entry' ≡ false → (chain' ≡ []) × (blocks' ≡ [])
  pub same_index : (i : ℕ) → times_met i chain' + times_met i held_index' ≡ times_met i (numbers_at p.chains e) + times_met i p.held_index
  pub same_data : (b : ℕ) → times_met b blocks' + times_met b held_data' ≡ times_met b (numbers_at p.datas e) + times_met b p.held_data

-- files still lie if one entry, its chain, its blocks and what is held are exchanged for others with the same blocks in all
pub Laid-changed : (many low high : ℕ) (d d' : Shape) (p : Places) (e : ℕ) (entry' : Entry) (chain' blocks' held_index' held_data' : List ℕ)
    → Changes d d' p e entry' chain' blocks' held_index' held_data' → Laid many low high d p
    → Laid many low high d' (record p { chains = slice_set p.chains e chain'; datas = slice_set p.datas e blocks'; held_index = held_index'; held_data = held_data' })
Laid-changed many low high d d' p e entry' chain' blocks' held_index' held_data' c l =
    let len : length d'.entries ≡ length d.entries = ap length c.entries ∙ length-set d.entries e entry' in
    let in_chains : e < length p.chains = (let a = l.chains in let b = c.in_range in omega (arith, a, b)) in
    let in_datas : e < length p.datas = (let a = l.datas in let b = c.in_range in omega (arith, a, b)) in
    let at_e : entry_in d' e ≡ entry' = ap (λ xs. slice_index_or xs e void_entry) c.entries ∙ get_or-set_same d.entries e entry' void_entry c.in_range in
    let chain_e : numbers_at (slice_set p.chains e chain') e ≡ chain' = get_or-set_same p.chains e chain' [] in_chains in
    let data_e : numbers_at (slice_set p.datas e blocks') e ≡ blocks' = get_or-set_same p.datas e blocks' [] in_datas in
    let at_f : (f : ℕ) → f ≢ e → entry_in d' f ≡ entry_in d f = λ f ne. ap (λ xs. slice_index_or xs f void_entry) c.entries ∙ get_or-set_other d.entries e f entry' void_entry ne in
    let chain_f : (f : ℕ) → f ≢ e → numbers_at (slice_set p.chains e chain') f ≡ numbers_at p.chains f = λ f ne. get_or-set_other p.chains e f chain' [] ne in
    let data_f : (f : ℕ) → f ≢ e → numbers_at (slice_set p.datas e blocks') f ≡ numbers_at p.datas f = λ f ne. get_or-set_other p.datas e f blocks' [] ne in
    record {
      chains = length-set p.chains e chain' ∙ l.chains ∙ sym len;
      datas = length-set p.datas e blocks' ∙ l.datas ∙ sym len;
      file = λ f k u. ⊎_elim
          (λ same. (let P : ℕ → Type 0 = λ n. FileLies d' (entry_in d' n) (numbers_at (slice_set p.chains e chain') n) (numbers_at (slice_set p.datas e blocks') n) in
          let Q : Entry → Type 0 = λ x. FileLies d' x (numbers_at (slice_set p.chains e chain') e) (numbers_at (slice_set p.datas e blocks') e) in
          let R : List ℕ → Type 0 = λ x. FileLies d' entry' x (numbers_at (slice_set p.datas e blocks') e) in
          let S : List ℕ → Type 0 = λ x. FileLies d' entry' chain' x in
          let mine = c.used (ap entry_is_used (sym at_e) ∙ ap (λ n. entry_is_used (entry_in d' n)) (sym same) ∙ u) in
          subst P (sym same) (subst Q (sym at_e) (subst R (sym chain_e) (subst S (sym data_e) mine)))))
          (λ other. (let used_f : entry_is_used (entry_in d f) ≡ true = ap entry_is_used (sym (at_f f other)) ∙ u in
          let ne : e ≢ f = λ s. other (sym s) in
          let lies = FileLies-same d d' (entry_in d f) (numbers_at p.chains f) (numbers_at p.datas f) (l.file f (omega (arith, k, len)) used_f)
          (λ j h. (let i = slice_index (numbers_at p.chains f) j in
          let has = times-at (numbers_at p.chains f) j i h refl in
          let two = times_in-two i p.chains e f ne in
          let one = l.one_index i in let most = at_most_one (nat_lt i many) in
          c.others i (omega (arith, has, two, one, most)) (omega (arith, has, two, one, most)))) in
          let Q : Entry → Type 0 = λ x. FileLies d' x (numbers_at (slice_set p.chains e chain') f) (numbers_at (slice_set p.datas e blocks') f) in
          let R : List ℕ → Type 0 = λ x. FileLies d' (entry_in d f) x (numbers_at (slice_set p.datas e blocks') f) in
          let S : List ℕ → Type 0 = λ x. FileLies d' (entry_in d f) (numbers_at p.chains f) x in
          subst Q (sym (at_f f other)) (subst R (sym (chain_f f other)) (subst S (sym (data_f f other)) lies))))
          (cases_eq f e);
      no_file = λ f k u. ⊎_elim
          (λ same. (let none = c.unused (ap entry_is_used (sym at_e) ∙ ap (λ n. entry_is_used (entry_in d' n)) (sym same) ∙ u) in
          (ap (numbers_at (slice_set p.chains e chain')) same ∙ chain_e ∙ none.0, ap (numbers_at (slice_set p.datas e blocks')) same ∙ data_e ∙ none.1)))
          (λ other. (let no = l.no_file f (omega (arith, k, len)) (ap entry_is_used (sym (at_f f other)) ∙ u) in (chain_f f other ∙ no.0, data_f f other ∙ no.1)))
          (cases_eq f e);
      free_index = (let same = IsChain-same (λ i. (index_in d i).next) (λ i. (index_in d' i).next) d.header.free_index p.free_index l.free_index
          (λ j h. (let i = slice_index p.free_index j in
          let has = times-at p.free_index j i h refl in
          let part = times_in-part i p.chains e in
          let one = l.one_index i in let most = at_most_one (nat_lt i many) in
          ap (λ (x : Index). x.next) (c.others i (omega (arith, has, part, one, most)) (omega (arith, has, part, one, most))))) in
          let P : ℕ → Type 0 = λ h. IsChain (λ i. (index_in d' i).next) h p.free_index in subst P (sym c.free_index) same);
      free_data = (let P : ℕ → Type 0 = λ h. IsChain (λ b. slice_index d'.links b) h p.free_data in
          let Q : List ℕ → Type 0 = λ xs. IsChain (λ b. slice_index xs b) d.header.free_data p.free_data in
          subst P (sym c.free_data) (subst Q (sym c.links) l.free_data));
      one_index = λ i. (let one = l.one_index i in let s = times_in-set i p.chains e chain' in_chains in let t = c.same_index i in omega (arith, one, s, t));
      one_data = λ b. (let one = l.one_data b in let s = times_in-set b p.datas e blocks' in_datas in let t = c.same_data b in omega (arith, one, s, t));
    }
