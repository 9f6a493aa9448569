-- The changes of one file that a call makes.
use Rattle.std.proofs.Common.{◌≡◌, ◌≢◌, ℕ, suc, ◌+◌, ◌*◌, ◌/◌, ◌<◌, ◌≤◌, true, nat_lt, List, [], ◌∷◌, ◌++◌, length, slice_index, slice_index_or, replicate, take, drop, refl, sym, ap, ◌∙◌, arith, get_or-set_other, get_or-set_same, length-append, ⊎_elim}
use Rattle.std.proofs.lemmas.List.{get_or_at}
use Rattle.std.proofs.Math.ListN.{get_or-append}
use Rattle.std.proofs.lemmas.Bool.{cases_eq, cases_lt}
use Rattle.lfs_format.specs.declared.Entry.{Entry}
use Rattle.lfs_format.specs.declared.Index.{Index}
use Rattle.lfs_check.specs.Rules.{entry_is_used}
use Rattle.lfs_check.specs.Laid.{Shape, no_index, index_in, entry_in, Places, numbers_at, index_for, Laid, index_put, entry_put}
use Rattle.lfs_check.specs.Meets.{null, times_met}
use Rattle.lfs_check.proofs.Steps.{times-at, times-two, times-append, times_in-part, at_most_one, differs, index_for-more, held_index_alone, added}
use Rattle.lfs_check.proofs.Changed.{Changes}

-- a file is cut to nothing or removed: the call holds its blocks
pub dropped : (d : Shape) (p : Places) (e : ℕ) (entry' : Entry) → e < length d.entries → entry'.size ≡ 0 → entry'.first ≡ null
    → Changes d (entry_put d e entry') p e entry' [] [] (numbers_at p.chains e ++ p.held_index) (numbers_at p.datas e ++ p.held_data)
dropped d p e entry' h size first = record {
  in_range = h;
  entries = refl;
  free_index = refl;
  free_data = refl;
  links = refl;
  others = λ i a b. refl;
  used = λ u. record { indexes = omega (arith, size); datas = omega (arith, size); first = first; each = λ j l. absurd (omega (arith, l)) };
  unused = λ u. (refl, refl);
  same_index = λ i. (let t = times-append i (numbers_at p.chains e) p.held_index in omega (arith, t));
  same_data = λ b. (let t = times-append b (numbers_at p.datas e) p.held_data in omega (arith, t));
}

-- an index block and a data block that the call holds are appended to a file whose index blocks are full
pub linked : (many low high : ℕ) (d : Shape) (p : Places) (e j i b : ℕ) (hi hd : List ℕ) (entry' : Entry) → Laid many low high d p → e < length d.entries → entry_is_used (entry_in d e) ≡ true → entry_is_used entry' ≡ true
    → p.held_index ≡ i ∷ hi → p.held_data ≡ b ∷ hd → suc j ≡ length (numbers_at p.chains e) → length (numbers_at p.datas e) ≡ 16 * length (numbers_at p.chains e)
    → slice_index (numbers_at p.chains e) j < length d.indexes
    → index_in d i ≡ index_for (suc j) (numbers_at p.chains e ++ i ∷ []) (numbers_at p.datas e ++ b ∷ [])
    → entry'.first ≡ (entry_in d e).first → (entry'.size + 8191) / 8192 ≡ length (numbers_at p.chains e) + 1 → (entry'.size + 511) / 512 ≡ length (numbers_at p.datas e) + 1
    → Changes d (added d e (slice_index (numbers_at p.chains e) j) entry' (index_for j (numbers_at p.chains e ++ i ∷ []) (numbers_at p.datas e ++ b ∷ []))) p e entry'
    (numbers_at p.chains e ++ i ∷ []) (numbers_at p.datas e ++ b ∷ []) hi hd
linked many low high d p e j i b hi hd entry' l h used used' held_i held_d last full below written first i_size d_size =
    let chain = numbers_at p.chains e in
    let blocks = numbers_at p.datas e in
    let at = slice_index chain j in
    let new = index_for j (chain ++ i ∷ []) (blocks ++ b ∷ []) in
    let f = l.file e h used in
    let self : 1 ≤ times_met i p.held_index = (let t = times-at (i ∷ hi) 0 i (omega arith) refl in let s : times_met i p.held_index ≡ times_met i (i ∷ hi) = ap (times_met i) held_i in omega (arith, t, s)) in
    let alone = held_index_alone many low high d p i l self in
    let part = times_in-part i p.chains e in
    let apart : at ≢ i = differs chain j i (omega (arith, part, alone.1)) (omega arith) in
    let has : 1 ≤ times_met at chain = times-at chain j at (omega arith) refl in
    let one = l.one_index at in let most = at_most_one (nat_lt at many) in let part' = times_in-part at p.chains e in
    let once : times_met at chain ≤ 1 = omega (arith, one, most, part') in
    let long : length (chain ++ i ∷ []) ≡ length chain + 1 = length-append chain (i ∷ []) in
    record {
      in_range = h;
      entries = refl;
      free_index = refl;
      free_data = refl;
      links = refl;
      others = λ n a c. get_or-set_other d.indexes at n new no_index (λ s. (let z : times_met at chain ≡ 0 = ap (λ k. times_met k chain) (sym s) ∙ a in omega (arith, z, has)));
      used = λ u. record {
        indexes = long ∙ sym i_size;
        datas = length-append blocks (b ∷ []) ∙ sym d_size;
        first = first ∙ f.first ∙ sym (get_or-append chain (i ∷ []) null 0 (omega arith));
        each = λ k m. ⊎_elim
            (λ before. (let here : slice_index (chain ++ i ∷ []) k ≡ slice_index chain k = get_or-append chain (i ∷ []) 0 k before in
            ap (index_in (index_put d at new)) here ∙
            ⊎_elim
            (λ same. ap (λ n. index_in (index_put d at new) (slice_index chain n)) same ∙ get_or-set_same d.indexes at new no_index below ∙ ap (λ n. index_for n (chain ++ i ∷ []) (blocks ++ b ∷ [])) (sym same))
            (λ other. (let away : slice_index chain k ≢ at = λ s. (let two = times-two chain k j at other before (omega arith) s refl in omega (arith, two, once)) in
            let room : 16 * k + 16 ≤ length blocks = omega (arith, full, before, other, last) in
            let next : slice_index_or chain (suc k) null ≡ slice_index_or (chain ++ i ∷ []) (suc k) null = sym (get_or-append chain (i ∷ []) null (suc k) (omega (arith, before, other, last))) in
            get_or-set_other d.indexes at (slice_index chain k) new no_index away ∙ f.each k before ∙ sym (index_for-more k chain blocks (b ∷ []) room)
            ∙ ap (λ n. let r : Index = record { next = n; offset = 8192 * k; blocks = take 16 (drop (16 * k) (blocks ++ b ∷ []) ++ replicate 16 null) } in r) next))
            (cases_eq k j)))
            (λ after. (let end : k ≡ suc j = omega (arith, after, m, long, last) in
            let here : slice_index (chain ++ i ∷ []) k ≡ i = ap (slice_index (chain ++ i ∷ [])) (end ∙ last) ∙ get_or_at chain i [] 0 (length chain) refl in
            ap (index_in (index_put d at new)) here ∙ get_or-set_other d.indexes at i new no_index (λ s. apart (sym s)) ∙ written ∙ ap (λ n. index_for n (chain ++ i ∷ []) (blocks ++ b ∷ [])) (sym end)))
            (cases_lt k (length chain));
      };
      unused = λ u. absurd (cc (u, used'));
      same_index = λ n. (let t = times-append n chain (i ∷ []) in let s : times_met n p.held_index ≡ times_met n (i ∷ hi) = ap (times_met n) held_i in omega (arith, t, s));
      same_data = λ n. (let t = times-append n blocks (b ∷ []) in let s : times_met n p.held_data ≡ times_met n (b ∷ hd) = ap (times_met n) held_d in omega (arith, t, s));
    }
