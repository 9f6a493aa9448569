-- Index blocks that are taken and given back: the twins of the steps of data blocks.
use Rattle.std.proofs.Common.{◌≡◌, ℕ, List, ◌∷◌, ap, subst, arith}
use Rattle.lfs_check.specs.Laid.{Shape, Places, Laid, IsChain, index_in}
use Rattle.lfs_check.specs.IndexSteps.{index_taken, index_freed}
use Rattle.lfs_check.specs.Meets.{times_met}
use Rattle.lfs_check.proofs.Steps.{IsChain-rest, IsChain-more}

-- taking a free index block: only the counts in memory change
pub Laid-index_taken : (many low high : ℕ) (d : Shape) (p : Places) (i : ℕ) (rest : List ℕ) → p.free_index ≡ i ∷ rest
    → Laid many low high d p
    → Laid many low high (index_taken d) (record p { free_index = rest; held_index = i ∷ p.held_index })
Laid-index_taken many low high d p i rest e l =
    let P : List ℕ → Type 0 = λ xs. IsChain (λ n. (index_in d n).next) d.header.free_index xs in
    let c = subst P e l.free_index in
    record {
      chains = l.chains;
      datas = l.datas;
      file = λ n h u. record {
        indexes = (l.file n h u).indexes;
        datas = (l.file n h u).datas;
        first = (l.file n h u).first;
        each = (l.file n h u).each;
      };
      no_file = l.no_file;
      free_index = IsChain-rest (λ n. (index_in d n).next) d.header.free_index i rest c;
      free_data = l.free_data;
      one_index = λ n. (let one = l.one_index n in let f : times_met n p.free_index ≡ times_met n (i ∷ rest) = ap (times_met n) e in
          omega (arith, one, f));
      one_data = l.one_data;
    }

-- giving the index block that is held first back to the free ones, once it names them
pub Laid-index_freed : (many low high : ℕ) (d : Shape) (p : Places) (i : ℕ) (rest : List ℕ) → p.held_index ≡ i ∷ rest
    → (index_in d i).next ≡ d.header.free_index → Laid many low high d p
    → Laid many low high (index_freed d i) (record p { free_index = i ∷ p.free_index; held_index = rest })
Laid-index_freed many low high d p i rest e named l =
    record {
      chains = l.chains;
      datas = l.datas;
      file = λ n h u. record {
        indexes = (l.file n h u).indexes;
        datas = (l.file n h u).datas;
        first = (l.file n h u).first;
        each = (l.file n h u).each;
      };
      no_file = l.no_file;
      free_index = IsChain-more (λ n. (index_in d n).next) d.header.free_index i p.free_index l.free_index named;
      free_data = l.free_data;
      one_index = λ n. (let one = l.one_index n in let f : times_met n p.held_index ≡ times_met n (i ∷ rest) = ap (times_met n) e in
          omega (arith, one, f));
      one_data = l.one_data;
    }
