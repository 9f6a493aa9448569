-- What several writes of a writer append, one after another.
use Rattle.std.proofs.Common.{◌≡◌, ℕ, ◌+◌, ◌++◌, List, length, take, Option, sym, ap, subst, ◌∙◌}
use Rattle.std.proofs.Math.Seq.{take-append-add, take-append_seam}
use Rattle.std.proofs.KnownBytes.{Appends-trans, Appends-kept}
use Rattle.std.specs.Io.KnownBytes.{Appends, Keeps}

-- a write that failed appended nothing to what was written before
pub written_before : (a b c : Option (List ℕ)) (all done rest : List ℕ) → all ≡ done ++ rest → Appends a b done → Keeps b c → (n : ℕ) × Appends a c (take n all)
written_before a b c all done rest is before kept =
    (length done, subst (Appends a c) (sym (ap (take (length done)) is ∙ take-append_seam done rest)) (Appends-kept a b c done before kept))

-- a write after those before it
pub written_more : (a b c : Option (List ℕ)) (all done rest : List ℕ) (n : ℕ) → all ≡ done ++ rest → Appends a b done → Appends b c (take n rest) → (m : ℕ) × Appends a c (take m all)
written_more a b c all done rest n is before after =
    (length done + n, subst (Appends a c) (sym (ap (take (length done + n)) is ∙ take-append-add done rest n)) (Appends-trans a b c done (take n rest) before after))
