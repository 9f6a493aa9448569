-- Room for files: files that are no larger need no more.
use Rattle.std.proofs.Common.{◌≡◌, ◌⊎◌, ℕ, zero, suc, ◌+◌, ◌<◌, ◌≤◌, Bool, true, false, not, List, [], ◌∷◌, length, refl, ap, ◌∙◌, arith, inl, inr, ⊎_elim}
use Rattle.std.specs.Prelude.{nat_le}
use Rattle.std.proofs.lemmas.Bool.{cond_both, and_parts, and_from, leb-true, le-leb, cases_eq}
use Rattle.xinu_model.specs.Files.Room.{data_blocks, index_blocks, data_room, index_room, data_needed, index_needed, they_fit}
use Rattle.xinu_model.specs.Files.Stored.{StoredFile, empty_file, precedes, is_named, with_stored, with_contents, without_file}
use Rattle.xinu_model.specs.Files.Writing.{greatest}
use Rattle.xinu_model.specs.Sound.Tables.{total}

-- files that need no more fit if these do
pub fit_fewer : (blocks : ℕ) (files fewer : List StoredFile) → data_needed fewer ≤ data_needed files
    → index_needed fewer ≤ index_needed files
    → they_fit blocks files ≡ true → they_fit blocks fewer ≡ true
fit_fewer blocks files fewer by_data by_index fit =
    let both = and_parts (nat_le (data_needed files) (data_room blocks)) (nat_le (index_needed files) (index_room blocks)) fit in
    let d : data_needed files ≤ data_room blocks = leb-true (data_needed files) (data_room blocks) both.0 in
    let i : index_needed files ≤ index_room blocks = leb-true (index_needed files) (index_room blocks) both.1 in
    and_from (nat_le (data_needed fewer) (data_room blocks)) (nat_le (index_needed fewer) (index_room blocks))
    (le-leb (data_needed fewer) (data_room blocks) (omega (arith, by_data, d)))
    (le-leb (index_needed fewer) (index_room blocks) (omega (arith, by_index, i)))

-- a file without bytes needs nothing
total_stored : (g : StoredFile → ℕ) (file : StoredFile) (files : List StoredFile) → g file ≡ 0
    → total g (with_stored file files) ≤ total g files
total_stored g file [] e = omega (arith, e)
total_stored g file (f ∷ files) e =
    let rest = total_stored g file files e in
    cond_both (precedes file.name f.name) (file ∷ f ∷ files) (f ∷ with_stored file files) (λ l. total g l ≤ g f + total g files)
    (λ _. omega (arith, e)) (λ _. omega (arith, rest))

pub fit_empty : (blocks : ℕ) (name : List ℕ) (files : List StoredFile) → they_fit blocks files ≡ true
    → they_fit blocks (with_stored (empty_file name) files) ≡ true
fit_empty blocks name files fit =
    fit_fewer blocks files (with_stored (empty_file name) files)
    (total_stored (λ (f : StoredFile). data_blocks (length f.bytes)) (empty_file name) files refl)
    (total_stored (λ (f : StoredFile). index_blocks (length f.bytes)) (empty_file name) files refl) fit

-- a file that is emptied needs nothing any longer
total_emptied : (g : StoredFile → ℕ) (name : List ℕ) (files : List StoredFile) → ((f : StoredFile) → g (record f { bytes = [] }) ≡ 0)
    → total g (with_contents name [] files) ≤ total g files
total_emptied g name [] e = omega arith
total_emptied g name (f ∷ files) e =
    let rest = total_emptied g name files e in
    let none = e f in
    cond_both (is_named name f) (record f { bytes = [] }) f (λ x. g x + total g (with_contents name [] files) ≤ g f + total g files)
    (λ _. omega (arith, rest, none)) (λ _. omega (arith, rest))

pub fit_emptied : (blocks : ℕ) (name : List ℕ) (files : List StoredFile) → they_fit blocks files ≡ true
    → they_fit blocks (with_contents name [] files) ≡ true
fit_emptied blocks name files fit =
    fit_fewer blocks files (with_contents name [] files)
    (total_emptied (λ (f : StoredFile). data_blocks (length f.bytes)) name files (λ f. refl))
    (total_emptied (λ (f : StoredFile). index_blocks (length f.bytes)) name files (λ f. refl)) fit

-- a file that is deleted needs nothing any longer
total_without : (g : StoredFile → ℕ) (name : List ℕ) (files : List StoredFile) → total g (without_file name files) ≤ total g files
total_without g name [] = omega arith
total_without g name (f ∷ files) =
    let rest = total_without g name files in
    cond_both (not (is_named name f)) (f ∷ without_file name files) (without_file name files) (λ l. total g l ≤ g f + total g files)
    (λ _. omega (arith, rest)) (λ _. omega (arith, rest))

pub fit_without : (blocks : ℕ) (name : List ℕ) (files : List StoredFile) → they_fit blocks files ≡ true
    → they_fit blocks (without_file name files) ≡ true
fit_without blocks name files fit =
    fit_fewer blocks files (without_file name files)
    (total_without (λ (f : StoredFile). data_blocks (length f.bytes)) name files)
    (total_without (λ (f : StoredFile). index_blocks (length f.bytes)) name files) fit

pub greatest_within : (test : ℕ → Bool) (n : ℕ) → greatest test n ≤ n
greatest_within test zero = omega arith
greatest_within test (suc n) =
    let less = greatest_within test n in
    cond_both (test (suc n)) (suc n) (greatest test n) (λ k. k ≤ suc n) (λ _. omega arith) (λ _. omega (arith, less))

-- it passes, or is 0
pub greatest_passes : (test : ℕ → Bool) (n : ℕ) → (greatest test n ≡ 0) ⊎ (test (greatest test n) ≡ true)
greatest_passes test zero = inl refl
greatest_passes test (suc n) =
    cond_both (test (suc n)) (suc n) (greatest test n) (λ k. (k ≡ 0) ⊎ (test k ≡ true)) (λ e. inr e) (λ _. greatest_passes test n)

-- and no greater one passes
pub greater_fails : (test : ℕ → Bool) (n k : ℕ) → greatest test n < k → k ≤ n → test k ≡ false
greater_fails test zero k more most = absurd (omega arith)
greater_fails test (suc n) k more most =
    cond_both (test (suc n)) (suc n) (greatest test n) (λ g. g < k → test k ≡ false) (λ _ h. absurd (omega (arith, h, most)))
    (λ e h. ⊎_elim (λ (same : k ≡ suc n). ap test same ∙ e)
    (λ other. greater_fails test n k h (let z : k ≤ n = omega (arith, most, other) in z)) (cases_eq k (suc n))) more
