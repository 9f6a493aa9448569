-- Files that come, go, and get other bytes.
use Rattle.std.proofs.Common.{◌≡◌, ℕ, suc, ◌≤◌, true, false, cond, not, List, [], ◌∷◌, length, filter, bytes_eq, Option, Some, None, refl, sym, ap, ◌∙◌, subst, arith}
use Rattle.std.specs.List.{AllByRecursion}
use Rattle.std.proofs.lemmas.Bool.{cond_both, cond-true, cond-false, not-true, not-false}
use Rattle.part_laws.proofs.FileSystems.Orders.{precedes-trans, precedes-total, same_bytes, own_bytes, differ, before_differs}
use Rattle.table_laws.proofs.Lists.Orders.{all_weaker}
use Rattle.xinu_model.specs.Files.Stored.{StoredFile, precedes, file_names, is_named, file_named, with_stored, with_contents, without_file}
use Rattle.xinu_model.specs.Sound.Tables.{IsInOrder}

-- a file with other bytes, if there is one
abbrev pub renewed : List ℕ → Option StoredFile → Option StoredFile
renewed bytes None = None
renewed bytes (Some f) = Some (record f { bytes = bytes })

-- files in the order of their names
abbrev pub AreOrdered : List (List ℕ) → Type 0
AreOrdered names = IsInOrder (λ name other. precedes name other ≡ true) names

pub names_rewritten : (name bytes : List ℕ) (files : List StoredFile) → file_names (with_contents name bytes files) ≡ file_names files
names_rewritten name bytes [] = refl
names_rewritten name bytes (f ∷ files) =
    ap (λ n. n ∷ file_names (with_contents name bytes files))
    (cond_both (is_named name f) (record f { bytes = bytes }) f (λ (g : StoredFile). g.name ≡ f.name) (λ _. refl) (λ _. refl))
    ∙ ap (λ names. f.name ∷ names) (names_rewritten name bytes files)

pub count_rewritten : (name bytes : List ℕ) (files : List StoredFile) → length (with_contents name bytes files) ≡ length files
count_rewritten name bytes [] = refl
count_rewritten name bytes (f ∷ files) = ap suc (count_rewritten name bytes files)

-- the file itself
pub named_rewritten : (name bytes : List ℕ) (files : List StoredFile)
    → file_named name (with_contents name bytes files) ≡ renewed bytes (file_named name files)
named_rewritten name bytes [] = refl
named_rewritten name bytes (f ∷ files) =
    let others = file_named name (with_contents name bytes files) in
    cond_both (is_named name f) (record f { bytes = bytes }) f
    (λ (g : StoredFile). cond (is_named name g) (Some g) others ≡ renewed bytes (cond (is_named name f) (Some f) (file_named name files)))
    (λ e. cond-true (is_named name f) (Some (record f { bytes = bytes })) others e
    ∙ sym (ap (renewed bytes) (cond-true (is_named name f) (Some f) (file_named name files) e)))
    (λ e. cond-false (is_named name f) (Some f) others e ∙ named_rewritten name bytes files
    ∙ sym (ap (renewed bytes) (cond-false (is_named name f) (Some f) (file_named name files) e)))

-- the other files
pub named_beside : (name other bytes : List ℕ) (files : List StoredFile) → bytes_eq name other ≡ false
    → file_named other (with_contents name bytes files) ≡ file_named other files
named_beside name other bytes [] d = refl
named_beside name other bytes (f ∷ files) d =
    let rest = named_beside name other bytes files d in
    let others = file_named other (with_contents name bytes files) in
    cond_both (is_named name f) (record f { bytes = bytes }) f
    (λ (g : StoredFile). cond (is_named other g) (Some g) others ≡ cond (is_named other f) (Some f) (file_named other files))
    (λ e. (let no : is_named other f ≡ false = ap (λ n. bytes_eq n other) (same_bytes f.name name e) ∙ d in
    cond-false (is_named other f) _ others no ∙ rest ∙ sym (cond-false (is_named other f) (Some f) (file_named other files) no)))
    (λ _. ap (λ o. cond (is_named other f) (Some f) o) rest)

-- a file that isn't there
absent_rewritten : (name bytes : List ℕ) (files : List StoredFile) → AllByRecursion (λ n. bytes_eq n name ≡ false) (file_names files)
    → with_contents name bytes files ≡ files
absent_rewritten name bytes [] h = refl
absent_rewritten name bytes (f ∷ files) h =
    ap (λ g. g ∷ with_contents name bytes files) (cond-false (is_named name f) (record f { bytes = bytes }) f h.0)
    ∙ ap (λ l. f ∷ l) (absent_rewritten name bytes files h.1)

-- a file that gets its own bytes
pub own_rewritten : (name : List ℕ) (f : StoredFile) (files : List StoredFile) → AreOrdered (file_names files)
    → file_named name files ≡ Some f
    → with_contents name f.bytes files ≡ files
own_rewritten name f [] h e = refl
own_rewritten name f (g ∷ files) h e =
    cond_both (is_named name g) (Some g) (file_named name files) (λ o. o ≡ Some f → with_contents name f.bytes (g ∷ files) ≡ g ∷ files)
    (λ t s. (let same : g ≡ f = cc in
    ap (λ x. x ∷ with_contents name f.bytes files)
    (cond-true (is_named name g) (record g { bytes = f.bytes }) g t
    ∙ ap (λ (x : StoredFile). let y : StoredFile = record g { bytes = x.bytes } in y) (sym same))
    ∙ ap (λ l. g ∷ l) (absent_rewritten name f.bytes files
    (all_weaker (λ n. precedes g.name n ≡ true) (λ n. bytes_eq n name ≡ false)
    (λ n p. subst (λ m. bytes_eq n m ≡ false) (same_bytes g.name name t) (before_differs g.name n p)) (file_names files) h.0))))
    (λ t s. ap (λ x. x ∷ with_contents name f.bytes files) (cond-false (is_named name g) (record g { bytes = f.bytes }) g t)
    ∙ ap (λ l. g ∷ l) (own_rewritten name f files h.1 s)) e

pub count_stored : (file : StoredFile) (files : List StoredFile) → length (with_stored file files) ≡ suc (length files)
count_stored file [] = refl
count_stored file (f ∷ files) =
    cond_both (precedes file.name f.name) (file ∷ f ∷ files) (f ∷ with_stored file files) (λ l. length l ≡ suc (suc (length files)))
    (λ _. refl) (λ _. ap suc (count_stored file files))

-- what holds of all names and of the new one
pub all_stored : (P : List ℕ → Type 0) (file : StoredFile) (files : List StoredFile) → P file.name → AllByRecursion P (file_names files)
    → AllByRecursion P (file_names (with_stored file files))
all_stored P file [] p h = (p, tt)
all_stored P file (f ∷ files) p h =
    cond_both (precedes file.name f.name) (file ∷ f ∷ files) (f ∷ with_stored file files) (λ l. AllByRecursion P (file_names l))
    (λ _. (p, h)) (λ _. (h.0, all_stored P file files p h.1))

-- the order, if there was no such file
pub order_stored : (file : StoredFile) (files : List StoredFile) → file_named file.name files ≡ None → AreOrdered (file_names files)
    → AreOrdered (file_names (with_stored file files))
order_stored file [] none h = (tt, tt)
order_stored file (f ∷ files) none h =
    cond_both (is_named file.name f) (Some f) (file_named file.name files)
    (λ o. o ≡ None → AreOrdered (file_names (with_stored file (f ∷ files)))) (λ _ no. cc)
    (λ d no. cond_both (precedes file.name f.name) (file ∷ f ∷ files) (f ∷ with_stored file files) (λ l. AreOrdered (file_names l))
    (λ p. (
      (
        p,
        all_weaker (λ n. precedes f.name n ≡ true) (λ n. precedes file.name n ≡ true)
            (λ n q. precedes-trans file.name f.name n p q) (file_names files) h.0,
      ),
      h,
    ))
    (λ p. (
      all_stored (λ n. precedes f.name n ≡ true) file files (precedes-total file.name f.name p (differ f.name file.name d)) h.0,
      order_stored file files no h.1,
    ))) none

-- the new file
pub named_stored : (file : StoredFile) (files : List StoredFile) → file_named file.name files ≡ None
    → file_named file.name (with_stored file files) ≡ Some file
named_stored file [] none = cond-true (is_named file.name file) (Some file) None (own_bytes file.name)
named_stored file (f ∷ files) none =
    cond_both (is_named file.name f) (Some f) (file_named file.name files)
    (λ o. o ≡ None → file_named file.name (with_stored file (f ∷ files)) ≡ Some file) (λ _ no. cc)
    (λ d no. cond_both (precedes file.name f.name) (file ∷ f ∷ files) (f ∷ with_stored file files) (λ l. file_named file.name l ≡ Some file)
    (λ _. cond-true (is_named file.name file) (Some file) _ (own_bytes file.name))
    (λ _. cond-false (is_named file.name f) (Some f) _ d ∙ named_stored file files no)) none

-- the other files
pub other_stored : (file : StoredFile) (other : List ℕ) (files : List StoredFile) → bytes_eq file.name other ≡ false
    → file_named other (with_stored file files) ≡ file_named other files
other_stored file other [] d = cond-false (is_named other file) (Some file) None d
other_stored file other (f ∷ files) d =
    cond_both (precedes file.name f.name) (file ∷ f ∷ files) (f ∷ with_stored file files)
    (λ l. file_named other l ≡ file_named other (f ∷ files))
    (λ _. cond-false (is_named other file) (Some file) _ d)
    (λ _. ap (λ o. cond (is_named other f) (Some f) o) (other_stored file other files d))

pub names_without : (name : List ℕ) (files : List StoredFile)
    → file_names (without_file name files) ≡ filter (λ n. not (bytes_eq n name)) (file_names files)
names_without name [] = refl
names_without name (f ∷ files) =
    cond_both (not (is_named name f)) (f ∷ without_file name files) (without_file name files)
    (λ l. file_names l ≡ cond (not (bytes_eq f.name name)) (f.name ∷ filter (λ n. not (bytes_eq n name)) (file_names files))
    (filter (λ n. not (bytes_eq n name)) (file_names files)))
    (λ e. ap (λ l. f.name ∷ l) (names_without name files) ∙ sym (cond-true (not (is_named name f)) _ _ e))
    (λ e. names_without name files ∙ sym (cond-false (not (is_named name f)) _ _ e))

pub count_without : (name : List ℕ) (files : List StoredFile) → length (without_file name files) ≤ length files
count_without name [] = omega arith
count_without name (f ∷ files) =
    let rest = count_without name files in
    cond_both (not (is_named name f)) (f ∷ without_file name files) (without_file name files) (λ l. length l ≤ suc (length files))
    (λ _. omega arith) (λ _. omega arith)

-- the file itself
pub named_without : (name : List ℕ) (files : List StoredFile) → file_named name (without_file name files) ≡ None
named_without name [] = refl
named_without name (f ∷ files) =
    cond_both (not (is_named name f)) (f ∷ without_file name files) (without_file name files) (λ l. file_named name l ≡ None)
    (λ e. cond-false (is_named name f) (Some f) _ (not-true (is_named name f) e) ∙ named_without name files) (λ _. named_without name files)

-- the other files
pub other_without : (name other : List ℕ) (files : List StoredFile) → bytes_eq name other ≡ false
    → file_named other (without_file name files) ≡ file_named other files
other_without name other [] d = refl
other_without name other (f ∷ files) d =
    let rest = other_without name other files d in
    cond_both (not (is_named name f)) (f ∷ without_file name files) (without_file name files)
    (λ l. file_named other l ≡ file_named other (f ∷ files))
    (λ _. ap (λ o. cond (is_named other f) (Some f) o) rest)
    (λ e. (let same : f.name ≡ name = same_bytes f.name name (not-false (is_named name f) e) in
    rest ∙ sym (cond-false (is_named other f) (Some f) (file_named other files) (ap (λ n. bytes_eq n other) same ∙ d))))
