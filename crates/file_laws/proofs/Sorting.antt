-- Files in the order of their names: one more is put in its place.
use Rattle.std.proofs.Common.{◌≡◌, ℕ, zero, suc, ◌<◌, true, false, cond, List, [], ◌∷◌, length, map, refl, sym, ap, ◌∙◌, arith, slice_index_or, slice_set, bytes_eq}
use Rattle.std.proofs.lemmas.Bool.{false≢true, cond_both}
use Rattle.lfs_format.specs.declared.Entry.{Entry}
use Rattle.lfs_format.specs.declared.Index.{Index}
use Rattle.lfs_format.specs.Directory.{void_entry}
use Rattle.lfs_check.specs.declared.geometry.Geometry.{Geometry}
use Rattle.lfs_check.specs.Rules.{entry_is_used}
use Rattle.lfs_check.proofs.KeepsAll.{either-way}
use Rattle.lfs_layout.specs.Files.{File, content_of, files_in, is_before, with_file, sorted}
use Rattle.lfs_layout.proofs.Ordered.{before-not, before-total, before-trans}
use Rattle.xinu_model.specs.Files.Stored.{with_stored}
use Rattle.file_laws.specs.StoredFiles.{stored}
use Rattle.file_laws.proofs.Names.{bare_order}
use Rattle.file_laws.proofs.Named.{IsName, AreNames, file_in}

-- where both come first
both-first : (a b : File) (fs : List File) → bytes_eq a.name b.name ≡ false → with_file a fs ≡ a ∷ fs → with_file b fs ≡ b ∷ fs
    → cond (is_before a.name b.name) (a ∷ b ∷ fs) (b ∷ with_file a fs) ≡ cond (is_before b.name a.name) (b ∷ a ∷ fs) (a ∷ with_file b fs)
both-first a b fs ne at_a at_b =
    either-way (is_before a.name b.name) (λ v. is_before a.name b.name ≡ v
    → cond v (a ∷ b ∷ fs) (b ∷ with_file a fs) ≡ cond (is_before b.name a.name) (b ∷ a ∷ fs) (a ∷ with_file b fs))
    (λ _ first. sym (ap (λ t. cond t (b ∷ a ∷ fs) (a ∷ with_file b fs)) (before-not a.name b.name first) ∙ ap (λ l. a ∷ l) at_b))
    (λ _ later. ap (λ l. b ∷ l) at_a ∙ sym (ap (λ t. cond t (b ∷ a ∷ fs) (a ∷ with_file b fs)) (before-total a.name b.name later ne)))
    refl

-- what does not come before a name does not come before an earlier one
not-before : (xs ys zs : List ℕ) → is_before ys zs ≡ true → is_before xs zs ≡ false → is_before xs ys ≡ false
not-before xs ys zs f e = either-way (is_before xs ys) (λ v. is_before xs ys ≡ v
    → v ≡ false) (λ _ q. absurd (false≢true (sym e ∙ before-trans xs ys zs q f))) (λ _ q. refl) refl

-- Files of different names go to their places in either order.
pub with_commutes : (a b : File) (fs : List File) → bytes_eq a.name b.name ≡ false
    → with_file a (with_file b fs) ≡ with_file b (with_file a fs)
with_commutes a b [] ne = both-first a b [] ne refl refl
with_commutes a b (g ∷ gs) ne =
    let fs : List File = g ∷ gs in
    cond_both (is_before b.name g.name) (b ∷ fs) (g ∷ with_file b gs) (λ l.
    with_file a l ≡ with_file b (cond (is_before a.name g.name) (a ∷ fs) (g ∷ with_file a gs)))
    (λ b_first. cond_both (is_before a.name g.name) (a ∷ fs) (g ∷ with_file a gs) (λ m.
    cond (is_before a.name b.name) (a ∷ b ∷ fs) (b ∷ with_file a fs) ≡ with_file b m)
    (λ a_first. both-first a b fs ne (ap (λ t. cond t (a ∷ fs) (g ∷ with_file a gs)) a_first) (ap (λ t.
    cond t (b ∷ fs) (g ∷ with_file b gs)) b_first))
    (λ a_later. (let after : is_before a.name b.name ≡ false = not-before a.name b.name g.name b_first a_later in
    ap (λ t. cond t (a ∷ b ∷ fs) (b ∷ with_file a fs)) after ∙ ap (λ t. b ∷ cond t (a ∷ fs) (g ∷ with_file a gs)) a_later
    ∙ sym (ap (λ t. cond t (b ∷ g ∷ with_file a gs) (g ∷ with_file b (with_file a gs))) b_first))))
    (λ b_later. cond_both (is_before a.name g.name) (a ∷ fs) (g ∷ with_file a gs) (λ m.
    cond (is_before a.name g.name) (a ∷ g ∷ with_file b gs) (g ∷ with_file a (with_file b gs)) ≡ with_file b m)
    (λ a_first. (let after : is_before b.name a.name ≡ false = not-before b.name a.name g.name a_first b_later in
    ap (λ t. cond t (a ∷ g ∷ with_file b gs) (g ∷ with_file a (with_file b gs))) a_first
    ∙ sym (ap (λ t. cond t (b ∷ a ∷ fs) (a ∷ with_file b fs)) after ∙ ap (λ t. a ∷ cond t (b ∷ fs) (g ∷ with_file b gs)) b_later)))
    (λ a_later. ap (λ t. cond t (a ∷ g ∷ with_file b gs) (g ∷ with_file a (with_file b gs))) a_later
    ∙ ap (λ l. g ∷ l) (with_commutes a b gs ne)
    ∙ sym (ap (λ t. cond t (b ∷ g ∷ with_file a gs) (g ∷ with_file b (with_file a gs))) b_later)))

-- An entry that had no file gets one: the others are as they were.
pub files_put : (g : Geometry) (ix ix' : List Index) (disk made : List ℕ) (es : List Entry) (k : ℕ) (new : Entry) → k < length es
    → entry_is_used (slice_index_or es k void_entry) ≡ false → entry_is_used new ≡ true
    → ((j : ℕ) → j < length es → entry_is_used (slice_index_or es j void_entry) ≡ true
    → (bytes_eq (slice_index_or es j void_entry).name new.name ≡ false)
    × (content_of g ix' made (slice_index_or es j void_entry) ≡ content_of g ix disk (slice_index_or es j void_entry)))
    → sorted (files_in g ix' made (slice_set es k new)) ≡ with_file (file_in g ix' made new) (sorted (files_in g ix disk es))
files_put g ix ix' disk made [] k new h unused used others = absurd (omega (arith, h))
files_put g ix ix' disk made (e ∷ es) zero new h unused used others =
    ap (λ t. sorted (cond t (file_in g ix' made new ∷ files_in g ix' made es) (files_in g ix' made es))) used
    ∙ ap (λ fs. with_file (file_in g ix' made new) (sorted fs)) (same_files es (λ j l u. (others (suc j) (omega (arith, l)) u).1))
    ∙ sym (ap (λ t. with_file (file_in g ix' made new)
    (sorted (cond t (file_in g ix disk e ∷ files_in g ix disk es) (files_in g ix disk es)))) unused)
  where
    same_files : (es : List Entry) → ((j : ℕ) → j < length es → entry_is_used (slice_index_or es j void_entry) ≡ true
        → content_of g ix' made (slice_index_or es j void_entry) ≡ content_of g ix disk (slice_index_or es j void_entry))
        → files_in g ix' made es ≡ files_in g ix disk es
    same_files [] all = refl
    same_files (x ∷ xs) all =
        let i = same_files xs (λ j l u. all (suc j) (omega (arith, l)) u) in
        either-way (entry_is_used x) (λ v. entry_is_used x ≡ v
        → cond v (file_in g ix' made x ∷ files_in g ix' made xs) (files_in g ix' made xs) ≡ cond v
        (file_in g ix disk x ∷ files_in g ix disk xs) (files_in g ix disk xs))
        (λ _ u. ap (λ c. let f : File = record { name = x.name; bytes = c } in f ∷ files_in g ix' made xs) (all 0 (omega arith) u)
        ∙ ap (λ fs. file_in g ix disk x ∷ fs) i)
        (λ _ u. i) refl
files_put g ix ix' disk made (e ∷ es) (suc k) new h unused used others =
    let i = files_put g ix ix' disk made es k new (omega (arith, h)) unused used (λ j l u. others (suc j) (omega (arith, l)) u) in
    let rest = files_in g ix' made (slice_set es k new) in
    let f = file_in g ix' made new in
    either-way (entry_is_used e) (λ v. entry_is_used e ≡ v
    → sorted (cond v (file_in g ix' made e ∷ rest) rest) ≡ with_file f
    (sorted (cond v (file_in g ix disk e ∷ files_in g ix disk es) (files_in g ix disk es))))
    (λ _ u. (let o = others 0 (omega arith) u in
    ap (λ c. let x : File = record { name = e.name; bytes = c } in with_file x (sorted rest)) o.1 ∙ ap (with_file (file_in g ix disk e)) i
    ∙ with_commutes (file_in g ix disk e) f (sorted (files_in g ix disk es)) o.0))
    (λ _ u. i) refl

-- The same of the files of the abstract machine.
pub stored_with : (f : File) (files : List File) → IsName f.name → AreNames files
    → map stored (with_file f files) ≡ with_stored (stored f) (map stored files)
stored_with f [] h a = refl
stored_with f (g ∷ files) h a =
    let i = stored_with f files h a.1 in
    either-way (is_before f.name g.name) (λ v.
    map stored (cond v (f ∷ g ∷ files) (g ∷ with_file f files)) ≡ cond v (stored f ∷ stored g ∷ map stored files)
    (stored g ∷ with_stored (stored f) (map stored files)))
    (λ _. refl) (λ _. ap (λ l. stored g ∷ l) i)
    ∙ ap (λ v. cond v (stored f ∷ stored g ∷ map stored files) (stored g ∷ with_stored (stored f) (map stored files)))
    (sym (bare_order f.name g.name (h.long ∙ sym a.0.long) h.padded a.0.padded))
