-- The devices, as the abstract machine sees them.
use Rattle.std.proofs.Common.{◌≡◌, ◌≢◌, ℕ, zero, suc, ◌<◌, false, ◌||◌, List, [], ◌∷◌, length, map, refl, sym, ap, ◌∙◌, subst, arith, slice_index_or, slice_set, bytes_eq, Option, Some, None, get_or-set_same, get_or-set_other, length-set, ⊎_elim, ℤ}
use Rattle.std.specs.List.{list_any}
use Rattle.std.proofs.lemmas.Bool.{cases_eq, or_parts}
use Rattle.lfs_format.specs.declared.Entry.{Entry}
use Rattle.lfs_check.specs.Rules.{entry_is_used}
use Rattle.lfs_layout.specs.Files.{bare_name}
use Rattle.lfs_layout.specs.Images.{IsCleanImage}
use Rattle.xinu_model.specs.Files.Stored.{file_named, bytes_in}
use Rattle.xinu_model.specs.Files.Systems.{has_open}
use Rattle.file_laws.specs.StoredFiles.{stored_files, entry_bytes}
use Rattle.file_laws.proofs.Names.{bare_same}
use Rattle.file_laws.proofs.Named.{IsName, entry_name, named_at, bytes_sized}
use Rattle.local_files.specs.declared.OpenFile.{OpenFile}
use Rattle.local_files.specs.declared.Files.{Files}
use Rattle.local_files.specs.Steps.{shown, device_at, answered, with_device, has_this_open, is_this_open}
use Rattle.local_files.specs.Hands.{IsOpenOn, IsDevice, AreApart}
use Rattle.local_files.specs.Standing.{Stands}
use Rattle.local_files.proofs.Standing.{at_base}

-- what a device shows
pub shown_at : (xs : List (Option OpenFile)) (d : ℕ) → slice_index_or (map shown xs) d None ≡ shown (slice_index_or xs d None)
shown_at [] d = refl
shown_at (x ∷ xs) zero = refl
shown_at (x ∷ xs) (suc d) = shown_at xs d

-- what the devices show once one of them is another
pub shown_set : (xs : List (Option OpenFile)) (d : ℕ) (x : Option OpenFile)
    → map shown (slice_set xs d x) ≡ slice_set (map shown xs) d (shown x)
shown_set [] d x = refl
shown_set (y ∷ xs) zero x = refl
shown_set (y ∷ xs) (suc d) x = ap (λ l. shown y ∷ l) (shown_set xs d x)

-- a device that has a file open is one of the devices
pub some_below : (xs : List (Option OpenFile)) (d : ℕ) (f : OpenFile) → slice_index_or xs d None ≡ Some f → d < length xs
some_below [] d f e = absurd (cc (e))
some_below (x ∷ xs) zero f e = omega arith
some_below (x ∷ xs) (suc d) f e = let i = some_below xs d f e in omega (arith, i)

-- what a device has open is on the disk
pub device_some : (e : Files) (base disk : List ℕ) (d : ℕ) (f : OpenFile) → Stands e base disk → device_at e d ≡ Some f → IsOpenOn base f
device_some e base disk d f s at = let P : Option OpenFile → Type 0 = λ o. IsDevice base o in subst P at (s.device d)

-- the file that a device has open is on the disk, and as large as its entry says
pub open_is : (base : List ℕ) (f : OpenFile) → IsCleanImage base → IsOpenOn base f
    → file_named (bare_name f.entry.name) (stored_files base) ≡ Some (record {
      name = bare_name f.entry.name;
      bytes = entry_bytes base f.entry;
    })
open_is base f c o =
    let P : Entry → Type 0 = λ x. file_named (bare_name x.name) (stored_files base) ≡ Some (record {
      name = bare_name x.name;
      bytes = entry_bytes base x;
    }) in
    subst P o.entry (named_at base c f.slot o.slot (ap entry_is_used o.entry ∙ o.used))

-- how large an open file is
pub open_size : (base : List ℕ) (f : OpenFile) → IsCleanImage base → IsOpenOn base f
    → length (bytes_in (file_named (bare_name f.entry.name) (stored_files base))) ≡ f.entry.size
open_size base f c o =
    let P : Entry → Type 0 = λ x. length (entry_bytes base x) ≡ x.size in
    ap (λ x. length (bytes_in x)) (open_is base f c o) ∙ subst P o.entry (bytes_sized base c f.slot o.slot (ap entry_is_used o.entry
    ∙ o.used))

-- its name is a name
pub open_name : (base : List ℕ) (f : OpenFile) → IsCleanImage base → IsOpenOn base f → IsName f.entry.name
open_name base f c o =
    let P : Entry → Type 0 = λ x. IsName x.name in subst P o.entry (entry_name base c f.slot o.slot (ap entry_is_used o.entry ∙ o.used))

-- whether a name is open is told by the whole names
pub is_open_same : (base n : List ℕ) (xs : List (Option OpenFile)) → IsCleanImage base → IsName n
    → ((d : ℕ) → IsDevice base (slice_index_or xs d None))
    → list_any (has_open (bare_name n)) (map shown xs) ≡ is_this_open n xs
is_open_same base n [] c h all = refl
is_open_same base n (None ∷ xs) c h all = is_open_same base n xs c h (λ d. all (suc d))
is_open_same base n (Some f ∷ xs) c h all =
    let i = is_open_same base n xs c h (λ d. all (suc d)) in
    let m = open_name base f c (all 0) in
    ap (λ v. v || list_any (has_open (bare_name n)) (map shown xs)) (bare_same f.entry.name n (m.long ∙ sym h.long) m.padded h.padded)
    ∙ ap (λ v. bytes_eq f.entry.name n || v) i

-- a name that is not open is that of no device
pub not_open : (n : List ℕ) (xs : List (Option OpenFile)) (d : ℕ) (f : OpenFile) → is_this_open n xs ≡ false
    → slice_index_or xs d None ≡ Some f → bytes_eq f.entry.name n ≡ false
not_open n [] d f z e = absurd (cc (e))
not_open n (x ∷ xs) (suc d) f z e = not_open n xs d f (or_parts (has_this_open n x) (is_this_open n xs) z).1 e
not_open n (x ∷ xs) zero f z e = ap (has_this_open n) (sym e) ∙ (or_parts (has_this_open n x) (is_this_open n xs) z).0

-- The engine answers.

-- an engine that answers stands for the same disk
pub answered_stands : (reply : ℤ) (e : Files) (base : List ℕ) → Stands e base base → Stands (answered reply e) base base
answered_stands reply e base s = record {
  standing = at_base s.standing;
  hand = refl;
}

-- a device has something else open
pub device_set : (e : Files) (base disk : List ℕ) (d : ℕ) (x : Option OpenFile) → Stands e base disk → d < 6 → IsDevice base x → (c : ℕ)
    → IsDevice base (device_at (with_device d x e) c)
device_set e base disk d x s h mine c =
    let P : Option OpenFile → Type 0 = λ o. IsDevice base o in
    let six = s.six in
    ⊎_elim (λ same. (let Q : ℕ → Type 0 = λ k. IsDevice base (slice_index_or (slice_set e.devices d x) k None) in
    subst Q (sym same) (subst P (sym (get_or-set_same e.devices d x None (omega (arith, h, six)))) mine)))
    (λ other. subst P (sym (get_or-set_other e.devices d c x None other)) (s.device c))
    (cases_eq c d)

-- devices are apart if the new one is apart from the others
pub apart_set : (e : Files) (base disk : List ℕ) (d : ℕ) (x : Option OpenFile) → Stands e base disk → d < 6
    → ((c : ℕ) → c ≢ d → AreApart (device_at e c) x × AreApart x (device_at e c)) → (b c : ℕ) → b ≢ c
    → AreApart (device_at (with_device d x e) b) (device_at (with_device d x e) c)
apart_set e base disk d x s h mine b c ne =
    let at : ℕ → Option OpenFile = λ k. slice_index_or (slice_set e.devices d x) k None in
    let six = s.six in
    let here : at d ≡ x = get_or-set_same e.devices d x None (omega (arith, h, six)) in
    let there : (k : ℕ) → k ≢ d → at k ≡ device_at e k = λ k o. get_or-set_other e.devices d k x None o in
    ⊎_elim
    (λ b_is. (let o : c ≢ d = λ e. ne (b_is ∙ sym e) in
    let P : Option OpenFile → Type 0 = λ l. AreApart l (at c) in let Q : Option OpenFile → Type 0 = λ l. AreApart x l in
    subst P (sym (ap at b_is ∙ here)) (subst Q (sym (there c o)) (mine c o).1)))
    (λ b_not. ⊎_elim
    (λ c_is. (let P : Option OpenFile → Type 0 = λ l. AreApart l (at c) in let Q : Option OpenFile
    → Type 0 = λ l. AreApart (device_at e b) l in
    subst P (sym (there b b_not)) (subst Q (sym (ap at c_is ∙ here)) (mine b b_not).0)))
    (λ c_not. (let P : Option OpenFile → Type 0 = λ l. AreApart l (at c) in let Q : Option OpenFile
    → Type 0 = λ l. AreApart (device_at e b) l in
    subst P (sym (there b b_not)) (subst Q (sym (there c c_not)) (s.apart b c ne))))
    (cases_eq c d))
    (cases_eq b d)

-- an engine that answers, and one of whose devices is another
pub set_stands : (reply : ℤ) (e : Files) (base : List ℕ) (d : ℕ) (x : Option OpenFile) → Stands e base base → d < 6 → IsDevice base x
    → ((c : ℕ) → c ≢ d → AreApart (device_at e c) x × AreApart x (device_at e c)) → Stands (answered reply (with_device d x e)) base base
set_stands reply e base d x s h mine away = record {
  standing = record { opened = record { clean = s.clean; blocks = s.blocks; six = length-set e.devices d x ∙ s.six; device = device_set e base base d x s h mine; apart = apart_set e base base d x s h away }; whole = refl; outgoing = s.outgoing; buffer = s.buffer };
  hand = refl;
}

-- nothing open is apart from all
pub apart_none : (o : Option OpenFile) → AreApart o None × AreApart None o
apart_none None = (tt, tt)
apart_none (Some f) = (tt, tt)

-- two devices stay apart if one has another position or entry of the same slot
pub apart_moved : (x : Option OpenFile) (f g : OpenFile) → g.slot ≡ f.slot → AreApart x (Some f) → AreApart (Some f) x
    → AreApart x (Some g) × AreApart (Some g) x
apart_moved None f g q a b = (tt, tt)
apart_moved (Some y) f g q a b = (λ z. a (z ∙ q), λ z. b (sym q ∙ z))
