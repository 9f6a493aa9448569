-- Two engines show the same files open.
use Rattle.std.proofs.Common.{◌≡◌, ℕ, zero, suc, ◌<◌, Bool, List, [], ◌∷◌, length, map, take, sym, ap, subst, ◌∙◌, arith, slice_index_or, Option, Some, None, unwrap_or}
use Rattle.std.proofs.lemmas.Slice.Eq.{bytes_eq-Decides}
use Rattle.lfs_layout.specs.Files.{bare_name}
use Rattle.lfs_layout.specs.Images.{IsCleanImage}
use Rattle.xinu_model.specs.Files.Systems as systems
use Rattle.file_laws.proofs.Names.{bare_same}
use Rattle.file_laws.proofs.Named.{IsName}
use Rattle.local_files.specs.declared.OpenFile.{OpenFile}
use Rattle.local_files.specs.Steps.{shown}
use Rattle.local_files.specs.Hands.{IsDevice, seen}
use Rattle.local_files.proofs.Devices.{open_name}

-- names are equal if their texts are
name_is : (x y : List ℕ) → IsName x → IsName y → bare_name x ≡ bare_name y → x ≡ y
name_is x y h k e =
    (bytes_eq-Decides x y).0 (sym (bare_same x y (h.long ∙ sym k.long) h.padded k.padded) ∙ (bytes_eq-Decides (bare_name x) (bare_name y)).1 e)

-- what two open files have in common if they show the same
pub record AreSame (f g : OpenFile) : Type 0 where
  pub position : f.position ≡ g.position
  pub read : f.read ≡ g.read
  pub write : f.write ≡ g.write
  pub name : f.entry.name ≡ g.entry.name

-- they show the same if they have
pub shown_same : (file other : Option OpenFile) (f g : OpenFile) → file ≡ Some f → other ≡ Some g → AreSame f g → shown file ≡ shown other
shown_same file other f g is other_is same =
    let name : bare_name f.entry.name ≡ bare_name g.entry.name = ap bare_name same.name in
    ap shown is ∙ seen_same name same.position same.read same.write ∙ sym (ap shown other_is)
  where
    seen_same : {n n' : List ℕ} {p p' : ℕ} {r r' w w' : Bool} → n ≡ n' → p ≡ p' → r ≡ r' → w ≡ w'
        → ◌≡◌ {A = Option systems.OpenFile} (Some (record { name = n; position = p; may_read = r; may_write = w }))
        (Some (record { name = n'; position = p'; may_read = r'; may_write = w' }))
    seen_same n p r w = cc

-- and only if they have
pub same_shown : (base base' : List ℕ) (file other : Option OpenFile) (f g : OpenFile) → file ≡ Some f → other ≡ Some g → IsCleanImage base
    → IsCleanImage base' → IsDevice base file → IsDevice base' other → shown file ≡ shown other → AreSame f g
same_shown base base' file other f g is other_is c c' o o' e =
    let P : Option OpenFile → Type 0 = λ x. IsDevice base x in
    let Q : Option OpenFile → Type 0 = λ x. IsDevice base' x in
    let n = open_name base f c (subst P is o) in
    let n' = open_name base' g c' (subst Q other_is o') in
    let to : Option systems.OpenFile → systems.OpenFile = λ x. unwrap_or x (seen f) in
    let same : seen f ≡ seen g = ap to (sym (ap shown is) ∙ e ∙ ap shown other_is) in
    record {
      position = ap (λ x. x.position) same;
      read = ap (λ x. x.may_read) same;
      write = ap (λ x. x.may_write) same;
      name = name_is f.entry.name g.entry.name n n' (ap (λ x. x.name) same);
    }

-- one more device shows the same
pub shown_more : (xs ys : List (Option OpenFile)) (n : ℕ) → n < length xs → n < length ys → take n (map shown xs) ≡ take n (map shown ys)
    → shown (slice_index_or xs n None) ≡ shown (slice_index_or ys n None) → take (suc n) (map shown xs) ≡ take (suc n) (map shown ys)
shown_more [] ys n h k before here = absurd (omega (arith, h))
shown_more (x ∷ xs) [] n h k before here = absurd (omega (arith, k))
shown_more (x ∷ xs) (y ∷ ys) zero h k before here = ap (λ o. o ∷ []) here
shown_more (x ∷ xs) (y ∷ ys) (suc n) h k before here =
    let rest : take n (map shown xs) ≡ take n (map shown ys) = cc (before) in
    let first : shown x ≡ shown y = cc (before) in
    let more = shown_more xs ys n (omega (arith, h)) (omega (arith, k)) rest here in
    cc
