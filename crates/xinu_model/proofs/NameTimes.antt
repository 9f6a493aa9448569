-- How often a name is replaced.
use Rattle.std.proofs.Common.{◌≡◌, ℕ, zero, suc, ◌-◌, ◌<◌, ◌==◌, false, if◌then◌else◌, List, Some, None, refl, ap, arith, sym}
use Rattle.xinu_model.specs.Names.Constants.{NAMESPACE}
use Rattle.xinu_model.specs.Names.Mapping.{MappedName, replaced_once, replaced_times}
use Rattle.xinu_model.specs.Names.Mounting.{NameRow}
use Rattle.std.proofs.lemmas.Bool.Decides.{same_from_decides}
use Rattle.std.proofs.lemmas.Slice.Eq.{bytes_eq-Decides}
use Rattle.std.specs.Str.{bytes_eq}

-- while the device is the name space, and a replacement is left, it is made
pub one_made : (n : ℕ) (rows : List NameRow) (name : List ℕ) → 0 < n →
    replaced_times n rows (Some (record { device = NAMESPACE; name = name })) ≡ replaced_times (n - 1) rows (replaced_once rows name)
one_made zero rows name h = absurd (omega arith)
one_made (suc n) rows name h = let e : n ≡ suc n - 1 = omega arith in ap (λ m. replaced_times m rows (replaced_once rows name)) e

-- another device gets the name
pub none_needed : (n : ℕ) (rows : List NameRow) (m : MappedName) → (m.device == NAMESPACE) ≡ false → replaced_times n rows (Some m) ≡ Some m
none_needed zero rows m h = ap (λ b. if b then None else Some m) h
none_needed (suc n) rows m h = ap (λ b. if b then replaced_times n rows (replaced_once rows m.name) else Some m) h

-- no replacement comes after none
pub nothing_left : (n : ℕ) (rows : List NameRow) → replaced_times n rows None ≡ None
nothing_left zero rows = refl
nothing_left (suc n) rows = refl

-- two texts are the same in either order
pub bytes_eq_turned : (a b : List ℕ) → bytes_eq a b ≡ bytes_eq b a
bytes_eq_turned a b =
    let d = bytes_eq-Decides b a in
    same_from_decides (bytes_eq a b) (bytes_eq b a) (bytes_eq-Decides a b) ((λ e. sym (d.0 e)), (λ e. d.1 (sym e)))
