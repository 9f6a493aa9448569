-- A mount: its row is the last, and the rows stay sound.
use Rattle.std.proofs.Common.{◌≡◌, ◌<◌, ◌&&◌, true, List, [], ◌∷◌, ◌++◌, length, Option, Some, None, refl, arith, subst}
use Rattle.std.specs.Prelude.{nat_le, nat_lt}
use Rattle.std.proofs.lemmas.Bool.{cond_both, and_parts, leb-true, ltb-true}
use Rattle.std.proofs.lemmas.List.{length-append}
use Rattle.table_laws.proofs.Lists.Orders.{all_append}
use Rattle.xinu_model.specs.Names.Constants.{NNAMES, NM_PRELEN, NM_REPLLEN}
use Rattle.xinu_model.specs.Names.Mounting.{NameRow, may_mount, mounted}
use Rattle.xinu_model.specs.Names.Sound.{IsNameRow, AreSoundNames}

-- what a mount leaves, if it isn't refused
abbrev Leaves : NameRow → List NameRow → Option (List NameRow) → Type 0
Leaves row rows None = Unit {0}
Leaves row rows (Some more) = (more ≡ rows ++ row ∷ []) × (row.device < 10 → AreSoundNames rows → AreSoundNames more)

sound_more : (row : NameRow) (rows : List NameRow) → may_mount row rows ≡ true → row.device < 10 → AreSoundNames rows
    → AreSoundNames (rows ++ row ∷ [])
sound_more row rows may device sound =
    let a = and_parts (nat_lt (length rows) NNAMES)
    (nat_le (length row.prefix) NM_PRELEN && nat_le (length row.replacement) NM_REPLLEN) may in
    let b = and_parts (nat_le (length row.prefix) NM_PRELEN) (nat_le (length row.replacement) NM_REPLLEN) a.1 in
    let room = ltb-true (length rows) NNAMES a.0 in
    let n = length-append rows (row ∷ []) in
    record {
      few = omega arith;
      row = all_append IsNameRow rows (row ∷ []) sound.row (
        record {
          prefix = leb-true (length row.prefix) NM_PRELEN b.0;
          replacement = leb-true
              (length row.replacement) NM_REPLLEN b.1;
          device = device;
        },
        tt,
      );
    }

leaves : (row : NameRow) (rows : List NameRow) → Leaves row rows (mounted row rows)
leaves row rows =
    cond_both (may_mount row rows) (Some (rows ++ row ∷ [])) None (Leaves row rows) (λ e. (refl, sound_more row rows e)) (λ _. tt)

pub mounted_last : (row : NameRow) (rows more : List NameRow) → mounted row rows ≡ Some more → more ≡ rows ++ row ∷ []
mounted_last row rows more e = (subst (Leaves row rows) e (leaves row rows)).0

pub mounted_sound : (row : NameRow) (rows more : List NameRow) → row.device < 10 → AreSoundNames rows → mounted row rows ≡ Some more
    → AreSoundNames more
mounted_sound row rows more device sound e = (subst (Leaves row rows) e (leaves row rows)).1 device sound
