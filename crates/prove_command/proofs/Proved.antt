-- Images that boot, and that are programs which check, are proved.
use Rattle.std.proofs.Common.{◌≡◌, List, [], ◌∷◌, length, true, refl, sym, ap, subst, arith}
use Rattle.std.proofs.lemmas.Bool.{and_from, and_parts, true≢false}
use Rattle.program_logic.proofs.Kept.{always_keeps}
use Rattle.program_logic.specs.Claims.{Program}
use Rattle.program_logic.specs.Kept.{IsKept, times_given_back}
use Rattle.program_logic.specs.SystemCheck.{begin_there, ram_checks, system_checks}
use Rattle.program_logic.specs.declared.outline.Lock.{Lock}
use Rattle.xinu_model.specs.Boot.{Boots, Disks, Loaded, NoRoom, Overlaps, Start, and_then, boot, boot_on, on_disks, with_images}
use Rattle.xinu_model.specs.Machine.{Xinu}
use Rattle.xinu_model.specs.Memory.{zeros}
use Rattle.std.specs.Prelude.{◌==◌}
use Rattle.prove_command.specs.Proved.{IsProved}

-- Images that boot on some disks boot.
pub boots_first : (disks : Disks) (images : List Loaded) (s : Xinu) → boot_on disks images ≡ Boots s → (start : Xinu) × (boot images ≡ Boots start)
boots_first disks images s is = by (boot images) refl is
  where
    by : (x : Start) → boot images ≡ x → and_then x (λ y. Boots (on_disks disks y)) ≡ Boots s → (start : Xinu) × (boot images ≡ Boots start)
    by (Boots y) e is = (y, e)
    by (Overlaps i) e is = absurd (cc)
    by (NoRoom i) e is = absurd (cc)

-- as many images as programs
as_many : (programs : List Program) (images : List Loaded) → begin_there programs images ≡ true → length programs ≡ length images
as_many [] [] is = refl
as_many (g ∷ programs) (image ∷ images) is =
    let rest = as_many programs images (and_parts (image.entry == g.first) (begin_there programs images) is).1 in omega arith
as_many [] (image ∷ images) is = absurd (true≢false (sym is))
as_many (g ∷ programs) [] is = absurd (true≢false (sym is))

pub proved : (l : Lock) (programs : List Program) (images : List Loaded) → (start : Xinu) × (boot images ≡ Boots start) → system_checks l programs ≡ true
    → begin_there programs images ≡ true → ram_checks (with_images images zeros) l programs ≡ true → IsProved l images
proved l programs images boots checks begins there = record {
  boots = λ disks. (on_disks disks boots.0, ap (λ x. and_then x (λ y. Boots (on_disks disks y))) boots.1);
  kept = λ disks start now ms sound is lead.
      subst (λ n. IsKept l n (times_given_back l.sem ms) now) (as_many programs images begins)
      (always_keeps l programs checks disks images start now ms
      (record {
        loaded = and_from (begin_there programs images) (ram_checks (with_images images zeros) l programs) begins there;
        sound = sound;
        boots = is;
      }) lead);
}
