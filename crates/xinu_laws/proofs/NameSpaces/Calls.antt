-- A mount by a process keeps the prefixes sound, touches nothing else, and answers -1 only if it is refused.
use Rattle.std.proofs.Common.{◌≡◌, ◌<◌, ℕ, zero, suc, true, List, Option, Some, None, refl, arith}
use Rattle.std.specs.Prelude.{is_some}
use Rattle.std.proofs.lemmas.Bool.{cond_both}
use Rattle.table_laws.specs.Preserve.{IsPreserved}
use Rattle.xinu_laws.specs.Touches.{reach, Touches}
use Rattle.xinu_model.specs.Devices.Table.{kind_of}
use Rattle.xinu_model.specs.Devices.Texts.{text_at}
use Rattle.xinu_model.specs.Footprints.{on_names}
use Rattle.xinu_model.specs.Machine.{Xinu, CallResult, refused}
use Rattle.xinu_model.specs.Names.Calls.{names_of, with_names, mount_rows, mount_texts, mount}
use Rattle.xinu_model.specs.Names.Mounting.{NameRow, mounted}
use Rattle.xinu_model.specs.Names.Sound.{AreSoundNames}
use Rattle.part_laws.proofs.NameSpaces.Mounts.{mounted_sound}
use Rattle.table_laws.proofs.Preserve.{Preserves, refused_preserves}
use Rattle.xinu_laws.proofs.Refusals.{TellsRefusal}
use Rattle.xinu_laws.proofs.Touches.{StaysIn, parts_names, touches_parts, touches_refl}

-- the number of a device is below 10
device_number : (dev : ℕ) → is_some (kind_of dev) ≡ true → dev < 10
device_number zero e = omega arith
device_number (suc zero) e = omega arith
device_number (suc (suc zero)) e = omega arith
device_number (suc (suc (suc zero))) e = omega arith
device_number (suc (suc (suc (suc zero)))) e = omega arith
device_number (suc (suc (suc (suc (suc zero))))) e = omega arith
device_number (suc (suc (suc (suc (suc (suc zero)))))) e = omega arith
device_number (suc (suc (suc (suc (suc (suc (suc zero))))))) e = omega arith
device_number (suc (suc (suc (suc (suc (suc (suc (suc zero)))))))) e = omega arith
device_number (suc (suc (suc (suc (suc (suc (suc (suc (suc zero))))))))) e = omega arith
device_number (suc (suc (suc (suc (suc (suc (suc (suc (suc (suc dev)))))))))) e = absurd (cc)

-- What holds of a refusal, and of a row that is mounted or not, holds of a mount.
pub mount_holds : (P : CallResult → Type 0) (prefix replacement dev : ℕ) (s : Xinu) → P (refused s)
    → ((row : NameRow) (found : Option (List NameRow)) → row.device < 10 → mounted row (names_of s) ≡ found → P (mount_rows found s))
    → P (mount prefix replacement dev s)
mount_holds P prefix replacement dev s none row =
    cond_both (is_some (kind_of dev)) (mount_texts (text_at prefix s.memory) (text_at replacement s.memory) dev s) (refused s) P
    (λ e. by_texts (device_number dev e) (text_at prefix s.memory) (text_at replacement s.memory)) (λ _. none)
  where
    by_texts : dev < 10 → (p r : Option (List ℕ)) → P (mount_texts p r dev s)
    by_texts w None r = none
    by_texts w (Some p) None = none
    by_texts w (Some p) (Some r) =
        let x : NameRow = record { prefix = p; replacement = r; device = dev } in row x (mounted x (names_of s)) w refl

-- Call 44.
pub mount_touches : (prefix replacement dev : ℕ) → StaysIn on_names (mount prefix replacement dev)
mount_touches prefix replacement dev s k =
    mount_holds (λ (h : CallResult). Touches (reach on_names) s h.call.state) prefix replacement dev s (touches_refl s)
    (λ row found w e. by_found found)
  where
    by_found : (found : Option (List NameRow)) → Touches (reach on_names) s (mount_rows found s).call.state
    by_found None = touches_refl s
    by_found (Some rows) = touches_parts s (with_names rows s) refl refl (λ _. refl) (parts_names refl s.parts rows)

pub mount_preserves : (prefix replacement dev : ℕ) → Preserves (mount prefix replacement dev)
mount_preserves prefix replacement dev s c =
    mount_holds IsPreserved prefix replacement dev s (refused_preserves s c) (λ row found w e. by_found found)
  where
    by_found : (found : Option (List NameRow)) → IsPreserved (mount_rows found s)
    by_found None = refused_preserves s c
    by_found (Some rows) = record { tables = c.tables; harts = c.harts; released = tt }

pub mount_keeps_names : (prefix replacement dev : ℕ) (s : Xinu) → AreSoundNames (names_of s)
    → AreSoundNames (names_of (mount prefix replacement dev s).call.state)
mount_keeps_names prefix replacement dev s k =
    mount_holds (λ (h : CallResult). AreSoundNames (names_of h.call.state)) prefix replacement dev s k by_found
  where
    by_found : (row : NameRow) (found : Option (List NameRow)) → row.device < 10 → mounted row (names_of s) ≡ found
        → AreSoundNames (names_of (mount_rows found s).call.state)
    by_found row None w e = k
    by_found row (Some rows) w e = mounted_sound row (names_of s) rows w k e

pub mount_tells : (prefix replacement dev : ℕ) (s : Xinu) → TellsRefusal s (mount prefix replacement dev s)
mount_tells prefix replacement dev s = mount_holds (TellsRefusal s) prefix replacement dev s (λ e. refl) (λ row found w e. by_found found)
  where
    by_found : (found : Option (List NameRow)) → TellsRefusal s (mount_rows found s)
    by_found None = λ e. refl
    by_found (Some rows) = λ e. absurd (cc)
