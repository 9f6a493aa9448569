-- An open that is carried out.
use Rattle.std.proofs.Common.{◌≡◌, ℕ, ◌+◌, ◌<◌, ◌||◌, List, length, set, get_or, get_or-set_same, Option, Some, None, pos, refl, sym, ap, ◌∙◌, arith}
use Rattle.std.specs.Prelude.{nat_le}
use Rattle.std.proofs.lemmas.Bool.{cond_both, or_parts, leb-false}
use Rattle.xinu_base.specs.declared.files.OpenMode.{OpenMode}
use Rattle.xinu_model.specs.Files.Constants.{LF_NUM_DIR_ENT, Nlfl, LFILE0}
use Rattle.xinu_model.specs.Files.Opening.{opening, opened, with_created, open_stored, open_file}
use Rattle.xinu_model.specs.Files.Sound.{IsSoundFiles}
use Rattle.xinu_model.specs.Files.Stored.{StoredFile, file_named}
use Rattle.xinu_model.specs.Files.Systems.{FileSystem, FileEffect, open_at, is_open, free_device, refused_effect}

-- what an open leaves if it is carried out
pub record Opens (s : FileSystem) (name : List ℕ) (mode : OpenMode) (k : ℕ) (e : FileEffect) : Type 0 where
  pub reply : k ≡ LFILE0 + free_device s.devices
  pub devices : e.system.devices ≡ set s.devices (free_device s.devices) (Some (opening name mode))
  pub room : free_device s.devices < Nlfl

pub open_leaves : (s : FileSystem) (name : List ℕ) (mode : OpenMode) (k : ℕ) → (open_file name mode s).reply ≡ pos k
    → Opens s name mode k (open_file name mode s)
open_leaves s name mode k e =
    cond_both (is_open name s || nat_le Nlfl (free_device s.devices)) (refused_effect s) (open_stored (file_named name s.files) name mode s)
    (λ (x : FileEffect). x.reply ≡ pos k → Opens s name mode k x) (λ _ h. cc)
    (λ b. by_file (file_named name s.files) (leb-false Nlfl (free_device s.devices)
    (or_parts (is_open name s) (nat_le Nlfl (free_device s.devices)) b).1)) e
  where
    device : pos (LFILE0 + free_device s.devices) ≡ pos k → k ≡ LFILE0 + free_device s.devices
    device h = let same : LFILE0 + free_device s.devices ≡ k = cc in sym same

    by_file : (o : Option StoredFile) → free_device s.devices < Nlfl → (open_stored o name mode s).reply ≡ pos k
        → Opens s name mode k (open_stored o name mode s)
    by_file (Some file) room =
        cond_both mode.only_new (refused_effect s) (opened name mode s) (λ (x : FileEffect). x.reply ≡ pos k → Opens s name mode k x)
        (λ _ h. cc)
        (λ _ h. record { reply = device h; devices = refl; room = room })
    by_file None room =
        cond_both (mode.only_old || nat_le LF_NUM_DIR_ENT (length s.files)) (refused_effect s) (opened name mode (with_created name s))
        (λ (x : FileEffect). x.reply ≡ pos k → Opens s name mode k x) (λ _ h. cc)
        (λ _ h. record { reply = device h; devices = refl; room = room })

-- the device has the file open
pub device_opened : (s : FileSystem) (name : List ℕ) (mode : OpenMode) (k : ℕ) → IsSoundFiles s → (open_file name mode s).reply ≡ pos k
    → open_at (open_file name mode s).system (free_device s.devices) ≡ Some (opening name mode)
device_opened s name mode k sound e =
    let opens = open_leaves s name mode k e in
    let room = opens.room in
    let six = sound.six in
    ap (λ devices. get_or devices (free_device s.devices) None) opens.devices
    ∙ get_or-set_same s.devices (free_device s.devices) (Some (opening name mode)) None (omega (arith, room, six))
