-- Why a name isn't opened, or a prefix not mounted (book, chapter 21).
use Rattle.std.specs.Prelude.{ℕ, nat_le, nat_lt, Bool, true, false, not, List, [], ◌∷◌, length, Option, None, Some, is_some, unwrap_or}
use Rattle.refusal_reasons.specs.Causes.{cause}
use Rattle.refusal_reasons.specs.declared.reasons.Cause.{Cause}
use Rattle.refusal_reasons.specs.Files.{file_causes}
use Rattle.refusal_reasons.specs.declared.reasons.Reason.TheVariants.{NotMapped, NotOpened, NoDevice, NoPrefixText, NoReplacementText, NoFreeRow, PrefixTooLong, ReplacementTooLong}
use Rattle.xinu_base.specs.declared.devices.Kind.{Kind}
use Rattle.xinu_base.specs.declared.devices.Kind.TheVariants as kind
use Rattle.xinu_model.specs.Devices.Table.{kind_of}
use Rattle.xinu_model.specs.Devices.Texts.{text_at}
use Rattle.xinu_model.specs.Machine.{Xinu}
use Rattle.xinu_model.specs.Names.Calls.{names_of}
use Rattle.xinu_model.specs.Names.Constants.{NNAMES, NM_PRELEN, NM_REPLLEN}
use Rattle.xinu_model.specs.Names.Mapping.{MappedName, map_name}
use Rattle.xinu_model.specs.Names.Mounting.{NameRow}

-- the text at an address, or none of its bytes if no text ends there
abbrev pub text_or_none : ℕ → Xinu → List ℕ
text_or_none a s = unwrap_or (text_at a s.memory) []

-- no text ends within 128 bytes at an address
abbrev pub has_no_text : ℕ → Xinu → Bool
has_no_text a s = not (is_some (text_at a s.memory))

-- whether a device is opened by a name that is mapped to it
abbrev pub is_opened : Option Kind → Bool
is_opened (Some kind.Console) = true
is_opened (Some kind.RawDisk) = true
is_opened (Some kind.FileSystem) = true
is_opened (Some kind.NameSpace) = false
is_opened (Some kind.File) = false
is_opened None = false

-- `open` of a device with a name and a mode: those of a file have to be ones
abbrev pub direct_causes : Option Kind → List ℕ → List ℕ → List Cause
direct_causes (Some kind.FileSystem) name mode = file_causes name mode
direct_causes _ name mode = []

-- `open` of what a name is mapped to
abbrev pub mapped_causes : Option MappedName → List ℕ → List Cause
mapped_causes None mode = []
mapped_causes (Some m) mode = cause NotOpened (not (is_opened (kind_of m.device))) ∷ direct_causes (kind_of m.device) m.name mode

-- `open` of a name by the mounted prefixes
abbrev pub name_space_causes : List NameRow → List ℕ → List ℕ → List Cause
name_space_causes rows name mode = cause NotMapped (not (is_some (map_name rows name))) ∷ mapped_causes (map_name rows name) mode

-- `mount`: the addresses of a prefix and a replacement, and a device
abbrev pub mount_causes : ℕ → ℕ → ℕ → Xinu → List Cause
mount_causes prefix replacement dev s =
    cause NoDevice (not (is_some (kind_of dev)))
    ∷ cause NoPrefixText (has_no_text prefix s)
    ∷ cause NoReplacementText (has_no_text replacement s)
    ∷ cause PrefixTooLong (not (nat_le (length (text_or_none prefix s)) NM_PRELEN))
    ∷ cause ReplacementTooLong (not (nat_le (length (text_or_none replacement s)) NM_REPLLEN))
    ∷ cause NoFreeRow (not (nat_lt (length (names_of s)) NNAMES))
    ∷ []
