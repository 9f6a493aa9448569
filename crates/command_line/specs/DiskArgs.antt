-- The actions of the command `disk`, and which action the arguments after `disk` give.
use Rattle.std.specs.Prelude.{◌&&◌, ℕ, Bool, List, [], ◌∷◌, Option, Some, None, length, nat_lt, nat_le, codes, bytes_eq, if◌then◌else◌, option_and_then}
use Rattle.std.specs.List.{list_all}
use Rattle.std.specs.Char.{is_ascii_digit}
use Rattle.std.specs.Str.Parse.{digits_value}
use Rattle.lfs_layout.specs.Files.{is_text}
use Rattle.command_line.specs.Reading.{CommandRow, OptionRow, Request, Text, option_value, request_of, value_option}
use Rattle.command_line.specs.RunArgs.{is_file_name}

-- What to do with a disk. All but a number of blocks and the name of a file on the disk are names of files of the host.
pub data DiskAction : Type 0 where
  -- make a disk without files, of so many blocks
  Mkfs : (blocks : ℕ) → (out : Text) → DiskAction
  -- list the files of a disk
  Ls : (image : Text) → DiskAction
  -- copy a file of a disk to the host
  Get : (image name out : Text) → DiskAction
  -- set a file of a disk
  Put : (image name source out : Text) → DiskAction
  -- check a disk
  Check : (image : Text) → DiskAction
  -- repair a disk
  Repair : (image out : Text) → DiskAction

-- ---- the actions and their options

abbrev pub out_options : List OptionRow
out_options = value_option (codes "out") ∷ []

-- an action that writes a file, and one that only prints
abbrev pub writing : Text → CommandRow
writing name = record { name = name; options = out_options }

abbrev pub printing : Text → CommandRow
printing name = record { name = name; options = [] }

abbrev pub actions : List CommandRow
actions = writing (codes "mkfs") ∷ printing (codes "ls") ∷ writing (codes "get") ∷ writing (codes "put") ∷ printing (codes "check")
    ∷ writing (codes "repair") ∷ []

-- ---- what each action asks beside

-- one to five decimal digits; the value is at least 14 and at most 65542
abbrev pub is_block_count : Text → Bool
is_block_count digits = list_all is_ascii_digit digits && (nat_lt 0 (length digits) && (nat_le (length digits) 5
    && (nat_le 14 (digits_value 10 digits) && nat_le (digits_value 10 digits) 65542)))

-- `mkfs BLOCKS --out FILE`
abbrev pub mkfs_of : Option Text → List Text → Option DiskAction
mkfs_of (Some out) (blocks ∷ []) = if is_block_count blocks && is_file_name out then Some (Mkfs (digits_value 10 blocks) out) else None
mkfs_of out args = None

-- `ls IMAGE`
abbrev pub ls_of : List Text → Option DiskAction
ls_of (image ∷ []) = if is_file_name image then Some (Ls image) else None
ls_of args = None

-- `get IMAGE NAME --out FILE`
abbrev pub get_of : Option Text → List Text → Option DiskAction
get_of (Some out) (image ∷ name ∷ []) =
    if is_file_name image && (is_text name && is_file_name out) then Some (Get image name out) else None
get_of out args = None

-- `put IMAGE NAME SOURCE --out FILE`
abbrev pub put_of : Option Text → List Text → Option DiskAction
put_of (Some out) (image ∷ name ∷ source ∷ []) =
    if is_file_name image && (is_text name && (is_file_name source && is_file_name out)) then Some (Put image name source out) else None
put_of out args = None

-- `check IMAGE`
abbrev pub check_of : List Text → Option DiskAction
check_of (image ∷ []) = if is_file_name image then Some (Check image) else None
check_of args = None

-- `repair IMAGE --out FILE`
abbrev pub repair_of : Option Text → List Text → Option DiskAction
repair_of (Some out) (image ∷ []) = if is_file_name image && is_file_name out then Some (Repair image out) else None
repair_of out args = None

-- ---- the action by its name

-- the action of this name, with the value of `--out` and these positional arguments
abbrev pub action_named : Text → Option Text → List Text → Option DiskAction
action_named name out args =
    if bytes_eq (codes "mkfs") name then mkfs_of out args
    else (if bytes_eq (codes "ls") name then ls_of args
    else (if bytes_eq (codes "get") name then get_of out args
    else (if bytes_eq (codes "put") name then put_of out args
    else (if bytes_eq (codes "check") name then check_of args
    else (if bytes_eq (codes "repair") name then repair_of out args else None)))))

abbrev pub action_from : Request → Option DiskAction
action_from r = action_named r.command (option_value (codes "out") r.taken) r.taken.positional

-- the action that the arguments after `disk` give, or `None` if they give none
abbrev pub action_of : List Text → Option DiskAction
action_of args = option_and_then action_from (request_of actions args)
