-- Replacements one after another.
use Rattle.std.proofs.Common.{◌≡◌, ℕ, nat_le, true, if◌then◌else◌, List, length, Some, None, ap}
use Rattle.xinu_model.specs.Names.Constants.{NAMESPACE, NM_MAXLEN, NM_MAXMAPS}
use Rattle.xinu_model.specs.Names.Mapping.{map_name, replaced_times}
use Rattle.xinu_model.specs.Names.Mounting.{NameRow}

-- a copy of a name that isn't too long becomes what the name is mapped to
pub short_begins : (rows : List NameRow) (name text : List ℕ) → text ≡ name → true ≡ nat_le (length name) NM_MAXLEN →
    replaced_times NM_MAXMAPS rows (Some (record { device = NAMESPACE; name = text })) ≡ map_name rows name
short_begins rows name text same short =
    rw same (ap (λ b. replaced_times NM_MAXMAPS rows (if b then Some (record { device = NAMESPACE; name = name }) else None)) short)
