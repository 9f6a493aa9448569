-- Whether a prefix begins a name, and replacements one after another.
use Rattle.std.proofs.Common.{◌≡◌, ℕ, nat_le, true, if◌then◌else◌, List, length, Some, None, sym, ap}
use Rattle.xinu_model.specs.Names.Constants.{NAMESPACE, NM_MAXLEN, NM_MAXMAPS}
use Rattle.xinu_model.specs.Names.Mapping.{map_name, replaced_times}
use Rattle.xinu_model.specs.Names.Mounting.{NameRow}

-- a name that isn't too long is given to the name space
pub short_begins : (rows : List NameRow) (name : List ℕ) → nat_le (length name) NM_MAXLEN ≡ true →
    replaced_times NM_MAXMAPS rows (Some (record { device = NAMESPACE; name = name })) ≡ map_name rows name
short_begins rows name short =
    sym (ap (λ b. replaced_times NM_MAXMAPS rows (if b then Some (record { device = NAMESPACE; name = name }) else None)) short)
