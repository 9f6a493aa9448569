-- At the start there are no pools.
use Rattle.std.proofs.Common.{◌≡◌, false, List, refl, sym, subst}
use Rattle.xinu_model.specs.Boot.{Loaded, Boots, boot}
use Rattle.xinu_model.specs.Footprints.{on_deaths}
use Rattle.xinu_model.specs.Machine.{Xinu}
use Rattle.xinu_model.specs.Sound.Pools.{ArePools}
use Rattle.xinu_laws.specs.Touches.{Reach}
use Rattle.xinu_laws.proofs.Pools.Frame.{is_pools, asks_buffer, no_pools}
use Rattle.xinu_laws.proofs.Touches.Boot.{HasStart, OwnsNone, touches_start, start_other, start_unasked}

-- the start leaves pools alone
abbrev beside_all_pools : Reach
beside_all_pools = record { mine = is_pools; asks = asks_buffer; parts = on_deaths; clock = false }

start_reached : HasStart beside_all_pools
start_reached = record { nothing = refl; heap = refl; stacks = refl; disk = refl }

owns_none : OwnsNone beside_all_pools
owns_none = record { none = λ sem. refl; kernel = λ sem. refl }

-- When the machine starts, what holds of the pools holds: there are none.
pub pools_start : (images : List Loaded) (start : Xinu) → boot images ≡ Boots start → ArePools start.tables start.parts.pools
pools_start images start e =
    subst (ArePools start.tables) (sym ((touches_start start_reached images start e).parts.pools refl))
    (no_pools start.tables (start_other start_reached owns_none images start e) (start_unasked start_reached images start e))
