-- Places as the definitions name them.
use Rattle.reference_tables.specs.declared.tables.Place.{Place}
use Rattle.reference_tables.specs.declared.tables.Place.TheVariants as place
use Rattle.xinu_model.specs.Tables as model

-- the place that a value of the code names
abbrev pub place_of : Place → model.Place
place_of place.Nowhere = model.Nowhere
place_of place.InReady = model.InReady
place_of (place.InSemaphore sem) = model.InSemaphore sem
place_of (place.InSleepers wake) = model.InSleepers wake
