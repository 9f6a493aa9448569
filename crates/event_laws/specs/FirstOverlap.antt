-- Which image is the first that overlaps an earlier one.
use Rattle.std.specs.Prelude.{◌≡◌, ℕ, ◌+◌, ◌<◌, Bool, true, false, List, [], length, take, slice_index_or, pos}
use Rattle.std.specs.List.{list_any}
use Rattle.xinu_model.specs.Boot.{Loaded, overlap}

-- what is read where there is no image
abbrev pub no_image : Loaded
no_image = record { parts = []; entry = 0; priority = pos 0; stack = 0 }

-- whether the image at a place, counted from 0, overlaps one before it
abbrev pub overlaps_earlier : List Loaded → ℕ → Bool
overlaps_earlier images i = list_any (overlap (slice_index_or images i no_image)) (take i images)

-- Image k, counted from 1, overlaps an earlier one, and no image before it does.
pub record IsFirstOverlap (images : List Loaded) (k : ℕ) : Type 0 where
  pub place : ℕ
  pub number : k ≡ place + 1
  pub within : place < length images
  pub overlaps : overlaps_earlier images place ≡ true
  pub least : (i : ℕ) → i < place → overlaps_earlier images i ≡ false
