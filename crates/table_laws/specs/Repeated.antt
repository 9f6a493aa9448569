-- What is done again and again.
use Rattle.std.specs.Prelude.{ℕ, zero, suc}
use Rattle.xinu_model.specs.Machine.{CallState}

-- the same thing done n times
abbrev pub repeated : ℕ → (CallState → CallState) → CallState → CallState
repeated zero change d = d
repeated (suc n) change d = repeated n change (change d)
