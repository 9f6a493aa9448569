-- A call by what its device is.
use Rattle.std.specs.Prelude.{Option, Some, None}
use Rattle.xinu_base.specs.declared.devices.Kind.{Kind}
use Rattle.xinu_model.specs.Machine.{CallResult, refused, Xinu}

-- what is done if a device was found that offers the call; refused if there is none
abbrev pub by_kind : Option Kind → (Kind → Xinu → CallResult) → Xinu → CallResult
by_kind None does s = refused s
by_kind (Some kind) does s = does kind s
