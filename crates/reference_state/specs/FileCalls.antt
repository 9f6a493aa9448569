-- Calls on files as the definitions name them.
use Rattle.reference_state.specs.declared.files.FileCall.{FileCall}
use Rattle.reference_state.specs.declared.files.FileCall.TheVariants as call
use Rattle.xinu_model.specs.Files.Calls as model

-- the call that a value of the code names
abbrev pub file_call_of : FileCall → model.FileCall
file_call_of (call.Open name mode) = model.Open name mode
file_call_of (call.Delete name) = model.Delete name
file_call_of (call.Close d) = model.Close d
file_call_of (call.Read d n) = model.Read d n
file_call_of (call.Write d n) = model.Write d n
file_call_of (call.Getc d) = model.Getc d
file_call_of (call.Putc d b) = model.Putc d b
file_call_of (call.Seek d n) = model.Seek d n
file_call_of (call.Truncate d) = model.Truncate d
file_call_of (call.Size d) = model.Size d
