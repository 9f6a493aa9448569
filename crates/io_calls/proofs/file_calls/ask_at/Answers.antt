use Rattle.std.proofs.Common.{◌<◌, length, subst, sym}
use Rattle.io_calls.proofs.FewRequests.{few_calls}
use Rattle.kernel_state.proofs.Values.{call_is}
use Rattle.io_calls.proofs.file_calls.ask_at.Goals as goal
use Rattle.xinu_model.specs.Files.Syscalls.{files_of}
use Rattle.xinu_model.specs.Machine.{CallState}

pub issue-requires-clause-room : goal.issue-requires-clause-room
issue-requires-clause-room c =
    let d = c.args.k.now.call in
    let P : CallState → Type 0 = λ d. length (files_of d.state).calls < 64 in
    subst P (sym (call_is c.k.view_is)) (few_calls d.state.tables (files_of d.state) c.requires.asks.may.tables c.requires.asks.may.not_null c.requires.asks.files)
