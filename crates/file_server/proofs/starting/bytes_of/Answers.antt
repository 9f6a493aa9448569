use Rattle.std.proofs.Common.{◌≡◌, length, take, drop, ap, sym, ◌∙◌, subst}
use Rattle.file_server.proofs.Bytes.{bytes_read}
use Rattle.file_server.specs.Requests.{call_with}
use Rattle.local_files.specs.declared.FileCall.{FileCall}
use Rattle.xinu_model.specs.Files.Work.{bytes_written}
use Rattle.file_server.proofs.starting.bytes_of.Goals as goal

pub returns-in-Ok-clause-bytes : goal.returns-in-Ok-clause-bytes
returns-in-Ok-clause-bytes c =
    let r = c.args.r.now in let ram = c.args.ram.now in
    let long : length (take r.count (drop r.at ram)) ≡ r.count = sym (ap length c.in-Ok.ensures.bytes) ∙ c.in-Ok.ensures.len in
    let P : FileCall → Type 0 = λ x. c.in-Ok.bytes.now ≡ bytes_written (call_with x r.count) r.at ram in
    subst P (sym c.in-Write.is) (c.in-Ok.ensures.bytes ∙ sym (bytes_read r.count ram r.at long))
