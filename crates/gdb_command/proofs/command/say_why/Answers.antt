-- The text is that of the cause; or nothing was read.
use Rattle.std.proofs.Common.{◌∙◌, ℕ, List, subst}
use Rattle.std.specs.Prelude.{OnErr, OnOk}
use Rattle.gdb_command.proofs.Moved.{on-err}
use Rattle.gdb_command.proofs.Reading.{at}
use Rattle.gdb_command.proofs.Refused.{none-refused}
use Rattle.gdb_command.specs.Debugging.{usage}
use Rattle.gdb_command.specs.Refusing.{HasRefused, HasRefusedSome, error_packet}
use Rattle.refusal_words.specs.Meanings.{cause_meaning}
use Rattle.gdb_command.proofs.command.say_why.Goals as goal

pub returns-in_err-text-clause-cut : goal.returns-in_err-text-clause-cut
returns-in_err-text-clause-cut g c =
    on-err c.from_residual.result
    (none-refused (error_packet (cause_meaning usage c.args.cause)) (at (g.R.Read.remaining c.args.input.now) (g.W.Write.contents c.args.output.now)))

pub returns-clause-refuses : goal.returns-clause-refuses
returns-clause-refuses g c =
    let a = at (g.R.Read.remaining c.args.input.now) (g.W.Write.contents c.args.output.now) in
    let b = at (g.R.Read.remaining c.refuse_packets.new.input) (g.W.Write.contents c.refuse_packets.new.output) in
    subst (λ (text : List ℕ). OnOk c.refuse_packets.result (HasRefused (error_packet text) a b))
    (c.as_slice.ensures.value ∙ c.in_ok-text.ensures.text) c.refuse_packets.ensures.refuses

pub returns-clause-cut : goal.returns-clause-cut
returns-clause-cut g c =
    let a = at (g.R.Read.remaining c.args.input.now) (g.W.Write.contents c.args.output.now) in
    let b = at (g.R.Read.remaining c.refuse_packets.new.input) (g.W.Write.contents c.refuse_packets.new.output) in
    subst (λ (text : List ℕ). OnErr c.refuse_packets.result (HasRefusedSome (error_packet text) a b))
    (c.as_slice.ensures.value ∙ c.in_ok-text.ensures.text) c.refuse_packets.ensures.cut
