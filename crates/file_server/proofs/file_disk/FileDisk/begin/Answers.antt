use Rattle.std.proofs.Common.{◌≡◌, ap, ◌∙◌, subst, None}
use Rattle.std.specs.Prelude.{MatchOption}
use Rattle.file_server.specs.DiskStates.{DiskState, Waits, IsDone}
use Rattle.file_server.specs.FileDisks.{held_for}
use Rattle.file_server.proofs.Engines.{begun, quiet, state_of}
use Rattle.local_files.specs.Standing.{wanted, call_of, given_bytes}
use Rattle.xinu_model.specs.Files.Work.{most_turns}
use Rattle.file_server.proofs.file_disk.FileDisk.begin.Goals as goal

pub begin-requires-clause-idle : goal.begin-requires-clause-idle
begin-requires-clause-idle c =
    let e = c.self.inside.files in let base = c.self.inside.settled.items in
    let free : held_for (wanted e) e base ≡ None = ap (λ (v : DiskState). v.hand) c.self.view_is ∙ c.requires.idle in
    (quiet e base c.self.inside.disk.items c.self.invariant.stands c.self.invariant.taken free).idle

pub invariant_of-self : goal.invariant_of-self
invariant_of-self c =
    let e = c.self.inside.files in let base = c.self.inside.settled.items in
    let free : held_for (wanted e) e base ≡ None = ap (λ (v : DiskState). v.hand) c.self.view_is ∙ c.requires.idle in
    let b = begun c.answer.result c.args.call (given_bytes c.args.call c.args.bytes.now) e c.begin.new.self c.answer.new.self base c.self.inside.disk.items
    c.answer.ensures.reply c.answer.ensures.new c.self.invariant.stands c.self.invariant.taken free c.begin.ensures.goes c.begin.ensures.bound
    c.has_a_completion_left.ensures.some in
    record { stands = b.stands; taken = b.taken; follows = c.self.invariant.follows }

pub returns-clause-goes : goal.returns-clause-goes
returns-clause-goes c =
    let e = c.self.inside.files in let base = c.self.inside.settled.items in let disk = c.self.inside.disk.items in
    let free : held_for (wanted e) e base ≡ None = ap (λ (v : DiskState). v.hand) c.self.view_is ∙ c.requires.idle in
    let bytes = given_bytes c.args.call c.args.bytes.now in
    let b = begun c.answer.result c.args.call bytes e c.begin.new.self c.answer.new.self base disk
    c.answer.ensures.reply c.answer.ensures.new c.self.invariant.stands c.self.invariant.taken free c.begin.ensures.goes c.begin.ensures.bound
    c.has_a_completion_left.ensures.some in
    let P : DiskState → Type 0 = λ v. MatchOption c.answer.result
    (Waits (call_of c.args.call bytes) bytes (most_turns (call_of c.args.call bytes) v.system) v (state_of c.answer.new.self base disk))
    (λ reply. IsDone (call_of c.args.call bytes) bytes reply v (state_of c.answer.new.self base disk)) in
    subst P c.self.view_is b.goes
