use mir.Val.{SFits}
use Rattle.std.proofs.Common.{rules, w32, ◌≡◌, ◌∙◌, ℕ, ℤ, List, Option, Some, None, Bool, false, true, is_some, sym, ap, subst}
use Rattle.std.specs.Prelude.{IsSome}
use Rattle.std.proofs.lemmas.Int.{to_z-of_z}
use Rattle.local_files.specs.Hands.{system}
use Rattle.local_files.specs.Standing.{GoesTo, HasEffect, Stands, gathered, given_bytes, wanted}
use Rattle.local_files.specs.declared.BlockWork.{BlockWork}
use Rattle.local_files.specs.declared.FileCall.{FileCall}
use Rattle.local_files.specs.declared.Files.{Files}
use Rattle.local_files.specs.declared.Phase.TheVariants.{Idle}
use Rattle.files_c.proofs.Going.{HasReply, goes_on, nothing, replied, same_reply, waits}
use Rattle.files_c.proofs.making.make_call.Goals as goal

pub loop-files-init : goal.loop-files-init
loop-files-init c = c.begin.ensures.goes c.args.disk.now c.requires.stands

-- while a block is wanted the engine stands
here : (call : FileCall) (bytes : List ℕ) (old e : Files) (base disk : List ℕ) (o : Option BlockWork) (b : Bool) → GoesTo e.phase call bytes old e base disk
    → o ≡ wanted e → b ≡ is_some o → b ≡ true → IsSome (wanted e) × Stands e base disk
here call bytes old e base disk o b goes is said test =
    let some : is_some (wanted e) ≡ true = ap (λ (o : Option BlockWork). is_some o) (sym is) ∙ sym said ∙ test in
    (some, (waits e.phase call bytes old e base disk some goes).0)

pub serve-requires-clause-blocks : goal.serve-requires-clause-blocks
serve-requires-clause-blocks c =
    let h = here c.args.call (given_bytes c.args.call c.args.bytes.now) c.args.files.now c.loop-files.files c.args.disk.now c.loop-files.disk c.wants.result
    c.is_some.result c.loop-files.invariant c.wants.ensures c.is_some.ensures c.loop-files-test.true in
    h.1.whole ∙ h.1.blocks

pub serve-requires-clause-outgoing : goal.serve-requires-clause-outgoing
serve-requires-clause-outgoing c =
    (here c.args.call (given_bytes c.args.call c.args.bytes.now) c.args.files.now c.loop-files.files c.args.disk.now c.loop-files.disk c.wants.result
    c.is_some.result c.loop-files.invariant c.wants.ensures c.is_some.ensures c.loop-files-test.true).1.outgoing

pub serve-requires-clause-within : goal.serve-requires-clause-within
serve-requires-clause-within c =
    c.wants_a_block_of_the_disk.ensures.within c.args.disk.now c.loop-files.disk
    (here c.args.call (given_bytes c.args.call c.args.bytes.now) c.args.files.now c.loop-files.files c.args.disk.now c.loop-files.disk c.wants.result
    c.is_some.result c.loop-files.invariant c.wants.ensures c.is_some.ensures c.loop-files-test.true).1

pub loop-files-smaller : goal.loop-files-smaller
loop-files-smaller c =
    c.serve.ensures.less c.args.disk.now
    (here c.args.call (given_bytes c.args.call c.args.bytes.now) c.args.files.now c.loop-files.files c.args.disk.now c.loop-files.disk c.wants.result
    c.is_some.result c.loop-files.invariant c.wants.ensures c.is_some.ensures c.loop-files-test.true).1

pub loop-files-preserved : goal.loop-files-preserved
loop-files-preserved c =
    let bytes = given_bytes c.args.call c.args.bytes.now in
    let h = here c.args.call bytes c.args.files.now c.loop-files.files c.args.disk.now c.loop-files.disk c.wants.result
    c.is_some.result c.loop-files.invariant c.wants.ensures c.is_some.ensures c.loop-files-test.true in
    goes_on c.args.call bytes c.args.files.now c.loop-files.files c.serve.new.files c.args.disk.now c.loop-files.disk c.serve.new.disk h.0
    c.loop-files.invariant (c.serve.ensures.goes c.args.disk.now h.1)

-- once none is wanted the call has its reply
done : (call : FileCall) (bytes : List ℕ) (old e : Files) (base disk : List ℕ) (o : Option BlockWork) (b : Bool) → GoesTo e.phase call bytes old e base disk
    → o ≡ wanted e → b ≡ is_some o → b ≡ false → HasReply e.phase call bytes old e base disk
done call bytes old e base disk o b goes is said test =
    replied e.phase call bytes old e base disk (nothing (wanted e) (ap (λ (o : Option BlockWork). is_some o) (sym is) ∙ sym said ∙ test)) goes

pub unreachable-requires : goal.unreachable-requires
unreachable-requires c =
    let r = done c.args.call (given_bytes c.args.call c.args.bytes.now) c.args.files.now c.loop-files.files c.args.disk.now c.loop-files.disk c.wants.result
    c.is_some.result c.loop-files.invariant c.wants.ensures c.is_some.ensures c.loop-files-test.false in
    let both : ◌≡◌ {A = Option ℤ} (Some r.reply) None = sym r.known ∙ sym c.answer.ensures.reply ∙ c.in-None.is in
    absurd (cc (both))

pub returns-clause-effect : goal.returns-clause-effect
returns-clause-effect c =
    let call = c.args.call in
    let bytes = given_bytes c.args.call c.args.bytes.now in
    let before = system c.args.files.now c.args.disk.now in
    let disk = c.loop-files.disk in
    let r = done call bytes c.args.files.now c.loop-files.files c.args.disk.now disk c.wants.result
    c.is_some.result c.loop-files.invariant c.wants.ensures c.is_some.ensures c.loop-files-test.false in
    let same = same_reply r.reply c.in-Some.reply (sym r.known ∙ sym c.answer.ensures.reply ∙ c.in-Some.is) in
    let fits : SFits w32 c.in-Some.reply = search rules in
    rw (to_z-of_z w32 c.in-Some.reply fits)
    (subst (λ (z : ℤ). HasEffect call bytes before z (gathered c.answer.new.self) (system c.answer.new.self disk)) same
    (subst (λ (x : Files). HasEffect call bytes before r.reply (gathered x) (system x disk)) (sym c.answer.ensures.new) r.effect))

pub returns-clause-stands : goal.returns-clause-stands
returns-clause-stands c =
    let r = done c.args.call (given_bytes c.args.call c.args.bytes.now) c.args.files.now c.loop-files.files c.args.disk.now c.loop-files.disk c.wants.result
    c.is_some.result c.loop-files.invariant c.wants.ensures c.is_some.ensures c.loop-files-test.false in
    subst (λ (x : Files). Stands x c.loop-files.disk c.loop-files.disk) (sym c.answer.ensures.new) r.stands

pub returns-clause-idle : goal.returns-clause-idle
returns-clause-idle c =
    let r = done c.args.call (given_bytes c.args.call c.args.bytes.now) c.args.files.now c.loop-files.files c.args.disk.now c.loop-files.disk c.wants.result
    c.is_some.result c.loop-files.invariant c.wants.ensures c.is_some.ensures c.loop-files-test.false in
    subst (λ (x : Files). x.phase ≡ Idle) (sym c.answer.ensures.new) r.idle
