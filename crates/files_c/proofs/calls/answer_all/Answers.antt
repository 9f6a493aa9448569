use mir.Val.{SFits}
use Rattle.std.proofs.Common.{arith, rules, w64, ◌∙◌, ◌<◌, length}
use Rattle.std.proofs.lemmas.Int.{to_z-of_z}
use Rattle.std.proofs.lemmas.List.{length-set}
use Rattle.files_c.specs.Answers.{Held, answers_of, bytes_after}
use Rattle.files_c.proofs.Effects.{one_answered, one_passed}
use Rattle.files_c.proofs.calls.answer_all.Goals as goal
use Rattle.local_files.specs.Hands.{system}

pub loop-k-preserved : goal.loop-k-preserved
loop-k-preserved c =
    let calls = c.args.calls.now in
    let k = c.loop-k.k in
    let i = c.loop-k.invariant in
    let h : Held = record { system = system c.loop-k.files c.loop-k.disk; bytes = c.loop-k.bytes } in
    let h' : Held = record { system = system c.answer.new.files c.answer.new.disk; bytes = c.answer.new.bytes } in
    let start : Held = record { system = system c.args.files.now c.args.disk.now; bytes = c.args.bytes.now } in
    let wide : SFits w64 c.answer.result = search rules in
    let lt : k < length calls = omega (arith, c.loop-k-test.true) in
    record {
      made = one_answered c.loop-k.answers calls k _ h h' _ (answers_of start calls) lt i.long (to_z-of_z w64 c.answer.result wide ∙ c.answer.ensures.answer)
          c.answer.ensures.held i.made;
      bytes = one_passed calls k _ h h' (bytes_after start calls) lt c.answer.ensures.held i.bytes;
      long = length-set c.loop-k.answers k _ ∙ i.long;
      idle = c.answer.ensures.idle;
      stands = c.answer.ensures.stands;
    }
