use Rattle.std.proofs.Common.{rules, w32, ℤ, map, ◌++◌, ◌≡◌, ◌<◌, List, [], ◌∷◌, drop, length, sym, subst, arith}
use Rattle.std.proofs.lemmas.Int.{to_z-of_z}
use mir.Val.{SFits}
use Rattle.xinu_model.specs.Files.Work.{took_effect}
use Rattle.std.proofs.lemmas.Bool.Decides.{nat_tests}
use Rattle.file_server.specs.Requests.{AreRequests, note_of, request_of}
use Rattle.file_server.specs.Starts.{HasBegun, TookEffect, about_to}
use Rattle.file_server.specs.declared.requests.FileRequest as declared_request
use Rattle.file_server.proofs.Starts.{first_begun, listed, took}
use Rattle.file_server.proofs.starting.begin_first.Goals as goal

pub returns-in_default-clause-begun : goal.returns-in_default-clause-begun
returns-in_default-clause-begun c = λ _. (
    let items = c.args.requests.now.items in
    let empty = c.is_empty.ensures in let none = c.if-is_empty.false in
    let some : 0 < length items = grind (arith, nat_tests) in
    let whole = listed items c.as_slice.result.now c.index-as_slice-0.result c.as_slice.ensures.value some c.index-as_slice-0.is in
    let P : List declared_request.FileRequest → Type 0 = λ l. HasBegun c.args.disk.now c.begin.new.self l c.args.ram.now in
    subst P (sym whole) (first_begun c.args.disk.now c.begin.new.self c.index-as_slice-0.result (drop 1 items) c.args.ram.now c.bytes_of.result.now
    c.bytes_of.ensures.bytes c.in_default.ensures.goes))

pub returns-clause-effect : goal.returns-clause-effect
returns-clause-effect c = λ _. (
    let items = c.args.requests.now.items in
    let r = c.index-as_slice-0.result in
    let empty = c.is_empty.ensures in let none = c.if-is_empty.false in
    let some : 0 < length items = grind (arith, nat_tests) in
    let whole = listed items c.as_slice.result.now r c.as_slice.ensures.value some c.index-as_slice-0.is in
    let A : List declared_request.FileRequest → Type 0 = λ l. AreRequests l in
    let right = subst A whole c.requires.calls in
    let rest : c.pop_at.new.self.items ≡ drop 1 items = search rules in
    let fits : SFits w32 c.in-Some.reply = search rules in
    let N : ℤ → Type 0 = λ z. map note_of c.take_effect.new.notes.items ≡ map note_of c.args.notes.now.items ++ took_effect (request_of r) c.args.moment z ∷ [] in
    let n = subst N (to_z-of_z w32 c.in-Some.reply fits) c.take_effect.ensures.notes in
    let P : List declared_request.FileRequest → Type 0 = λ l. TookEffect c.args.moment (about_to c.args.disk.now l c.args.ram.now c.args.notes.now.items)
    (about_to c.begin.new.self (drop 1 items) c.take_effect.new.ram c.take_effect.new.notes.items) in
    let Q : List declared_request.FileRequest → Type 0 = λ l. TookEffect c.args.moment (about_to c.args.disk.now items c.args.ram.now c.args.notes.now.items)
    (about_to c.begin.new.self l c.take_effect.new.ram c.take_effect.new.notes.items) in
    subst Q (sym rest) (subst P (sym whole) (took c.args.moment c.args.disk.now c.begin.new.self r (drop 1 items) c.args.ram.now c.take_effect.new.ram
    c.bytes_of.result.now c.args.notes.now.items c.take_effect.new.notes.items c.in-Some.reply right.0 c.bytes_of.ensures.bytes c.in-Some.ensures.goes
    c.take_effect.ensures.memory n)))
