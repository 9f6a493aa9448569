use Rattle.std.proofs.Common.{rules, w32, to_z, of_z, true, ◌≡◌, ◌+◌, ℕ, List, [], ◌∷◌, ◌++◌, drop, map, ap, sym, ◌∙◌, subst, None}
use Rattle.std.proofs.lemmas.Int.{to_z-of_z}
use mir.Val.{SFits}
use Rattle.file_server.specs.Requests.{AreRequests, note_of, request_of}
use Rattle.file_server.specs.ServerStates.{ServerState, IsCompleted}
use Rattle.file_server.specs.Servers.{FirstIsHeld, work_of}
use Rattle.file_server.specs.Starts.{WentOn, about_to}
use Rattle.file_server.specs.declared.requests.FileNote as declared_note
use Rattle.file_server.specs.declared.requests.FileRequest as declared_request
use Rattle.file_server.proofs.Servers.{effect_completes, first_of, had_a_turn, serves, some_listed, turn_completes}
use Rattle.file_server.proofs.Starts.{listed}
use Rattle.local_files.specs.Resting.{ServesDisk}
use Rattle.xinu_base.specs.declared.lines.FileMoment.TheVariants.{Finished, Turn}
use Rattle.xinu_model.specs.Files.Rest.{are_calls}
use Rattle.xinu_model.specs.Files.Work.{FileNote, FileStep, had_turn, took_effect}
use Rattle.file_server.proofs.server.FileServer.complete.Goals as goal

pub invariant_of-self : goal.invariant_of-self
invariant_of-self c =
    let d = c.self.inside.disk in let new = c.complete.new.self in let items = c.self.inside.requests.items in let turns = c.self.inside.turns in
    let r = c.index-as_slice-0.result in let rest = drop 1 items in
    let B : ServerState → Type 0 = λ v. are_calls v.work.calls ≡ true in
    let some = some_listed items (subst B (sym c.self.view_is) c.requires.busy) in
    let whole = listed items c.as_slice.result.now r c.as_slice.ensures.value some c.index-as_slice-0.is in
    let F : List declared_request.FileRequest → Type 0 = λ l. FirstIsHeld d.hand (map request_of l) turns d.system in
    let first = first_of d (request_of r) (map request_of rest) turns (subst F whole c.self.invariant.first) in
    let t = had_a_turn first.held d new (request_of r) (map request_of rest) turns first.under (c.in_default.ensures.goes first.held first.is) in
    let G : List declared_request.FileRequest → Type 0 = λ l. FirstIsHeld new.hand (map request_of l) (turns + 1) new.system in
    record { first = subst G (sym whole) t.first; calls = c.self.invariant.calls }

pub returns-in_default-clause-completed : goal.returns-in_default-clause-completed
returns-in_default-clause-completed c =
    let d = c.self.inside.disk in let new = c.complete.new.self in let items = c.self.inside.requests.items in let turns = c.self.inside.turns in
    let r = c.index-as_slice-0.result in let rest = drop 1 items in let ram = c.args.ram.now in
    let B : ServerState → Type 0 = λ v. are_calls v.work.calls ≡ true in
    let some = some_listed items (subst B (sym c.self.view_is) c.requires.busy) in
    let whole = listed items c.as_slice.result.now r c.as_slice.ensures.value some c.index-as_slice-0.is in
    let F : List declared_request.FileRequest → Type 0 = λ l. FirstIsHeld d.hand (map request_of l) turns d.system in
    let first = first_of d (request_of r) (map request_of rest) turns (subst F whole c.self.invariant.first) in
    let done = turn_completes first.held d new r rest turns ram first.is first.under (c.in_default.ensures.goes first.held first.is) in
    let note : declared_note.FileNote = record { caller = r.caller; moment = Turn; reply = None } in
    let notes : map note_of c.push.new.self.items ≡ had_turn (request_of r) ∷ [] =
    ap (map note_of) (c.push.ensures.items ∙ ap (λ l. l ++ note ∷ []) c.new-notes.ensures) in
    let N : List FileNote → Type 0 = λ n. (let after : FileStep = record { work = work_of new (r ∷ rest) (turns + 1); memory = ram; notes = n } in
    IsCompleted (work_of d (r ∷ rest) turns) ram after) in
    let L : List declared_request.FileRequest → Type 0 = λ l. (let after : FileStep = record { work = work_of new l (turns + 1); memory = ram; notes = map note_of c.push.new.self.items } in
    IsCompleted (work_of d l turns) ram after) in
    let V : ServerState → Type 0 = λ v. (let after : FileStep = record { work = work_of new items (turns + 1); memory = ram; notes = map note_of c.push.new.self.items } in
    IsCompleted v.work ram after) in
    subst V c.self.view_is (subst L (sym whole) (subst N (sym notes) done))

pub begin_next-requires-clause-idle : goal.begin_next-requires-clause-idle
begin_next-requires-clause-idle c =
    let d = c.self.inside.disk in let items = c.self.inside.requests.items in let turns = c.self.inside.turns in
    let r = c.index-as_slice-0.result in let rest = drop 1 items in
    let B : ServerState → Type 0 = λ v. are_calls v.work.calls ≡ true in
    let some = some_listed items (subst B (sym c.self.view_is) c.requires.busy) in
    let whole = listed items c.as_slice.result.now r c.as_slice.ensures.value some c.index-as_slice-0.is in
    let F : List declared_request.FileRequest → Type 0 = λ l. FirstIsHeld d.hand (map request_of l) turns d.system in
    let first = first_of d (request_of r) (map request_of rest) turns (subst F whole c.self.invariant.first) in
    (c.in-Some.ensures.goes first.held first.is).hand

pub returns-clause-completed : goal.returns-clause-completed
returns-clause-completed c =
    let d = c.self.inside.disk in let new = c.complete.new.self in let items = c.self.inside.requests.items in let turns = c.self.inside.turns in
    let r = c.index-as_slice-0.result in let rest = drop 1 items in let ram = c.args.ram.now in let reply = c.in-Some.reply in
    let B : ServerState → Type 0 = λ v. are_calls v.work.calls ≡ true in
    let some = some_listed items (subst B (sym c.self.view_is) c.requires.busy) in
    let whole = listed items c.as_slice.result.now r c.as_slice.ensures.value some c.index-as_slice-0.is in
    let F : List declared_request.FileRequest → Type 0 = λ l. FirstIsHeld d.hand (map request_of l) turns d.system in
    let first = first_of d (request_of r) (map request_of rest) turns (subst F whole c.self.invariant.first) in
    let A : List declared_request.FileRequest → Type 0 = λ l. AreRequests l in
    let right = (subst A whole c.self.invariant.calls).0 in
    let popped : c.pop_at.new.self.items ≡ rest = search rules in
    let fits : SFits w32 reply = search rules in
    let after : FileStep = record { work = work_of c.begin_next.new.disk c.begin_next.new.requests.items 0; memory = c.begin_next.new.ram; notes = map note_of c.begin_next.new.notes.items } in
    let notes : map note_of c.take_effect.new.notes.items ≡ took_effect (request_of r) Finished reply ∷ [] =
    c.take_effect.ensures.notes ∙ ap (λ l. map note_of l ++ took_effect (request_of r) Finished (to_z w32 (of_z w32 reply)) ∷ []) c.new-notes.ensures
    ∙ ap (λ z. took_effect (request_of r) Finished z ∷ []) (to_z-of_z w32 reply fits) in
    let W : List declared_request.FileRequest → Type 0 = λ l. WentOn (about_to new l c.take_effect.new.ram c.take_effect.new.notes.items) after in
    let L : List declared_request.FileRequest → Type 0 = λ l. IsCompleted (work_of d l turns) ram after in
    let V : ServerState → Type 0 = λ v. IsCompleted v.work ram after in
    subst V c.self.view_is (subst L (sym whole)
    (effect_completes first.held d new r rest turns ram c.take_effect.new.ram c.take_effect.new.notes.items reply after right first.is first.under.call
    (c.in-Some.ensures.goes first.held first.is) c.take_effect.ensures.memory notes (subst W popped c.begin_next.ensures.went)))

pub returns-in_default-clause-image : goal.returns-in_default-clause-image
returns-in_default-clause-image c =
    let d = c.self.inside.disk in let new = c.complete.new.self in let items = c.self.inside.requests.items in let turns = c.self.inside.turns in
    let r = c.index-as_slice-0.result in let rest = drop 1 items in
    let B : ServerState → Type 0 = λ v. are_calls v.work.calls ≡ true in
    let some = some_listed items (subst B (sym c.self.view_is) c.requires.busy) in
    let whole = listed items c.as_slice.result.now r c.as_slice.ensures.value some c.index-as_slice-0.is in
    let F : List declared_request.FileRequest → Type 0 = λ l. FirstIsHeld d.hand (map request_of l) turns d.system in
    let first = first_of d (request_of r) (map request_of rest) turns (subst F whole c.self.invariant.first) in
    let L : List declared_request.FileRequest → Type 0 = λ l. ServesDisk (work_of d l turns) d.image new.image in
    let V : ServerState → Type 0 = λ v. ServesDisk v.work v.image new.image in
    subst V c.self.view_is (subst L (sym whole) (serves d r rest turns new.image first c.complete.ensures.image c.complete.ensures.still c.complete.ensures.reads))

pub returns-clause-image : goal.returns-clause-image
returns-clause-image c =
    let d = c.self.inside.disk in let new = c.complete.new.self in let items = c.self.inside.requests.items in let turns = c.self.inside.turns in
    let r = c.index-as_slice-0.result in let rest = drop 1 items in
    let B : ServerState → Type 0 = λ v. are_calls v.work.calls ≡ true in
    let some = some_listed items (subst B (sym c.self.view_is) c.requires.busy) in
    let whole = listed items c.as_slice.result.now r c.as_slice.ensures.value some c.index-as_slice-0.is in
    let F : List declared_request.FileRequest → Type 0 = λ l. FirstIsHeld d.hand (map request_of l) turns d.system in
    let first = first_of d (request_of r) (map request_of rest) turns (subst F whole c.self.invariant.first) in
    let L : List declared_request.FileRequest → Type 0 = λ l. ServesDisk (work_of d l turns) d.image new.image in
    let V : ServerState → Type 0 = λ v. ServesDisk v.work v.image c.begin_next.new.disk.image in
    let I : List ℕ → Type 0 = λ x. ServesDisk (work_of d items turns) d.image x in
    subst V c.self.view_is (subst I (sym c.begin_next.ensures.image)
    (subst L (sym whole) (serves d r rest turns new.image first c.complete.ensures.image c.complete.ensures.still c.complete.ensures.reads)))
