use Rattle.std.proofs.Common.{rules, w32, to_z, of_z, ℤ, ◌≡◌, ◌≤◌, List, ℕ, [], ◌∷◌, ◌++◌, length, map, if◌then◌else◌, ap, sym, ◌∙◌, subst, arith}
use Rattle.std.proofs.lemmas.Bool.Decides.{nat_tests}
use Rattle.std.proofs.lemmas.Int.{to_z-of_z}
use mir.Val.{SFits}
use Rattle.file_server.specs.Requests.{AreRequests, request_of}
use Rattle.file_server.specs.ServerStates.{ServerState, IsIssued}
use Rattle.file_server.specs.Servers.{FirstIsHeld, work_of}
use Rattle.file_server.specs.declared.requests.FileRequest as declared_request
use Rattle.file_server.proofs.Issues.{at_once, none_held, none_listed}
use Rattle.file_server.proofs.Starts.{first_begun}
use Rattle.xinu_base.specs.declared.lines.FileMoment.TheVariants.{Finished}
use Rattle.xinu_model.specs.Files.Work.{FileStep, copied, took_effect}
use Rattle.xinu_model.specs.Memory.{in_ram}
use Rattle.file_server.proofs.server.FileServer.issue.Goals as goal

pub invariant_of-self-in_default : goal.invariant_of-self-in_default
invariant_of-self-in_default c =
    let d = c.self.inside.disk in let new = c.begin.new.self in let items = c.self.inside.requests.items in let turns = c.self.inside.turns in
    let r = c.args.r in
    let empty = c.is_empty.ensures in let test = c.if-not-is_empty.false in
    let few : length items ≤ 0 = grind (arith, nat_tests) in
    let none = none_listed items few in
    let P : List declared_request.FileRequest → Type 0 = λ l. FirstIsHeld d.hand (map request_of l) turns d.system in
    let free = none_held d turns (subst P none c.self.invariant.first) in
    let whole : c.push-in_default.new.self.items ≡ r ∷ [] = c.push-in_default.ensures.items ∙ ap (λ l. l ++ r ∷ []) none in
    let begun = first_begun d new r [] c.args.ram.now c.bytes_of.result.now c.bytes_of.ensures.bytes c.in_default.ensures.goes in
    let F : List declared_request.FileRequest → Type 0 = λ l. FirstIsHeld new.hand (map request_of l) turns new.system in
    let Z : ℕ → Type 0 = λ n. FirstIsHeld new.hand (map request_of (r ∷ [])) n new.system in
    let A : List declared_request.FileRequest → Type 0 = λ l. AreRequests l in
    record {
      first = subst F (sym whole) (subst Z (sym free.turns_is) begun.first);
      calls = subst A (sym whole) (c.requires.request, tt);
    }

pub returns-clause-issued : goal.returns-clause-issued
returns-clause-issued c =
    let d = c.self.inside.disk in let new = c.begin.new.self in let items = c.self.inside.requests.items in let turns = c.self.inside.turns in
    let r = c.args.r in let ram = c.args.ram.now in let reply = c.in-Some.reply in
    let empty = c.is_empty.ensures in let test = c.if-not-is_empty.false in
    let few : length items ≤ 0 = grind (arith, nat_tests) in
    let none = none_listed items few in
    let P : List declared_request.FileRequest → Type 0 = λ l. FirstIsHeld d.hand (map request_of l) turns d.system in
    let free = none_held d turns (subst P none c.self.invariant.first) in
    let memory = c.hand_over.ensures.memory
    ∙ ap (λ (g : List ℕ). if in_ram r.at (length g) then copied r.caller r.at g ram else ram) c.given.ensures.bytes in
    let issued = at_once d new r turns ram c.hand_over.new.ram c.bytes_of.result.now reply free.turns_is c.requires.request c.bytes_of.ensures.bytes
    c.in-Some.ensures.goes memory in
    let fits : SFits w32 reply = search rules in
    let Z : ℤ → Type 0 = λ z. (let after : FileStep = record { work = work_of new [] turns; memory = c.hand_over.new.ram; notes = took_effect (request_of r) Finished z ∷ [] } in
    IsIssued 1 (request_of r) ram (work_of d [] turns) after) in
    let Q : List declared_request.FileRequest → Type 0 = λ l. (let after : FileStep = record { work = work_of new l turns; memory = c.hand_over.new.ram; notes = took_effect (request_of r) Finished (to_z w32 (of_z w32 reply)) ∷ [] } in
    IsIssued 1 (request_of r) ram (work_of d l turns) after) in
    let V : ServerState → Type 0 = λ v. (let after : FileStep = record { work = work_of new items turns; memory = c.hand_over.new.ram; notes = took_effect (request_of r) Finished (to_z w32 (of_z w32 reply)) ∷ [] } in
    IsIssued 1 (request_of r) ram v.work after) in
    subst V c.self.view_is (subst Q (sym none) (subst Z (sym (to_z-of_z w32 reply fits)) issued))
