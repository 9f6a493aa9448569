use Rattle.std.proofs.Common.{rules, w32, to_z, of_z, ℤ, ◌≡◌, ◌-◌, List, ℕ, length, ap, sym, ◌∙◌, subst, Some}
use Rattle.std.specs.Prelude.{IsSome}
use Rattle.std.proofs.lemmas.Int.{to_z-of_z}
use mir.Val.{SFits}
use Rattle.std.specs.Vec.{with_items}
use Rattle.std.proofs.lemmas.List.{with_items_is}
use Rattle.file_server.specs.DiskStates.{DiskState, HeldCall, Waits, IsDone}
use Rattle.file_server.specs.FileDisks.{held_for}
use Rattle.file_server.specs.Settled.{Follows}
use Rattle.file_server.proofs.Settling.{no_difference}
use Rattle.file_server.proofs.Engines.{done_with, held_reads, held_refused, kept_in, over_stands, some_held, state_of, still_stands, waits_on}
use Rattle.local_files.specs.Resting.{ChangesOneBlock, OnlyReads}
use Rattle.local_files.specs.Standing.{Stands, call_bytes, reply_in, served, wanted}
use Rattle.local_files.specs.declared.Files.{Files}
use Rattle.xinu_base.specs.Constants.{SYSERR}
use Rattle.xinu_model.specs.Files.Calls.{file_effect}
use Rattle.file_server.proofs.file_disk.FileDisk.complete.Goals as goal

pub serve-requires-clause-wants : goal.serve-requires-clause-wants
serve-requires-clause-wants c =
    let P : DiskState → Type 0 = λ v. IsSome v.hand in
    some_held (wanted c.self.inside.files) c.self.inside.files c.self.inside.settled.items (subst P (sym c.self.view_is) c.requires.busy)

pub serve-requires-clause-blocks : goal.serve-requires-clause-blocks
serve-requires-clause-blocks c = ap length c.deref_mut.ensures.value ∙ c.self.invariant.stands.whole ∙ c.self.invariant.stands.blocks

pub serve-requires-clause-outgoing : goal.serve-requires-clause-outgoing
serve-requires-clause-outgoing c = c.self.invariant.stands.outgoing

pub serve-requires-clause-within : goal.serve-requires-clause-within
serve-requires-clause-within c = c.wants_a_block_of_the_disk.ensures.within c.self.inside.settled.items c.self.inside.disk.items c.self.invariant.stands

pub invariant_of-self : goal.invariant_of-self
invariant_of-self c =
    let e = c.self.inside.files in let f = c.serve.new.files in let base = c.self.inside.settled.items in
    let S : List ℕ → Type 0 = λ d. Stands e base d in
    let g = c.serve.ensures.goes base (subst S (sym c.deref_mut.ensures.value) c.self.invariant.stands) in
    let none = sym (sym c.in-None.is ∙ c.answer.ensures.reply) in
    let kept = c.answer.ensures.new ∙ kept_in f.phase f none in
    let s = still_stands f e.call (call_bytes e) e base c.serve.new.disk none g in
    let items : (with_items c.self.inside.disk c.serve.new.disk).items ≡ c.serve.new.disk =
    with_items_is c.self.inside.disk c.serve.new.disk (c.serve.ensures.len ∙ ap length c.deref_mut.ensures.value ∙ sym c.self.inside.disk.ok.0) in
    let P : Files → Type 0 = λ x. Stands x base (with_items c.self.inside.disk c.serve.new.disk).items in
    let Q : List ℕ → Type 0 = λ x. Stands f base x in
    let disk = c.self.inside.disk.items in
    let new : (with_items c.self.inside.disk c.serve.new.disk).items ≡ served e disk = items ∙ c.serve.ensures.disk ∙ ap (served e) c.deref_mut.ensures.value in
    let W : List ℕ → Type 0 = λ x. Follows c.note_write.new.written.items base x in
    record {
      stands = subst P (sym kept) (subst Q (sym items) s);
      taken = ap (λ (x : Files). reply_in x.phase) kept ∙ none;
      follows = subst W (sym new) (c.note_write.ensures.follows base disk c.self.invariant.stands c.self.invariant.follows);
    }

pub invariant_of-self-in-Some : goal.invariant_of-self-in-Some
invariant_of-self-in-Some c =
    let e = c.self.inside.files in let f = c.serve.new.files in let base = c.self.inside.settled.items in
    let S : List ℕ → Type 0 = λ d. Stands e base d in
    let g = c.serve.ensures.goes base (subst S (sym c.deref_mut.ensures.value) c.self.invariant.stands) in
    let is = sym c.in-Some.is ∙ c.answer.ensures.reply in
    let items : (with_items c.self.inside.disk c.serve.new.disk).items ≡ c.serve.new.disk =
    with_items_is c.self.inside.disk c.serve.new.disk (c.serve.ensures.len ∙ ap length c.deref_mut.ensures.value ∙ sym c.self.inside.disk.ok.0) in
    let settled : (with_items c.self.inside.settled c.settle.new.settled).items ≡ c.serve.new.disk =
    with_items_is c.self.inside.settled c.settle.new.settled (c.settle.ensures.len ∙ ap length c.deref_mut-in-Some.ensures.value ∙ sym c.self.inside.settled.ok.0)
    ∙ c.settle.ensures.same ∙ c.deref.ensures.value ∙ items in
    let o = over_stands f e.call (call_bytes e) e c.in-Some.reply base c.serve.new.disk is g in
    let P : Files → Type 0 = λ x. Stands x c.serve.new.disk c.serve.new.disk in
    let Q : List ℕ → Type 0 = λ x. Stands c.answer.new.self x (with_items c.self.inside.disk c.serve.new.disk).items in
    let R : List ℕ → Type 0 = λ x. Stands c.answer.new.self c.serve.new.disk x in
    record {
      stands = subst Q (sym settled) (subst R (sym items) (subst P (sym c.answer.ensures.new) o.0));
      taken = ap (λ (x : Files). reply_in x.phase) c.answer.ensures.new ∙ o.1;
      follows = no_difference e.blocks (with_items c.self.inside.settled c.settle.new.settled).items (with_items c.self.inside.disk c.serve.new.disk).items
          c.settle.new.written.items (ap length items ∙ c.serve.ensures.len ∙ ap length c.deref_mut.ensures.value ∙ c.self.invariant.stands.whole ∙ c.self.invariant.stands.blocks)
          (settled ∙ sym items) c.settle.ensures.none;
    }

pub returns-in-None-clause-goes : goal.returns-in-None-clause-goes
returns-in-None-clause-goes c = λ h is. (
    let e = c.self.inside.files in let f = c.serve.new.files in let base = c.self.inside.settled.items in
    let here = c.self.invariant.stands in
    let S : List ℕ → Type 0 = λ d. Stands e base d in
    let s = subst S (sym c.deref_mut.ensures.value) here in
    let held : held_for (wanted e) e base ≡ Some h = ap (λ (v : DiskState). v.hand) c.self.view_is ∙ is in
    let items : (with_items c.self.inside.disk c.serve.new.disk).items ≡ c.serve.new.disk =
    with_items_is c.self.inside.disk c.serve.new.disk (c.serve.ensures.len ∙ ap length c.deref_mut.ensures.value ∙ sym c.self.inside.disk.ok.0) in
    let w = waits_on h e f c.answer.new.self base c.self.inside.disk.items c.serve.new.disk (sym c.in-None.is ∙ c.answer.ensures.reply) c.answer.ensures.new held
    (c.serve.ensures.goes base s) (c.serve.ensures.less base s) c.has_a_completion_left.ensures.some in
    let Q : List ℕ → Type 0 = λ x. Waits h.call h.bytes (h.left - 1) (state_of e base c.self.inside.disk.items) (state_of c.answer.new.self base x) in
    let P : DiskState → Type 0 = λ v. Waits h.call h.bytes (h.left - 1) v (state_of c.answer.new.self base (with_items c.self.inside.disk c.serve.new.disk).items) in
    subst P c.self.view_is (subst Q (sym items) w.goes))

pub returns-in-Some-clause-goes : goal.returns-in-Some-clause-goes
returns-in-Some-clause-goes c = λ h is. (
    let e = c.self.inside.files in let f = c.serve.new.files in let base = c.self.inside.settled.items in
    let here = c.self.invariant.stands in
    let S : List ℕ → Type 0 = λ d. Stands e base d in
    let s = subst S (sym c.deref_mut.ensures.value) here in
    let held : held_for (wanted e) e base ≡ Some h = ap (λ (v : DiskState). v.hand) c.self.view_is ∙ is in
    let items : (with_items c.self.inside.disk c.serve.new.disk).items ≡ c.serve.new.disk =
    with_items_is c.self.inside.disk c.serve.new.disk (c.serve.ensures.len ∙ ap length c.deref_mut.ensures.value ∙ sym c.self.inside.disk.ok.0) in
    let settled : (with_items c.self.inside.settled c.settle.new.settled).items ≡ c.serve.new.disk =
    with_items_is c.self.inside.settled c.settle.new.settled (c.settle.ensures.len ∙ ap length c.deref_mut-in-Some.ensures.value ∙ sym c.self.inside.settled.ok.0)
    ∙ c.settle.ensures.same ∙ c.deref.ensures.value ∙ items in
    let w = done_with h c.in-Some.reply e f c.answer.new.self base c.self.inside.disk.items c.serve.new.disk (sym c.in-Some.is ∙ c.answer.ensures.reply) c.answer.ensures.new held
    (c.serve.ensures.goes base s) in
    let Q : List ℕ → Type 0 = λ x. IsDone h.call h.bytes c.in-Some.reply (state_of e base c.self.inside.disk.items) (state_of c.answer.new.self c.serve.new.disk x) in
    let R : List ℕ → Type 0 = λ x. IsDone h.call h.bytes c.in-Some.reply (state_of e base c.self.inside.disk.items) (state_of c.answer.new.self x (with_items c.self.inside.disk c.serve.new.disk).items) in
    let P : DiskState → Type 0 = λ v. IsDone h.call h.bytes (to_z w32 (of_z w32 c.in-Some.reply)) v (state_of c.answer.new.self (with_items c.self.inside.settled c.settle.new.settled).items (with_items c.self.inside.disk c.serve.new.disk).items) in
    let fits : SFits w32 c.in-Some.reply = search rules in
    let Z : ℤ → Type 0 = λ z. IsDone h.call h.bytes z (state_of e base c.self.inside.disk.items) (state_of c.answer.new.self (with_items c.self.inside.settled c.settle.new.settled).items (with_items c.self.inside.disk c.serve.new.disk).items) in
    subst P c.self.view_is (subst Z (sym (to_z-of_z w32 c.in-Some.reply fits)) (subst R (sym settled) (subst Q (sym items) w.goes))))

pub returns-in-None-clause-image : goal.returns-in-None-clause-image
returns-in-None-clause-image c =
    let e = c.self.inside.files in let disk = c.self.inside.disk.items in
    let items : (with_items c.self.inside.disk c.serve.new.disk).items ≡ c.serve.new.disk =
    with_items_is c.self.inside.disk c.serve.new.disk (c.serve.ensures.len ∙ ap length c.deref_mut.ensures.value ∙ sym c.self.inside.disk.ok.0) in
    let new : (with_items c.self.inside.disk c.serve.new.disk).items ≡ served e disk = items ∙ c.serve.ensures.disk ∙ ap (served e) c.deref_mut.ensures.value in
    let P : List ℕ → Type 0 = λ x. ChangesOneBlock disk x in
    let Q : DiskState → Type 0 = λ v. ChangesOneBlock v.image (with_items c.self.inside.disk c.serve.new.disk).items in
    subst Q c.self.view_is (subst P (sym new) (c.changes_one_block.ensures.one c.self.inside.settled.items disk c.self.invariant.stands))

pub returns-in-Some-clause-image : goal.returns-in-Some-clause-image
returns-in-Some-clause-image c =
    let e = c.self.inside.files in let disk = c.self.inside.disk.items in
    let items : (with_items c.self.inside.disk c.serve.new.disk).items ≡ c.serve.new.disk =
    with_items_is c.self.inside.disk c.serve.new.disk (c.serve.ensures.len ∙ ap length c.deref_mut.ensures.value ∙ sym c.self.inside.disk.ok.0) in
    let new : (with_items c.self.inside.disk c.serve.new.disk).items ≡ served e disk = items ∙ c.serve.ensures.disk ∙ ap (served e) c.deref_mut.ensures.value in
    let P : List ℕ → Type 0 = λ x. ChangesOneBlock disk x in
    let Q : DiskState → Type 0 = λ v. ChangesOneBlock v.image (with_items c.self.inside.disk c.serve.new.disk).items in
    subst Q c.self.view_is (subst P (sym new) (c.changes_one_block.ensures.one c.self.inside.settled.items disk c.self.invariant.stands))

pub returns-in-None-clause-still : goal.returns-in-None-clause-still
returns-in-None-clause-still c =
    let e = c.self.inside.files in let base = c.self.inside.settled.items in let disk = c.self.inside.disk.items in
    let here = c.self.invariant.stands in let law = c.leaves_the_disk_if_refused.ensures in
    let items : (with_items c.self.inside.disk c.serve.new.disk).items ≡ c.serve.new.disk =
    with_items_is c.self.inside.disk c.serve.new.disk (c.serve.ensures.len ∙ ap length c.deref_mut.ensures.value ∙ sym c.self.inside.disk.ok.0) in
    let new : (with_items c.self.inside.disk c.serve.new.disk).items ≡ served e disk = items ∙ c.serve.ensures.disk ∙ ap (served e) c.deref_mut.ensures.value in
    let Q : DiskState → Type 0 = λ v. (h : HeldCall) → v.hand ≡ Some h → (file_effect h.call h.bytes v.system).reply ≡ SYSERR
    → (with_items c.self.inside.disk c.serve.new.disk).items ≡ v.image in
    subst Q c.self.view_is (λ h is refused. (let will = held_refused e base h is refused in
    new ∙ law.after base disk here will ∙ sym (law.before base disk here will)))

pub returns-in-Some-clause-still : goal.returns-in-Some-clause-still
returns-in-Some-clause-still c =
    let e = c.self.inside.files in let base = c.self.inside.settled.items in let disk = c.self.inside.disk.items in
    let here = c.self.invariant.stands in let law = c.leaves_the_disk_if_refused.ensures in
    let items : (with_items c.self.inside.disk c.serve.new.disk).items ≡ c.serve.new.disk =
    with_items_is c.self.inside.disk c.serve.new.disk (c.serve.ensures.len ∙ ap length c.deref_mut.ensures.value ∙ sym c.self.inside.disk.ok.0) in
    let new : (with_items c.self.inside.disk c.serve.new.disk).items ≡ served e disk = items ∙ c.serve.ensures.disk ∙ ap (served e) c.deref_mut.ensures.value in
    let Q : DiskState → Type 0 = λ v. (h : HeldCall) → v.hand ≡ Some h → (file_effect h.call h.bytes v.system).reply ≡ SYSERR
    → (with_items c.self.inside.disk c.serve.new.disk).items ≡ v.image in
    subst Q c.self.view_is (λ h is refused. (let will = held_refused e base h is refused in
    new ∙ law.after base disk here will ∙ sym (law.before base disk here will)))

pub returns-in-None-clause-reads : goal.returns-in-None-clause-reads
returns-in-None-clause-reads c =
    let e = c.self.inside.files in let base = c.self.inside.settled.items in let disk = c.self.inside.disk.items in
    let items : (with_items c.self.inside.disk c.serve.new.disk).items ≡ c.serve.new.disk =
    with_items_is c.self.inside.disk c.serve.new.disk (c.serve.ensures.len ∙ ap length c.deref_mut.ensures.value ∙ sym c.self.inside.disk.ok.0) in
    let new : (with_items c.self.inside.disk c.serve.new.disk).items ≡ served e disk = items ∙ c.serve.ensures.disk ∙ ap (served e) c.deref_mut.ensures.value in
    let Q : DiskState → Type 0 = λ v. (h : HeldCall) → v.hand ≡ Some h → OnlyReads h.call v.system
    → (with_items c.self.inside.disk c.serve.new.disk).items ≡ v.image in
    subst Q c.self.view_is (λ h is reads. new
    ∙ c.leaves_the_disk_if_it_reads.ensures.same base disk c.self.invariant.stands (held_reads e base h is reads))

pub returns-in-Some-clause-reads : goal.returns-in-Some-clause-reads
returns-in-Some-clause-reads c =
    let e = c.self.inside.files in let base = c.self.inside.settled.items in let disk = c.self.inside.disk.items in
    let items : (with_items c.self.inside.disk c.serve.new.disk).items ≡ c.serve.new.disk =
    with_items_is c.self.inside.disk c.serve.new.disk (c.serve.ensures.len ∙ ap length c.deref_mut.ensures.value ∙ sym c.self.inside.disk.ok.0) in
    let new : (with_items c.self.inside.disk c.serve.new.disk).items ≡ served e disk = items ∙ c.serve.ensures.disk ∙ ap (served e) c.deref_mut.ensures.value in
    let Q : DiskState → Type 0 = λ v. (h : HeldCall) → v.hand ≡ Some h → OnlyReads h.call v.system
    → (with_items c.self.inside.disk c.serve.new.disk).items ≡ v.image in
    subst Q c.self.view_is (λ h is reads. new
    ∙ c.leaves_the_disk_if_it_reads.ensures.same base disk c.self.invariant.stands (held_reads e base h is reads))
