use Rattle.std.proofs.Common.{◌<◌, ◌∙◌, ap, length, rules, subst, sym, List, ℕ}
use Rattle.std.specs.List.{AllByRecursion}
use Rattle.reference_files.proofs.Kept.{first_right}
use Rattle.reference_files.proofs.Ranges.{effect_put}
use Rattle.reference_files.specs.Steps.{IsPut}
use Rattle.reference_files.proofs.Small.{sound_is_small}
use Rattle.reference_files.specs.Sizes.{IsSmall}
use Rattle.reference_state.specs.FileCalls.{file_call_of}
use Rattle.xinu_model.specs.Files.Sound.{IsFileRequest}
use Rattle.xinu_model.specs.Files.Systems.{FileEffect}
use Rattle.xinu_model.specs.Files.Work.{FileWork}
use Rattle.reference_files.proofs.first.first_effect.Goals as goal

pub file_effect-requires-clause-small : goal.file_effect-requires-clause-small
file_effect-requires-clause-small c =
    subst IsSmall (sym (ap (λ (w : FileWork). w.system) c.w.view_is))
    (sound_is_small c.args.w.now.system c.requires.sound.system c.requires.disk)

pub copied-requires : goal.copied-requires
copied-requires c =
    let calls = c.w.inside.calls.items in
    let some : 0 < length calls = search rules in
    let same = ap (λ (w : FileWork). w.calls) c.w.view_is in
    let all = subst (AllByRecursion IsFileRequest) (sym same) c.requires.sound.calls in
    let right : IsFileRequest c.remove-a.result = first_right calls c.remove-a.result some c.remove-a.ensures.value all in
    let own = subst IsFileRequest (sym c.a.view_is) right in
    let brought = c.deref-2.ensures.value ∙ ap (λ (x : FileEffect). x.bytes) c.in_ok-answer.ensures.effect in
    let put = effect_put (file_call_of c.a.inside.call) c.a.inside.at c.deref.result.now c.w.inside.system own.range in
    record { range = subst (λ (l : List ℕ). IsPut c.a.inside.at l) (sym brought) put }
