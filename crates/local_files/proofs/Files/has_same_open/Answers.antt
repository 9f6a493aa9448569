use Rattle.std.proofs.Common.{◌≡◌, ◌∙◌, length, map, refl, sym, ap, arith, add-one, Option, None, slice_index_or, take, List}
use Rattle.std.proofs.lemmas.List.{length-map, take_all}
use Rattle.xinu_model.specs.Files.Systems as systems
use Rattle.local_files.specs.declared.OpenFile.{OpenFile}
use Rattle.local_files.specs.Steps.{shown}
use Rattle.local_files.proofs.Devices.{shown_at}
use Rattle.local_files.proofs.SameOpen.{shown_more}
use Rattle.local_files.proofs.Files.has_same_open.Goals as goal

pub returns-then-not-is_same : goal.returns-then-not-is_same
returns-then-not-is_same c = record {
  equal = λ base disk other_base other_disk s t. (
    λ e. cc (e),
    λ e. (let d = c.loop-d.d in
        let at : (l : List (Option systems.OpenFile)) → Option systems.OpenFile = λ l. slice_index_or l d None in
        sym c.if-not-is_same.true ∙ (c.is_same.ensures.equal base other_base s.clean t.clean (s.device d) (t.device d)).1
        (sym (shown_at c.args.self.now.devices d) ∙ ap at e ∙ shown_at c.args.other.now.devices d)),
  );
}

pub loop-d-preserved : goal.loop-d-preserved
loop-d-preserved c = λ base disk other_base other_disk s t.
    let d = c.loop-d.d in
    let six = s.six in let other_six = t.six in
    rw add-one (shown_more c.args.self.now.devices c.args.other.now.devices d (omega (arith, six)) (omega (arith, other_six))
    (c.loop-d.invariant base disk other_base other_disk s t)
    ((c.is_same.ensures.equal base other_base s.clean t.clean (s.device d) (t.device d)).0 c.if-not-is_same.false))

pub returns : goal.returns
returns c = record {
  equal = λ base disk other_base other_disk s t.
      let d = c.loop-d.d in
      let six = s.six in let other_six = t.six in
      let all : (xs : List (Option OpenFile)) → length xs ≡ 6 → take d (map shown xs) ≡ map shown xs = λ xs long. take_all d (map shown xs) (omega (arith, long, length-map xs shown)) in
      (λ _. sym (all c.args.self.now.devices six) ∙ c.loop-d.invariant base disk other_base other_disk s t ∙ all c.args.other.now.devices other_six, λ _. refl);
}
