-- Steps that print nothing continue a run that is under way.
use Rattle.std.proofs.Common.{◌≡◌, ℕ, ◌+◌, ◌-◌, ◌≤◌, List, ◌++◌, drop, replicate, sym, ap, subst, ◌∙◌, arith, append_assoc}
use Rattle.std.proofs.lemmas.List.{replicate-append-replicate}
use Rattle.host_port.specs.Outside.{Outside}
use Rattle.host_port.specs.Printing.{Printing}
use Rattle.schedule_file.proofs.Skipped.{drop_copies}
use Rattle.xinu_base.specs.declared.events.Event.{Event}
use Rattle.xinu_laws.proofs.PlainSteps.{run_after}
use Rattle.xinu_model.specs.Machine.{Xinu}
use Rattle.xinu_model.specs.Runs.{RunsTo}
use Rattle.machine.proofs.SoFar.{SoFar}
use Rattle.xinu_commands.specs.PlainSteps.{ArePlainSteps}

-- fewer copies come first too
pub fewer_copies : {X : Type 0} (k n : ℕ) (x : X) (xs ys : List X) → k ≤ n → xs ≡ replicate n x ++ ys → xs ≡ replicate k x ++ drop k xs
fewer_copies {X} k n x xs ys few is =
    let all : k + (n - k) ≡ n = omega arith in
    let both : replicate k x ++ replicate (n - k) x ≡ replicate n x =
    replicate-append-replicate k (n - k) x ∙ ap (λ (m : ℕ). replicate m x) all in
    is ∙ ap (λ (zs : List X). zs ++ ys) (sym both) ∙ append_assoc (replicate k x) (replicate (n - k) x) ys
    ∙ ap (λ (zs : List X). replicate k x ++ zs) (drop_copies k n x ys few ∙ sym (ap (drop k) is))

-- what continues the run after them continues it before them
pub so_far_steps : (start : Xinu) (all : List Event) (here : Xinu) (events : List Event) (next : Xinu) (left : List Event)
    (a b : Printing) (h i : Outside)
    → SoFar start all here events a b h i → ArePlainSteps here events next left → SoFar start all next left a b h i
so_far_steps start all here events next left a b h i so_far steps = record {
  lines = so_far.lines;
  goes_on = λ more new end run.
      let P : Xinu → Type 0 = λ s. RunsTo s left more new end in
      let Q : List Event → Type 0 = λ es. RunsTo here es more new end in
      so_far.goes_on more new end (subst Q (sym steps.taken) (run_after steps.count here left more new end steps.plain (subst P steps.state run)));
  prints = so_far.prints;
}
