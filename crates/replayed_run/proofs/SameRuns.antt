-- A run that stays the same run.
use Rattle.std.proofs.Common.{◌≡◌, ◌∙◌, ◌&&◌, Bool, true, Result, Ok, Err, ℕ, List, length, take, refl, sym, ap}
use Rattle.std.proofs.Math.Seq.{take-length}
use Rattle.std.specs.Prelude.{IfOk, is_ok}
use Rattle.replayed_run.specs.Replayed.{HasInputs, IsSameRun, Replayed}
use Rattle.replayed_run.specs.Told.{Grows}
use Rattle.replayed_run.proofs.Told.{grows-further, take-less}

-- nothing has happened
pub still : (r : Replayed) → IsSameRun r r
still r = record {
  inputs = record { same_disks = refl; same_files = refl; same_events = refl };
  grows = record { same = take-length r.told };
  known = λ k. k;
}

-- it went on, and what is known grew
pub same-grown : (r s : Replayed) → HasInputs r.disks r.files r.events s → Grows r.told s.told → (r.known ≡ true → s.known ≡ true) → IsSameRun r s
same-grown r s inputs grows known = record { inputs = inputs; grows = grows; known = known }

-- the same if what its event printed was kept
pub same-told : {E : Type 0} (told : Result (List ℕ) E) (r s : Replayed) → HasInputs r.disks r.files r.events s → Grows r.told s.told
    → s.known ≡ (r.known && is_ok told) → IfOk told (λ p. IsSameRun r s)
same-told (Err fault) r s inputs grows known = tt
same-told (Ok p) r s inputs grows known = same-grown r s inputs grows (λ was. known ∙ ap (λ (b : Bool). b && true) was)

-- what is known grows, and then once more
grows-again : (a b c : List (List ℕ)) → Grows a b → Grows b c → Grows a c
grows-again a b c one two = record {
  same =
      sym (take-less (length a) (length b) c (grows-further a b one))
      ∙ ap (take (length a)) two.same
      ∙ one.same;
}

-- the same run, and then the same run once more
pub again : (a b c : Replayed) → IsSameRun a b → IsSameRun b c → IsSameRun a c
again a b c one two = record {
  inputs = record {
    same_disks = two.inputs.same_disks ∙ one.inputs.same_disks;
    same_files = two.inputs.same_files ∙ one.inputs.same_files;
    same_events = two.inputs.same_events ∙ one.inputs.same_events;
  };
  grows = grows-again a.told b.told c.told one.grows two.grows;
  known = λ k. two.known (one.known k);
}
