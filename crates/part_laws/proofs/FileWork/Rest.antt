-- What isn't busy is at rest.
use Rattle.std.proofs.Common.{◌≡◌, ℕ, true, false, not, List, [], ◌∷◌, Option, Some, None, is_some, refl, ap}
use Rattle.std.specs.List.{list_any}
use Rattle.std.proofs.lemmas.Bool.{or_parts, and_from}
use Rattle.xinu_model.specs.Files.Rest.{names_file, is_at_rest, are_calls, is_busy}
use Rattle.xinu_model.specs.Files.Systems.{OpenFile, has_open, is_open}
use Rattle.xinu_model.specs.Files.Work.{FileRequest, FileWork}

nothing_open : (name : List ℕ) (devices : List (Option OpenFile)) → list_any (λ (x : Option OpenFile). is_some x) devices ≡ false
    → list_any (has_open name) devices ≡ false
nothing_open name [] e = refl
nothing_open name (None ∷ devices) e = nothing_open name devices e
nothing_open name (Some f ∷ devices) e = cc

no_names : (name : List ℕ) (calls : List FileRequest) → are_calls calls ≡ false
    → list_any (λ (a : FileRequest). names_file name a.call) calls ≡ false
no_names name [] e = refl
no_names name (a ∷ calls) e = cc

pub idle_rests : (name : List ℕ) (w : FileWork) → is_busy w ≡ false → is_at_rest name w ≡ true
idle_rests name w e =
    let parts = or_parts (list_any (λ (x : Option OpenFile). is_some x) w.system.devices) (are_calls w.calls) e in
    and_from (not (is_open name w.system)) (not (list_any (λ (a : FileRequest). names_file name a.call) w.calls))
    (ap not (nothing_open name w.system.devices parts.0)) (ap not (no_names name w.calls parts.1))
