-- Requests are served once each, in their order.
use Rattle.std.proofs.Common.{◌≡◌, Bool, true, false, List, [], ◌∷◌, ◌++◌, Some, None, refl, sym, ap, ◌∙◌, append_assoc, append-nil}
use Rattle.xinu_model.specs.RawDisk.Histories.{DiskStep, Requests, Completes, after_step, after_steps, made_in, served_in, served_first, requests_of}
use Rattle.xinu_model.specs.RawDisk.Completions.{Served, transferred, served, first_served, after_completion}
use Rattle.xinu_model.specs.RawDisk.Requests.{Request, RawDisk, requested}

-- a request that is served leaves the others
pub others_stay : (good : Bool) (r : Request) (d : RawDisk)
    → ((served good r d).request ≡ r) × ((served good r d).disk.requests ≡ d.requests)
others_stay false r d = (refl, refl)
others_stay true r d = by_kind r.written
  where
    by_kind : (o : _) → ((transferred o r d).request ≡ r) × ((transferred o r d).disk.requests ≡ d.requests)
    by_kind None = (refl, refl)
    by_kind (Some bytes) = (refl, refl)

-- what a completion served first, and then all else, is what waited first
with_first : (good : Bool) (l : List Request) (d : RawDisk) (all : List Served) (rest made : List Request)
    → d.requests ≡ l
    → requests_of all ++ rest ≡ (after_completion (first_served good l d) d).requests ++ made
    → requests_of (served_first (first_served good l d) all) ++ rest ≡ l ++ made
with_first good [] d all rest made e go = go ∙ ap (λ l. l ++ made) e
with_first good (r ∷ l) d all rest made e go =
    let s = others_stay good r (record d { requests = l }) in
    ap (λ x. x ∷ (requests_of all ++ rest)) s.0 ∙ ap (λ k. r ∷ k) (go ∙ ap (λ k. k ++ made) s.1)

pub in_order : (steps : List DiskStep) (d : RawDisk)
    → requests_of (served_in steps d) ++ (after_steps steps d).requests ≡ d.requests ++ made_in steps
in_order [] d = sym (append-nil d.requests)
in_order (Requests r ∷ steps) d = in_order steps (requested r d) ∙ append_assoc d.requests (r ∷ []) (made_in steps)
in_order (Completes good ∷ steps) d =
    with_first good d.requests d (served_in steps (after_step (Completes good) d)) (after_steps (Completes good ∷ steps) d).requests
    (made_in steps) refl
    (in_order steps (after_step (Completes good) d))
