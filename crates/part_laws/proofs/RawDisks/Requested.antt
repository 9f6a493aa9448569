-- The raw disk by itself after a request was made.
use Rattle.std.proofs.Common.{◌≡◌, ℕ, List, [], ◌∷◌, ◌++◌, length, Some, sym, ap, ◌∙◌, append_assoc}
use Rattle.std.specs.Prelude.{IsSome}
use Rattle.xinu_model.specs.RawDisk.Callers.{living, HaveCallers}
use Rattle.xinu_model.specs.RawDisk.Requests.{Request, RawDisk, requested, requesters}
use Rattle.xinu_model.specs.RawDisk.Sound.{IsRequest, IsSoundRawDisk}
use Rattle.table_laws.proofs.Lists.Orders.{all_append}

-- one more living caller
pub requesters_more : (l : List Request) (r : Request) (p : ℕ) → r.caller ≡ Some p → requesters (l ++ r ∷ []) ≡ requesters l ++ p ∷ []
requesters_more [] r p e = ap (λ o. living o ++ []) e
requesters_more (a ∷ l) r p e =
    ap (λ k. living a.caller ++ k) (requesters_more l r p e) ∙ sym (append_assoc (living a.caller) (requesters l) (p ∷ []))

-- which is no caller that isn't there
callers_more : (l : List Request) (r : Request) → IsSome r.caller → HaveCallers (λ (x : Request). x.caller) l
    → HaveCallers (λ (x : Request). x.caller) (l ++ r ∷ [])
callers_more [] r some h = tt
callers_more (a ∷ l) r some h = all_append (λ (b : Request). IsSome b.caller) l (r ∷ []) h (some, tt)

pub sound_requested : (r : Request) (d : RawDisk) → IsSome r.caller → IsRequest (length d.blocks) r → IsSoundRawDisk d
    → IsSoundRawDisk (requested r d)
sound_requested r d some is k = record {
  blocks = k.blocks;
  requests = all_append (IsRequest (length d.blocks)) d.requests (r ∷ []) k.requests (is, tt);
  callers = callers_more d.requests r some k.callers;
}
