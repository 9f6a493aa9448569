-- The raw disk after a process was killed.
use Rattle.std.proofs.Common.{◌≡◌, ℕ, not, ◌==◌, List, [], ◌∷◌, length, filter, refl}
use Rattle.std.specs.List.{AllByRecursion}
use Rattle.std.proofs.lemmas.Bool.{cond_both}
use Rattle.table_laws.proofs.Lists.Orders.{all_filter}
use Rattle.part_laws.proofs.RawDisks.Callers.{callers_given_up, have_callers_given_up}
use Rattle.xinu_model.specs.RawDisk.Callers.{is_caller}
use Rattle.xinu_model.specs.RawDisk.Callers as callers
use Rattle.xinu_model.specs.RawDisk.Requests.{Request, RawDisk, orphaned_request, requesters, requests_given_up}
use Rattle.xinu_model.specs.RawDisk.Sound.{IsRequest, IsSoundRawDisk}

pub callers_left : (p : ℕ) (d : RawDisk) → requesters (requests_given_up p d).requests ≡ filter (λ q. not (q == p)) (requesters d.requests)
callers_left p d = callers_given_up (λ (r : Request). r.caller) orphaned_request (λ r. refl) p d.requests

requests_left : (n p : ℕ) (l : List Request) → AllByRecursion (IsRequest n) l
    → AllByRecursion (IsRequest n) (callers.given_up (λ (r : Request). r.caller) orphaned_request p l)
requests_left n p [] h = tt
requests_left n p (r ∷ rest) h = (
  cond_both (is_caller p r.caller) (orphaned_request r) r (IsRequest n) (λ _. record { block = h.0.block; range = h.0.range; written = h.0.written }) (λ _. h.0),
  all_filter (IsRequest n) (λ (b : Request). not (is_caller p b.caller)) rest h.1,
)

pub sound_left : (p : ℕ) (d : RawDisk) → IsSoundRawDisk d → IsSoundRawDisk (requests_given_up p d)
sound_left p d s = record {
  blocks = s.blocks;
  requests = requests_left (length d.blocks) p d.requests s.requests;
  callers = have_callers_given_up (λ (r : Request). r.caller) orphaned_request p d.requests s.callers;
}
