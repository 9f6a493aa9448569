-- Requests for blocks that there are, with bytes in RAM, stay so.
use Rattle.std.proofs.Common.{◌≡◌, ℕ, ◌<◌, ◌≤◌, true, false, if◌then◌else◌, List, [], ◌∷◌, ◌++◌, length, map, drop, refl, ap, sym, subst, ◌∙◌, arith}
use Rattle.std.proofs.lemmas.Bool.Decides.{nat_tests}
use Rattle.std.proofs.lemmas.List.{append-nil, drop_all, map-append}
use Rattle.std.specs.Prelude.{not, nat_lt}
use Rattle.disk_driver.specs.Served.{AreWithin, IsWithin, kept_after, request_of}
use Rattle.disk_driver.specs.declared.requests.Request as code
use Rattle.table_laws.proofs.Lists.Orders.{all_append, all_filter}
use Rattle.xinu_model.specs.Memory.{in_ram}
use Rattle.xinu_model.specs.RawDisk.Callers.{is_caller, given_up}
use Rattle.xinu_model.specs.RawDisk.Requests.{Request, orphaned_request}

-- with one more
pub within_pushed : (blocks : ℕ) (old new : List code.Request) (r : code.Request) → new ≡ old ++ r ∷ [] → AreWithin blocks (map request_of old) →
    nat_lt r.block blocks ≡ true → in_ram r.at 512 ≡ true → AreWithin blocks (map request_of new)
within_pushed blocks old new r e w h range =
    let below : r.block < blocks = grind (arith, nat_tests) in
    let P : List Request → Type 0 = AreWithin blocks in
    subst P (sym (ap (map request_of) e ∙ map-append request_of old (r ∷ [])))
    (all_append (IsWithin blocks) (map request_of old) (request_of r ∷ []) w (record { block = below; range = range }, tt))

-- after a death
pub within_given_up : (p blocks : ℕ) (requests : List Request) → AreWithin blocks requests →
    AreWithin blocks (given_up (λ (r : Request). r.caller) orphaned_request p requests)
within_given_up p blocks [] w = tt
within_given_up p blocks (r ∷ rest) w = (
  elim (is_caller p r.caller) as (λ b. IsWithin blocks (if b then orphaned_request r else r)) [
    | true ↦ record { block = w.0.block; range = w.0.range }
    | false ↦ w.0
  ],
  all_filter (IsWithin blocks) (λ (x : Request). not (is_caller p x.caller)) rest w.1,
)

-- once none is left to be looked at, what was kept stays
kept_all : (p : ℕ) (kept : List Request) → kept_after p kept [] ≡ kept
kept_all p [] = refl
kept_all p (k ∷ kept) = append-nil (k ∷ kept)

-- so what was kept once all were looked at
pub within_kept : (p blocks i : ℕ) (all seen kept : List code.Request) → seen ≡ all → length seen ≤ i →
    kept_after p (map request_of kept) (map request_of (drop i seen)) ≡ given_up (λ (r : Request). r.caller) orphaned_request p (map request_of seen) →
    AreWithin blocks (map request_of all) → AreWithin blocks (map request_of kept)
within_kept p blocks i all seen kept same end left w =
    let P : List Request → Type 0 = AreWithin blocks in
    let none : map request_of (drop i seen) ≡ [] = ap (map request_of) (drop_all i seen end) in
    let e : map request_of kept ≡ given_up (λ (r : Request). r.caller) orphaned_request p (map request_of all)
    = sym (kept_all p (map request_of kept)) ∙ ap (kept_after p (map request_of kept)) (sym none) ∙ left
    ∙ ap (λ rs. given_up (λ (r : Request). r.caller) orphaned_request p (map request_of rs)) same in
    subst P (sym e) (within_given_up p blocks (map request_of all) w)
