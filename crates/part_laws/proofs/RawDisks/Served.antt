-- The raw disk by itself after its first request was served.
use Rattle.std.proofs.Common.{◌≡◌, ℕ, zero, suc, ◌+◌, ◌≤◌, Bool, true, false, List, [], ◌∷◌, length, set, Option, Some, None, refl, sym, ap, subst, slice_index_or, arith}
use Rattle.std.proofs.Math.ListN.{length-set}
use Rattle.std.specs.Prelude.{IsSome}
use Rattle.std.specs.List.{AllByRecursion}
use Rattle.xinu_model.specs.Memory.{ram_size}
use Rattle.xinu_model.specs.RawDisk.Callers.{HaveCallers}
use Rattle.xinu_model.specs.RawDisk.Completions.{Served, transferred, served, first_served, raw_completed}
use Rattle.xinu_model.specs.RawDisk.Constants.{RD_BLKSIZ}
use Rattle.xinu_model.specs.RawDisk.Requests.{Request, RawDisk}
use Rattle.xinu_model.specs.RawDisk.Sound.{IsWritten, IsRequest, IsSoundRawDisk}
use Rattle.part_laws.proofs.RawDisks.Histories.{others_stay}

-- what holds of all elements and of another one holds if that is written
all_set : {A : Type 0} (P : A → Type 0) (l : List A) (i : ℕ) (y : A) → P y → AllByRecursion P l → AllByRecursion P (set l i y)
all_set P [] i y p h = tt
all_set P (x ∷ l) zero y p h = (p, h.1)
all_set P (x ∷ l) (suc i) y p h = (h.0, all_set P l i y p h.1)

-- all but the first have callers, so the others do
callers_left : (l : List Request) → AllByRecursion (λ (b : Request). IsSome b.caller) l → HaveCallers (λ (b : Request). b.caller) l
callers_left [] h = tt
callers_left (a ∷ l) h = h.1

-- what is left of a sound disk, whose first request is served
left_sound : (r : Request) (l : List Request) (d : RawDisk) → d.requests ≡ r ∷ l → IsSoundRawDisk d
    → IsSoundRawDisk (record d { requests = l })
left_sound r l d e k = record {
  blocks = k.blocks;
  requests = (subst (AllByRecursion (IsRequest (length d.blocks))) e k.requests).1;
  callers = callers_left l (subst (HaveCallers (λ (b : Request). b.caller)) e k.callers);
}

transferred_sound : (written : Option (List ℕ)) (r : Request) (d : RawDisk) → IsWritten written → IsSoundRawDisk d
    → IsSoundRawDisk (transferred written r d).disk
transferred_sound None r d w k = k
transferred_sound (Some bytes) r d w k = record {
  blocks = all_set (λ (b : List ℕ). length b ≡ RD_BLKSIZ) d.blocks r.block bytes w k.blocks;
  requests = subst (λ n. AllByRecursion (IsRequest n) d.requests) (sym (length-set d.blocks r.block bytes)) k.requests;
  callers = k.callers;
}

served_sound : (good : Bool) (r : Request) (d : RawDisk) → IsWritten r.written → IsSoundRawDisk d → IsSoundRawDisk (served good r d).disk
served_sound true r d w k = transferred_sound r.written r d w k
served_sound false r d w k = k

-- no block that is read has more bytes than a block
block_few : (blocks : List (List ℕ)) (n : ℕ) → AllByRecursion (λ (b : List ℕ). length b ≡ RD_BLKSIZ) blocks
    → length (slice_index_or blocks n []) ≤ RD_BLKSIZ
block_few [] n h = omega arith
block_few (b ∷ blocks) zero h = omega (arith, h.0)
block_few (b ∷ blocks) (suc n) h = block_few blocks n h.1

-- a completion brings no more bytes than a block has
brings_few : (good : Bool) (r : Request) (d : RawDisk) → IsSoundRawDisk d → length (served good r d).bytes ≤ RD_BLKSIZ
brings_few false r d k = omega arith
brings_few true r d k = by_kind r.written
  where
    by_kind : (written : Option (List ℕ)) → length (transferred written r d).bytes ≤ RD_BLKSIZ
    by_kind None = block_few d.blocks r.block k.blocks
    by_kind (Some bytes) = omega arith

-- What a completion serves: the first request, and the others are left on a sound disk. The bytes that it brings are no more than a block, and
-- their place is in RAM.
pub record ServesFirst (d : RawDisk) (x : Served) : Type 0 where
  pub first : d.requests ≡ x.request ∷ x.disk.requests
  pub sound : IsSoundRawDisk d → IsSoundRawDisk x.disk
  pub few : IsSoundRawDisk d → length x.bytes ≤ RD_BLKSIZ
  pub range : IsSoundRawDisk d → x.request.at + RD_BLKSIZ ≤ ram_size

pub serves_first : (good : Bool) (d : RawDisk) (x : Served) → raw_completed good d ≡ Some x → ServesFirst d x
serves_first good d x e = by_requests d.requests refl e
  where
    by_requests : (l : List Request) → d.requests ≡ l → first_served good l d ≡ Some x → ServesFirst d x
    by_requests [] same f = absurd (cc)
    by_requests (r ∷ l) same f =
        let y = served good r (record d { requests = l }) in
        let is : y ≡ x = cc in
        let stay = others_stay good r (record d { requests = l }) in
        subst (ServesFirst d) is (record {
          first = (let a = stay.0 in let b = stay.1 in cc);
          sound = λ k. served_sound good r (record d { requests = l }) (subst (AllByRecursion (IsRequest (length d.blocks))) same k.requests).0.written (left_sound r l d same k);
          few = λ k. brings_few good r (record d { requests = l }) (left_sound r l d same k);
          range = λ k. (let at : y.request.at ≡ r.at = ap (λ (q : Request). q.at) stay.0 in
              let range = (subst (AllByRecursion (IsRequest (length d.blocks))) same k.requests).0.range in
              omega (arith, at, range));
        })
