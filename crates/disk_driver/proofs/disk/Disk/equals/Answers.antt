use Rattle.std.proofs.Common.{◌≡◌, List, map, ap, sym, ◌∙◌, rules}
use Rattle.std.proofs.lemmas.List.{map-id}
use Rattle.std.proofs.lemmas.Simd.{map-map}
use Rattle.std.proofs.lemmas.Slice.Eq.{slice_eq-Decides}
use Rattle.disk_driver.specs.Served.{request_of}
use Rattle.disk_driver.specs.declared.requests.Request.{Request}
use Rattle.xinu_model.specs.RawDisk.Requests as model
use Rattle.xinu_model.specs.RawDisk.Requests.{RawDisk}
use Rattle.disk_driver.proofs.disk.Disk.equals.Goals as goal

-- the code's request that stands for a request
request_from : model.Request → Request
request_from r = record { caller = r.caller; at = r.at; block = r.block; written = r.written }

-- requests are equal if they stand for equal requests
same_requests : (requests others : List Request) → map request_of requests ≡ map request_of others → requests ≡ others
unfolding request_from
same_requests requests others e =
    sym (map-map request_from request_of requests ∙ map-id requests) ∙ ap (map request_from) e ∙ map-map request_from request_of others ∙ map-id others

pub returns-then-eq : goal.returns-then-eq
returns-then-eq c = record {
  equal = (
    (λ t.
        let requests : c.as_slice.result.now ≡ c.as_slice-2.result.now = (slice_eq-Decides (λ a b. search rules) _ _ _ c.eq.ensures).0 c.if-eq.true in
        let blocks = c.equals.ensures.equal.0 t in
        cc),
    (λ e. c.equals.ensures.equal.1 (ap (λ (d : RawDisk). d.blocks) (c.self.view_is ∙ e ∙ sym c.other.view_is))),
  );
}

pub returns-else-eq : goal.returns-else-eq
returns-else-eq c = record {
  equal = (
    (λ t. cc),
    (λ e.
        let requests = ap (λ (d : RawDisk). d.requests) (c.self.view_is ∙ e ∙ sym c.other.view_is) in
        (slice_eq-Decides (λ a b. search rules) _ _ _ c.eq.ensures).1 (c.as_slice.ensures.value ∙ same_requests _ _ requests ∙ sym c.as_slice-2.ensures.value)),
  );
}
