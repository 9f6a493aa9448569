use Rattle.std.proofs.Common.{rules, ◌≡◌, ◌∙◌, ◌↔◌, IsTrue, ap, sym}
use Rattle.std.proofs.lemmas.Slice.Eq.{slice_eq-Decides}
use Rattle.kernel_state.proofs.EqualParts.{HaveEqualParts, equal_from, parts_of}
use Rattle.kernel_state.specs.Values.{KernelValue}
use Rattle.xinu_model.specs.Files.Rest.{are_calls}
use Rattle.xinu_model.specs.Files.Syscalls.{files_of}
use Rattle.kernel_state.specs.declared.state.KernelState.TheInside.{Inside}
use Rattle.kernel_state.proofs.state.KernelState.equals.Goals as goal

pub returns-then-not-harts : goal.returns-then-not-harts
returns-then-not-harts c =
    let decides : IsTrue c.eq-harts.result ↔ (c.self.inside.harts ≡ c.other.inside.harts) = slice_eq-Decides (λ x y. search rules) _ _ _ c.eq-harts.ensures in
    record {
      equal = (
        λ no. absurd (search rules),
        λ e.
            let yes = decides.1 (parts_of c.self.inside c.other.inside (c.self.view_is ∙ e.1 ∙ sym c.other.view_is)).harts in
            absurd (search rules),
      );
    }

pub returns-then-not-replies : goal.returns-then-not-replies
returns-then-not-replies c =
    let decides : IsTrue c.eq-replies.result ↔ (c.as_slice.result.now ≡ c.as_slice-2.result.now) = slice_eq-Decides (λ x y. search rules) _ _ _ c.eq-replies.ensures in
    record {
      equal = (
        λ no. absurd (search rules),
        λ e.
            let replies = (parts_of c.self.inside c.other.inside (c.self.view_is ∙ e.1 ∙ sym c.other.view_is)).replies in
            let yes = decides.1 (c.as_slice.ensures.value ∙ replies ∙ sym c.as_slice-2.ensures.value) in
            absurd (search rules),
      );
    }

pub returns : goal.returns
returns c =
    let a : Inside = c.self.inside in
    let b : Inside = c.other.inside in
    let harts : IsTrue c.eq-harts.result ↔ (a.harts ≡ b.harts) = slice_eq-Decides (λ x y. search rules) _ _ _ c.eq-harts.ensures in
    let replies : IsTrue c.eq-replies.result ↔ (c.as_slice.result.now ≡ c.as_slice-2.result.now) = slice_eq-Decides (λ x y. search rules) _ _ _ c.eq-replies.ensures in
    let ram : IsTrue c.eq.result ↔ (c.bytes_from.result.now ≡ c.bytes_from-2.result.now) = slice_eq-Decides (λ x y. search rules) _ _ _ c.eq.ensures in
    record {
      equal = (
        λ yes.
            let quiet = c.equals-8.ensures.equal.0 (search rules) in
            let parts : HaveEqualParts a b = record {
              tables = c.equals.ensures.equal.0 (search rules);
              harts = harts.0 (search rules);
              ram = sym c.bytes_from.ensures.bytes ∙ ram.0 yes ∙ c.bytes_from-2.ensures.bytes;
              heap = c.equals-3.ensures.equal.0 (search rules);
              pools = c.equals-4.ensures.equal.0 (search rules);
              ports = c.equals-5.ensures.equal.0 (search rules);
              tty = c.equals-2.ensures.equal.0 (search rules);
              disk = c.equals-7.ensures.equal.0 (search rules);
              names = c.equals-6.ensures.equal.0 (search rules);
              files = quiet.1;
              replies = sym c.as_slice.ensures.value ∙ replies.0 (search rules) ∙ c.as_slice-2.ensures.value;
              owes = search rules;
            } in (
              sym (ap (λ (v : KernelValue). are_calls (files_of v.call.state).calls) c.self.view_is) ∙ quiet.0,
              sym c.self.view_is ∙ equal_from a b parts ∙ c.other.view_is,
            ),
        λ e. ram.1 (c.bytes_from.ensures.bytes ∙ (parts_of a b (c.self.view_is ∙ e.1 ∙ sym c.other.view_is)).ram ∙ sym c.bytes_from-2.ensures.bytes),
      );
    }
