-- One output was sent after another.
use Rattle.std.proofs.Common.{◌≡◌, ◌∙◌, ◌≤◌, inl, inr, ℕ, ◌+◌, List, [], ◌++◌, length, min, take, Option, Some, None, refl, sym, ap, subst, arith}
use Rattle.std.proofs.Math.Seq.{take-append-add}
use Rattle.std.proofs.lemmas.List.{take-append-le, take_all, take_min}
use Rattle.host_port.specs.Outside.{Outside, HostCall, emptied_channel, grown}
use Rattle.host_port.proofs.Prints.{grown-grown, grown-nil}
use Rattle.xinu_commands.specs.Stages.{SendsOutput}
use Rattle.run_inputs.specs.Fetching.{IsDecided}
use Rattle.xinu_commands.specs.Theorem.{IsPart, IsWhole}
use Rattle.xinu_commands.specs.Work.{Output}
use Rattle.run_inputs.specs.declared.refusals.Refusal.{Refusal}
use Rattle.xinu_commands.proofs.Called.{keeps_both}
use Rattle.xinu_commands.proofs.Carried.{part_within, whole_within}
use Rattle.xinu_commands.proofs.Sent.{cause_within, outputs_called}

nothing_more : {T : Type 0} (n : ℕ) (o : Option (List T)) → grown o (take n []) ≡ o
nothing_more n o = ap (grown o) (take_all n [] (omega arith)) ∙ grown-nil o

-- what one of two outputs has for a channel
abbrev pub either_has : Option (List ℕ) → Option (List ℕ) → Option (List ℕ)
either_has None y = y
either_has (Some x) y = Some x

-- one of the two has nothing for it
abbrev pub HasOne : Option (List ℕ) → Option (List ℕ) → Type 0
HasOne None y = Unit {0}
HasOne (Some x) None = Unit {0}
HasOne (Some x) (Some y) = ⊥

-- two outputs without a file for the same channel, of which the second has no text and the first no disk with files
pub record AreApart (x y : Output) : Type 0 where
  pub no_text : y.out ≡ []
  pub no_disk : x.disk1 ≡ None
  pub disk0 : HasOne x.disk0 y.disk0
  pub disk1 : HasOne x.disk1 y.disk1
  pub image : HasOne x.image y.image

-- both together
abbrev pub joined : Output → Output → Output
joined x y = record {
  status = 0;
  out = x.out;
  disk0 = either_has x.disk0 y.disk0;
  disk1 = either_has x.disk1 y.disk1;
  image = either_has x.image y.image;
}

-- of two outputs one after the other a part of the second was sent, on a channel
part_after : (x y h i k : Option (List ℕ)) → HasOne x y → IsWhole x h i → IsPart y i k → IsPart (either_has x y) h k
part_after None y h i k one whole part = part_within y h i k k whole refl part
part_after (Some x) None h i k one whole part =
    inr (length x, part ∙ whole ∙ ap (grown (emptied_channel h)) (sym (take_all (length x) x (omega arith))))
part_after (Some x) (Some y) h i k one whole part = absurd one

-- all of both was
whole_after : (x y h i k : Option (List ℕ)) → HasOne x y → IsWhole x h i → IsWhole y i k → IsWhole (either_has x y) h k
whole_after None y h i k one first second = whole_within y h i k k first refl second
whole_after (Some x) None h i k one first second = second ∙ first
whole_after (Some x) (Some y) h i k one first second = absurd one

-- of the first alone a part was
part_before : (x y h i : Option (List ℕ)) → HasOne x y → IsPart x h i → IsPart (either_has x y) h i
part_before None None h i one part = part
part_before None (Some y) h i one part = inl part
part_before (Some x) y h i one part = part

-- a channel without a file stayed as it was
none_whole : (bytes h i : Option (List ℕ)) → bytes ≡ None → IsWhole bytes h i → i ≡ h
none_whole bytes h i none whole = (let P : Option (List ℕ) → Type 0 = λ b. IsWhole b h i in subst P none whole)

none_part : (bytes h i : Option (List ℕ)) → bytes ≡ None → IsPart bytes h i → i ≡ h
none_part bytes h i none part = (let P : Option (List ℕ) → Type 0 = λ b. IsPart b h i in subst P none part)

module _ (x y : Output) (first_calls second_calls : List HostCall) (apart : AreApart x y) where
  -- the first was sent, and then the second up to its end
  pub both_sent : (ended : Option Refusal) (h i k : Outside) → SendsOutput x first_calls None h i → SendsOutput y second_calls ended i k
      → SendsOutput (joined x y) (first_calls ++ second_calls) ended h k
  both_sent ended h i k first second =
      let before = first.whole refl in
      let made = first.calls.all tt in
      let cause = cause_within ended h i k first.keeps.later second.cause in
      let text : k.out ≡ grown h.out x.out =
      second.part.out.1 ∙ ap (λ t. grown i.out (take second.part.out.0 t)) apart.no_text ∙ nothing_more second.part.out.0 i.out ∙ before.out in record {
        part = record {
          out = (length x.out, text ∙ ap (grown h.out) (sym (take_all (length x.out) x.out (omega arith))));
          disk0 = part_after x.disk0 y.disk0 h.disk0 i.disk0 k.disk0 apart.disk0 before.disk0 second.part.disk0;
          disk1 = part_after x.disk1 y.disk1 h.disk1 i.disk1 k.disk1 apart.disk1 before.disk1 second.part.disk1;
          image = part_after x.image y.image h.image i.image k.image apart.image before.image second.part.image;
          text_first = inl text;
          raw_first = elim second.part.raw_first [
            | inl whole ↦ inl (whole_after x.disk0 y.disk0 h.disk0 i.disk0 k.disk0 apart.disk0 before.disk0 whole)
            | inr none ↦ inr (none ∙ none_whole x.disk1 h.disk1 i.disk1 apart.no_disk before.disk1)
          ];
        };
        whole = λ none. let after = second.whole none in record {
          out = after.out ∙ ap (grown i.out) apart.no_text ∙ grown-nil i.out ∙ before.out;
          disk0 = whole_after x.disk0 y.disk0 h.disk0 i.disk0 k.disk0 apart.disk0 before.disk0 after.disk0;
          disk1 = whole_after x.disk1 y.disk1 h.disk1 i.disk1 k.disk1 apart.disk1 before.disk1 after.disk1;
          image = whole_after x.image y.image h.image i.image k.image apart.image before.image after.image;
        };
        cause = cause;
        calls = outputs_called (length first_calls + second.calls.count) (first_calls ++ second_calls) ended h k cause
            (second.calls.first ∙ ap (λ (o : Option (List HostCall)). grown o (take second.calls.count second_calls)) made
            ∙ grown-grown h.calls first_calls (take second.calls.count second_calls)
            ∙ ap (grown h.calls) (sym (take-append-add first_calls second_calls second.calls.count)))
            (λ none. all_called none ∙ ap (λ (o : Option (List HostCall)). grown o second_calls) made ∙ grown-grown h.calls first_calls second_calls);
        keeps = keeps_both h i k first.keeps second.keeps;
      }
    where
      all_called : ended ≡ None → k.calls ≡ grown i.calls second_calls
      all_called none =
          let P : Option Refusal → Type 0 = λ x. IsDecided x in second.calls.all (subst P (sym none) tt)

  -- the first wasn't sent to its end
  pub first_sent : (r : Refusal) (h i : Outside) → SendsOutput x first_calls (Some r) h i → SendsOutput (joined x y) (first_calls ++ second_calls) (Some r) h i
  first_sent r h i first =
      let calls = out_part_calls first.calls.count first.calls.first in record {
        part = record {
          out = first.part.out;
          disk0 = part_before x.disk0 y.disk0 h.disk0 i.disk0 apart.disk0 first.part.disk0;
          disk1 = part_before x.disk1 y.disk1 h.disk1 i.disk1 apart.disk1 first.part.disk1;
          image = part_before x.image y.image h.image i.image apart.image first.part.image;
          text_first = first.part.text_first;
          raw_first = inr (none_part x.disk1 h.disk1 i.disk1 apart.no_disk first.part.disk1);
        };
        whole = λ none. absurd (cc);
        cause = first.cause;
        calls = outputs_called calls.0 (first_calls ++ second_calls) (Some r) h i first.cause calls.1 (λ none. absurd (cc));
        keeps = first.keeps;
      }
    where
      out_part_calls : (n : ℕ) → i.calls ≡ grown h.calls (take n first_calls) → (m : ℕ) × (i.calls ≡ grown h.calls (take m (first_calls ++ second_calls)))
      out_part_calls n is =
          let m = min n (length first_calls) in
          let few : m ≤ length first_calls = omega arith in
          (m, is ∙ ap (grown h.calls) (sym (take_min n first_calls) ∙ sym (take-append-le m first_calls second_calls few)))
