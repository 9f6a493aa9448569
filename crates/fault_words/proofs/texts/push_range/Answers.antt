-- One number after the other.
use Rattle.std.proofs.Common.{rules, ℕ, ◌≡◌, ◌∙◌, List, ◌++◌, append_assoc, ap, refl, sym, ℤ, w64, SFits}
use Rattle.std.specs.Prelude.{Result, Ok, Err, OnOk, codes}
use Rattle.std.proofs.lemmas.Int.{to_z-of_z}
use Rattle.fault_words.specs.Texts.{range_text, signed_after}
use Rattle.fault_words.proofs.texts.push_range.Goals as goal

-- two numbers after texts, one after the other
both_pushed : {T E : Type 0} (r : Result T E) (old mid new before between : List ℕ) (low low' high high' : ℤ) → low' ≡ low → high' ≡ high
    → mid ≡ old ++ signed_after before low' → OnOk r (new ≡ mid ++ signed_after between high')
    → OnOk r (new ≡ old ++ (signed_after before low ++ signed_after between high))
both_pushed (Ok x) old mid new before between low low' high high' l h first second =
    second
    ∙ ap (λ (m : List ℕ). m ++ signed_after between high') first
    ∙ append_assoc old (signed_after before low') (signed_after between high')
    ∙ ap (λ (k : ℤ). old ++ (signed_after before k ++ signed_after between high')) l
    ∙ ap (λ (k : ℤ). old ++ (signed_after before low ++ signed_after between k)) h
both_pushed (Err e) old mid new before between low low' high high' l h first second = second

range-is : (low high : ℤ) → signed_after (codes " doesn't fit: ") low ++ signed_after (codes " to ") high ≡ range_text low high
unfolding range_text
range-is low high = refl

pub returns : goal.returns
returns c =
    let low : SFits w64 c.args.low = search rules in
    let high : SFits w64 c.args.high = search rules in
    record {
      range =
          rw (sym (range-is c.args.low c.args.high))
          (both_pushed c.push_signed-2.result c.args.line.now.items c.push_signed.new.line.items c.push_signed-2.new.line.items
          (codes " doesn't fit: ") (codes " to ") c.args.low _ c.args.high _ (to_z-of_z w64 c.args.low low)
          (to_z-of_z w64 c.args.high high) c.in_ok-push_signed.ensures.number c.push_signed-2.ensures.number);
    }
