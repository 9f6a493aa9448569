-- What an event printed is kept, and so it is known.
use Rattle.std.proofs.Common.{◌≡◌, ◌∙◌, ◌+◌, ◌≤◌, ◌<◌, ◌&&◌, ℕ, Bool, true, false, List, [], Option, Some, None, Result, Ok, Err, refl, arith}
use Rattle.std.specs.Prelude.{IfOk, IfSome, is_ok}
use Rattle.replayed_run.proofs.Continued.{AreSilent, IsTold}
use Rattle.replayed_run.proofs.Kept.{kept-grows, kept-is, kept-length}
use Rattle.replayed_run.specs.Texts.{Keeps, kept, kept_at}
use Rattle.replayed_run.specs.declared.texts.Texts.{Texts}
use Rattle.xinu_base.specs.declared.lines.TranscriptLine.{TranscriptLine}
use Rattle.xinu_model.specs.Text.{text}

-- bytes that were printed are the text of the lines
printed-text : (printed : Option (List ℕ)) (p : List ℕ) (lines : List TranscriptLine) → IfSome printed (λ b. b ≡ text lines) → printed ≡ Some p → p ≡ text lines
printed-text None p lines is same = absurd (cc)
printed-text (Some b) p lines is same = (let e : p ≡ b = cc in e ∙ is)

-- one event more
pub told-kept : {E : Type 0} (old new : Texts) (n : ℕ) (was known : Bool) (lines : List TranscriptLine) (printed : Option (List ℕ)) (told : Result (List ℕ) E)
    → known ≡ (was && is_ok told) → Keeps old new → IfSome printed (λ b. b ≡ text lines) → IfOk told (λ p. printed ≡ Some p)
    → IfOk told (λ p. was ≡ true → kept_at new n ≡ p) → IfOk told (λ p. was ≡ true → n < new.far)
    → IsTold (kept old old.far) (kept new new.far) n was known lines
told-kept old new n false known lines printed told is keeps bytes one two three = record {
  grows = kept-grows old new keeps;
  before = λ k. absurd (cc);
  told = λ k. absurd (cc);
  far = λ k. absurd (cc);
}
told-kept old new n true known lines printed (Err f) is keeps bytes one two three = record {
  grows = kept-grows old new keeps;
  before = λ k. absurd (cc);
  told = λ k. absurd (cc);
  far = λ k. absurd (cc);
}
told-kept old new n true known lines printed (Ok p) is keeps bytes one two three = record {
  grows = kept-grows old new keeps;
  before = λ k. refl;
  told = λ k. kept-is new n new.far (three refl) ∙ two refl ∙ printed-text printed p lines bytes one;
  far = λ k. (let far = three refl in let many = kept-length new new.far in omega (arith, far, many));
}

-- steps that print nothing
pub silent-kept : (old new : Texts) (n k : ℕ) (was : Bool) → Keeps old new → ((m : ℕ) → n ≤ m → m < n + k → kept_at old m ≡ [])
    → ((m : ℕ) → kept_at new m ≡ kept_at old m) → (was ≡ true → n + k ≤ new.far) → AreSilent (kept old old.far) (kept new new.far) n k was
silent-kept old new n k was keeps silent same far = record {
  grows = λ known. kept-grows old new keeps;
  silent = λ known m low high. (let enough = far known in kept-is new m new.far (omega (arith, high, enough)) ∙ same m ∙ silent m low high);
  far = λ known. (let enough = far known in let many = kept-length new new.far in omega (arith, enough, many));
}
