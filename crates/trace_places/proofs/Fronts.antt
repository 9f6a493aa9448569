-- Lists of lines that begin alike, and what their texts begin with.
use Rattle.std.proofs.Common.{◌≡◌, ◌⊎◌, ℕ, false, List, [], ◌∷◌, ◌++◌, drop, refl, sym, ap, ◌∙◌, inl, inr, ⊎_elim, append_assoc}
use Rattle.std.specs.Prelude.{◌&&◌, codes}
use Rattle.std.specs.Fmt.{decimal}
use Rattle.xinu_base.specs.Names.{moment_name}
use Rattle.xinu_base.specs.declared.lines.FileMoment.{FileMoment}
use Rattle.xinu_base.specs.declared.lines.FileMoment.TheVariants.{Turn, Finished, Next}
use Rattle.xinu_base.specs.declared.lines.TranscriptLine.{TranscriptLine}
use Rattle.xinu_base.specs.declared.lines.TranscriptLine.TheVariants as line
use Rattle.xinu_base.specs.declared.syscalls.Call.{Call}
use Rattle.xinu_model.specs.Agree.{begins_next}
use Rattle.xinu_model.specs.Text.{call_fields, line_text, text}
use Rattle.transcript_laws.specs.Choices.{after_blank, begins_done, says_done}
use Rattle.transcript_laws.specs.Reading.{starts_with}
use Rattle.transcript_laws.proofs.LineStarts.{done_begins, file_text, said_after, decimals, blank_ends, moments_apart, fields_begin}

-- One of two fronts of a list is a front of the other.
abbrev pub IsFront : List TranscriptLine → List TranscriptLine → Type 0
IsFront f xs = (z : List TranscriptLine) × (xs ≡ f ++ z)

abbrev pub GoesPast : List TranscriptLine → List TranscriptLine → List TranscriptLine → List TranscriptLine → Type 0
GoesPast f m xs ys = (g : List TranscriptLine) × ((f ≡ xs ++ g) × (g ++ m ≡ ys))

pub fronts : (f m xs ys : List TranscriptLine) → f ++ m ≡ xs ++ ys → (IsFront f xs) ⊎ (GoesPast f m xs ys)
fronts [] m xs ys e = inl (xs, refl)
fronts (a ∷ f) m [] ys e = inr (a ∷ f, (refl, e))
fronts (a ∷ f) m (b ∷ xs) ys e =
    let head : b ≡ a = cc in
    let tail : f ++ m ≡ xs ++ ys = cc in
    ⊎_elim (λ i. inl (i.0, ap (λ h. h ∷ xs) head ∙ ap (λ l. a ∷ l) i.1))
    (λ j. inr (j.0, (ap (λ h. h ∷ f) (sym head) ∙ ap (λ l. b ∷ l) j.1.0, j.1.1)))
    (fronts f m xs ys tail)

-- what the line of a call on files is read as
moment_read : (q : ℕ) (m : FileMoment) (rest : List ℕ)
    → begins_done (line_text (line.File q m) ++ rest) ≡ starts_with (codes "done" ++ 10 ∷ []) (moment_name m ++ 10 ∷ rest)
moment_read q m rest =
    ap begins_done (file_text q m rest)
    ∙ ap (λ r. starts_with (codes "done" ++ 10 ∷ []) r) (blank_ends (decimal q) (moment_name m ++ 10 ∷ rest) (decimals q))

-- Whether a text begins with the line of a call on files that took effect is seen of its first line.
pub done_same : (l : TranscriptLine) (x y : List ℕ) → begins_done (line_text l ++ x) ≡ begins_done (line_text l ++ y)
done_same (line.File q Finished) x y = done_begins q x ∙ sym (done_begins q y)
done_same (line.File q Turn) x y = moment_read q Turn x ∙ sym (moment_read q Turn y)
done_same (line.File q Next) x y = moment_read q Next x ∙ sym (moment_read q Next y)
done_same (line.Call p call) x y =
    let rest : List ℕ → List ℕ = λ z. line_text (line.Call p call) ++ z in
    let not_file : (z : List ℕ) → starts_with (codes "file ") (rest z) ≡ false = λ z. fields_begin _ _ (codes "ile ") _ (call_fields call) z refl in
    let none : (z : List ℕ) → begins_done (rest z) ≡ false = λ z. ap (λ b. b && starts_with (codes "done" ++ 10 ∷ []) (after_blank (drop 5 (rest z)))) (not_file z) in
    none x ∙ sym (none y)
done_same _ x y = refl

-- A line that isn't of a call that took effect as the next one doesn't look like one.
pub other_line : (q : ℕ) (l : TranscriptLine) (lines : List TranscriptLine) (rest : List ℕ) → begins_next (l ∷ lines) ≡ false
    → starts_with (line_text (line.File q Next)) (line_text l ++ rest) ≡ false
other_line q (line.File p Next) lines rest e = absurd (cc)
other_line q (line.File p Turn) lines rest e = moments_apart q p Next Turn _ _ _ _ rest refl refl refl
other_line q (line.File p Finished) lines rest e = moments_apart q p Next Finished _ _ _ _ rest refl refl refl
other_line q (line.Call p call) lines rest e = fields_begin _ _ (drop 1 (line_text (line.File q Next))) _ (call_fields call) rest refl
other_line q _ lines rest e = refl

-- What a text says of the call with which it begins is seen of its first two lines.
pub says_same : (p : ℕ) (call : Call) (l : TranscriptLine) (lines : List TranscriptLine) (x y : List ℕ)
    → says_done (text (line.Call p call ∷ l ∷ lines) ++ x) ≡ says_done (text (line.Call p call ∷ l ∷ lines) ++ y)
says_same p call l lines x y = said x ∙ done_same l (text lines ++ x) (text lines ++ y) ∙ sym (said y)
  where
    said : (z : List ℕ) → says_done (text (line.Call p call ∷ l ∷ lines) ++ z) ≡ begins_done (line_text l ++ (text lines ++ z))
    said z =
        ap says_done (append_assoc (line_text (line.Call p call)) (line_text l ++ text lines) z
        ∙ ap (λ r. line_text (line.Call p call) ++ r) (append_assoc (line_text l) (text lines) z))
        ∙ said_after p call (line_text l ++ (text lines ++ z))
