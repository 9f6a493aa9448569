-- Where a text isn't these lines.
use Rattle.std.proofs.Common.{◌≡◌, ◌⊎◌, ℕ, ◌≤◌, true, false, List, [], ◌∷◌, ◌++◌, drop, length, Option, Some, None, refl, sym, ap, ◌∙◌, inl, inr, ⊎_elim, append_assoc, append-nil, arith}
use Rattle.std.proofs.lemmas.Bool.{cond_both}
use Rattle.std.proofs.lemmas.List.{length-append}
use Rattle.xinu_base.specs.declared.lines.TranscriptLine.{TranscriptLine}
use Rattle.xinu_model.specs.Text.{line_text, text}
use Rattle.transcript_laws.specs.Reading.{starts_with}
use Rattle.transcript_laws.proofs.Texts.{begun, same_rest, starts, text_append}
use Rattle.trace_places.specs.Places.{Place, due_lines, mistake_in, mistake_past}
use Rattle.trace_places.proofs.Fronts.{IsFront}

-- the text of a front isn't longer
pub front_length : (f xs : List TranscriptLine) → IsFront f xs → length (text f) ≤ length (text xs)
front_length f xs (z, is) =
    let whole = ap length (ap text is ∙ text_append f z) in
    let both = length-append (text f) (text z) in
    omega (arith, whole, both)

-- These lines are in a text up to one that isn't.
pub record StopsIn (lines : List TranscriptLine) (rest : List ℕ) (p : Place) : Type 0 where
  pub front : List TranscriptLine
  pub line : TranscriptLine
  pub more : List TranscriptLine
  pub are : lines ≡ front ++ line ∷ more
  pub due : p.due ≡ Some line
  pub splits : rest ≡ text front ++ p.left
  pub apart : starts_with (line_text line) p.left ≡ false

-- All of them are in it, and what is left goes on so.
pub record GoesOn (lines : List TranscriptLine) (rest : List ℕ) (next : List ℕ → Option Place) (o : Option Place) : Type 0 where
  pub left : List ℕ
  pub splits : rest ≡ text lines ++ left
  pub is : next left ≡ o

pub stops : (lines : List TranscriptLine) (rest : List ℕ) (next : List ℕ → Option Place) (p : Place) → mistake_in lines rest next ≡ Some p
    → (StopsIn lines rest p) ⊎ (GoesOn lines rest next (Some p))
stops [] rest next p e = inr (record { left = rest; splits = refl; is = e })
stops (l ∷ lines) rest next p e =
    let left = drop (length (line_text l)) rest in
    let here : Place = record { left = rest; due = Some l } in
    cond_both (starts_with (line_text l) rest) (mistake_in lines left next) (Some here)
    (λ (o : Option Place). o ≡ Some p → (StopsIn (l ∷ lines) rest p) ⊎ (GoesOn (l ∷ lines) rest next (Some p)))
    (λ begins is. let split = begun (line_text l) rest begins in
    ⊎_elim
    (λ (s : StopsIn lines left p). inl (record {
      front = l ∷ s.front;
      line = s.line;
      more = s.more;
      are = ap (λ x. l ∷ x) s.are;
      due = s.due;
      splits = split ∙ ap (λ x. line_text l ++ x) s.splits ∙ sym (append_assoc (line_text l) (text s.front) p.left);
      apart = s.apart;
    }))
    (λ (g : GoesOn lines left next (Some p)). inr (record {
      left = g.left;
      splits = split ∙ ap (λ x. line_text l ++ x) g.splits ∙ sym (append_assoc (line_text l) (text lines) g.left);
      is = g.is;
    }))
    (stops lines left next p is))
    (λ apart is. let same : here ≡ p = cc in
    inl (record {
      front = [];
      line = l;
      more = lines;
      are = refl;
      due = ap (λ (q : Place). q.due) (sym same);
      splits = ap (λ (q : Place). q.left) same;
      apart = ap (λ (q : Place). starts_with (line_text l) q.left) (sym same) ∙ apart;
    }))
    e

-- No more lines of a run that has the same lines here are in the text.
pub stuck : (front : List TranscriptLine) (line : TranscriptLine) (xs f m : List TranscriptLine) (left d : List ℕ)
    → starts_with (line_text line) left ≡ false → f ++ m ≡ front ++ line ∷ xs → text front ++ left ≡ text f ++ d
    → length (text f) ≤ length (text front)
stuck front line xs [] m left d apart same whole = omega arith
stuck [] line xs (l ∷ f) m left d apart same whole =
    let is : l ≡ line = cc in
    let begins : left ≡ line_text line ++ (text f ++ d) =
    whole ∙ append_assoc (line_text l) (text f) d ∙ ap (λ (h : TranscriptLine). line_text h ++ (text f ++ d)) is in
    let yes : starts_with (line_text line) left ≡ true = ap (starts_with (line_text line)) begins ∙ starts (line_text line) (text f ++ d) in
    let wrong : true ≡ false = sym yes ∙ apart in absurd (cc)
stuck (b ∷ front) line xs (l ∷ f) m left d apart same whole =
    let is : l ≡ b = cc in
    let tail : f ++ m ≡ front ++ line ∷ xs = cc in
    let texts : line_text b ++ (text front ++ left) ≡ line_text b ++ (text f ++ d) =
    sym (append_assoc (line_text b) (text front) left) ∙ whole ∙ append_assoc (line_text l) (text f) d
    ∙ ap (λ (h : TranscriptLine). line_text h ++ (text f ++ d)) is in
    let i = stuck front line xs f m left d apart tail (same_rest (line_text b) (text front ++ left) (text f ++ d) texts) in
    let mine = length-append (line_text l) (text f) in
    let theirs = length-append (line_text b) (text front) in
    let line_is = ap (λ (h : TranscriptLine). length (line_text h)) is in
    omega (arith, i, mine, theirs, line_is)

-- How the last lines of a run end in a text: one isn't there, or more follows.
pub record EndsIn (lines : List TranscriptLine) (rest : List ℕ) (p : Place) : Type 0 where
  pub front : List TranscriptLine
  pub more : List TranscriptLine
  pub are : lines ≡ front ++ due_lines p.due more
  pub splits : rest ≡ text front ++ p.left
  pub most : (f m : List TranscriptLine) (d : List ℕ) → f ++ m ≡ lines → rest ≡ text f ++ d → length (text f) ≤ length (text front)

past : (rest : List ℕ) (p : Place) → mistake_past rest ≡ Some p → (p.left ≡ rest) × (p.due ≡ None)
past [] p e = absurd (cc)
past (b ∷ rest) p e =
    let same : (record { left = b ∷ rest; due = None }) ≡ p = cc in
    (ap (λ (q : Place). q.left) (sym same), ap (λ (q : Place). q.due) (sym same))

pub ends : (lines : List TranscriptLine) (rest : List ℕ) (p : Place) → mistake_in lines rest mistake_past ≡ Some p → EndsIn lines rest p
ends lines rest p e = ⊎_elim stopped went (stops lines rest mistake_past p e)
  where
    stopped : StopsIn lines rest p → EndsIn lines rest p
    stopped s = record {
      front = s.front;
      more = s.more;
      are = s.are ∙ ap (λ o. s.front ++ due_lines o s.more) (sym s.due);
      splits = s.splits;
      most = λ f m d same whole. stuck s.front s.line s.more f m p.left d s.apart (same ∙ s.are) (sym s.splits ∙ whole);
    }

    went : GoesOn lines rest mistake_past (Some p) → EndsIn lines rest p
    went g =
        let is = past g.left p g.is in
        record {
          front = lines;
          more = [];
          are = sym (append-nil lines) ∙ ap (λ o. lines ++ due_lines o []) (sym is.1);
          splits = g.splits ∙ ap (λ x. text lines ++ x) (sym is.0);
          most = λ f m d same whole. front_length f lines (m, sym same);
        }
