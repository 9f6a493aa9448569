-- Bytes that are read one after another.
use Rattle.std.proofs.Common.{◌≡◌, ◌==◌, ◌+◌, ◌<◌, append-nil, arith, Bor, drop-cons, suc, ℕ, Bool, true, false, if◌then◌else◌, List, [], ◌∷◌, ◌++◌, length, take, drop, Option, Some, None, refl, sym, ap, ◌∙◌}
use Rattle.std.proofs.lemmas.Bool.Decides.{nat_tests}
use Rattle.std.specs.Cmp.Lexicographic.{pointwise}
use Rattle.std.specs.Prelude.{◌&&◌, bytes_eq, MatchOption, nat_eq, slice_index_or}
use Rattle.xinu_base.specs.declared.lines.TranscriptLine.{TranscriptLine}
use Rattle.xinu_model.specs.Text.{line_text, text}
use Rattle.transcript_laws.proofs.Texts.{text_append}
use Rattle.transcript_laws.specs.Reading.{starts_with}
use Rattle.reference_check.specs.Places.{after_bytes}

-- both of two tests hold if the second does where the first does
and_if : (t b : Bool) → (t && b) ≡ (if t then b else false)
and_if true b = refl
and_if false b = refl

-- a text begins with bytes if its front is these, number by number
pub front_is : (bytes rest : List ℕ) → pointwise nat_eq (take (length bytes) rest) bytes ≡ starts_with bytes rest
front_is [] rest = refl
front_is (b ∷ bytes) [] = refl
front_is (b ∷ bytes) (c ∷ rest) =
    let turned : nat_eq c b ≡ (b == c) = grind (arith, nat_tests) in
    ap (λ t. t && pointwise nat_eq (take (length bytes) rest) bytes) turned
    ∙ and_if (b == c) (pointwise nat_eq (take (length bytes) rest) bytes)
    ∙ ap (λ t. if b == c then t else false) (front_is bytes rest)

-- so what is left of a text that was cut is what is left after these bytes
pub stripped : (bytes rest : List ℕ) (r : Option (Bor (List ℕ)))
    → MatchOption r (pointwise nat_eq (take (length bytes) rest) bytes ≡ false)
    (λ x. (pointwise nat_eq (take (length bytes) rest) bytes ≡ true) × (x.now ≡ drop (length bytes) rest)
    × (length x.now + length bytes ≡ length rest))
    → MatchOption r (after_bytes bytes (Some rest) ≡ None) (λ x. after_bytes bytes (Some rest) ≡ Some x.now)
stripped bytes rest None e = ap (λ t. if t then Some (drop (length bytes) rest) else None) (sym (front_is bytes rest) ∙ e)
stripped bytes rest (Some x) (e, left, size) =
    ap (λ t. if t then Some (drop (length bytes) rest) else None) (sym (front_is bytes rest) ∙ e) ∙ ap Some (sym left)

-- and a text begins with bytes that its front is
pub front_begins : (bytes rest : List ℕ) → pointwise nat_eq bytes (take (length bytes) rest) ≡ starts_with bytes rest
front_begins [] rest = refl
front_begins (b ∷ bytes) [] = refl
front_begins (b ∷ bytes) (c ∷ rest) =
    and_if (b == c) (pointwise nat_eq bytes (take (length bytes) rest)) ∙ ap (λ t. if b == c then t else false) (front_begins bytes rest)

read_if : (t : Bool) (a b rest : List ℕ) → after_bytes (a ++ b) (Some rest) ≡ after_bytes b (after_bytes a (Some rest))
    → (if (if t then starts_with (a ++ b) rest else false) then Some (drop (length (a ++ b)) rest) else None)
    ≡ after_bytes b (if (if t then starts_with a rest else false) then Some (drop (length a) rest) else None)
read_if true a b rest e = e
read_if false a b rest e = refl

read_rest : (a b rest : List ℕ) → after_bytes (a ++ b) (Some rest) ≡ after_bytes b (after_bytes a (Some rest))
read_rest [] b rest = refl
read_rest (x ∷ a) b [] = refl
read_rest (x ∷ a) b (y ∷ rest) = read_if (x == y) a b rest (read_rest a b rest)

-- One after the other is both at once.
pub read_both : (a b : List ℕ) (r : Option (List ℕ)) → after_bytes (a ++ b) r ≡ after_bytes b (after_bytes a r)
read_both a b None = refl
read_both a b (Some rest) = read_rest a b rest

-- So the lines of an event may be read one by one.
pub read_lines : (line : TranscriptLine) (lines : List TranscriptLine) (r : Option (List ℕ))
    → after_bytes (text (line ∷ lines)) r ≡ after_bytes (text lines) (after_bytes (line_text line) r)
read_lines line lines r = read_both (line_text line) (text lines) r

-- The line at a place is read next.
pub read_line_at : (lines : List TranscriptLine) (i : ℕ) (l : TranscriptLine) (r : Option (List ℕ)) → i < length lines
    → slice_index_or lines i l ≡ l
    → after_bytes (text (drop i lines)) r ≡ after_bytes (text (drop (i + 1) lines)) (after_bytes (line_text l) r)
read_line_at lines i l r h is =
    let next : suc i ≡ i + 1 = omega arith in
    ap (λ x. after_bytes (text x) r) (drop-cons lines i l h)
    ∙ ap (λ (x : TranscriptLine). after_bytes (text (x ∷ drop (suc i) lines)) r) is
    ∙ read_lines l (drop (suc i) lines) r
    ∙ ap (λ n. after_bytes (text (drop n lines)) (after_bytes (line_text l) r)) next

-- a text that ends with the last bytes is these
ends_where : (a b rest : List ℕ) → bytes_eq (a ++ b) rest ≡ (if starts_with a rest then bytes_eq b (drop (length a) rest) else false)
ends_where [] b rest = refl
ends_where (x ∷ a) b [] = refl
ends_where (x ∷ a) b (y ∷ rest) =
    ap (λ t. (x == y) && t) (ends_where a b rest) ∙ by_first (x == y)
  where
    by_first : (t : Bool) → (t && (if starts_with a rest then bytes_eq b (drop (length a) rest) else false))
        ≡ (if (if t then starts_with a rest else false) then bytes_eq b (drop (length a) rest) else false)
    by_first true = refl
    by_first false = refl

-- So a text is some lines and a last one if it is the last one after the others,
last_where : (lines : List TranscriptLine) (last : TranscriptLine) (rest : List ℕ)
    → bytes_eq (text (lines ++ last ∷ [])) rest
    ≡ (if starts_with (text lines) rest then bytes_eq (line_text last) (drop (length (text lines)) rest) else false)
last_where lines last rest =
    ap (λ t. bytes_eq t rest) (text_append lines (last ∷ []) ∙ ap (λ l. text lines ++ l) (append-nil (line_text last)))
    ∙ ends_where (text lines) (line_text last) rest

pub last_at : (lines : List TranscriptLine) (last : TranscriptLine) (rest more : List ℕ) → after_bytes (text lines) (Some rest) ≡ Some more
    → bytes_eq (text (lines ++ last ∷ [])) rest ≡ bytes_eq (line_text last) more
last_at lines last rest more e = last_where lines last rest ∙ by_start (starts_with (text lines) rest) e
  where
    by_start : (t : Bool) → (if t then Some (drop (length (text lines)) rest) else None) ≡ Some more
        → (if t then bytes_eq (line_text last) (drop (length (text lines)) rest) else false) ≡ bytes_eq (line_text last) more
    by_start true f = let same : drop (length (text lines)) rest ≡ more = cc in ap (bytes_eq (line_text last)) same
    by_start false f = absurd (cc)

-- and isn't if it doesn't begin with the others.
pub last_nowhere : (lines : List TranscriptLine) (last : TranscriptLine) (rest : List ℕ) → after_bytes (text lines) (Some rest) ≡ None
    → bytes_eq (text (lines ++ last ∷ [])) rest ≡ false
last_nowhere lines last rest e = last_where lines last rest ∙ by_start (starts_with (text lines) rest) e
  where
    by_start : (t : Bool) → (if t then Some (drop (length (text lines)) rest) else None) ≡ None
        → (if t then bytes_eq (line_text last) (drop (length (text lines)) rest) else false) ≡ false
    by_start true f = absurd (cc)
    by_start false f = refl
