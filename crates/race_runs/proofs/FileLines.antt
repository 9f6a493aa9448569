-- A text tells of a call on files if one of its lines does.
use Rattle.std.proofs.Common.{◌≡◌, ◌∙◌, ℕ, ◌==◌, ◌<◌, Bool, true, false, ◌||◌, List, [], ◌∷◌, ◌++◌, length, map, refl, sym, ap, codes, arith, append_assoc}
use Rattle.std.specs.List.{All, filter, list_any, slice_split, onto_first}
use Rattle.std.specs.Fmt.{decimal}
use Rattle.std.proofs.lemmas.Bool.{or_parts}
use Rattle.std.proofs.lemmas.List.Folds.{list_any-append}
use Rattle.std.proofs.lemmas.List.Splits.{slice_split-cons_yes, slice_split-cons_no, slice_split_at, length-slice_split}
use Rattle.std.proofs.lemmas.List.{length-append}
use Rattle.std.proofs.lemmas.List.Elements.{All-cons, All-nil}
use Rattle.text_lines.proofs.LineLemmas.{whole_lines-cons}
use Rattle.text_lines.specs.Lines.{is_blank, is_token, lines_of, tokens_of, whole_lines, without_return}
use Rattle.xinu_base.specs.declared.lines.TranscriptLine.{TranscriptLine}
use Rattle.xinu_base.specs.declared.lines.TranscriptLine.TheVariants as line
use Rattle.xinu_base.specs.Names.{moment_name}
use Rattle.xinu_model.specs.Text.{line_fields, text, with_fields}
use Rattle.race_tables.specs.Outcomes.{begin_with}
use Rattle.race_runs.specs.Forced.{is_of_files, tells_files}

abbrev is_feed : ℕ → Bool
is_feed b = b == 10

-- whether a line is of a call on files
abbrev is_files_line : List ℕ → Bool
is_files_line line = begin_with (codes "file") (tokens_of line)

-- parts of which another one follows are whole lines
joined_lines : (parts more : List (List ℕ)) → 0 < length more → whole_lines (parts ++ more) ≡ map without_return parts ++ whole_lines more
joined_lines [] more some = refl
joined_lines (part ∷ parts) more some =
    whole_lines-cons part (parts ++ more) (omega (arith, length-append parts more, some)) ∙ ap (λ (ls : List (List ℕ)). without_return part ∷ ls) (joined_lines parts more some)

onto_joined : (b : ℕ) (parts more : List (List ℕ)) → 0 < length parts → onto_first b (parts ++ more) ≡ onto_first b parts ++ more
onto_joined b [] more some = absurd (omega arith)
onto_joined b (part ∷ parts) more some = refl

split_more : (b : ℕ) (xs ys : List ℕ) (x : Bool) → is_feed b ≡ x → slice_split is_feed (xs ++ 10 ∷ ys) ≡ slice_split is_feed xs ++ slice_split is_feed ys
    → slice_split is_feed (b ∷ xs ++ 10 ∷ ys) ≡ slice_split is_feed (b ∷ xs) ++ slice_split is_feed ys
split_more b xs ys true is later =
    slice_split-cons_yes is_feed b (xs ++ 10 ∷ ys) is
    ∙ ap (λ (ps : List (List ℕ)). [] ∷ ps) later
    ∙ ap (λ (ps : List (List ℕ)). ps ++ slice_split is_feed ys) (sym (slice_split-cons_yes is_feed b xs is))
split_more b xs ys false is later =
    slice_split-cons_no is_feed b (xs ++ 10 ∷ ys) is
    ∙ ap (onto_first b) later
    ∙ onto_joined b (slice_split is_feed xs) (slice_split is_feed ys) (omega (arith, length-slice_split is_feed xs))
    ∙ ap (λ (ps : List (List ℕ)). ps ++ slice_split is_feed ys) (sym (slice_split-cons_no is_feed b xs is))

-- the parts before a line feed, and those after it
split_joined : (xs ys : List ℕ) → slice_split is_feed (xs ++ 10 ∷ ys) ≡ slice_split is_feed xs ++ slice_split is_feed ys
split_joined [] ys = slice_split-cons_yes is_feed 10 ys refl
split_joined (b ∷ xs) ys = split_more b xs ys (is_feed b) refl (split_joined xs ys)

-- the lines before a line feed, and those after it
lines_joined : (xs ys : List ℕ) → lines_of (xs ++ 10 ∷ ys) ≡ map without_return (slice_split is_feed xs) ++ lines_of ys
lines_joined xs ys =
    ap whole_lines (split_joined xs ys)
    ∙ joined_lines (slice_split is_feed xs) (slice_split is_feed ys) (omega (arith, length-slice_split is_feed ys))

-- ---- a line of a call on files

-- a line that goes on after its first word
abbrev after_word : List ℕ → List ℕ
after_word rest = codes "file" ++ 32 ∷ rest

-- a byte isn't blank
abbrev is_solid : ℕ → Type 0
is_solid b = is_blank b ≡ false

solid_word : All is_solid (codes "file")
solid_word =
    All-cons is_solid 102 (105 ∷ 108 ∷ 101 ∷ []) refl
    (All-cons is_solid 105 (108 ∷ 101 ∷ []) refl (All-cons is_solid 108 (101 ∷ []) refl (All-cons is_solid 101 [] refl (All-nil is_solid))))

told_word : (rest : List ℕ) → is_files_line (after_word rest) ≡ true
told_word rest = ap (λ (parts : List (List ℕ)). begin_with (codes "file") (filter is_token parts)) (slice_split_at is_blank (codes "file") 32 rest solid_word refl)

kept_word : (rest : List ℕ) → is_files_line (without_return (after_word rest)) ≡ true
kept_word [] = told_word []
kept_word (b ∷ rest) = told_word (without_return (b ∷ rest))

split_word : (parts : List (List ℕ)) → 0 < length parts
    → list_any is_files_line (map without_return (onto_first 102 (onto_first 105 (onto_first 108 (onto_first 101 (onto_first 32 parts)))))) ≡ true
split_word [] some = absurd (omega arith)
split_word (part ∷ parts) some = ap (λ b. b || list_any is_files_line (map without_return parts)) (kept_word part)

told_line : (rest : List ℕ) → list_any is_files_line (map without_return (slice_split is_feed (after_word rest))) ≡ true
told_line rest = split_word (slice_split is_feed rest) (omega (arith, length-slice_split is_feed rest))

-- ---- the lines of a run

telling : (line : TranscriptLine) → list_any is_files_line (map without_return (slice_split is_feed (with_fields [] (line_fields line)))) ≡ false
    → is_of_files line ≡ false
telling (line.File p moment) none = let told = told_line (decimal p ++ 32 ∷ moment_name moment) in absurd (cc)
telling (line.Call p call) none = refl
telling (line.Trap p cause) none = refl
telling (line.Return p value) none = refl
telling (line.Con b) none = refl
telling (line.Switch p) none = refl
telling (line.Now ticks quantum) none = refl
telling (line.Process p state priority parent message name) none = refl
telling (line.Ready p key) none = refl
telling (line.Semaphore sem count) none = refl
telling (line.Waiter sem p) none = refl
telling (line.Sleeper p wake) none = refl
telling (line.Free address bytes) none = refl
telling (line.Pool i size free held) none = refl
telling (line.Buffer i address) none = refl
telling (line.Port q seq messages) none = refl
telling (line.Node q message) none = refl
telling (line.Console mode committed line output echo held) none = refl
telling (line.Disk0 requests) none = refl
telling (line.OpenFile dev position size) none = refl
telling (line.Disk1 busy) none = refl
telling (line.End end) none = refl

-- the text of lines, from its first line on
text_parts : (line : TranscriptLine) (lines : List TranscriptLine)
    → lines_of (text (line ∷ lines)) ≡ map without_return (slice_split is_feed (with_fields [] (line_fields line))) ++ lines_of (text lines)
text_parts line lines =
    ap lines_of (append_assoc (with_fields [] (line_fields line)) (10 ∷ []) (text lines)) ∙ lines_joined (with_fields [] (line_fields line)) (text lines)

-- If a text tells of no call on files, none of its lines is of one.
pub lines_tell : (lines : List TranscriptLine) → tells_files (text lines) ≡ false → list_any is_of_files lines ≡ false
unfolding tells_files
lines_tell [] none = refl
lines_tell (line ∷ lines) none =
    let parts = map without_return (slice_split is_feed (with_fields [] (line_fields line))) in
    let both = or_parts (list_any is_files_line parts) (list_any is_files_line (lines_of (text lines)))
    (sym (ap (list_any is_files_line) (text_parts line lines) ∙ list_any-append is_files_line parts (lines_of (text lines))) ∙ none) in
    ap (λ b. b || list_any is_of_files lines) (telling line both.0) ∙ lines_tell lines both.1
