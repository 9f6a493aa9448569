-- No other line looks like that of a call on files that took effect as the next one.
use Rattle.std.proofs.Common.{◌≡◌, ◌==◌, ℕ, zero, suc, ◌+◌, ◌%◌, ◌/◌, true, false, if◌then◌else◌, List, [], ◌∷◌, ◌++◌, map, take, drop, ℤ, pos, negsuc, refl, sym, ap, ◌∙◌, append_assoc, append-nil, arith}
use Rattle.std.specs.Option.{option_map_or}
use Rattle.std.specs.Prelude.{nat_lt, codes, Option, Some}
use Rattle.std.specs.List.{AllByRecursion, list_all}
use Rattle.std.specs.Prelude.{not, ◌&&◌}
use Rattle.transcript_laws.proofs.Texts.{starts}
use Rattle.std.specs.Fmt.{decimal, digits, digits_onto, digit_glyph, signed_decimal}
use Rattle.xinu_base.specs.Syscalls.{Syscall, args_of, is_call, name_of, syscall_in, syscalls}
use Rattle.xinu_model.specs.Words.{signed}
use Rattle.transcript_laws.specs.Choices.{after_blank, after_line, begins_done, says_done}
use Rattle.std.proofs.lemmas.Bool.{cond_both, not-true, and_parts}
use Rattle.std.proofs.lemmas.Bool.Decides.{nat_tests}
use Rattle.xinu_base.specs.declared.lines.FileMoment.{FileMoment}
use Rattle.xinu_base.specs.declared.lines.FileMoment.TheVariants.{Turn, Finished, Next}
use Rattle.xinu_base.specs.declared.lines.TranscriptLine.{TranscriptLine}
use Rattle.xinu_base.specs.declared.lines.TranscriptLine.TheVariants as line
use Rattle.xinu_base.specs.declared.syscalls.Call.{Call}
use Rattle.xinu_model.specs.Agree.{begins_next}
use Rattle.xinu_base.specs.Names.{moment_name}
use Rattle.xinu_model.specs.Text.{call_fields, line_fields, line_text, signed_field, text, with_fields}
use Rattle.transcript_laws.specs.Reading.{starts_with}

-- no digit is a blank
abbrev pub AreDigits : List ℕ → Type 0
AreDigits ds = AllByRecursion (λ d. (d == 32) ≡ false) ds

pub glyph : (n : ℕ) → (digit_glyph false n == 32) ≡ false
glyph n = cond_both (nat_lt n 10) (48 + n) (87 + n) (λ d. (d == 32) ≡ false) (λ _. grind (arith, nat_tests)) (λ _. grind (arith, nat_tests))

pub onto : (k n : ℕ) (acc : List ℕ) → AreDigits acc → AreDigits (digits_onto k 10 false n acc)
onto zero n acc h = h
onto (suc k) n acc h =
    cond_both (n / 10 == 0) (digit_glyph false (n % 10) ∷ acc)
    (digits_onto k 10 false (n / 10) (digit_glyph false (n % 10) ∷ acc)) AreDigits
    (λ _. (glyph (n % 10), h)) (λ _. onto k (n / 10) (digit_glyph false (n % 10) ∷ acc) (glyph (n % 10), h))

pub decimals : (n : ℕ) → AreDigits (decimal n)
unfolding digits
decimals n = onto 64 n [] tt

-- after two numbers and a blank, texts that go on otherwise are apart
pub blank_apart : (ds es : List ℕ) (a b : ℕ) (x y : List ℕ) → AreDigits ds → AreDigits es → (a == b) ≡ false
    → starts_with (ds ++ 32 ∷ a ∷ x) (es ++ 32 ∷ b ∷ y) ≡ false
blank_apart [] [] a b x y p q n = ap (λ t. if t then starts_with x y else false) n
blank_apart [] (e ∷ es) a b x y p q n =
    let other = q.0 in
    let f : (32 == e) ≡ false = grind (arith, nat_tests) in
    ap (λ t. if t then starts_with (a ∷ x) (es ++ 32 ∷ b ∷ y) else false) f
blank_apart (d ∷ ds) [] a b x y p q n = ap (λ t. if t then starts_with (ds ++ 32 ∷ a ∷ x) (b ∷ y) else false) p.0
blank_apart (d ∷ ds) (e ∷ es) a b x y p q n =
    cond_both (d == e) (starts_with (ds ++ 32 ∷ a ∷ x) (es ++ 32 ∷ b ∷ y)) false (λ t. t ≡ false)
    (λ _. blank_apart ds es a b x y p.1 q.1 n) (λ _. refl)

-- a line of a call on files, from its number on
pub file_text : (p : ℕ) (m : FileMoment) (rest : List ℕ)
    → line_text (line.File p m) ++ rest ≡ codes "file " ++ decimal p ++ 32 ∷ (moment_name m ++ 10 ∷ rest)
file_text p m rest = simp append_assoc

-- lines of calls on files are apart if what became of the calls is
pub moments_apart : (p q : ℕ) (m k : FileMoment) (a b : ℕ) (x y rest : List ℕ) → moment_name m ++ 10 ∷ [] ≡ a ∷ x
    → moment_name k ++ 10 ∷ rest ≡ b ∷ y → (a == b) ≡ false
    → starts_with (line_text (line.File p m)) (line_text (line.File q k) ++ rest) ≡ false
moments_apart p q m k a b x y rest e f n =
    ap (λ l. starts_with l (line_text (line.File q k) ++ rest)) (sym (append-nil (line_text (line.File p m))) ∙ file_text p m [])
    ∙ ap (λ l. starts_with (codes "file " ++ decimal p ++ 32 ∷ (moment_name m ++ 10 ∷ [])) l) (file_text q k rest)
    ∙ ap (λ l. starts_with (codes "file " ++ decimal p ++ 32 ∷ l) (codes "file " ++ decimal q ++ 32 ∷ (moment_name k ++ 10 ∷ rest))) e
    ∙ ap (λ l. starts_with (codes "file " ++ decimal p ++ 32 ∷ a ∷ x) (codes "file " ++ decimal q ++ 32 ∷ l)) f
    ∙ blank_apart (decimal p) (decimal q) a b x y (decimals p) (decimals q) n

-- that of a call that had a turn, and that of one that took effect
pub turn_apart : (p q : ℕ) (rest : List ℕ) → starts_with (line_text (line.File p Finished)) (line_text (line.File q Turn) ++ rest) ≡ false
turn_apart p q rest = moments_apart p q Finished Turn _ _ _ _ rest refl refl refl

-- a line goes on with its fields as it begins
pub fields_begin : (x b : ℕ) (xs l : List ℕ) (fs : List (List ℕ)) (tail : List ℕ) → (x == b) ≡ false
    → starts_with (x ∷ xs) ((with_fields (b ∷ l) fs ++ 10 ∷ []) ++ tail) ≡ false
fields_begin x b xs l [] tail n = ap (λ t. if t then starts_with xs ((l ++ 10 ∷ []) ++ tail) else false) n
fields_begin x b xs l (f ∷ fs) tail n = fields_begin x b xs (l ++ 32 ∷ f) fs tail n

-- What doesn't begin with the line of a call that took effect as the next one doesn't look like it.
pub not_next : (q : ℕ) (lines : List TranscriptLine) → begins_next lines ≡ false
    → starts_with (line_text (line.File q Next)) (text lines) ≡ false
not_next q [] e = refl
not_next q (line.File p Next ∷ lines) e = absurd (cc)
not_next q (line.File p Turn ∷ lines) e = moments_apart q p Next Turn _ _ _ _ (text lines) refl refl refl
not_next q (line.File p Finished ∷ lines) e = moments_apart q p Next Finished _ _ _ _ (text lines) refl refl refl
not_next q (line.Call p call ∷ lines) e = fields_begin _ _ (drop 1 (line_text (line.File q Next))) _ (call_fields call) (text lines) refl
not_next q (_ ∷ lines) e = refl

-- a text without a line feed
abbrev NoFeed : List ℕ → Type 0
NoFeed bytes = AllByRecursion (λ d. (d == 10) ≡ false) bytes

-- two texts without one have none together
no_feed_append : (a b : List ℕ) → NoFeed a → NoFeed b → NoFeed (a ++ b)
no_feed_append [] b p q = q
no_feed_append (x ∷ a) b p q = (p.0, no_feed_append a b p.1 q)

-- digits aren't line feeds
glyph_feed : (n : ℕ) → (digit_glyph false n == 10) ≡ false
glyph_feed n = cond_both (nat_lt n 10) (48 + n) (87 + n) (λ d. (d == 10) ≡ false) (λ _. grind (arith, nat_tests))
    (λ _. grind (arith, nat_tests))

onto_feed : (k n : ℕ) (acc : List ℕ) → NoFeed acc → NoFeed (digits_onto k 10 false n acc)
onto_feed zero n acc h = h
onto_feed (suc k) n acc h =
    cond_both (n / 10 == 0) (digit_glyph false (n % 10) ∷ acc) (digits_onto k 10 false (n / 10) (digit_glyph false (n % 10) ∷ acc)) NoFeed
    (λ _. (glyph_feed (n % 10), h)) (λ _. onto_feed k (n / 10) (digit_glyph false (n % 10) ∷ acc) (glyph_feed (n % 10), h))

-- no number has a line feed
decimal_feed : (n : ℕ) → NoFeed (decimal n)
unfolding digits
decimal_feed n = onto_feed 64 n [] tt

signed_feed : (z : ℤ) → NoFeed (signed_decimal z)
signed_feed (pos n) = decimal_feed n
signed_feed (negsuc n) = (refl, decimal_feed (suc n))

-- a test finds none
tested_feed : (l : List ℕ) → list_all (λ d. not (d == 10)) l ≡ true → NoFeed l
tested_feed [] e = tt
tested_feed (d ∷ l) e = let h = and_parts (not (d == 10)) (list_all (λ d. not (d == 10)) l) e in (not-true (d == 10) h.0, tested_feed l h.1)

unknown_feed : NoFeed (codes "unknown")
unknown_feed = tested_feed (codes "unknown") refl

name_feed : (rows : List Syscall) (number : ℕ) → AllByRecursion (λ (r : Syscall). NoFeed r.name) rows
    → NoFeed (option_map_or (λ row. row.name) (syscall_in rows number) (codes "unknown"))
name_feed [] number h = unknown_feed
name_feed (r ∷ rows) number h = cond_both (number == r.number) (Some r) (syscall_in rows number)
    (λ (x : Option Syscall). NoFeed (option_map_or (λ row. row.name) x (codes "unknown"))) (λ _. h.0) (λ _. name_feed rows number h.1)

-- the whole table of calls is tested at once
rows_feed : (rows : List Syscall) → list_all (λ (r : Syscall). list_all (λ d. not (d == 10)) r.name) rows ≡ true
    → AllByRecursion (λ (r : Syscall). NoFeed r.name) rows
rows_feed [] e = tt
rows_feed (r ∷ rows) e =
    let h = and_parts (list_all (λ d. not (d == 10)) r.name) (list_all (λ (r : Syscall). list_all (λ d. not (d == 10)) r.name) rows) e in
    (tested_feed r.name h.0, rows_feed rows h.1)

-- nor do the arguments of a call, nor its fields
words_feed : (words : List ℕ) → AllByRecursion NoFeed (map signed_field words)
words_feed [] = tt
words_feed (w ∷ words) = (signed_feed (signed w), words_feed words)

call_feed : (call : Call) → AllByRecursion NoFeed (call_fields call)
call_feed call =
    cond_both (is_call call.number) (name_of call.number ∷ map signed_field (take (args_of call.number) call.args))
    (codes "unknown" ∷ signed_field call.number ∷ []) (AllByRecursion NoFeed)
    (λ _. (name_feed syscalls call.number (rows_feed syscalls refl), words_feed (take (args_of call.number) call.args)))
    (λ _. (unknown_feed, (signed_feed (signed call.number), tt)))

-- so the line of a call ends where its line feed is
fields_feed : (b : ℕ) (l : List ℕ) (fs : List (List ℕ)) → NoFeed (b ∷ l) → AllByRecursion NoFeed fs → NoFeed (with_fields (b ∷ l) fs)
fields_feed b l [] p q = p
fields_feed b l (f ∷ fs) p q = fields_feed b (l ++ 32 ∷ f) fs (p.0, no_feed_append l (32 ∷ f) p.1 (refl, q.0)) q.1

line_ends : (l rest : List ℕ) → NoFeed l → after_line ((l ++ 10 ∷ []) ++ rest) ≡ rest
line_ends [] rest h = refl
line_ends (b ∷ l) rest h = ap (λ t. if t then (l ++ 10 ∷ []) ++ rest else after_line ((l ++ 10 ∷ []) ++ rest)) h.0 ∙ line_ends l rest h.1

-- what comes after the line of a call
pub after_call : (p : ℕ) (call : Call) (rest : List ℕ) → after_line (line_text (line.Call p call) ++ rest) ≡ rest
after_call p call rest =
    line_ends (with_fields [] (line_fields (line.Call p call))) rest
    (fields_feed 99 (codes "all") (decimal p ∷ call_fields call) (tested_feed (codes "call") refl) (decimal_feed p, call_feed call))

-- the line of a call begins as one
fields_kept : (b : ℕ) (bs l : List ℕ) (fs : List (List ℕ)) (tail : List ℕ)
    → starts_with (b ∷ bs) (with_fields (b ∷ (bs ++ l)) fs ++ tail) ≡ true
fields_kept b bs l [] tail = ap (λ x. starts_with (b ∷ bs) (b ∷ x)) (append_assoc bs l tail) ∙ starts (b ∷ bs) (l ++ tail)
fields_kept b bs l (f ∷ fs) tail =
    ap (λ x. starts_with (b ∷ bs) (with_fields (b ∷ x) fs ++ tail)) (append_assoc bs l (32 ∷ f)) ∙ fields_kept b bs (l ++ 32 ∷ f) fs tail

call_begins : (p : ℕ) (call : Call) (rest : List ℕ) → starts_with (codes "call ") (line_text (line.Call p call) ++ rest) ≡ true
call_begins p call rest =
    ap (starts_with (codes "call ")) (append_assoc (with_fields [] (line_fields (line.Call p call))) (10 ∷ []) rest)
    ∙ fields_kept 99 (codes "all ") (decimal p) (call_fields call) (10 ∷ rest)

-- what a text says that begins with the line of a call is what is said after it
pub said_after : (p : ℕ) (call : Call) (rest : List ℕ) → says_done (line_text (line.Call p call) ++ rest) ≡ begins_done rest
said_after p call rest =
    ap (λ b. b && begins_done (after_line (line_text (line.Call p call) ++ rest))) (call_begins p call rest)
    ∙ ap begins_done (after_call p call rest)

-- what comes after the first blank of a number and a blank
pub blank_ends : (ds rest : List ℕ) → AreDigits ds → after_blank (ds ++ 32 ∷ rest) ≡ rest
blank_ends [] rest h = refl
blank_ends (d ∷ ds) rest h = ap (λ t. if t then ds ++ 32 ∷ rest else after_blank (ds ++ 32 ∷ rest)) h.0 ∙ blank_ends ds rest h.1

-- the line of a call on files that took effect is read as one
pub done_begins : (q : ℕ) (rest : List ℕ) → begins_done (line_text (line.File q Finished) ++ rest) ≡ true
done_begins q rest =
    ap begins_done (file_text q Finished rest)
    ∙ ap (λ r. starts_with (codes "done" ++ 10 ∷ []) r) (blank_ends (decimal q) (moment_name Finished ++ 10 ∷ rest) (decimals q))
