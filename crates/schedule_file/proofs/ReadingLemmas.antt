-- What a text reads as, one line after another.
use Rattle.std.proofs.Common.{◌≡◌, ℕ, ◌+◌, ◌<◌, ◌≤◌, nat_lt, Bool, true, false, cond, List, [], ◌∷◌, ◌++◌, length, Option, Some, None, refl}
use Rattle.std.proofs.Common.{sym, ap, ◌∙◌, arith, append-nil, append_assoc, length-append}
use Rattle.std.specs.Prelude.{IfSome}
use Rattle.std.specs.List.{flat_map}
use Rattle.std.proofs.lemmas.Bool.{lt-ltb, le-ltb, le-leb, lt-leb}
use Rattle.xinu_base.specs.declared.events.Event.{Event}
use Rattle.text_lines.specs.Lines.{lines_of}
use Rattle.schedule_file.specs.Numbers.{most_events}
use Rattle.schedule_file.specs.ScheduleFiles.{is_bad, events_at, first_from, sums, Reading, Reads, Bad, Many, judged, reading, Names}
use Rattle.schedule_file.specs.Repeats.{IsFaultOf}
use Rattle.schedule_file.specs.declared.faults.ScheduleFault.{ScheduleFault}
use Rattle.schedule_file.specs.declared.faults.ScheduleFault.TheVariants.{BadLine, TooMany, NoMemory}

-- what is read if these events come before lines that are numbered from k on
abbrev pub read_on : ℕ → List Event → List (List ℕ) → Reading
read_on k events lines =
    judged (first_from k is_bad lines) (first_from k (nat_lt most_events) (sums (length events) lines)) (events ++ flat_map events_at lines)

-- a text is read from its first line on
pub read_on-start : (text : List ℕ) → read_on 1 [] (lines_of text) ≡ reading text
unfolding reading
read_on-start text = refl

-- after the last line
pub read_on-end : (k : ℕ) (events : List Event) → read_on k events [] ≡ Reads events
read_on-end k events = ap Reads (append-nil events)

-- the first of two places is the number that is begun with, or a later one
least_of : (b : Bool) (k : ℕ) (o : Option ℕ) → IfSome o (λ n. k + 1 ≤ n) → IfSome (cond b (Some k) o) (λ n. k ≤ n)
least_of true k o least = omega arith
least_of false k None least = tt
least_of false k (Some n) least = omega arith

-- no place is lower than the number that is begun with
first_from-least : {X : Type 0} (p : X → Bool) (k : ℕ) (xs : List X) → IfSome (first_from k p xs) (λ n. k ≤ n)
first_from-least p k [] = tt
first_from-least p k (x ∷ xs) = least_of (p x) k (first_from (k + 1) p xs) (first_from-least p (k + 1) xs)

-- a bad line that comes first or beside another is named
judged-bad : (k : ℕ) (many : Option ℕ) (events : List Event) → IfSome many (λ n. k ≤ n) → judged (Some k) many events ≡ Bad k
judged-bad k None events least = refl
judged-bad k (Some n) events least = rw (le-leb k n least) refl

-- a line with an event too many that comes before each bad line is named
judged-many : (k : ℕ) (bad : Option ℕ) (events : List Event) → IfSome bad (λ n. k + 1 ≤ n) → judged bad (Some k) events ≡ Many k
judged-many k None events least = refl
judged-many k (Some n) events least = let above : k < n = omega arith in rw (lt-leb n k above) refl

-- a bad line
pub read_on-bad : (k : ℕ) (events : List Event) (line : List ℕ) (lines : List (List ℕ)) → is_bad line ≡ true
    → read_on k events (line ∷ lines) ≡ Bad k
read_on-bad k events line lines bad =
    rw bad
    (judged-bad k (first_from k (nat_lt most_events) (sums (length events) (line ∷ lines))) (events ++ flat_map events_at (line ∷ lines))
    (first_from-least (nat_lt most_events) k (sums (length events) (line ∷ lines))))

-- a line with an event too many
pub read_on-many : (k : ℕ) (events : List Event) (line : List ℕ) (lines : List (List ℕ)) → is_bad line ≡ false
    → most_events < length events + length (events_at line) → read_on k events (line ∷ lines) ≡ Many k
read_on-many k events line lines good many =
    rw (good, lt-ltb most_events (length events + length (events_at line)) many)
    (judged-many k (first_from (k + 1) is_bad lines) (events ++ flat_map events_at (line ∷ lines)) (first_from-least is_bad (k + 1) lines))

-- any other line
pub read_on-next : (k : ℕ) (events : List Event) (line : List ℕ) (lines : List (List ℕ)) → is_bad line ≡ false
    → length events + length (events_at line) ≤ most_events
    → read_on k events (line ∷ lines) ≡ read_on (k + 1) (events ++ events_at line) lines
read_on-next k events line lines good few =
    rw (good, le-ltb most_events (length events + length (events_at line)) few, ← length-append events (events_at line))
    (ap
    (judged (first_from (k + 1) is_bad lines)
    (first_from (k + 1) (nat_lt most_events) (sums (length (events ++ events_at line)) lines)))
    (sym (append_assoc events (events_at line) (flat_map events_at lines))))

-- a text with a fault has no events
faulty_bad : (text : List ℕ) (l : ℕ) → reading text ≡ Bad l → Names (BadLine l) text
faulty_bad text l is = (is, rw is refl)

faulty_many : (text : List ℕ) (l : ℕ) → reading text ≡ Many l → Names (TooMany l) text
faulty_many text l is = (is, rw is refl)

-- the first fault, if it comes after lines that were read
pub names_fault : (fault : ScheduleFault) (k n : ℕ) (events : List Event) (line : List ℕ) (lines : List (List ℕ)) (text : List ℕ)
    → IsFaultOf fault k line n → n ≡ length events → read_on k events (line ∷ lines) ≡ reading text → Names fault text
names_fault (BadLine l) k n events line lines text is sum reads =
    faulty_bad text l (sym reads ∙ read_on-bad k events line lines is.1 ∙ ap Bad (sym is.0))
names_fault (TooMany l) k n events line lines text is sum reads =
    let many : most_events < length events + length (events_at line) = rw sum at is.2 in
    faulty_many text l (sym reads ∙ read_on-many k events line lines is.1 many ∙ ap Many (sym is.0))
names_fault NoMemory k n events line lines text is sum reads = tt

-- one more line is read
pub reads_more : (k n sum : ℕ) (events more : List Event) (line : List ℕ) (lines : List (List ℕ)) (text : List ℕ) → is_bad line ≡ false
    → sum ≡ n + length (events_at line) → sum ≤ most_events → n ≡ length events → more ≡ events ++ events_at line
    → read_on k events (line ∷ lines) ≡ reading text → read_on (k + 1) more lines ≡ reading text
reads_more k n sum events more line lines text good is few so_far joined reads =
    rw joined (sym (read_on-next k events line lines good (omega arith)) ∙ reads)
