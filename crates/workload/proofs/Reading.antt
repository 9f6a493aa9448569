-- A schedule that is written reads as its events.
use Rattle.std.proofs.Common.{◌≡◌, ◌∙◌, ℕ, zero, suc, ◌+◌, ◌*◌, ◌/◌, ◌%◌, ◌<◌, ◌≤◌, eqb, nat_lt, Bool, true, false, cond, List, [], ◌∷◌, ◌++◌, length, Some, refl, sym, ap, arith, append_assoc, append-nil, length-append}
use Rattle.std.specs.Prelude.{◌==◌, codes, is_none, unwrap_or}
use Rattle.std.specs.List.{position, position_or_len}
use Rattle.std.proofs.lemmas.Bool.{le-leb, lt-leb, lt-ltb}
use Rattle.std.proofs.lemmas.Bool.Decides.{nat_tests}
use Rattle.xinu_base.specs.Hexadecimal.{hex_digit}
use Rattle.xinu_base.specs.declared.events.Event.{Event}
use Rattle.xinu_base.specs.declared.events.Event.TheVariants.{Step, Tick, Key, Tx, Disk0, Disk1, Fail0, Fail1, Dump}
use Rattle.text_lines.specs.Lines.{lines_of, without_return}
use Rattle.text_lines.proofs.LineLemmas.{lines_of-feed}
use Rattle.schedule_file.specs.LineKinds.{line_events}
use Rattle.schedule_file.specs.Numbers.{most_events, hex_value}
use Rattle.schedule_file.specs.ScheduleFiles.{events_at, Reads, reading}
use Rattle.schedule_file.proofs.ReadingLemmas.{read_on, read_on-start, read_on-end, read_on-next}
use Rattle.workload.specs.Draws.{drawn, next}
use Rattle.workload.specs.Schedules.{event_of, event_in, after_event, events_in, line_of, text_of}
use Rattle.workload.proofs.Turns.{events_in-suc, events_in-zero, text_of-cons, text_of-nil}

-- ---- the digits of a byte

-- what a digit is to the readers of lines and of schedules
record IsDigit (c d : ℕ) : Type 0 where
  pub feed : eqb c 10 ≡ false
  pub return : eqb c 13 ≡ false
  pub space : eqb c 32 ≡ false
  pub tab : eqb c 9 ≡ false
  pub value : hex_value c ≡ Some d

low_digit : (d : ℕ) → d < 10 → IsDigit (48 + d) d
low_digit d low = record {
  feed = grind (arith, nat_tests);
  return = grind (arith, nat_tests);
  space = grind (arith, nat_tests);
  tab = grind (arith, nat_tests);
  value = rw (le-leb 48 (48 + d) (omega arith), le-leb (48 + d) 57 (omega arith)) (ap Some (omega arith));
}

high_digit : (d : ℕ) → 10 ≤ d → d < 16 → IsDigit (87 + d) d
high_digit d high few = record {
  feed = grind (arith, nat_tests);
  return = grind (arith, nat_tests);
  space = grind (arith, nat_tests);
  tab = grind (arith, nat_tests);
  value = rw (
    le-leb 48 (87 + d) (omega arith),
    lt-leb (87 + d) 57 (omega arith),
    le-leb 97 (87 + d) (omega arith),
    le-leb (87 + d) 102 (omega arith),
  )
      (ap Some (omega arith));
}

either_digit : (is_low : Bool) (d : ℕ) → nat_lt d 10 ≡ is_low → d < 16 → IsDigit (cond is_low (48 + d) (87 + d)) d
either_digit true d is few = let low : d < 10 = grind (arith, nat_tests) in low_digit d low
either_digit false d is few = let high : 10 ≤ d = grind (arith, nat_tests) in high_digit d high few

digit : (d : ℕ) → d < 16 → IsDigit (hex_digit d) d
digit d few = either_digit (nat_lt d 10) d refl few

-- ---- one line

-- the first line feed
found : (text : List ℕ) (i : ℕ) → position_or_len (λ b. b == 10) text ≡ i → i < length text → position (λ b. b == 10) text ≡ Some i
found text i is within = rw (is, lt-ltb i (length text) within) refl

-- its line ends with a digit
typed_whole : (h l b : ℕ) → IsDigit l b → without_return (codes "type " ++ h ∷ l ∷ []) ≡ codes "type " ++ h ∷ l ∷ []
typed_whole h l b low = rw low.return refl

typed_first : (h l a b : ℕ) (rest : List ℕ) → IsDigit h a → IsDigit l b
    → lines_of (codes "type " ++ h ∷ l ∷ 10 ∷ rest) ≡ (codes "type " ++ h ∷ l ∷ []) ∷ lines_of rest
typed_first h l a b rest high low =
    let text = codes "type " ++ h ∷ l ∷ 10 ∷ rest in
    lines_of-feed text 7 (found text 7 (rw (high.feed, low.feed) refl) (omega arith))
    ∙ ap (λ (line : List ℕ). line ∷ lines_of rest) (typed_whole h l b low)

typed_events : (h l a b : ℕ) → IsDigit h a → IsDigit l b → line_events (codes "type " ++ h ∷ l ∷ []) ≡ Some (Key (16 * a + b) ∷ [])
typed_events h l a b high low = rw (high.space, high.tab, low.space, low.tab, high.value, low.value) refl

-- an event is written on a line if a character that is typed is a byte
abbrev pub IsWritten : Event → Type 0
IsWritten (Key b) = b < 256
IsWritten _ = Unit {0}

-- the line of an event comes first
line_first : (event : Event) (rest : List ℕ) → IsWritten event → lines_of (line_of event ++ 10 ∷ rest) ≡ line_of event ∷ lines_of rest
line_first Step rest byte = lines_of-feed (codes "step 1" ++ 10 ∷ rest) 6 (found (codes "step 1" ++ 10 ∷ rest) 6 refl (omega arith))
line_first Tick rest byte = lines_of-feed (codes "tick 1" ++ 10 ∷ rest) 6 (found (codes "tick 1" ++ 10 ∷ rest) 6 refl (omega arith))
line_first (Key b) rest byte =
    typed_first (hex_digit (b / 16)) (hex_digit (b % 16)) (b / 16) (b % 16) rest (digit (b / 16) (omega arith)) (digit (b % 16) (omega arith))
line_first Tx rest byte = lines_of-feed (codes "tx 1" ++ 10 ∷ rest) 4 (found (codes "tx 1" ++ 10 ∷ rest) 4 refl (omega arith))
line_first Disk0 rest byte = lines_of-feed (codes "disk0 1" ++ 10 ∷ rest) 7 (found (codes "disk0 1" ++ 10 ∷ rest) 7 refl (omega arith))
line_first Disk1 rest byte = lines_of-feed (codes "disk1 1" ++ 10 ∷ rest) 7 (found (codes "disk1 1" ++ 10 ∷ rest) 7 refl (omega arith))
line_first Fail0 rest byte = lines_of-feed (codes "fail0" ++ 10 ∷ rest) 5 (found (codes "fail0" ++ 10 ∷ rest) 5 refl (omega arith))
line_first Fail1 rest byte = lines_of-feed (codes "fail1" ++ 10 ∷ rest) 5 (found (codes "fail1" ++ 10 ∷ rest) 5 refl (omega arith))
line_first Dump rest byte = lines_of-feed (codes "dump" ++ 10 ∷ rest) 4 (found (codes "dump" ++ 10 ∷ rest) 4 refl (omega arith))

-- and asks for the event
line_asks : (event : Event) → IsWritten event → line_events (line_of event) ≡ Some (event ∷ [])
line_asks Step byte = refl
line_asks Tick byte = refl
line_asks (Key b) byte =
    let whole : 16 * (b / 16) + b % 16 ≡ b = omega arith in
    typed_events (hex_digit (b / 16)) (hex_digit (b % 16)) (b / 16) (b % 16) (digit (b / 16) (omega arith)) (digit (b % 16) (omega arith))
    ∙ ap (λ (n : ℕ). Some (Key n ∷ [])) whole
line_asks Tx byte = refl
line_asks Disk0 byte = refl
line_asks Disk1 byte = refl
line_asks Fail0 byte = refl
line_asks Fail1 byte = refl
line_asks Dump byte = refl

-- ---- all lines

-- all events are written
abbrev AreWritten : List Event → Type 0
AreWritten [] = Unit {0}
AreWritten (event ∷ events) = IsWritten event × AreWritten events

-- events are read after others
reads_on : (k : ℕ) (before events : List Event) → AreWritten events → length before + length events ≤ most_events
    → read_on k before (lines_of (text_of events)) ≡ Reads (before ++ events)
reads_on k before [] written few = rw text_of-nil (read_on-end k before ∙ ap Reads (sym (append-nil before)))
reads_on k before (event ∷ events) written few =
    let line = line_of event in
    let lines = lines_of (text_of events) in
    let asks = line_asks event written.0 in
    let one : events_at line ≡ event ∷ [] = ap (λ o. unwrap_or o []) asks in
    let first : lines_of (text_of (event ∷ events)) ≡ line ∷ lines =
    ap lines_of (text_of-cons event events) ∙ line_first event (text_of events) written.0 in
    ap (read_on k before) first
    ∙ read_on-next k before line lines (ap is_none asks) (omega (arith, ap length one))
    ∙ ap (λ (es : List Event). read_on (k + 1) (before ++ es) lines) one
    ∙ reads_on (k + 1) (before ++ event ∷ []) events written.1 (omega (arith, length-append before (event ∷ [])))
    ∙ ap Reads (append_assoc before (event ∷ []) events)

-- a choice of two events
either_written : (b : Bool) (x y : Event) → IsWritten x → IsWritten y → IsWritten (cond b x y)
either_written true x y one other = one
either_written false x y one other = other

event_written : (n x : ℕ) → IsWritten (event_of n x)
event_written n x =
    either_written (nat_lt n 52) Step _ tt
    (either_written (nat_lt n 54) Tick _ tt
    (either_written (nat_lt n 55) (Key (drawn 128 x)) _ (omega arith)
    (either_written (nat_lt n 58) Tx _ tt
    (either_written (nat_lt n 63) Disk1 Fail1 tt tt))))

drawn_written : (x : ℕ) → IsWritten (event_in x)
unfolding event_in
drawn_written x = event_written (drawn 64 x) (next x)

all_written : (n x : ℕ) → AreWritten (events_in n x)
all_written zero x = rw (events_in-zero x) tt
all_written (suc n) x = rw (events_in-suc n x) (drawn_written x, all_written n (after_event x))

pub length-events_in : (n x : ℕ) → length (events_in n x) ≡ n
length-events_in zero x = ap length (events_in-zero x)
length-events_in (suc n) x = ap length (events_in-suc n x) ∙ omega (arith, length-events_in n (after_event x))

-- the events that are drawn read, unless there are too many
pub drawn_reads : (n x : ℕ) → n ≤ most_events → reading (text_of (events_in n x)) ≡ Reads (events_in n x)
drawn_reads n x few =
    sym (read_on-start (text_of (events_in n x)))
    ∙ reads_on 1 [] (events_in n x) (all_written n x) (omega (arith, length-events_in n x))
