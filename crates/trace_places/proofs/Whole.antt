-- A whole text: it is the transcript of a run, or it goes wrong at a place.
use Rattle.std.proofs.Common.{◌≡◌, ◌<◌, ◌≤◌, ℕ, true, List, [], ◌∷◌, ◌++◌, drop, length, Option, Some, None, refl, sym, ap, ◌∙◌, subst, ⊎_elim, append_assoc, append-nil, arith}
use Rattle.std.specs.Prelude.{◌&&◌, MatchOption, bytes_eq, if◌then◌else◌}
use Rattle.std.proofs.lemmas.Bool.{and_parts, cond_both}
use Rattle.std.proofs.lemmas.List.{length-append}
use Rattle.part_laws.proofs.FileSystems.Orders.{same_bytes}
use Rattle.part_laws.specs.GivenDisks.{AreSoundDisks}
use Rattle.xinu_base.specs.Constants.{NPROC}
use Rattle.xinu_base.specs.declared.events.End.{End}
use Rattle.xinu_base.specs.declared.events.End.TheVariants.{Schedule}
use Rattle.xinu_base.specs.declared.events.Event.{Event}
use Rattle.xinu_base.specs.declared.lines.TranscriptLine.{TranscriptLine}
use Rattle.xinu_base.specs.declared.lines.TranscriptLine.TheVariants as line
use Rattle.xinu_laws.proofs.Preserve.Disks.{sound_boot_on}
use Rattle.xinu_model.specs.Boot.{Boots, Disks, Loaded, boot_on}
use Rattle.xinu_model.specs.Events.{effect_of}
use Rattle.xinu_model.specs.Machine.{Xinu}
use Rattle.xinu_model.specs.Runs.{IsTranscript, RunsTo, end_with, is_over}
use Rattle.xinu_model.specs.Sound.State.{IsSound}
use Rattle.xinu_model.specs.Text.{line_text, tables_of, text}
use Rattle.transcript_laws.specs.Choices.{told}
use Rattle.transcript_laws.specs.Reading.{accepts, accepts_after, last_lines, starts_with}
use Rattle.transcript_laws.specs.Transcripts.{IsText, checks_from, first_text}
use Rattle.transcript_laws.proofs.Checked.{checks_exactly}
use Rattle.transcript_laws.proofs.Texts.{begun, rest_of, same_rest, starts}
use Rattle.trace_places.specs.Places.{IsMistake, Place, due_lines, mistake_after, mistake_from, mistake_in, mistake_of, mistake_past}
use Rattle.trace_places.proofs.Exact.{IsMistakeFrom, a_run, mistake_is}
use Rattle.trace_places.proofs.Stops.{GoesOn, StopsIn, stops, stuck}
use Rattle.file_laws.proofs.Named.{bytes-self}

-- lines that are in a text are read off it
read_past : (lines : List TranscriptLine) (rest : List ℕ) (next : List ℕ → Option Place)
    → mistake_in lines (text lines ++ rest) next ≡ next rest
read_past [] rest next = refl
read_past (l ∷ lines) rest next =
    let here : List ℕ → Option Place = λ r. if starts_with (line_text l) r then mistake_in lines (drop (length (line_text l)) r) next else Some (record { left = r; due = Some l }) in
    let left = text lines ++ rest in
    ap here (append_assoc (line_text l) (text lines) rest)
    ∙ ap (λ b. if b then mistake_in lines (drop (length (line_text l)) (line_text l ++ left)) next else Some (record { left = line_text l ++ left; due = Some l })) (starts (line_text l) left)
    ∙ ap (λ r. mistake_in lines r next) (rest_of (line_text l) left)
    ∙ read_past lines rest next

read_begun : (lines : List TranscriptLine) (rest : List ℕ) (next : List ℕ → Option Place) → starts_with (text lines) rest ≡ true
    → mistake_in lines rest next ≡ next (drop (length (text lines)) rest)
read_begun lines rest next begins =
    ap (λ r. mistake_in lines r next) (begun (text lines) rest begins) ∙ read_past lines (drop (length (text lines)) rest) next

-- A text that is accepted goes wrong nowhere.
last_accepted : (s : Xinu) (end : End) (rest : List ℕ) → bytes_eq (text (last_lines s end)) rest ≡ true
    → mistake_in (last_lines s end) rest mistake_past ≡ None
last_accepted s end rest holds =
    let lines = last_lines s end in
    let is : rest ≡ text lines ++ [] = sym (same_bytes (text lines) rest holds) ∙ sym (append-nil (text lines)) in
    ap (λ r. mistake_in lines r mistake_past) is ∙ read_past lines [] mistake_past

after_accepted : (o : Option End) (s : Xinu) (events : List Event) (rest : List ℕ)
    → (accepts told s events rest ≡ true → mistake_from s events rest ≡ None)
    → accepts_after o (λ y. accepts told s events y) s rest ≡ true → mistake_after o (λ y. mistake_from s events y) s rest ≡ None
after_accepted (Some end) s events rest go holds = last_accepted s end rest holds
after_accepted None s events rest go holds = go holds

none_accepted : (events : List Event) (s : Xinu) (rest : List ℕ) → accepts told s events rest ≡ true → mistake_from s events rest ≡ None
none_accepted [] s rest holds = last_accepted s Schedule rest holds
none_accepted (e ∷ events) s rest holds =
    let x = effect_of s e (told s e rest) in
    let o = end_with x.panics (is_over x.state) in
    let left = drop (length (text x.lines)) rest in
    let both = and_parts (starts_with (text x.lines) rest) (accepts_after o (λ y. accepts told x.state events y) x.state left) holds in
    read_begun x.lines rest (λ more. mistake_after o (λ y. mistake_from x.state events y) x.state more) both.0
    ∙ after_accepted o x.state events left (none_accepted events x.state left) both.1

-- lines in which a text goes wrong nowhere are in it
record Reads (lines : List TranscriptLine) (rest : List ℕ) (next : List ℕ → Option Place) : Type 0 where
  left : List ℕ
  splits : rest ≡ text lines ++ left
  is : next left ≡ None

reads : (lines : List TranscriptLine) (rest : List ℕ) (next : List ℕ → Option Place) → mistake_in lines rest next ≡ None → Reads lines rest next
reads [] rest next e = record { left = rest; splits = refl; is = e }
reads (l ∷ lines) rest next e =
    let left = drop (length (line_text l)) rest in
    cond_both (starts_with (line_text l) rest) (mistake_in lines left next) (Some (record { left = rest; due = Some l }))
    (λ (o : Option Place). o ≡ None → Reads (l ∷ lines) rest next)
    (λ begins is. let r = reads lines left next is in
    record {
      left = r.left;
      splits = begun (line_text l) rest begins ∙ ap (λ x. line_text l ++ x) r.splits ∙ sym (append_assoc (line_text l) (text lines) r.left);
      is = r.is;
    })
    (λ _ is. absurd (cc)) e

-- A text that goes wrong nowhere is accepted.
past_none : (left : List ℕ) → mistake_past left ≡ None → left ≡ []
past_none [] e = refl
past_none (b ∷ left) e = absurd (cc)

last_read : (s : Xinu) (end : End) (rest : List ℕ) → mistake_in (last_lines s end) rest mistake_past ≡ None
    → bytes_eq (text (last_lines s end)) rest ≡ true
last_read s end rest e =
    let lines = last_lines s end in
    let r = reads lines rest mistake_past e in
    let is : rest ≡ text lines = r.splits ∙ ap (λ x. text lines ++ x) (past_none r.left r.is) ∙ append-nil (text lines) in
    ap (bytes_eq (text lines)) is ∙ bytes-self (text lines)

after_read : (o : Option End) (s : Xinu) (events : List Event) (rest : List ℕ)
    → (mistake_from s events rest ≡ None → accepts told s events rest ≡ true)
    → mistake_after o (λ y. mistake_from s events y) s rest ≡ None → accepts_after o (λ y. accepts told s events y) s rest ≡ true
after_read (Some end) s events rest go e = last_read s end rest e
after_read None s events rest go e = go e

accepted_none : (events : List Event) (s : Xinu) (rest : List ℕ) → mistake_from s events rest ≡ None → accepts told s events rest ≡ true
accepted_none [] s rest e = last_read s Schedule rest e
accepted_none (e ∷ events) s rest none =
    let x = effect_of s e (told s e rest) in
    let o = end_with x.panics (is_over x.state) in
    let r = reads x.lines rest (λ more. mistake_after o (λ y. mistake_from x.state events y) x.state more) none in
    let left = drop (length (text x.lines)) rest in
    let begins : starts_with (text x.lines) rest ≡ true = ap (starts_with (text x.lines)) r.splits ∙ starts (text x.lines) r.left in
    let left_is : left ≡ r.left = ap (drop (length (text x.lines))) r.splits ∙ rest_of (text x.lines) r.left in
    ap (λ b. b && accepts_after o (λ y. accepts told x.state events y) x.state left) begins
    ∙ ap (λ y. accepts_after o (λ z. accepts told x.state events z) x.state y) left_is
    ∙ after_read o x.state events r.left (accepted_none events x.state r.left) r.is

-- The same of a whole text.
first_is : (s : Xinu) → text (line.Switch s.tables.current ∷ []) ≡ first_text s
first_is s = append-nil (first_text s)

abbrev next_of : Xinu → List Event → List ℕ → Option Place
next_of s events = λ more. mistake_from s events more

none_checked : (s : Xinu) (events : List Event) (bytes : List ℕ) → checks_from (Boots s) events bytes ≡ true → mistake_of s events bytes ≡ None
none_checked s events bytes holds =
    let left = drop (length (first_text s)) bytes in
    let both = and_parts (starts_with (first_text s) bytes) (accepts told s events left) holds in
    ap (λ b. if b then mistake_from s events left else Some (record { left = bytes; due = Some (line.Switch s.tables.current) })) both.0
    ∙ none_accepted events s left both.1

checked_none : (s : Xinu) (events : List Event) (bytes : List ℕ) → mistake_of s events bytes ≡ None → checks_from (Boots s) events bytes ≡ true
checked_none s events bytes none =
    let first = line.Switch s.tables.current in
    let r = reads (first ∷ []) bytes (next_of s events) none in
    let whole : bytes ≡ first_text s ++ r.left = r.splits ∙ ap (λ x. x ++ r.left) (first_is s) in
    ap (λ b. b && accepts told s events (drop (length (first_text s)) bytes)) (ap (starts_with (first_text s)) whole ∙ starts (first_text s) r.left)
    ∙ ap (λ y. accepts told s events y) (ap (drop (length (first_text s))) whole ∙ rest_of (first_text s) r.left)
    ∙ accepted_none events s r.left r.is

-- Images that start on sound disks.
pub record StartsSo (disks : Disks) (images : List Loaded) (s : Xinu) : Type 0 where
  pub few : length images < NPROC
  pub disks_sound : AreSoundDisks disks
  pub boots : boot_on disks images ≡ Boots s

-- the lines of a whole transcript, however they are grouped
grouped : (first : TranscriptLine) (lines tables end : List TranscriptLine)
    → first ∷ ((lines ++ tables) ++ end) ≡ first ∷ (lines ++ (tables ++ end))
grouped first lines tables end = ap (λ l. first ∷ l) (append_assoc lines tables end)

-- the lines of a run that starts so, after the first
record RunOf (s : Xinu) (events : List Event) (all : List TranscriptLine) : Type 0 where
  lines : List TranscriptLine
  last : Xinu
  end : End
  runs : RunsTo s events lines last end
  is : all ≡ line.Switch s.tables.current ∷ (lines ++ last_lines last end)

run_of : (disks : Disks) (images : List Loaded) (events : List Event) (s : Xinu) (last : Xinu) (all : List TranscriptLine)
    → boot_on disks images ≡ Boots s → IsTranscript disks images events last all → RunOf s events all
run_of disks images events s last all boots t =
    let b : Boots t.start ≡ Boots s = sym t.boots ∙ boots in
    let same : t.start ≡ s = cc in
    let P : Xinu → Type 0 = λ x. RunsTo x events t.lines last t.end → all ≡ line.Switch x.tables.current ∷ (t.lines ++ last_lines last t.end) → RunOf s events all in
    subst P (sym same) (λ runs is. record { lines = t.lines; last = last; end = t.end; runs = runs; is = is }) t.runs
    (t.whole ∙ grouped (line.Switch t.start.tables.current) t.lines (tables_of last) (line.End t.end ∷ []))

transcript_of : (disks : Disks) (images : List Loaded) (events : List Event) (s : Xinu) (lines : List TranscriptLine) (last : Xinu) (end : End)
    (all : List TranscriptLine) → boot_on disks images ≡ Boots s → RunsTo s events lines last end
    → all ≡ line.Switch s.tables.current ∷ (lines ++ last_lines last end) → IsTranscript disks images events last all
transcript_of disks images events s lines last end all boots runs is = record {
  start = s;
  boots = boots;
  lines = lines;
  end = end;
  runs = runs;
  whole = is ∙ sym (grouped (line.Switch s.tables.current) lines (tables_of last) (line.End end ∷ []));
}

-- in the first line
first_wrong : (disks : Disks) (images : List Loaded) (events : List Event) (s : Xinu) (bytes : List ℕ) (p : Place) → StartsSo disks images s
    → IsSound s → (IsText disks images events bytes → ⊥) → StopsIn (line.Switch s.tables.current ∷ []) bytes p
    → IsMistake disks images events bytes p.left p.due
first_wrong disks images events s bytes p k sound none stop =
    let first = line.Switch s.tables.current in
    let r = a_run events s sound in
    let after = r.lines ++ last_lines r.last r.end in
    let with_more : (more : List TranscriptLine) → first ∷ more ≡ stop.front ++ stop.line ∷ (stop.more ++ more) =
    λ more. ap (λ l. l ++ more) stop.are ∙ append_assoc stop.front (stop.line ∷ stop.more) more in
    record {
      front = stop.front;
      more = stop.more ++ after;
      last = r.last;
      splits = stop.splits;
      begins = transcript_of disks images events s r.lines r.last r.end (stop.front ++ due_lines p.due (stop.more ++ after)) k.boots r.runs
          (ap (λ d. stop.front ++ due_lines d (stop.more ++ after)) stop.due ∙ sym (with_more after));
      most = λ lines others other rest t split.
          (let x = run_of disks images events s other (lines ++ others) k.boots t in
          stuck stop.front stop.line (stop.more ++ (x.lines ++ last_lines x.last x.end)) lines others p.left rest stop.apart
          (x.is ∙ with_more (x.lines ++ last_lines x.last x.end)) (sym stop.splits ∙ split));
      none = none;
    }

-- after it
later_wrong : (disks : Disks) (images : List Loaded) (events : List Event) (s : Xinu) (bytes left : List ℕ) (p : Place) → StartsSo disks images s
    → (IsText disks images events bytes → ⊥) → bytes ≡ text (line.Switch s.tables.current ∷ []) ++ left → IsMistakeFrom s events left p
    → IsMistake disks images events bytes p.left p.due
later_wrong disks images events s bytes left p k none split_here m =
    let first = line.Switch s.tables.current in
    let one = split_here ∙ ap (λ l. l ++ left) (first_is s) in
    record {
      front = first ∷ m.front;
      more = m.more;
      last = m.last;
      splits = one ∙ ap (λ l. first_text s ++ l) m.splits ∙ sym (append_assoc (first_text s) (text m.front) p.left);
      begins = transcript_of disks images events s m.lines m.last m.end (first ∷ (m.front ++ due_lines p.due m.more)) k.boots m.runs
          (ap (λ l. first ∷ l) (sym m.are));
      most = λ lines others other rest t split.
          (let x = run_of disks images events s other (lines ++ others) k.boots t in
          by_lines lines others rest x.lines x.last x.end x.runs x.is (sym one ∙ split));
      none = none;
    }
  where
    by_lines : (f others : List TranscriptLine) (rest : List ℕ) (lines : List TranscriptLine) (last : Xinu) (end : End)
        → RunsTo s events lines last end → f ++ others ≡ line.Switch s.tables.current ∷ (lines ++ last_lines last end)
        → first_text s ++ left ≡ text f ++ rest → length (text f) ≤ length (text (line.Switch s.tables.current ∷ m.front))
    by_lines [] others rest lines last end runs is whole = omega arith
    by_lines (l ∷ f) others rest lines last end runs is whole =
        let first = line.Switch s.tables.current in
        let same : l ≡ first = cc in
        let tail : f ++ others ≡ lines ++ last_lines last end = cc in
        let texts : first_text s ++ left ≡ first_text s ++ (text f ++ rest) =
        whole ∙ append_assoc (line_text l) (text f) rest ∙ ap (λ (h : TranscriptLine). line_text h ++ (text f ++ rest)) same in
        let n = m.most lines last end f others rest runs tail (same_rest (first_text s) left (text f ++ rest) texts) in
        let mine = length-append (line_text l) (text f) in
        let theirs = length-append (first_text s) (text m.front) in
        let line_is = ap (λ (h : TranscriptLine). length (line_text h)) same in
        omega (arith, n, mine, theirs, line_is)

-- A text is the transcript of a run if and only if it goes wrong nowhere.
pub is_text : (disks : Disks) (images : List Loaded) (events : List Event) (s : Xinu) (bytes : List ℕ) → StartsSo disks images s
    → mistake_of s events bytes ≡ None → IsText disks images events bytes
is_text disks images events s bytes k none =
    (checks_exactly disks images events bytes k.few k.disks_sound).0 (ap (λ h. checks_from h events bytes) k.boots ∙ checked_none s events bytes none)

no_text : (disks : Disks) (images : List Loaded) (events : List Event) (s : Xinu) (bytes : List ℕ) (p : Place) → StartsSo disks images s
    → mistake_of s events bytes ≡ Some p → IsText disks images events bytes → ⊥
no_text disks images events s bytes p k some is =
    let holds = ap (λ h. checks_from h events bytes) (sym k.boots) ∙ (checks_exactly disks images events bytes k.few k.disks_sound).1 is in
    let wrong : Some p ≡ None = sym some ∙ none_checked s events bytes holds in absurd (cc)

-- Else it goes wrong where it is said.
pub is_mistake : (disks : Disks) (images : List Loaded) (events : List Event) (s : Xinu) (bytes : List ℕ) (p : Place) → StartsSo disks images s
    → mistake_of s events bytes ≡ Some p → IsMistake disks images events bytes p.left p.due
is_mistake disks images events s bytes p k some =
    let sound = sound_boot_on disks images s k.few k.disks_sound k.boots in
    let none = no_text disks images events s bytes p k some in
    let first = line.Switch s.tables.current in
    ⊎_elim (λ stop. first_wrong disks images events s bytes p k sound none stop)
    (λ (g : GoesOn (first ∷ []) bytes (next_of s events) (Some p)).
    later_wrong disks images events s bytes g.left p k none g.splits (mistake_is events s g.left p sound g.is))
    (stops (first ∷ []) bytes (next_of s events) p some)

-- A text is a transcript, or goes wrong at its place.
pub exact : (disks : Disks) (images : List Loaded) (events : List Event) (s : Xinu) (bytes : List ℕ) → length images < NPROC
    → AreSoundDisks disks → boot_on disks images ≡ Boots s
    → MatchOption (mistake_of s events bytes) (IsText disks images events bytes) (λ p. IsMistake disks images events bytes p.left p.due)
exact disks images events s bytes few sound boots = by_place (mistake_of s events bytes) refl
  where
    by_place : (o : Option Place) → mistake_of s events bytes ≡ o
        → MatchOption o (IsText disks images events bytes) (λ p. IsMistake disks images events bytes p.left p.due)
    by_place None is = is_text disks images events s bytes (record { few = few; disks_sound = sound; boots = boots }) is
    by_place (Some p) is = is_mistake disks images events s bytes p (record { few = few; disks_sound = sound; boots = boots }) is
