-- A text is accepted of the machine that starts with images on disks if and only if it is the transcript of a run of it.
use Rattle.std.proofs.Common.{◌≡◌, ◌↔◌, ◌<◌, ℕ, true, List, [], ◌∷◌, ◌++◌, length, drop, refl, sym, ap, ◌∙◌, append_assoc}
use Rattle.std.specs.Prelude.{◌&&◌}
use Rattle.std.proofs.lemmas.Bool.{and_parts}
use Rattle.xinu_base.specs.Constants.{NPROC}
use Rattle.xinu_base.specs.declared.events.Event.{Event}
use Rattle.xinu_base.specs.declared.lines.TranscriptLine.{TranscriptLine}
use Rattle.xinu_base.specs.declared.lines.TranscriptLine.TheVariants as line
use Rattle.xinu_laws.proofs.Preserve.Disks.{sound_boot_on}
use Rattle.part_laws.specs.GivenDisks.{AreSoundDisks}
use Rattle.xinu_model.specs.Boot.{Boots, Disks, Loaded, NoRoom, Overlaps, Start, boot_on}
use Rattle.xinu_model.specs.Machine.{Xinu}
use Rattle.xinu_model.specs.Sound.State.{IsSound}
use Rattle.xinu_model.specs.Text.{tables_of, text}
use Rattle.transcript_laws.specs.Choices.{told}
use Rattle.transcript_laws.specs.Reading.{Prints, accepts, last_lines, starts_with}
use Rattle.transcript_laws.specs.Transcripts.{IsText, checks, checks_from, first_text}
use Rattle.transcript_laws.proofs.Accepted.{accepts_exactly}
use Rattle.transcript_laws.proofs.Texts.{begun, rest_of, starts}
use Rattle.transcript_laws.proofs.Told.{tells}

-- the lines of a whole transcript, however they are grouped
grouped : (p : ℕ) (lines tables end : List TranscriptLine)
    → line.Switch p ∷ ((lines ++ tables) ++ end) ≡ line.Switch p ∷ (lines ++ (tables ++ end))
grouped p lines tables end = ap (λ l. line.Switch p ∷ l) (append_assoc lines tables end)

-- A transcript is the first line, and what the run prints from there on.
pub printed : (disks : Disks) (images : List Loaded) (events : List Event) (bytes : List ℕ) (x : IsText disks images events bytes)
    → bytes ≡ first_text x.run.start ++ text (x.run.lines ++ last_lines x.last x.run.end)
printed disks images events bytes x =
    let t = x.run in
    x.is ∙ ap text (t.whole ∙ grouped t.start.tables.current t.lines (tables_of x.last) (line.End t.end ∷ []))

-- what is accepted of a machine that started is the text of a run
checked_text : (disks : Disks) (images : List Loaded) (events : List Event) (bytes : List ℕ)
    → ((s : Xinu) → boot_on disks images ≡ Boots s → IsSound s)
    → (how : Start) → boot_on disks images ≡ how → checks_from how events bytes ≡ true → IsText disks images events bytes
checked_text disks images events bytes sound (Boots s) b e =
    let both = and_parts (starts_with (first_text s) bytes) _ e in
    let p = (accepts_exactly told tells s events (drop (length (first_text s)) bytes) (sound s b)).0 both.1 in
    record {
      last = p.last;
      all = line.Switch s.tables.current ∷ (p.lines ++ last_lines p.last p.end);
      run = record {
        start = s;
        boots = b;
        lines = p.lines;
        end = p.end;
        runs = p.runs;
        whole = sym (grouped s.tables.current p.lines (tables_of p.last) (line.End p.end ∷ []));
      };
      is = begun (first_text s) bytes both.0 ∙ ap (λ t. first_text s ++ t) p.is;
    }
checked_text disks images events bytes sound (Overlaps i) b e = absurd (cc)
checked_text disks images events bytes sound (NoRoom i) b e = absurd (cc)

-- the text of a run is accepted
text_checked : (disks : Disks) (images : List Loaded) (events : List Event) (bytes : List ℕ)
    → ((s : Xinu) → boot_on disks images ≡ Boots s → IsSound s)
    → IsText disks images events bytes → checks disks images events bytes ≡ true
text_checked disks images events bytes sound x =
    let t = x.run in
    let s = t.start in
    let rest = text (t.lines ++ last_lines x.last t.end) in
    let p : Prints s events rest = record { lines = t.lines; last = x.last; end = t.end; runs = t.runs; is = refl } in
    let accepted = (accepts_exactly told tells s events rest (sound s t.boots)).1 p in
    ap (λ h. checks_from h events bytes) t.boots
    ∙ ap (λ (y : List ℕ). checks_from (Boots s) events y) (printed disks images events bytes x)
    ∙ ap (λ c. c && accepts told s events (drop (length (first_text s)) (first_text s ++ rest))) (starts (first_text s) rest)
    ∙ ap (λ y. accepts told s events y) (rest_of (first_text s) rest)
    ∙ accepted

-- A text is accepted if and only if it is the transcript of a run.
pub checks_exactly : (disks : Disks) (images : List Loaded) (events : List Event) (bytes : List ℕ) → length images < NPROC
    → AreSoundDisks disks
    → checks disks images events bytes ≡ true ↔ IsText disks images events bytes
checks_exactly disks images events bytes few k =
    let sound : (s : Xinu) → boot_on disks images ≡ Boots s → IsSound s = λ s b. sound_boot_on disks images s few k b in
    (λ e. checked_text disks images events bytes sound (boot_on disks images) refl e, λ x. text_checked disks images events bytes sound x)
