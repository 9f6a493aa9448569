-- What events say that aren't dumps.
use Rattle.std.proofs.Common.{◌≡◌, ℕ, List, refl, subst, sym}
use Rattle.printed_runs.specs.Notes.{said_after}
use Rattle.printed_runs.specs.Semaphores.{Knows}
use Rattle.printed_runs.specs.declared.notes.Note.{Note}
use Rattle.printed_runs.specs.declared.reader.Reader.{Reader}
use Rattle.text_lines.specs.Lines.{lines_of}
use Rattle.xinu_base.specs.declared.events.Event.{Event}
use Rattle.xinu_base.specs.declared.events.Event.TheVariants.{Step, Tick, Key, Tx, Disk0, Disk1, Fail0, Fail1, Dump}
use Rattle.run_story.specs.Said.{said_by}

-- no dump
pub said_else : (event : Event) (text : List ℕ) (said : List Note) → (event ≡ Dump → ⊥) → said_after (lines_of text) said ≡ said_by event text said
said_else Dump text said h = absurd (h refl)
said_else Step text said h = refl
said_else Tick text said h = refl
said_else (Key b) text said h = refl
said_else Tx text said h = refl
said_else Disk0 text said h = refl
said_else Disk1 text said h = refl
said_else Fail0 text said h = refl
said_else Fail1 text said h = refl

-- a reader that stays as it is knows what it knew
pub same_reader : (said : List Note) (a b c d : Reader) → b ≡ a → c ≡ b → d ≡ c → Knows said a.usages → Knows said d.usages
same_reader said a b c d one two three k =
    let P : Reader → Type 0 = λ r. Knows said r.usages in
    subst P (sym three) (subst P (sym two) (subst P (sym one) k))
