-- A whole run, printed part by part, up to the line that the host refused.
use Rattle.std.proofs.Common.{◌≡◌, ℕ, List, [], ◌∷◌, ◌++◌, Option, Some, None, IsSome, refl, sym, ap, subst, arith, inl}
use Rattle.host_port.specs.declared.host.HostFault.{HostFault}
use Rattle.host_port.specs.Outside.{Outside}
use Rattle.host_port.proofs.Prints.{emitted_nothing}
use Rattle.host_port.specs.Printing.{Printing, Prints}
use Rattle.machine.proofs.ShownLines.{shown_both}
use Rattle.transcript_laws.specs.Transcripts.{transcript}
use Rattle.xinu_base.specs.declared.events.Event.{Event}
use Rattle.xinu_base.specs.declared.events.End.{End}
use Rattle.xinu_base.specs.declared.lines.TranscriptLine.{TranscriptLine}
use Rattle.xinu_base.specs.declared.lines.TranscriptLine.TheVariants as line
use Rattle.xinu_model.specs.Machine.{Xinu}
use Rattle.xinu_model.specs.Runs.{RunsTo}
use Rattle.xinu_model.specs.Text.{shown, tables_of}
use Rattle.xinu_commands.specs.Transcripts.{RunPrints}

-- nothing is both there and not
pub some_is_none : {X : Type 0} (x : Option X) → IsSome x → x ≡ None → ⊥
some_is_none None some none = cc
some_is_none (Some y) some none = cc

-- A printer that has failed prints any text: nothing of it.
pub prints_failed : (b : Printing) (h : Outside) (t : List ℕ) → IsSome b.failure → Prints b b h h t
prints_failed b h t failed = record {
  mode = refl;
  whole = λ none. absurd (some_is_none b.failure failed none);
  part = (0, emitted_nothing h);
  stays = λ some. (refl, refl);
  nothing = λ none. (refl, refl);
  later = omega arith;
  cause = λ is. inl is;
}

-- What is printed matters only if the printer hasn't failed before.
prints_as_by : (a b : Printing) (h i : Outside) (s t : List ℕ) (f : Option HostFault) → a.failure ≡ f → (a.failure ≡ None → s ≡ t)
    → Prints a b h i s → Prints a b h i t
prints_as_by a b h i s t None is same prints =
    let P : List ℕ → Type 0 = λ x. Prints a b h i x in subst P (same is) prints
prints_as_by a b h i s t (Some f) is same prints =
    let failed : IsSome a.failure = rw is refl in
    let stays = prints.stays failed in
    let P : Printing → Type 0 = λ p. Prints a p h h t in
    let Q : Outside → Type 0 = λ x. Prints a b h x t in
    subst Q (sym stays.1) (subst P (sym stays.0) (prints_failed a h t failed))

pub prints_as : (a b : Printing) (h i : Outside) (s t : List ℕ) → (a.failure ≡ None → s ≡ t) → Prints a b h i s → Prints a b h i t
prints_as a b h i s t same prints = prints_as_by a b h i s t a.failure refl same prints

-- The transcript of a run was printed; if all of it was, the machine is in the run's last state.
pub record PrintsTranscript (start : Xinu) (events : List Event) (new : Xinu) (before after : Printing) (was is : Outside) : Type 0 where
  pub lines : List TranscriptLine
  pub last : Xinu
  pub end : End
  pub runs : RunsTo start events lines last end
  pub prints : Prints before after was is (shown before.plain (transcript start lines last end))
  pub whole : after.failure ≡ None → last ≡ new

-- The line of the first process, the lines of the events, the tables and the last line are a transcript.
pub all_printed : (start : Xinu) (events : List Event) (new : Xinu) (end : End) (a b c d e : Printing) (h i j k l : Outside)
    → Prints a b h i (shown a.plain (line.Switch start.tables.current ∷ [])) → RunPrints start events new end b c i j
    → Prints c d j k (shown c.plain (tables_of new)) → Prints d e k l (shown d.plain (line.End end ∷ []))
    → PrintsTranscript start events new a e h l
all_printed start events new end a b c d e h i j k l first run tables last =
    let tables_same : Prints c d j k (shown c.plain (tables_of run.last)) =
    prints_as c d j k (shown c.plain (tables_of new)) (shown c.plain (tables_of run.last)) (λ none. ap (λ (s : Xinu). shown c.plain (tables_of s)) (sym (run.whole none).0)) tables in
    let last_same : Prints d e k l (shown d.plain (line.End run.ends ∷ [])) =
    prints_as d e k l (shown d.plain (line.End end ∷ [])) (shown d.plain (line.End run.ends ∷ [])) (λ none. ap (λ (x : End). shown d.plain (line.End x ∷ [])) (sym (run.whole (tables.whole none).0).1)) last in
    record {
      lines = run.lines;
      last = run.last;
      end = run.ends;
      runs = run.runs;
      prints = shown_both a d e h k l (line.Switch start.tables.current ∷ run.lines ++ tables_of run.last) (line.End run.ends ∷ [])
          (shown_both a c d h j k (line.Switch start.tables.current ∷ run.lines) (tables_of run.last)
          (shown_both a b c h i j (line.Switch start.tables.current ∷ []) run.lines first run.prints) tables_same) last_same;
      whole = λ none. (run.whole (tables.whole (last.whole none).0).0).0;
    }
