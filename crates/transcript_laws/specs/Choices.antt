-- What a text tells of the choice in the event with which it begins: how many calls on files took effect in it, more than had to.
use Rattle.std.specs.Prelude.{ℕ, suc, ◌-◌, ◌==◌, Bool, ◌&&◌, codes, if◌then◌else◌, List, [], ◌∷◌, ◌++◌, length, drop, Option, Some, None, unwrap_or}
use Rattle.xinu_base.specs.declared.events.Event.{Event}
use Rattle.xinu_base.specs.declared.events.Event.TheVariants.{Step, Disk1}
use Rattle.xinu_base.specs.declared.lines.FileMoment.{FileMoment}
use Rattle.xinu_base.specs.declared.lines.FileMoment.TheVariants.{Finished, Next}
use Rattle.xinu_base.specs.declared.lines.TranscriptLine.TheVariants as line
use Rattle.xinu_model.specs.Events.{next_file_call}
use Rattle.xinu_model.specs.Files.Syscalls.{files_of}
use Rattle.xinu_model.specs.Files.Work.{FileRequest, least_effects}
use Rattle.xinu_model.specs.Machine.{Xinu}
use Rattle.xinu_model.specs.Text.{line_text}
use Rattle.transcript_laws.specs.Reading.{starts_with}

-- the line of what happened to a call on files
abbrev pub moment_text : FileMoment → FileRequest → List ℕ
moment_text moment a = line_text (line.File (unwrap_or a.caller 0) moment)

-- how many of these calls a text says took effect, each as it became the first
abbrev pub nexts_told : List FileRequest → List ℕ → ℕ
nexts_told [] rest = 0
nexts_told (a ∷ calls) rest =
    if starts_with (moment_text Next a) rest then suc (nexts_told calls (drop (length (moment_text Next a)) rest)) else 0

-- how many of these calls a text says took effect at a good completion of the disk
abbrev pub effects_told : List FileRequest → List ℕ → ℕ
effects_told [] rest = 0
effects_told (a ∷ calls) rest =
    if starts_with (moment_text Finished a) rest then suc (nexts_told calls (drop (length (moment_text Finished a)) rest)) else 0

-- a text after its first line
abbrev pub after_line : List ℕ → List ℕ
after_line [] = []
after_line (b ∷ rest) = if b == 10 then rest else after_line rest

-- a text after its first blank
abbrev pub after_blank : List ℕ → List ℕ
after_blank [] = []
after_blank (b ∷ rest) = if b == 32 then rest else after_blank rest

-- whether a text begins with the line of a call on files that took effect, `file P done`, whoever P is
abbrev pub begins_done : List ℕ → Bool
begins_done rest = starts_with (codes "file ") rest && starts_with (codes "done" ++ 10 ∷ []) (after_blank (drop 5 rest))

-- whether a text begins with the line of a call and then that of a call on files that took effect: it did so as it was made
abbrev pub says_done : List ℕ → Bool
says_done rest = starts_with (codes "call ") rest && begins_done (after_line rest)

-- whether the call on files that a step makes took effect as it was made, if the step makes one
abbrev pub step_told : Option FileRequest → List ℕ → ℕ
step_told None rest = 0
step_told (Some a) rest = if says_done rest then 1 else 0

-- The choice that a text tells.
abbrev pub told : Xinu → Event → List ℕ → ℕ
told s Step rest = step_told (next_file_call s) rest
told s Disk1 rest = effects_told (files_of s).calls rest - least_effects (files_of s).calls (files_of s)
told s _ rest = 0
