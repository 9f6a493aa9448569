-- What both passes together give.
use Rattle.std.proofs.Common.{◌≡◌, ℕ, true, List, length, Option, None, sym, ap, ◌∙◌}
use Rattle.std.specs.Prelude.{unwrap_or, is_some, Result, Ok, Err, MatchResult, IfOk}
use Rattle.image_loader.specs.ImageFiles.{image_in}
use Rattle.rv_asm.specs.Assembly.{Assembly, Makes, assembly, assembled_lines, lines_in, content, ended, is_void, header, image_file}
use Rattle.rv_asm.specs.Assembly.{IsFault, IsFaultOf}
use Rattle.rv_asm.specs.CodeAssembly.{IsFirst}
use Rattle.rv_asm.specs.Faults.{first_fault, first_astray}
use Rattle.rv_asm.specs.Layouts.{Layout, after_all, start}
use Rattle.rv_asm.specs.declared.faults.AsmFault.{AsmFault}
use Rattle.rv_asm.proofs.LoadLemmas.{assembled-loads}
use Rattle.rv_asm.proofs.PassLemmas.{fails-first, fault-along}

-- what a text is assembled to, given what all its lines set
assembly-is : (text : List ℕ) (end : Layout) → end ≡ after_all (lines_in text) start
    → assembly text ≡ assembled_lines (lines_in text) end (content end.labels (lines_in text) start)
unfolding assembly
assembly-is text end is = sym (ap (λ (e : Layout). assembled_lines (lines_in text) e (content e.labels (lines_in text) start)) is)

-- a text with a line at fault
pub assembly-fails : (fault : AsmFault) (text : List ℕ) (end : Layout) → end ≡ after_all (lines_in text) start
    → IsFirst fault (first_fault end.labels 1 (lines_in text) start) → IsFaultOf fault text
assembly-fails fault text end is first =
    fault-along fault (assembly text) (assembled_lines (lines_in text) end (content end.labels (lines_in text) start))
    (assembly-is text end is)
    (fails-first fault (first_fault end.labels 1 (lines_in text) start) _ _ _ first)

-- a text without one
pub assembly-sound : (text : List ℕ) (end : Layout) (astray : Option AsmFault) (bytes : List ℕ) → end ≡ after_all (lines_in text) start
    → first_fault end.labels 1 (lines_in text) start ≡ None
    → astray ≡ first_astray end.labels (unwrap_or end.place 0) end.at 1 (lines_in text) start
    → bytes ≡ content end.labels (lines_in text) start
    → assembly text ≡ ended None astray (is_void end (length bytes)) (image_file (header end (length bytes)) bytes)
assembly-sound text end astray bytes is none first all =
    assembly-is text end is
    ∙ ap
    (λ (o : Option AsmFault). ended o (first_astray end.labels (unwrap_or end.place 0) end.at 1 (lines_in text) start)
    (is_void end (length (content end.labels (lines_in text) start)))
    (image_file (header end (length (content end.labels (lines_in text) start))) (content end.labels (lines_in text) start)))
    none
    ∙ ap
    (λ (o : Option AsmFault). ended None o (is_void end (length (content end.labels (lines_in text) start)))
    (image_file (header end (length (content end.labels (lines_in text) start))) (content end.labels (lines_in text) start)))
    (sym first)
    ∙ ap (λ (l : List ℕ). ended None astray (is_void end (length l)) (image_file (header end (length l)) l)) (sym all)

-- an answer to one assembly answers an equal one
pub answers-along : {V : Type 0} (items : V → List ℕ) (r : Result V AsmFault) (a b : Assembly) → a ≡ b
    → MatchResult r (λ file. b ≡ Makes (items file)) (λ fault. IsFault fault b)
    → MatchResult r (λ file. a ≡ Makes (items file)) (λ fault. IsFault fault a)
answers-along items (Ok file) a b same is = same ∙ is
answers-along items (Err fault) a b same is = fault-along fault a b same is

-- a file that is answered loads
pub answer-loads : {V : Type 0} (items : V → List ℕ) (r : Result V AsmFault) (text : List ℕ)
    → MatchResult r (λ file. assembly text ≡ Makes (items file)) (λ fault. IsFaultOf fault text)
    → IfOk r (λ file. is_some (image_in (items file)) ≡ true)
answer-loads items (Ok file) text is = assembled-loads text (items file) is
answer-loads items (Err fault) text is = tt
