-- One more line of the second pass.
use Rattle.std.proofs.Common.{◌≡◌, ℕ, ◌+◌, Bool, List, ◌∷◌, ◌++◌, map, Option, Some, None, refl, sym, ap, ◌∙◌, append_assoc}
use Rattle.asm_syntax.specs.Statements.{Line, line_of}
use Rattle.text_lines.specs.Lines.{lines_of}
use Rattle.rv_asm.specs.Assembly.{lines_in, content, bytes_at, Assembly, ended, IsFault}
use Rattle.rv_asm.specs.CodeAssembly.{IsFirst}
use Rattle.rv_asm.specs.Faults.{first_fault, fault_of, fault_or, first_astray, astray_at}
use Rattle.rv_asm.specs.Layouts.{Labels, Layout, after}
use Rattle.rv_asm.specs.declared.faults.AsmFault.{AsmFault}
use Rattle.rv_asm.specs.declared.faults.AsmFault.TheVariants.{BadLine, UnknownName, OutOfRange, DoubleLabel, NoMemory}

-- the lines of a text, from its first one
pub lines_in-cons : (text line rest : List ℕ) → lines_of text ≡ line ∷ lines_of rest → lines_in text ≡ line_of line ∷ lines_in rest
lines_in-cons text line rest is = ap (map line_of) is

-- a line without a fault leaves the first fault to the others
pub faults-next : (labels : Labels) (k : ℕ) (lines rest : List Line) (line : Line) (s t : Layout) → lines ≡ line ∷ rest
    → fault_of labels k line s ≡ None → t ≡ after line s → first_fault labels k lines s ≡ first_fault labels (k + 1) rest t
faults-next labels k lines rest line s t is none then =
    ap (λ (l : List Line). first_fault labels k l s) is
    ∙ ap (λ (o : Option AsmFault). fault_or o (first_fault labels (k + 1) rest (after line s))) none
    ∙ ap (first_fault labels (k + 1) rest) (sym then)

-- the bytes of a line come before those of the others
pub content-next : (all : List ℕ) (labels : Labels) (lines rest : List Line) (line : Line) (s t : Layout) (front new : List ℕ)
    → all ≡ front ++ content labels lines s → lines ≡ line ∷ rest → t ≡ after line s → new ≡ front ++ bytes_at labels s.at line.statement
    → all ≡ new ++ content labels rest t
content-next all labels lines rest line s t front new so_far is then pushed =
    so_far
    ∙ ap (λ (l : List Line). front ++ content labels l s) is
    ∙ sym (append_assoc front (bytes_at labels s.at line.statement) (content labels rest (after line s)))
    ∙ ap (λ (l : List ℕ). l ++ content labels rest (after line s)) (sym pushed)
    ∙ ap (λ (u : Layout). new ++ content labels rest u) (sym then)

fault_or-again : (a b c : Option AsmFault) → fault_or a (fault_or b c) ≡ fault_or (fault_or a b) c
fault_or-again None b c = refl
fault_or-again (Some f) b c = refl

-- the first offset or entry that is astray
pub astray-next : (all : Option AsmFault) (labels : Labels) (place end k : ℕ) (lines rest : List Line) (line : Line) (s t : Layout)
    (old new : Option AsmFault)
    → all ≡ fault_or old (first_astray labels place end k lines s) → lines ≡ line ∷ rest → t ≡ after line s
    → new ≡ fault_or old (astray_at labels place end k s.at line.statement)
    → all ≡ fault_or new (first_astray labels place end (k + 1) rest t)
astray-next all labels place end k lines rest line s t old new so_far is then first =
    so_far
    ∙ ap (λ (l : List Line). fault_or old (first_astray labels place end k l s)) is
    ∙ fault_or-again old (astray_at labels place end k s.at line.statement) (first_astray labels place end (k + 1) rest (after line s))
    ∙ ap (λ (o : Option AsmFault). fault_or o (first_astray labels place end (k + 1) rest (after line s))) (sym first)
    ∙ ap (λ (u : Layout). fault_or new (first_astray labels place end (k + 1) rest u)) (sym then)

-- a text with a line at fault fails with it
pub fails-first : (fault : AsmFault) (first astray : Option AsmFault) (void : Bool) (file : List ℕ) → IsFirst fault first
    → IsFault fault (ended first astray void file)
fails-first (BadLine k) first astray void file is = rw is refl
fails-first (UnknownName k) first astray void file is = rw is refl
fails-first (OutOfRange k) first astray void file is = rw is refl
fails-first (DoubleLabel k) first astray void file is = rw is refl
fails-first NoMemory first astray void file is = tt

-- a fault of one assembly is that of an equal one
pub fault-along : (fault : AsmFault) (a b : Assembly) → a ≡ b → IsFault fault b → IsFault fault a
fault-along (BadLine k) a b same is = same ∙ is
fault-along (UnknownName k) a b same is = same ∙ is
fault-along (OutOfRange k) a b same is = same ∙ is
fault-along (DoubleLabel k) a b same is = same ∙ is
fault-along NoMemory a b same is = tt
