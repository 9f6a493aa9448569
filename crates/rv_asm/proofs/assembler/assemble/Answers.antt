-- The two passes give what the definition says.
use Rattle.std.proofs.Common.{ℕ, List, None, length, sym, subst}
use Rattle.std.proofs.lemmas.Result.{err_from_is_err_and}
use Rattle.std.specs.declared.vec.Vec.{Vec}
use Rattle.std.specs.declared.alloc.Global.{Global}
use Rattle.rv_asm.specs.Assembly.{IsFaultOf, assembly, ended, is_void, image_file, header}
use Rattle.rv_asm.specs.CodeLayouts.{seen_layout}
use Rattle.rv_asm.specs.declared.faults.AsmFault.{AsmFault}
use Rattle.rv_asm.proofs.AssemblyLemmas.{assembly-fails, assembly-sound, answers-along, answer-loads}
use Rattle.rv_asm.proofs.assembler.assemble.Goals as goal

-- the bytes of a file
abbrev items : Vec ℕ Global → List ℕ
items file = file.items

pub returns-clause-assembled : goal.returns-clause-assembled
returns-clause-assembled c =
    let end = seen_layout c.in_ok-all.all in
    let bytes = c.in_ok-pass.pass.content.items in
    answers-along items c.finish.result (assembly c.args.text.now)
    (ended None c.in_ok-pass.pass.astray (is_void end (length bytes)) (image_file (header end (length bytes)) bytes))
    (assembly-sound c.args.text.now end c.in_ok-pass.pass.astray bytes c.in_ok-all.ensures.layout c.in_ok-pass.ensures.sound
    c.in_ok-pass.ensures.astray c.in_ok-pass.ensures.content)
    c.finish.ensures.ended

pub returns-clause-loads : goal.returns-clause-loads
returns-clause-loads c =
    answer-loads items c.finish.result c.args.text.now (returns-clause-assembled c)

pub returns-in_err-pass-clause-assembled : goal.returns-in_err-pass-clause-assembled
returns-in_err-pass-clause-assembled c =
    let told = err_from_is_err_and c.from_residual-in_err-pass.result c.from_residual-in_err-pass.ensures.1 in
    let IsTold : AsmFault → Type 0 = λ fault. IsFaultOf fault c.args.text.now in
    let fails : IsTold told.0 =
    subst IsTold (sym told.2)
    (assembly-fails c.in_err-pass.field-0.0 c.args.text.now (seen_layout c.in_ok-all.all) c.in_ok-all.ensures.layout
    c.in_err-pass.ensures.fault) in
    rw told.1 fails
