-- Four pieces.
use Rattle.std.proofs.Common.{ℕ, List, ◌∙◌, ◌++◌, ap}
use Rattle.std.specs.Prelude.{codes}
use Rattle.gdb_answers.proofs.Pushes.{both}
use Rattle.gdb_answers.specs.Descriptions.{features, register_entry, registers_below}
use Rattle.gdb_answers.proofs.descriptions.features.Goals as goal

pub returns : goal.returns
unfolding features
returns c =
    let head : List ℕ = codes "<?xml version='1.0'?><!DOCTYPE target SYSTEM 'gdb-target.dtd'><target><architecture>riscv:rv32</architecture><feature name='org.gnu.gdb.riscv.cpu'>" in
    let registers = registers_below 32 in
    let pc = register_entry (codes "pc") in
    let t = c.new-text.result.items in
    let two = both t head registers _ _ c.in_ok-extend_from_slice.ensures.items c.in_ok-push_registers.ensures.appended in
    let three = both t (head ++ registers) pc _ _ two c.in_ok-extend_from_slice-2.ensures.items in
    let four = both t (head ++ registers ++ pc) (codes "</feature></target>") _ _ three c.in_ok-extend_from_slice-3.ensures.items in
    record { text = four ∙ ap (λ l. l ++ (head ++ registers ++ pc ++ codes "</feature></target>")) c.new-text.ensures.items }
