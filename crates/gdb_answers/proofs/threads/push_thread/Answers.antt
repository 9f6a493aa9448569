-- Seven pieces.
use Rattle.std.proofs.Common.{ℕ, List, ◌∙◌, ◌++◌, ap}
use Rattle.std.specs.Prelude.{codes}
use Rattle.gdb_answers.proofs.Pushes.{both}
use Rattle.gdb_answers.specs.Threads.{doing, name_text, thread_text}
use Rattle.xinu_base.specs.Hexadecimal.{hex_of}
use Rattle.xinu_base.specs.declared.processes.Process.{Process}
use Rattle.xinu_model.specs.Tables.{process_at}
use Rattle.gdb_answers.proofs.threads.push_thread.Goals as goal

pub returns : goal.returns
returns c =
    let t = c.args.text.now.items in
    let tables = c.args.tables.now in
    let p = c.args.p in
    let head : List ℕ = codes "<thread id='" in
    let number = thread_text p in
    let named : List ℕ = codes "' name='" in
    let name = name_text (process_at tables p).name in
    let ends : List ℕ = codes "'>" in
    let does = doing tables p in
    let two = both t head number _ _ c.in_ok-extend_from_slice.ensures.items (c.in_ok-push_hex.ensures.appended ∙ ap (λ l. c.extend_from_slice.new.self.items ++ hex_of l) c.thread_number.ensures.number) in
    let three = both t (head ++ number) named _ _ two c.in_ok-extend_from_slice-2.ensures.items in
    let four = both t (head ++ number ++ named) name _ _ three (c.in_ok-push_name.ensures.appended ∙ ap (λ (x : Process). c.extend_from_slice-2.new.self.items ++ name_text x.name) c.process.ensures.process) in
    let five = both t (head ++ number ++ named ++ name) ends _ _ four c.in_ok-extend_from_slice-3.ensures.items in
    let six = both t (head ++ number ++ named ++ name ++ ends) does _ _ five c.in_ok-push_doing.ensures.appended in
    record { appended = both t (head ++ number ++ named ++ name ++ ends ++ does) (codes "</thread>") _ _ six c.in_ok-extend_from_slice-4.ensures.items }
