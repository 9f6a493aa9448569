use Rattle.std.proofs.Common.{◌+◌, ◌++◌, ◌∷◌, [], drop, length, ap, sym, ◌∙◌, arith, append_assoc, length-append}
use Rattle.lfs_layout.specs.Files.{total_for}
use Rattle.lfs_layout.specs.Made.{all_files, file_of, entry_for, entries_for}
use Rattle.lfs_layout.proofs.FilesRead.{files_more}
use Rattle.lfs_layout.proofs.directory.make_used.Goals as goal

pub loop-file-init : goal.loop-file-init
loop-file-init c =
    let e = c.new-entries.ensures.items in
    record { items = ap (λ xs. xs ++ entries_for 0 (all_files c.args.files.now)) e; len = ap length e; indexes = omega arith; data_blocks = omega arith }

pub make_entry-requires-clause-size : goal.make_entry-requires-clause-size
make_entry-requires-clause-size c =
    let i = c.loop-file.invariant in let r = c.requires in
    let more = ap (total_for 512) (files_more c.args.files.now c.loop-file.file-index c.file-item.result (omega arith) c.file-item.is) in
    let d = i.data_blocks in let room = r.data_room in let high = r.high in omega (arith, more, d, room, high)

pub make_entry-requires-clause-room : goal.make_entry-requires-clause-room
make_entry-requires-clause-room c =
    let i = c.loop-file.invariant in let r = c.requires in
    let more = ap (total_for 8192) (files_more c.args.files.now c.loop-file.file-index c.file-item.result (omega arith) c.file-item.is) in
    let d = i.indexes in let room = r.index_room in let high = r.high in omega (arith, more, d, room, high)

pub loop-file-preserved : goal.loop-file-preserved
loop-file-preserved c =
    let k = c.loop-file.file-index in let i = c.loop-file.invariant in
    let f = file_of c.file-item.result in let rest = drop (k + 1) (all_files c.args.files.now) in
    let step = files_more c.args.files.now k c.file-item.result (omega arith) c.file-item.is in
    let m = ap (total_for 8192) step in let n = ap (total_for 512) step in
    let s = i.indexes in let d = i.data_blocks in let need = c.indexes_needed.ensures.need in
    let a = c.loop-file.first in let old = c.loop-file.entries.items in
    let pushed = c.in_ok-push.ensures.items in
    let len = ap length pushed in let one = length-append old (c.make_entry.result ∷ []) in let was = i.len in
    record {
      items = ap (λ xs. xs ++ entries_for (a + c.indexes_needed.result) rest) pushed ∙ append_assoc old (c.make_entry.result ∷ []) (entries_for (a + c.indexes_needed.result) rest)
          ∙ ap (λ e. old ++ (e ∷ entries_for (a + c.indexes_needed.result) rest)) c.make_entry.ensures ∙ ap (λ n. old ++ (entry_for a f ∷ entries_for (a + n) rest)) need
          ∙ sym (ap (λ fs. old ++ entries_for a fs) step) ∙ i.items;
      len = omega (arith, len, one, was);
      indexes = omega (arith, m, s, need);
      data_blocks = omega (arith, n, d);
    }
