use Rattle.std.proofs.Common.{◌+◌, ◌++◌, drop, refl, ap, sym, ◌∙◌, arith, append_assoc}
use Rattle.std.proofs.lemmas.List.{append-nil}
use Rattle.lfs_check.specs.Geometries.{first_data}
use Rattle.lfs_check.specs.Fields.{numbered_values}
use Rattle.lfs_layout.specs.Files.{total_for}
use Rattle.lfs_layout.specs.Made.{all_files, file_of, file_index, indexes_for, indexes_needed, geometry_2}
use Rattle.lfs_layout.proofs.FilesRead.{files_more, files_all}
use Rattle.lfs_layout.proofs.index_blocks.make_used.Goals as goal

pub loop-file-init : goal.loop-file-init
loop-file-init c = record {
  items = ap (λ xs. xs ++ indexes_for 0 (first_data (geometry_2 c.args.blocks)) (all_files c.args.files.now)) c.new-indexes.ensures.items;
  numbers = omega arith;
  data_numbers = refl;
}

pub add_indexes-requires-clause-indexes : goal.add_indexes-requires-clause-indexes
add_indexes-requires-clause-indexes c =
    let m = ap (total_for 8192) (files_more c.args.files.now c.loop-file.file-index c.file-item.result (omega arith) c.file-item.is) in
    let s = c.loop-file.invariant.numbers in let room = c.requires.index_room in let high = c.requires.high in omega (arith, m, s, room, high)

pub add_indexes-requires-clause-blocks : goal.add_indexes-requires-clause-blocks
add_indexes-requires-clause-blocks c =
    let m = ap (total_for 512) (files_more c.args.files.now c.loop-file.file-index c.file-item.result (omega arith) c.file-item.is) in
    let s = c.loop-file.invariant.data_numbers in let room = c.requires.data_room in let high = c.requires.high in let low = c.requires.low in omega (arith, m, s, room, high, low)

pub overflow_cast-first : goal.overflow_cast-first
overflow_cast-first c =
    let m = ap (total_for 8192) (files_more c.args.files.now c.loop-file.file-index c.file-item.result (omega arith) c.file-item.is) in
    let s = c.loop-file.invariant.numbers in let room = c.requires.index_room in let high = c.requires.high in let need = c.indexes_needed.ensures.need in omega (arith, m, s, room, high, need)

pub overflow_add-first : goal.overflow_add-first
overflow_add-first c =
    let m = ap (total_for 8192) (files_more c.args.files.now c.loop-file.file-index c.file-item.result (omega arith) c.file-item.is) in
    let s = c.loop-file.invariant.numbers in let room = c.requires.index_room in let high = c.requires.high in let need = c.indexes_needed.ensures.need in omega (arith, m, s, room, high, need)

pub overflow_cast-data_first : goal.overflow_cast-data_first
overflow_cast-data_first c =
    let m = ap (total_for 512) (files_more c.args.files.now c.loop-file.file-index c.file-item.result (omega arith) c.file-item.is) in
    let s = c.loop-file.invariant.data_numbers in let room = c.requires.data_room in let high = c.requires.high in let low = c.requires.low in let need = c.data_needed.ensures.need in omega (arith, m, s, room, high, low, need)

pub overflow_add-data_first-in-loop-file : goal.overflow_add-data_first-in-loop-file
overflow_add-data_first-in-loop-file c =
    let m = ap (total_for 512) (files_more c.args.files.now c.loop-file.file-index c.file-item.result (omega arith) c.file-item.is) in
    let s = c.loop-file.invariant.data_numbers in let room = c.requires.data_room in let high = c.requires.high in let low = c.requires.low in let need = c.data_needed.ensures.need in omega (arith, m, s, room, high, low, need)

pub loop-file-preserved : goal.loop-file-preserved
loop-file-preserved c =
    let i = c.loop-file.invariant in
    let f = file_of c.file-item.result in let rest = drop (c.loop-file.file-index + 1) (all_files c.args.files.now) in
    let step = files_more c.args.files.now c.loop-file.file-index c.file-item.result (omega arith) c.file-item.is in
    let m = ap (total_for 8192) step in let n = ap (total_for 512) step in
    let s = i.numbers in let d = i.data_numbers in let need = c.indexes_needed.ensures.need in let wide = c.data_needed.ensures.need in
    let a = c.loop-file.first in let b = c.loop-file.data_first in let old = c.loop-file.indexes.items in
    let mine = numbered_values (file_index a b f) (indexes_needed f) in
    record {
      items = ap (λ xs. xs ++ indexes_for (a + c.indexes_needed.result) (b + c.data_needed.result) rest) c.in_ok-add_indexes.ensures
          ∙ append_assoc old mine (indexes_for (a + c.indexes_needed.result) (b + c.data_needed.result) rest)
          ∙ ap (λ k. old ++ (mine ++ indexes_for (a + k) (b + c.data_needed.result) rest)) need ∙ ap (λ k. old ++ (mine ++ indexes_for (a + indexes_needed f) (b + k) rest)) wide
          ∙ sym (ap (λ fs. old ++ indexes_for a b fs) step) ∙ i.items;
      numbers = omega (arith, m, s, need);
      data_numbers = omega (arith, n, d, wide);
    }

pub returns : goal.returns
returns c =
    sym (append-nil c.loop-file.indexes.items) ∙ sym (ap (λ fs. c.loop-file.indexes.items ++ indexes_for c.loop-file.first c.loop-file.data_first fs) (files_all c.args.files.now c.loop-file.file-index (omega arith))) ∙ c.loop-file.invariant.items
