use Rattle.std.proofs.Common.{◌≡◌, ◌-◌, ◌*◌, ◌++◌, take, replicate, length, ap, ◌∙◌, arith, append_assoc}
use Rattle.std.proofs.lemmas.List.{take-replicate}
use Rattle.lfs_layout.specs.Made.{data_needed, file_of}
use Rattle.lfs_layout.proofs.data_blocks.add_file.Goals as goal

pub returns : goal.returns
returns c =
    let old = c.args.image.now.items in let bs = c.args.file.now.bytes.items in
    let need = c.data_needed.ensures.need in let len = c.len.ensures in
    let rest : 512 * c.data_needed.result - c.len.result ≡ 512 * data_needed (file_of c.args.file.now) - length bs = (let v = c.args.file.now.bytes.ok in omega (arith, need, len, v)) in
    let zeros : take (512 * c.data_needed.result - c.len.result) (replicate 512 0) ≡ replicate (512 * data_needed (file_of c.args.file.now) - length bs) 0 =
    take-replicate (512 * c.data_needed.result - c.len.result) 512 0 (omega arith) ∙ ap (λ n. replicate n 0) rest in
    c.in_ok-extend_from_slice-2.ensures.items ∙ ap (λ z. c.extend_from_slice.new.self.items ++ z) zeros
    ∙ ap (λ xs. xs ++ replicate (512 * data_needed (file_of c.args.file.now) - length bs) 0) (c.in_ok-extend_from_slice.ensures.items ∙ ap (λ b. old ++ b) c.deref.ensures.value)
    ∙ append_assoc old bs (replicate (512 * data_needed (file_of c.args.file.now) - length bs) 0)
