use Rattle.std.proofs.Common.{◌∙◌, Some, ap, sym, Global, List, Option, Vec, ℕ}
use Rattle.lfs_layout.specs.Files.{found, placed_files}
use Rattle.xinu_model.specs.Files.Stored.{StoredFile}
use Rattle.reference_boot.proofs.Listed.{bytes_read, is_read, listed_file, none_listed}
use Rattle.reference_boot.proofs.file_system.file_at.Goals as goal

pub returns-in_default : goal.returns-in_default
returns-in_default c = record { file = sym (none_listed c.args.image.now c.args.k c.in_default.ensures.file) }

pub unwrap-bytes-requires : goal.unwrap-bytes-requires
unwrap-bytes-requires c =
    let disk = c.args.image.now in
    let f = listed_file disk c.args.k c.in-Some.field-0-1 c.in-Some.name.items c.requires.clean c.in-Some.ensures.file in
    let same = c.as_slice.ensures.value in
    is_read (λ (v : Vec _ Global). v.items) c.in_ok-read_file.field-0 (found c.as_slice.result.now (placed_files disk)) f.bytes
    (ap (λ n. found n (placed_files disk)) same ∙ f.read) c.in_ok-read_file.ensures

pub returns : goal.returns
returns c =
    let disk = c.args.image.now in
    let f = listed_file disk c.args.k c.in-Some.field-0-1 c.in-Some.name.items c.requires.clean c.in-Some.ensures.file in
    let bytes = bytes_read (λ (v : Vec _ Global). v.items) c.in_ok-read_file.field-0 c.unwrap-bytes.result (found c.as_slice.result.now (placed_files disk)) f.bytes
    (ap (λ n. found n (placed_files disk)) c.as_slice.ensures.value ∙ f.read) c.in_ok-read_file.ensures c.unwrap-bytes.ensures in
    let name = c.in_ok-copied.ensures.copied ∙ c.as_slice-2.ensures.value in
    let file : List ℕ → List ℕ → Option StoredFile = λ n b. Some (record { name = n; bytes = b }) in
    record { file = ap (λ n. file n c.unwrap-bytes.result.items) name ∙ ap (file c.in-Some.name.items) (sym bytes) ∙ sym f.is }
