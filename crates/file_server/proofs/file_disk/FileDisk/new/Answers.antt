use Rattle.std.proofs.Common.{◌≡◌, ◌/◌, ◌*◌, List, ℕ, length, map, ap, sym, ◌∙◌, subst, arith, Option, None}
use Rattle.std.specs.Prelude.{replicate}
use Rattle.file_laws.specs.StoredFiles.{stored_files}
use Rattle.lfs_check.proofs.Images.{whole_blocks}
use Rattle.lfs_layout.specs.Images.{IsCleanImage}
use Rattle.local_files.specs.Standing.{Stands, reply_in}
use Rattle.local_files.specs.Steps.{shown}
use Rattle.file_server.proofs.Settling.{no_difference}
use Rattle.xinu_model.specs.Files.Systems.{FileSystem, OpenFile}
use Rattle.file_server.proofs.file_disk.FileDisk.new.Goals as goal

pub invariant_of-result : goal.invariant_of-result
invariant_of-result c =
    let disk = c.into_bytes-disk.result.items in let e = c.in_ok-files.files in
    let P : List ℕ → Type 0 = λ d. IsCleanImage d in
    let clean : IsCleanImage disk = subst P (sym c.into_bytes-disk.ensures.bytes) c.into_bytes-disk.ensures.clean in
    let many : c.blocks-blocks.result ≡ length disk / 512 = c.blocks-blocks.ensures ∙ ap (λ d. length d / 512) (sym c.into_bytes-disk.ensures.bytes) in
    let whole = whole_blocks disk clean.faultless in
    let long : length disk ≡ 512 * c.blocks-blocks.result = omega (arith, many, whole) in
    let Q : List ℕ → Type 0 = λ d. Stands e d disk in
    record {
      stands = subst Q (sym (c.in_ok-settled.ensures.same ∙ c.deref.ensures.value)) (c.in_ok-files.ensures.stands disk clean long);
      taken = ap reply_in c.in_ok-files.ensures.idle;
      follows = no_difference c.blocks-blocks.result c.in_ok-settled.settled.items disk c.new-written.result.items long
          (c.in_ok-settled.ensures.same ∙ c.deref.ensures.value) c.new-written.ensures;
    }

pub returns-clause-system : goal.returns-clause-system
returns-clause-system c =
    let e = c.in_ok-files.files in let image = c.args.image in
    let disk = c.into_bytes-disk.result.items in
    let P : List ℕ → Type 0 = λ d. IsCleanImage d in
    let clean : IsCleanImage disk = subst P (sym c.into_bytes-disk.ensures.bytes) c.into_bytes-disk.ensures.clean in
    let many : c.blocks-blocks.result ≡ length disk / 512 = c.blocks-blocks.ensures ∙ ap (λ d. length d / 512) (sym c.into_bytes-disk.ensures.bytes) in
    let whole = whole_blocks disk clean.faultless in
    let long : length disk ≡ 512 * c.blocks-blocks.result = omega (arith, many, whole) in
    let here = (c.in_ok-files.ensures.stands disk clean long).blocks in
    let same : length disk ≡ length image = ap length c.into_bytes-disk.ensures.bytes in
    let blocks : e.blocks ≡ length image / 512 = omega (arith, here, same) in
    let files : c.in_ok-settled.settled.items ≡ image = c.in_ok-settled.ensures.same ∙ c.deref.ensures.value ∙ c.into_bytes-disk.ensures.bytes in
    let devices : map shown e.devices ≡ replicate 6 None = ap (map shown) c.in_ok-files.ensures.closed in
    ap (λ (n : ℕ). let s : FileSystem = record { blocks = n; files = stored_files c.in_ok-settled.settled.items; devices = map shown e.devices } in s) blocks
    ∙ ap (λ (l : List ℕ). let s : FileSystem = record { blocks = length image / 512; files = stored_files l; devices = map shown e.devices } in s) files
    ∙ ap (λ (o : List (Option OpenFile)). let s : FileSystem = record { blocks = length image / 512; files = stored_files image; devices = o } in s) devices
