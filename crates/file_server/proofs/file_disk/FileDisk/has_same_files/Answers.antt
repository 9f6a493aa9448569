use Rattle.std.proofs.Common.{◌≡◌, None, ap, sym, ◌∙◌}
use Rattle.std.proofs.lemmas.Bool.{false≢true}
use Rattle.std.proofs.lemmas.Bool.Decides.{Decides-eqb}
use Rattle.std.proofs.lemmas.Slice.Eq.{slice_eq-Decides}
use Rattle.file_server.specs.DiskStates.{DiskState}
use Rattle.file_server.specs.FileDisks.{held_for}
use Rattle.file_server.proofs.Engines.{quiet}
use Rattle.file_server.proofs.SameFiles.{same_system}
use Rattle.local_files.specs.Hands.{system}
use Rattle.local_files.specs.Standing.{wanted}
use Rattle.xinu_model.specs.Files.Systems.{FileSystem}
use Rattle.file_server.proofs.file_disk.FileDisk.has_same_files.Goals as goal

pub returns-then-has_same_open : goal.returns-then-has_same_open
returns-then-has_same_open c =
    let d = c.self.inside in let o = c.other.inside in
    let s = c.self.invariant.stands in let t = c.other.invariant.stands in
    let free : held_for (wanted d.files) d.files d.settled.items ≡ None = ap (λ (v : DiskState). v.hand) c.self.view_is ∙ c.requires.idle in
    let other_free : held_for (wanted o.files) o.files o.settled.items ≡ None = ap (λ (v : DiskState). v.hand) c.other.view_is ∙ c.requires.other_idle in
    let here = quiet d.files d.settled.items d.disk.items s c.self.invariant.taken free in
    let there = quiet o.files o.settled.items o.disk.items t c.other.invariant.taken other_free in
    let devices = (c.has_same_open.ensures.equal d.settled.items d.disk.items o.settled.items o.disk.items s t).0 c.if-has_same_open.true in
    let bytes = slice_eq-Decides Decides-eqb c.as_slice.result.now c.as_slice-then-has_same_open.result.now c.eq.result c.eq.ensures in
    let image : d.disk.items ≡ c.args.self.now.image = ap (λ (v : DiskState). v.image) c.self.view_is in
    let other_image : o.disk.items ≡ c.args.other.now.image = ap (λ (v : DiskState). v.image) c.other.view_is in
    record {
      equal = (
        λ is. (let disks : d.disk.items ≡ o.disk.items = sym c.as_slice.ensures.value ∙ bytes.0 is ∙ c.as_slice-then-has_same_open.ensures.value in
            let same = same_system d.files o.files d.settled.items o.settled.items d.disk.items o.disk.items s t (sym here.same ∙ disks ∙ there.same) devices in (
              sym (ap (λ (v : DiskState). v.system) c.self.view_is) ∙ same ∙ ap (λ (v : DiskState). v.system) c.other.view_is,
              sym image ∙ disks ∙ other_image,
            )),
        λ same. bytes.1 (c.as_slice.ensures.value ∙ image ∙ same.1 ∙ sym other_image ∙ sym c.as_slice-then-has_same_open.ensures.value),
      );
    }

pub returns-else-has_same_open : goal.returns-else-has_same_open
returns-else-has_same_open c =
    let d = c.self.inside in let o = c.other.inside in
    let is : system d.files d.settled.items ≡ c.args.self.now.system = ap (λ (v : DiskState). v.system) c.self.view_is in
    let other_is : system o.files o.settled.items ≡ c.args.other.now.system = ap (λ (v : DiskState). v.system) c.other.view_is in
    record {
      equal = (
        λ t. absurd (false≢true (sym c.if-has_same_open.false ∙ t)),
        λ same. (c.has_same_open.ensures.equal d.settled.items d.disk.items o.settled.items o.disk.items c.self.invariant.stands c.other.invariant.stands).1
            (ap (λ (s : FileSystem). s.devices) (is ∙ same.0 ∙ sym other_is)),
      );
    }
