-- The image is that of the header and the content after it.
use Rattle.std.proofs.Common.{◌≡◌, ◌-◌, ◌∙◌, Some, None, length, take, drop, ap, sym, arith, length-drop, rules}
use Rattle.std.proofs.lemmas.List.{take_all}
use Rattle.image_loader.specs.ImageFiles.{first_fault}
use Rattle.image_loader.proofs.ImageFiles.{image_in-whole}
use Rattle.image_loader.proofs.reader.read_image.Goals as goal

pub returns-in-None-clause-loads : goal.returns-in-None-clause-loads
returns-in-None-clause-loads c =
    let size = length c.args.bytes.now - 28 in
    let none : first_fault c.args.bytes.now ≡ None = search rules in
    image_in-whole c.args.bytes.now (take size (drop 28 c.args.bytes.now)) c.of-header.result c.of-header.ensures.fields
    (take_all size (drop 28 c.args.bytes.now) (omega (arith, length-drop 28 c.args.bytes.now)))
    none
    ∙ ap Some (sym c.image_of.ensures.image)
