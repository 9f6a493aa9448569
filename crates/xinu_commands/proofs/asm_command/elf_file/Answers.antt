use Rattle.std.proofs.Common.{◌∙◌, sym}
use Rattle.std.proofs.lemmas.Result.{IfOk-weaker}
use Rattle.image_loader.specs.ImageFiles.{image_in}
use Rattle.image_loader.specs.Images.{loaded_of}
use Rattle.xinu_commands.proofs.Assembled.{elf_of_image, none_loads, whole_image}
use Rattle.xinu_commands.proofs.asm_command.elf_file.Goals as goal

pub write_elf-requires : goal.write_elf-requires
write_elf-requires c = record { whole = whole_image c.args.file.now (loaded_of c.in-Ok.image) c.in-Ok.ensures.loads }

pub returns : goal.returns
returns c = record {
  elf =
      IfOk-weaker c.write_elf.result _ _
      (λ v is. is ∙ sym (elf_of_image c.args.file.now (loaded_of c.in-Ok.image) c.in-Ok.ensures.loads)) c.write_elf.ensures.file;
}

pub unreachable-unreachable : goal.unreachable-unreachable
unreachable-unreachable c = none_loads (image_in c.args.file.now) c.requires.loads c.in-Err.ensures.loads
