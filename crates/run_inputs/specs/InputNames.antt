-- The code's names of the inputs, as the definitions have them.
use Rattle.std.specs.Prelude.{map, option_map}
use Rattle.run_inputs.specs.InputFiles.{InputFiles}
use Rattle.run_inputs.specs.declared.inputs.InputFiles.{InputFiles as InputFilesValue}

abbrev pub input_names : InputFilesValue → InputFiles
input_names f = record {
  schedule = f.schedule.now;
  disk0 = option_map (λ s. s.now) f.disk0;
  disk1 = option_map (λ s. s.now) f.disk1;
  images = map (λ s. s.now) f.images.now;
}
