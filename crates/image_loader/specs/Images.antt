-- Images, as the abstract machine loads them.
use Rattle.image_loader.specs.declared.images.Image.{Image}
use Rattle.image_loader.specs.Parts.{loaded}
use Rattle.xinu_model.specs.Boot.{Loaded}

-- an image as it is loaded
abbrev pub loaded_of : Image → Loaded
loaded_of image = loaded image.parts.items image.entry image.priority image.stack
