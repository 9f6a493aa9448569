-- What a file without a fault loads.
use Rattle.std.proofs.Common.{◌≡◌, ℕ, List, drop, Some, None, refl}
use Rattle.image_loader.specs.ImageFiles.{first_fault, header_of, image_of, image_in}
use Rattle.image_loader.specs.declared.header.Header.{Header}

-- A file without a fault loads its header and the content after it.
pub image_in-whole : (bytes content : List ℕ) (header : Header) → header ≡ header_of bytes → content ≡ drop 28 bytes → first_fault bytes ≡ None → image_in bytes ≡ Some (image_of header content)
image_in-whole bytes content header is rest none = rw (is, rest, none) refl
