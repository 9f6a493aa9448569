-- What it means that an image has no fault.
use Rattle.std.proofs.Common.{◌≡◌, ℕ, ◌*◌, ◌/◌, ◌%◌, ◌≤◌, Bool, true, false, cond, ◌&&◌, nat_eq, nat_le, List, length, drop, refl, ap, ◌∙◌, arith, length-drop, Option, Some, None}
use Rattle.std.proofs.lemmas.Bool.{and_parts}
use Rattle.std.proofs.lemmas.Bool.Decides.{nat_tests}
use Rattle.lfs_format.specs.declared.Index.{Index}
use Rattle.lfs_check.specs.declared.geometry.Geometry.{Geometry}
use Rattle.lfs_check.specs.declared.faults.DiskFault.{DiskFault}
use Rattle.lfs_check.specs.Geometries.{index_count, IsGeometry}
use Rattle.lfs_format.specs.Words.{words_of}
use Rattle.lfs_check.specs.Laid.{no_index}
use Rattle.lfs_check.specs.Rules.{rule_0, rule_1, rule_2, rule_3}
use Rattle.lfs_check.specs.Faults.{fault, either_fault, named}
use Rattle.lfs_check.specs.Fields.{directory_entries, fields_of, geometry_of, is_version_2, index_in_bytes, link_in_bytes, index_place}
use Rattle.lfs_check.specs.Clean.{IsShape, Passes, places_of, LaidIn}
use Rattle.lfs_format.proofs.Words.{length-words_of}
use Rattle.lfs_check.proofs.Numbered.{length_numbered, numbered-at}
use Rattle.lfs_check.proofs.Nones.{cond-none}
use Rattle.lfs_check.proofs.Cleans.{passes_lies}

-- neither of two faults is there if the first of both isn't
first-nones : (a b : Option DiskFault) → either_fault a b ≡ None → (a ≡ None) × (b ≡ None)
first-nones None b e = (refl, e)
first-nones (Some a) b e = absurd (cc (e))

-- a rule without a block isn't broken
named-none : (rule : ℕ) (o : Option ℕ) → named rule o ≡ None → o ≡ None
named-none rule None e = refl
named-none rule (Some b) e = absurd (cc (e))

-- the fields of an image have the lengths that a disk needs
pub fields_shape : (g : Geometry) (image : List ℕ) → IsShape g (fields_of g image)
fields_shape g image = record {
  indexes = length_numbered (index_in_bytes g image) (index_count g);
  links = length_numbered (link_in_bytes image) g.blocks;
  rows = λ i h. (let ws = words_of 18 (drop (index_place g i) image) in
      ap (λ (x : Index). length x.blocks) (numbered-at (index_in_bytes g image) (index_count g) i no_index h)
      ∙ (let l = length-drop 2 ws in let n = length-words_of 18 (drop (index_place g i) image) in omega (arith, l, n)));
}

-- the test of rule 0 as two bounds
size_facts : (fewest most n : ℕ) → nat_eq (n % 512) 0 && nat_le (512 * fewest) n && nat_le n (512 * most) ≡ true → (512 * fewest ≤ n) × (n ≤ 512 * most)
size_facts fewest most n e =
    let a = nat_eq (n % 512) 0 in let b = nat_le (512 * fewest) n in let c = nat_le n (512 * most) in
    let all = and_parts (a && b) c e in
    let two = and_parts a b all.0 in
    ((let t = two.1 in grind (arith, nat_tests)), (let t = all.1 in grind (arith, nat_tests)))

-- an image of the right size has a geometry
pub image_geometry : (image : List ℕ) → rule_0 (geometry_of image) image ≡ None → IsGeometry (geometry_of image)
image_geometry image e =
    let n = length image in
    let P : Bool → Type 0 = λ v. rule_0 (record { dirs = cond v 6 1; blocks = n / 512 }) image ≡ None → IsGeometry (record { dirs = cond v 6 1; blocks = n / 512 }) in
    let yes : P true = λ r. (let f = size_facts 14 65542 n (cond-none _ 0 r) in record { dirs = omega arith; few = omega (arith, f.0); many = omega (arith, f.1) }) in
    let no : P false = λ r. (let f = size_facts 8 65536 n (cond-none _ 0 r) in record { dirs = omega arith; few = omega (arith, f.0); many = omega (arith, f.1) }) in
    let all : (v : Bool) → P v = λ v. elim v as (λ v. P v) [ true ↦ yes | false ↦ no ] in
    all (is_version_2 image) e

-- an image without a fault passes rules 4 to 7
pub image_passes : (image : List ℕ) → fault image ≡ None → Passes (geometry_of image) (fields_of (geometry_of image) image)
image_passes image e =
    let walks = (first-nones _ _ (first-nones (named 0 (rule_0 (geometry_of image) image)) _ e).1).1 in
    let a = first-nones _ _ walks in let b = first-nones _ _ a.1 in let c = first-nones _ _ b.1 in
    record { four = named-none 4 _ a.0; five = named-none 5 _ b.0; six = named-none 6 _ c.0; seven = named-none 7 _ c.1 }

-- On an image without a fault files lie.
pub image_lies : (image : List ℕ) → fault image ≡ None → LaidIn (geometry_of image) (fields_of (geometry_of image) image) (places_of (geometry_of image) (fields_of (geometry_of image) image))
image_lies image e =
    let zero_rule = named-none 0 (rule_0 (geometry_of image) image) (first-nones (named 0 (rule_0 (geometry_of image) image)) _ e).0 in
    passes_lies (geometry_of image) (fields_of (geometry_of image) image) (image_geometry image zero_rule) (fields_shape (geometry_of image) image) (image_passes image e)

-- and it has the right size, and right names
pub image_size : (image : List ℕ) → fault image ≡ None → rule_0 (geometry_of image) image ≡ None
image_size image e = named-none 0 (rule_0 (geometry_of image) image) (first-nones (named 0 (rule_0 (geometry_of image) image)) _ e).0

-- an image of a right size is whole blocks
pub sized_blocks : (image : List ℕ) → rule_0 (geometry_of image) image ≡ None → length image ≡ 512 * (length image / 512)
sized_blocks image r0 =
    let n = length image in
    let P : Bool → Type 0 = λ v. rule_0 (record { dirs = cond v 6 1; blocks = n / 512 }) image ≡ None → n % 512 ≡ 0 in
    let yes : P true = λ r. (let a = nat_eq (n % 512) 0 in let b = nat_le (512 * 14) n in let c = nat_le n (512 * 65542) in
    let t : a ≡ true = (and_parts a b (and_parts (a && b) c (cond-none (a && b && c) 0 r)).0).0 in grind (arith, nat_tests)) in
    let no : P false = λ r. (let a = nat_eq (n % 512) 0 in let b = nat_le (512 * 8) n in let c = nat_le n (512 * 65536) in
    let t : a ≡ true = (and_parts a b (and_parts (a && b) c (cond-none (a && b && c) 0 r)).0).0 in grind (arith, nat_tests)) in
    let all : (v : Bool) → P v = λ v. elim v as (λ v. P v) [ true ↦ yes | false ↦ no ] in
    let z = all (is_version_2 image) r0 in omega (arith, z)

-- an image without a fault is whole blocks
pub whole_blocks : (image : List ℕ) → fault image ≡ None → length image ≡ 512 * (length image / 512)
whole_blocks image e = sized_blocks image (image_size image e)

-- an image without a fault breaks no rule on names
pub image_names : (image : List ℕ) → fault image ≡ None → rule_1 (geometry_of image) (directory_entries (geometry_of image) image) ≡ None
image_names image e =
    let g = geometry_of image in let d = fields_of g image in
    let dirs = (first-nones _ _ (first-nones (named 0 (rule_0 g image)) _ e).1).0 in
    named-none 1 (rule_1 g d.entries) (first-nones (named 1 (rule_1 g d.entries)) _ dirs).0

-- and sizes that can be
pub image_sizes : (image : List ℕ) → fault image ≡ None → rule_3 (geometry_of image) (directory_entries (geometry_of image) image) ≡ None
image_sizes image e =
    let g = geometry_of image in let d = fields_of g image in
    let dirs = (first-nones _ _ (first-nones (named 0 (rule_0 g image)) _ e).1).0 in
    named-none 3 (rule_3 g d.entries) (first-nones (named 2 (rule_2 g d.header d.entries image)) _ (first-nones (named 1 (rule_1 g d.entries)) _ dirs).1).1

-- and the number of its files
pub image_counts : (image : List ℕ) → fault image ≡ None → rule_2 (geometry_of image) (fields_of (geometry_of image) image).header (directory_entries (geometry_of image) image) image ≡ None
image_counts image e =
    let g = geometry_of image in let d = fields_of g image in
    let dirs = (first-nones _ _ (first-nones (named 0 (rule_0 g image)) _ e).1).0 in
    named-none 2 (rule_2 g d.header d.entries image) (first-nones (named 2 (rule_2 g d.header d.entries image)) _ (first-nones (named 1 (rule_1 g d.entries)) _ dirs).1).0

-- and as many blocks as its version allows
pub sized_most : (image : List ℕ) → rule_0 (geometry_of image) image ≡ None → (cond (is_version_2 image) 14 8 ≤ length image / 512) × (length image / 512 ≤ cond (is_version_2 image) 65542 65536)
sized_most image r0 =
    let n = length image in
    let P : Bool → Type 0 = λ v. rule_0 (record { dirs = cond v 6 1; blocks = n / 512 }) image ≡ None → (cond v 14 8 ≤ n / 512) × (n / 512 ≤ cond v 65542 65536) in
    let yes : P true = λ r. (let f = size_facts 14 65542 n (cond-none _ 0 r) in (omega (arith, f.0), omega (arith, f.1))) in
    let no : P false = λ r. (let f = size_facts 8 65536 n (cond-none _ 0 r) in (omega (arith, f.0), omega (arith, f.1))) in
    let all : (v : Bool) → P v = λ v. elim v as (λ v. P v) [ true ↦ yes | false ↦ no ] in
    all (is_version_2 image) r0

-- an image without a fault has as many blocks as its version allows
pub image_blocks : (image : List ℕ) → fault image ≡ None → (cond (is_version_2 image) 14 8 ≤ length image / 512) × (length image / 512 ≤ cond (is_version_2 image) 65542 65536)
image_blocks image e = sized_most image (image_size image e)
