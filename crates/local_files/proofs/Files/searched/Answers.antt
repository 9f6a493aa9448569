use Rattle.std.proofs.Common.{◌≡◌, ◌<◌, ◌+◌, ◌*◌, ◌==◌, if◌then◌else◌, ℕ, ap, subst, slice_index_or, false}
use Rattle.lfs_format.specs.declared.Dir.{Dir}
use Rattle.lfs_format.specs.Directory.{dir_of, void_entry}
use Rattle.lfs_check.specs.Disks.{is_this}
use Rattle.lfs_check.specs.Fields.{header_2}
use Rattle.local_files.specs.declared.Files.{Files}
use Rattle.local_files.specs.Hands.{name_of}
use Rattle.local_files.specs.Opens.{finding, searching_on, IsLook, IsNoted}
use Rattle.local_files.proofs.Searching.{found_goes}
use Rattle.local_files.proofs.Passing.{pass_goes}
use Rattle.local_files.proofs.Completions.{found_falls, passed_falls}
use Rattle.local_files.proofs.Files.searched.Goals as goal

pub returns-in-Some : goal.returns-in-Some
returns-in-Some c = record {
  goes = λ base disk s h. (
      let e = c.args.self.now in let d = c.args.d in let dir = c.read_dir-dir.result in
      let head = if d == 0 then header_2 dir else e.header in
      let P : Files → Type 0 = λ x. c.found.new.self ≡ finding x.call (13 * d + c.in-Some.k)
      (slice_index_or dir.entries c.in-Some.k void_entry) x in
      let L : Files → Type 0 = λ x. IsLook x.call → c.name.result ≡ name_of x.call in
      let dir_is : dir ≡ dir_of c.args.read.now = c.read_dir-dir.ensures in
      found_goes e c.found.new.self d c.in-Some.k head
      (slice_index_or dir.entries c.in-Some.k void_entry) c.name.result base disk c.args.read.now c.requires.phase
      (ap (λ x. if d == 0 then header_2 x else e.header) dir_is) (subst P c.keep_header.ensures.new c.found.ensures.new)
      (subst L c.keep_header.ensures.new c.name.ensures.name) c.in-Some.ensures.0 c.in-Some.ensures.1
      (ap (λ (x : Dir). slice_index_or x.entries c.in-Some.k void_entry) dir_is) s h);
  less = λ base disk s h. (
      let e = c.args.self.now in let d = c.args.d in let dir = c.read_dir-dir.result in
      let head = if d == 0 then header_2 dir else e.header in
      let P : Files → Type 0 = λ x. c.found.new.self ≡ finding x.call (13 * d + c.in-Some.k)
      (slice_index_or dir.entries c.in-Some.k void_entry) x in
      let L : Files → Type 0 = λ x. IsLook x.call → c.name.result ≡ name_of x.call in
      let dir_is : dir ≡ dir_of c.args.read.now = c.read_dir-dir.ensures in
      found_falls e c.found.new.self d c.in-Some.k head
      (slice_index_or dir.entries c.in-Some.k void_entry) c.name.result base disk c.args.read.now c.requires.phase
      (subst P c.keep_header.ensures.new c.found.ensures.new)
      (subst L c.keep_header.ensures.new c.name.ensures.name) c.in-Some.ensures.0 c.in-Some.ensures.1
      (ap (λ (x : Dir). slice_index_or x.entries c.in-Some.k void_entry) dir_is) s h);
}

pub returns-in-None : goal.returns-in-None
returns-in-None c = record {
  goes = λ base disk s h. (
      let e = c.args.self.now in let d = c.args.d in let dir = c.read_dir-dir.result in
      let head = if d == 0 then header_2 dir else e.header in
      let P : Files → Type 0 = λ x. c.pass.new.self ≡ searching_on d (let r : Files = record x { slot = c.pass.new.self.slot } in r) in
      let N : Files → Type 0 = λ x. IsNoted d x.slot c.pass.new.self.slot dir.entries in
      let L : Files → Type 0 = λ x. IsLook x.call → c.name.result ≡ name_of x.call in
      let dir_is : dir ≡ dir_of c.args.read.now = c.read_dir-dir.ensures in
      let M : Dir → Type 0 = λ x. (k : ℕ) → k < 13 → is_this c.name.result (slice_index_or x.entries k void_entry) ≡ false in
      let R : Dir → Type 0 = λ x. IsNoted d e.slot c.pass.new.self.slot x.entries in
      pass_goes e c.pass.new.self d head c.name.result base disk c.args.read.now c.requires.phase
      (ap (λ x. if d == 0 then header_2 x else e.header) dir_is) (subst P c.keep_header.ensures.new c.pass.ensures.new)
      (subst L c.keep_header.ensures.new c.name.ensures.name)
      (subst M dir_is c.in-None.ensures) (subst R dir_is (subst N c.keep_header.ensures.new c.pass.ensures.noted)) s h);
  less = λ base disk s h. (
      let e = c.args.self.now in let d = c.args.d in
      let head = if d == 0 then header_2 c.read_dir-dir.result else e.header in
      let P : Files → Type 0 = λ x. c.pass.new.self ≡ searching_on d (let r : Files = record x { slot = c.pass.new.self.slot } in r) in
      passed_falls e c.pass.new.self d head c.pass.new.self.slot base disk c.requires.phase
      (subst P c.keep_header.ensures.new c.pass.ensures.new) s);
}
