use Rattle.std.proofs.Common.{◌≡◌, ◌∙◌, map, ap, arith, refl, rules, sym, subst, true}
use Rattle.std.proofs.lemmas.List.{length-map}
use Rattle.given_disks.proofs.Given.{sound_disks}
use Rattle.given_disks.specs.Disks.{disks_of}
use Rattle.image_loader.specs.Images.{loaded_of}
use Rattle.kernel_state.specs.Results.{IsStart}
use Rattle.lfs_layout.specs.Images.{IsCleanImage, is_raw}
use Rattle.xinu_laws.proofs.Preserve.Disks.{sound_boot_on}
use Rattle.xinu_base.specs.declared.processes.State.TheVariants.{Free}
use Rattle.xinu_model.specs.Boot as boot
use Rattle.xinu_model.specs.Machine.{CallState}
use Rattle.xinu_model.specs.Tables.{state_at}
use Rattle.kernel_boot.proofs.Making.{boots_made, none_made_free, refuses_made, suspended_made}
use Rattle.kernel_boot.proofs.initialize.boot.Goals as goal

pub make_all-requires-clause-none : goal.make_all-requires-clause-none
make_all-requires-clause-none c j le =
    let F : CallState → Type 0 = λ d. state_at d.state.tables j ≡ Free in
    subst F (sym c.in-Ok.ensures.loaded) (none_made_free (map loaded_of c.args.images.now) j le)

pub start_all-requires-clause-suspended : goal.start_all-requires-clause-suspended
start_all-requires-clause-suspended c j low high =
    let images = map loaded_of c.args.images.now in
    let n = length-map c.args.images.now loaded_of in
    let few = c.requires.few in
    let made = ap (λ (d : CallState). boot.all_made 1 images d.state) (sym c.in-Ok.ensures.loaded) ∙ c.in_default-make_all.ensures.made in
    suspended_made (disks_of c.args.disk0 c.args.disk1) images c.make_all.new.k.call.state (omega (arith, n, few)) made j low (omega (arith, n, high))

pub returns-in-Some-make_all : goal.returns-in-Some-make_all
returns-in-Some-make_all c =
    let images = map loaded_of c.args.images.now in
    record {
      booted = refuses_made (disks_of c.args.disk0 c.args.disk1) images c.in-Some-make_all.number c.in_default.ensures.first
          (ap (λ (d : CallState). boot.all_made 1 images d.state) (sym c.in-Ok.ensures.loaded) ∙ c.in-Some-make_all.ensures.no_room);
      sound = tt;
      image = tt;
    }

pub returns : goal.returns
returns c =
    let images = map loaded_of c.args.images.now in
    let made = ap (λ (d : CallState). boot.all_made 1 images d.state) (sym c.in-Ok.ensures.loaded) ∙ c.in_default-make_all.ensures.made in
    let started = c.start_all.ensures.started in
    let disks = disks_of c.args.disk0 c.args.disk1 in
    let boots : boot.boot_on disks images ≡ boot.Boots c.start_all.new.k.call.state
    = boots_made disks images c.make_all.new.k.call.state c.in_default.ensures.first made
    ∙ ap boot.Boots (sym (ap (λ (d : CallState). d.state) started)) in
    let raw = subst (λ l. is_raw l ≡ true) c.disk0.view_is c.disk0.invariant in
    let clean = subst IsCleanImage c.disk1.view_is c.disk1.invariant in
    let n = length-map c.args.images.now loaded_of in
    let few = c.requires.few in
    record {
      booted = (boots, subst IsStart (sym started) (record { is = refl }));
      sound = sound_boot_on disks images c.start_all.new.k.call.state (omega (arith, n, few)) (sound_disks c.args.disk0 c.args.disk1 raw clean) boots;
      image = search rules;
    }
