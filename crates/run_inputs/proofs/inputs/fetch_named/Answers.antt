use Rattle.std.proofs.Common.{◌∙◌, ℕ, List, Vec, Global, ap, map, subst, sym, refl}
use Rattle.std.specs.Prelude.{Err, Ok}
use Rattle.run_inputs.specs.Causes.{refused}
use Rattle.run_inputs.specs.InputFaults.{have_fault}
use Rattle.run_inputs.specs.InputNames.{input_names}
use Rattle.run_inputs.specs.Reading.{ReadsImages, ReadsInputs}
use Rattle.run_inputs.specs.declared.inputs.Inputs.{Inputs}
use Rattle.run_inputs.specs.declared.refusals.Refusal.{Refusal}
use Rattle.run_inputs.proofs.ImageFiles.{no_files}
use Rattle.run_inputs.proofs.InputsRead.{clean_refuses, images_refuse, inputs_read, raw_refuses, schedule_refuses}
use Rattle.run_inputs.proofs.inputs.fetch_named.Goals as goal

pub returns-in-Err-clause-reads : goal.returns-in-Err-clause-reads
returns-in-Err-clause-reads g c =
    let h = g.H.Host.view c.args.host.now in
    let k = g.H.Host.view c.fetch_schedule.new.host in
    let f = input_names c.args.files in
    subst (λ (r : Refusal). ReadsInputs f (Err r) h k) (sym c.unread.ensures.refusal) (schedule_refuses f h c.in-Err.refusal k c.in-Err.ensures.reads)

pub returns-in-Err-fetch_raw_disk-clause-reads : goal.returns-in-Err-fetch_raw_disk-clause-reads
returns-in-Err-fetch_raw_disk-clause-reads g c =
    let h = g.H.Host.view c.args.host.now in
    let i = g.H.Host.view c.fetch_schedule.new.host in
    let k = g.H.Host.view c.fetch_raw_disk.new.host in
    let f = input_names c.args.files in
    subst (λ (r : Refusal). ReadsInputs f (Err r) h k) (sym c.unread_if_named.ensures.refusal)
    (raw_refuses f h c.in-Ok.schedule i c.in-Ok.ensures.reads c.in-Err-fetch_raw_disk.refusal k c.in-Err-fetch_raw_disk.ensures.reads)

pub returns-in-Err-fetch_clean_disk-clause-reads : goal.returns-in-Err-fetch_clean_disk-clause-reads
returns-in-Err-fetch_clean_disk-clause-reads g c =
    let h = g.H.Host.view c.args.host.now in
    let i = g.H.Host.view c.fetch_schedule.new.host in
    let j = g.H.Host.view c.fetch_raw_disk.new.host in
    let k = g.H.Host.view c.fetch_clean_disk.new.host in
    let f = input_names c.args.files in
    subst (λ (r : Refusal). ReadsInputs f (Err r) h k) (sym c.unread_if_named-in-Err-fetch_clean_disk.ensures.refusal)
    (clean_refuses f h c.in-Ok.schedule i c.in-Ok.ensures.reads c.in-Ok-fetch_raw_disk.disk0 j c.in-Ok-fetch_raw_disk.ensures.reads c.in-Err-fetch_clean_disk.refusal k c.in-Err-fetch_clean_disk.ensures.reads)

pub fetch_images-requires-clause-good : goal.fetch_images-requires-clause-good
fetch_images-requires-clause-good g c = ap (λ (files : List (Vec ℕ Global)). have_fault (map (λ v. v.items) files)) c.new.ensures.items ∙ no_files

-- the bytes of files
abbrev bytes_of : Vec (Vec ℕ Global) Global → List (List ℕ)
bytes_of files = map (λ v. v.items) files.items

pub returns-in-Err-fetch_images-clause-reads : goal.returns-in-Err-fetch_images-clause-reads
returns-in-Err-fetch_images-clause-reads g c =
    let h = g.H.Host.view c.args.host.now in
    let i = g.H.Host.view c.fetch_schedule.new.host in
    let j = g.H.Host.view c.fetch_raw_disk.new.host in
    let k = g.H.Host.view c.fetch_clean_disk.new.host in
    let l = g.H.Host.view c.fetch_images.new.host in
    let f = input_names c.args.files in
    let P : List (Vec ℕ Global) → Type 0 = λ files. ReadsImages bytes_of (map (λ v. v.items) files) f.images (refused (Err c.in-Err-fetch_images.cause)) k l in
    images_refuse f h c.in-Ok.schedule i c.in-Ok.ensures.reads c.in-Ok-fetch_raw_disk.disk0 j c.in-Ok-fetch_raw_disk.ensures.reads c.in-Ok-fetch_clean_disk.disk1 k c.in-Ok-fetch_clean_disk.ensures.reads
    bytes_of _ l (subst P c.new.ensures.items c.in-Err-fetch_images.ensures.reads)

pub returns-clause-reads : goal.returns-clause-reads
returns-clause-reads g c =
    let h = g.H.Host.view c.args.host.now in
    let i = g.H.Host.view c.fetch_schedule.new.host in
    let j = g.H.Host.view c.fetch_raw_disk.new.host in
    let k = g.H.Host.view c.fetch_clean_disk.new.host in
    let l = g.H.Host.view c.fetch_images.new.host in
    let f = input_names c.args.files in
    let inputs : Inputs = record { schedule = c.in-Ok.schedule; disk0 = c.in-Ok-fetch_raw_disk.disk0; disk1 = c.in-Ok-fetch_clean_disk.disk1; images = c.in-Ok-fetch_images.images } in
    let P : List (Vec ℕ Global) → Type 0 = λ files. ReadsImages bytes_of (map (λ v. v.items) files) f.images (Ok c.in-Ok-fetch_images.images) k l in
    inputs_read f h c.in-Ok.schedule i c.in-Ok.ensures.reads c.in-Ok-fetch_raw_disk.disk0 j c.in-Ok-fetch_raw_disk.ensures.reads c.in-Ok-fetch_clean_disk.disk1 k c.in-Ok-fetch_clean_disk.ensures.reads
    bytes_of c.in-Ok-fetch_images.images inputs l (subst P c.new.ensures.items c.in-Ok-fetch_images.ensures.reads) c.in-Ok-fetch_images.ensures.good refl refl refl refl
