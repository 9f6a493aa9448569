use Rattle.std.proofs.Common.{option_map}
use Rattle.run_inputs.specs.InputDisks.{raw_fault, empty_disk0}
use Rattle.run_inputs.specs.Reading.{ReadsDisk}
use Rattle.run_inputs.proofs.ImageFiles.{of_error}
use Rattle.run_inputs.proofs.Named.{not_of_host}
use Rattle.run_inputs.proofs.ReadDisks.{raw_fetched, raw_unfetched}
use Rattle.run_inputs.proofs.input_disks.fetch_raw_disk.Goals as goal

pub returns-in_err-bytes-clause-reads : goal.returns-in_err-bytes-clause-reads
returns-in_err-bytes-clause-reads g c =
    let h = g.H.Host.view c.args.host.now in
    let k = g.H.Host.view c.fetch_disk.new.host in
    let name = option_map (λ s. s.now) c.args.name in
    let r = c.in_err-bytes.field-0.0 in
    of_error c.from_residual.result r (λ x. ReadsDisk 0 raw_fault (λ d. d) empty_disk0 name x h k) c.from_residual.ensures.0 c.from_residual.ensures.1
    (raw_unfetched name r h k c.in_err-bytes.ensures.cause c.in_err-bytes.ensures.fetches)

pub returns-clause-reads : goal.returns-clause-reads
returns-clause-reads g c =
    let h = g.H.Host.view c.args.host.now in
    let k = g.H.Host.view c.fetch_disk.new.host in
    raw_fetched (option_map (λ s. s.now) c.args.name) (option_map (λ v. v.items) c.in_ok-bytes.bytes) c.raw_disk.result h k c.in_ok-bytes.ensures.bytes c.in_ok-bytes.ensures.fetches
    c.raw_disk.ensures.ok c.raw_disk.ensures.refused

pub returns-clause-last : goal.returns-clause-last
returns-clause-last g c = λ is. absurd (not_of_host 0 _ c.raw_disk.result c.raw_disk.ensures.refused is)
