use Rattle.std.proofs.Common.{◌∙◌, ap}
use Rattle.std.specs.String.{string_bytes}
use Rattle.run_inputs.specs.declared.refusals.Refusal.TheVariants as refusal
use Rattle.prove_command.proofs.Files.{goes_on, stops, unkept}
use Rattle.prove_command.proofs.fetching.fetch_files.Goals as goal

pub returns-in-Err-clause-fetches : goal.returns-in-Err-clause-fetches
returns-in-Err-clause-fetches g c =
    stops c.args.names.now c.loop-name.name-index c.name-item.result c.as_str.result.now c.in-Err.cause (g.H.Host.view c.args.host.now)
    (g.H.Host.view c.loop-name.host) (g.H.Host.view c.fetch_file.new.host) c.loop-name-test.true (c.as_str.ensures.value ∙ ap string_bytes c.name-item.is)
    c.loop-name.invariant.fetches c.in-Err.ensures.cause c.in-Err.ensures.fetches

pub returns-in-Err-push-clause-fetches : goal.returns-in-Err-push-clause-fetches
returns-in-Err-push-clause-fetches g c =
    stops c.args.names.now c.loop-name.name-index c.name-item.result c.as_str.result.now refusal.NoMemory (g.H.Host.view c.args.host.now)
    (g.H.Host.view c.loop-name.host) (g.H.Host.view c.fetch_file.new.host) c.loop-name-test.true (c.as_str.ensures.value ∙ ap string_bytes c.name-item.is)
    c.loop-name.invariant.fetches tt
    (unkept c.as_str.result.now (g.H.Host.view c.loop-name.host) (g.H.Host.view c.fetch_file.new.host) c.in-Ok.ensures.fetches)

pub loop-name-preserved : goal.loop-name-preserved
loop-name-preserved g c =
    let next = goes_on c.args.names.now c.loop-name.name-index c.name-item.result c.as_str.result.now c.loop-name.files.items c.push.new.self.items c.in-Ok.file
    (g.H.Host.view c.args.host.now) (g.H.Host.view c.loop-name.host) (g.H.Host.view c.fetch_file.new.host) c.loop-name-test.true
    (c.as_str.ensures.value ∙ ap string_bytes c.name-item.is)
    (record { fetched = c.loop-name.invariant.fetched; fetches = c.loop-name.invariant.fetches }) c.in-Ok-push.ensures.items c.in-Ok.ensures.bytes
    c.in-Ok.ensures.fetches in
    record { fetched = next.fetched; fetches = next.fetches }
