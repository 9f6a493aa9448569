use Rattle.std.proofs.Common.{None, map, take}
use Rattle.std.specs.String.{string_bytes}
use Rattle.run_inputs.specs.Fetching.{FetchesFiles}
use Rattle.prove_command.specs.Named.{AreFetched}
use Rattle.prove_command.proofs.fetching.fetch_files.Given as goal

abbrev pub invariant-loop-name : goal.invariant-loop-name
invariant-loop-name g l = record {
  fetched : AreFetched (g.H.Host.view l.initial.host).file (map string_bytes (take l.name-index l.names)) (map (λ v. v.items) l.files.items);
  fetches : FetchesFiles (map string_bytes (take l.name-index l.names)) None (g.H.Host.view l.initial.host) (g.H.Host.view l.host);
}
