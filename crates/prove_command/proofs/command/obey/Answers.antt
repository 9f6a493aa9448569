use Rattle.std.proofs.Common.{ap, arith, map, subst, None, Some}
use Rattle.std.proofs.lemmas.List.{length-map}
use Rattle.std.specs.String.{string_bytes}
use Rattle.prove_command.proofs.Files.{as_many_files}
use Rattle.prove_command.proofs.Judged.{obeys_fetched, obeys_unfetched}
use Rattle.prove_command.specs.Named.{AreFetched}
use Rattle.proof_words.specs.Reading.{asked_of}
use Rattle.prove_command.specs.Theorem.{Judges}
use Rattle.run_inputs.specs.Fetching.{FetchesFiles}
use Rattle.prove_command.proofs.command.obey.Goals as goal

pub judge-requires : goal.judge-requires
judge-requires g c =
    let same = as_many_files (g.H.Host.view c.args.host.now).file (map string_bytes c.as_slice.result.now) (map (λ v. v.items) c.in-Ok.files.items)
    c.in-Ok.ensures.fetched in
    let files = length-map c.in-Ok.files.items (λ v. v.items) in
    let names = length-map c.as_slice.result.now string_bytes in
    record { few = omega (arith, same, files, names, c.as_slice.ensures.len, c.as_slice-in-Ok-2.ensures.len, c.requires.few) }

pub returns-in-Ok : goal.returns-in-Ok
returns-in-Ok g c =
    let h = g.H.Host.view c.args.host.now in
    let k = g.H.Host.view c.fetch_files.new.host in
    let names = ap (map string_bytes) c.as_slice.ensures.value in
    record {
      obeys = obeys_fetched (asked_of c.args.words.now) (map (λ v. v.items) c.in-Ok.files.items) c.judge.result h k (g.H.Host.view c.judge.new.host)
          (subst (λ ns. FetchesFiles ns None h k) names c.in-Ok.ensures.fetches)
          (subst (λ ns. AreFetched h.file ns (map (λ v. v.items) c.in-Ok.files.items)) names c.in-Ok.ensures.fetched)
          (subst (λ ns. Judges (record { lock = c.args.words.now.lock; images = ns }) (map (λ v. v.items) c.in-Ok.files.items) c.judge.result k (g.H.Host.view c.judge.new.host))
          (ap (map string_bytes) c.as_slice-in-Ok.ensures.value)
          (subst (λ fs. Judges (record { lock = c.args.words.now.lock; images = map string_bytes c.as_slice-in-Ok.result.now }) (map (λ v. v.items) fs) c.judge.result k (g.H.Host.view c.judge.new.host))
          c.as_slice-in-Ok-2.ensures.value c.judge.ensures.judges));
    }

pub returns-in-Err : goal.returns-in-Err
returns-in-Err g c =
    let h = g.H.Host.view c.args.host.now in
    let k = g.H.Host.view c.fetch_files.new.host in
    record {
      obeys = obeys_unfetched (asked_of c.args.words.now) c.in-Err.cause h k
          (subst (λ ns. FetchesFiles ns (Some c.in-Err.cause) h k) (ap (map string_bytes) c.as_slice.ensures.value) c.in-Err.ensures.fetches) c.in-Err.ensures.cause;
    }
