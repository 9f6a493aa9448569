-- What is left of a command: refused arguments, a host that failed, and the text of a refusal.
use Rattle.std.proofs.Common.{◌≡◌, ℕ, zero, suc, List, [], ◌∷◌, ◌++◌, map, take, Option, Some, None, is_some, refl, sym, ap, subst, ◌∙◌, arith}
use Rattle.std.specs.List.{filter}
use Rattle.std.specs.Prelude.{option_map}
use Rattle.std.proofs.lemmas.List.{append-nil, take_all}
use Rattle.std.proofs.lemmas.List.Elements.{filter-append}
use Rattle.command_line.specs.Commands.{Command}
use Rattle.command_line.specs.Reading.{Text}
use Rattle.command_line.specs.declared.refusal.ArgsFault.{ArgsFault}
use Rattle.command_line.specs.declared.refusal.ArgsFault.TheVariants as args
use Rattle.host_port.specs.declared.host.Channel.TheVariants.{Fault}
use Rattle.host_port.specs.Outside.{Outside, HostCall, appended, counted, fetching, grown, with_calls}
use Rattle.run_inputs.specs.Conversions.{args_refusal}
use Rattle.xinu_commands.specs.Calls.{calls_due}
use Rattle.run_inputs.specs.Refusals.{TellsRefusal, text_of}
use Rattle.xinu_commands.specs.Stages.{Performs}
use Rattle.xinu_commands.specs.Theorem.{Answers, IsUnsent, namings}
use Rattle.xinu_commands.specs.Verdict.{verdict}
use Rattle.xinu_commands.specs.Work.{Left, Refuses}
use Rattle.run_inputs.specs.declared.refusals.Refusal.{Refusal}
use Rattle.run_inputs.specs.declared.refusals.Refusal.TheVariants as refusal
use Rattle.xinu_commands.proofs.Carried.{carries_nothing, unsent_both, unsent_refl}
use Rattle.xinu_commands.proofs.Called.{keeps_refl, nothing_called}

-- arguments that are refused
args_refuse_of : (f : ArgsFault) (command : Option Command) (h : Outside) → (f ≡ args.NoCommand → command ≡ None) → Performs command (Some (args_refusal f)) None h h
args_refuse_of args.NoCommand command h cause =
    let P : Option Command → Type 0 = λ c. Performs c (Some refusal.Usage) None h h in
    subst P (sym (cause refl)) (record {
      obeys = record { unseen = λ input. []; carries = carries_nothing (Refuses refusal.Usage) refusal.Usage h h refl (unsent_refl h) };
      calls = nothing_called (calls_due None (Refuses refusal.Usage)) refusal.Usage h (λ decided. refl);
      keeps = keeps_refl h;
    })
args_refuse_of args.NoMemory command h cause = record {
  obeys = record {
    unseen = λ input. [];
    carries = carries_nothing (verdict command h.file (λ input. [])) refusal.NoMemory h h tt (unsent_refl h);
  };
  calls = nothing_called (calls_due command (verdict command h.file (λ input. []))) refusal.NoMemory h (λ decided. absurd decided);
  keeps = keeps_refl h;
}

pub args_refuse : (f : ArgsFault) (r : Refusal) (command : Option Command) (h : Outside) → r ≡ args_refusal f → (f ≡ args.NoCommand → command ≡ None)
    → Performs command (Some r) None h h
args_refuse f r command h is cause =
    let P : Refusal → Type 0 = λ x. Performs command (Some x) None h h in subst P (sym is) (args_refuse_of f command h cause)

-- Fetches name no file for a channel.
fetches_name_nothing : (names : List Text) → filter (λ (call : HostCall). is_some call.channel) (map fetching names) ≡ []
fetches_name_nothing [] = refl
fetches_name_nothing (name ∷ names) = fetches_name_nothing names

no_more_named : (calls more : List HostCall) → filter (λ (call : HostCall). is_some call.channel) more ≡ []
    → filter (λ (call : HostCall). is_some call.channel) (calls ++ more) ≡ filter (λ (call : HostCall). is_some call.channel) calls
no_more_named calls more none =
    let of_file = λ (call : HostCall). is_some call.channel in
    filter-append of_file calls more ∙ ap (λ named. filter of_file calls ++ named) none ∙ append-nil (filter of_file calls)

still_named : (calls : Option (List HostCall)) (more : List HostCall) → filter (λ (call : HostCall). is_some call.channel) more ≡ []
    → option_map (filter (λ (call : HostCall). is_some call.channel)) (grown calls more) ≡ option_map (filter (λ (call : HostCall). is_some call.channel)) calls
still_named None more none = refl
still_named (Some calls) more none = ap Some (no_more_named calls more none)

-- Fetches send nothing.
pub fetches_unsent : (h k : Outside) (names : List Text) (m : ℕ) → k ≡ counted (with_calls h (map fetching names)) m → IsUnsent h k
fetches_unsent h k names m is = record {
  out = ap (λ (x : Outside). x.out) is;
  files = record {
    disk0 = ap (λ (x : Outside). x.disk0) is;
    disk1 = ap (λ (x : Outside). x.disk1) is;
    image = ap (λ (x : Outside). x.image) is;
    names = ap namings is ∙ still_named h.calls (map fetching names) (fetches_name_nothing names);
  };
}

-- One does so, whether it was noted or not.
pub fetched_unsent : (h k : Outside) (name : Text) (n m : ℕ) → k ≡ counted (with_calls h (take n (fetching name ∷ []))) m → IsUnsent h k
fetched_unsent h k name zero m is = fetches_unsent h k [] m is
fetched_unsent h k name (suc n) m is =
    let few : take n [] ≡ [] = take_all n [] (omega arith) in
    fetches_unsent h k (name ∷ []) m (is ∙ ap (λ (more : List HostCall). counted (with_calls h (fetching name ∷ more)) m) few)

-- A command that was done answers the status of its output.
pub done_answers : (command : Option Command) (left : Option Left) (exit : ℕ) (h k : Outside) (p : Performs command None left h k) → exit ≡ p.obeys.carries.output.status → Answers exit command h k left
done_answers command left exit h k p status = record {
  ended = None;
  mid = k;
  obeys = p.obeys;
  silent = p.keeps.fault;
  tells = (status, refl);
  calls = p.calls;
  files = p.keeps.file;
  faults = p.keeps.later;
}

-- The text of a refusal sends nothing on the other channels.
text_unsent : (j k : Outside) (text : List ℕ) → k ≡ counted (appended j Fault text) k.faults → IsUnsent j k
text_unsent j k text is = record {
  out = ap (λ (x : Outside). x.out) is;
  files = record {
    disk0 = ap (λ (x : Outside). x.disk0) is;
    disk1 = ap (λ (x : Outside). x.disk1) is;
    image = ap (λ (x : Outside). x.image) is;
    names = ap namings is;
  };
}

-- A command that was refused answers the status of the refusal, once its text was sent.
pub refused_answers : (command : Option Command) (r : Refusal) (exit : ℕ) (h j k : Outside) → Performs command (Some r) None h j → TellsRefusal r exit j k
    → Answers exit command h k None
refused_answers command r exit h j k p refused =
    let sent = refused.part.1 in
    let unsent = text_unsent j k (take refused.part.0 (text_of r)) sent in
    let calls = p.calls in record {
      ended = Some r;
      mid = j;
      obeys = p.obeys;
      silent = p.keeps.fault;
      tells = refused;
      calls = record {
        count = calls.count;
        first = ap (λ (x : Outside). x.calls) sent ∙ calls.first;
        all = λ decided. ap (λ (x : Outside). x.calls) sent ∙ calls.all decided;
        unsent = λ few. unsent_both h j k (calls.unsent few) unsent;
      };
      files = ap (λ (x : Outside). x.file) sent ∙ p.keeps.file;
      faults = p.keeps.later;
    }
