-- A command that is carried out: refused before anything was sent, stage by stage, and by a printed run.
use Rattle.std.proofs.Common.{◌≡◌, ◌≤◌, Bool, false, ℕ, List, [], take, Option, Some, None, refl, sym, ap, subst, ◌∙◌, arith, inl, inr}
use Rattle.host_port.specs.HostCalls.{Rose}
use Rattle.host_port.specs.Outside.{Outside, grown}
use Rattle.host_port.proofs.Prints.{grown-nil}
use Rattle.host_port.specs.Printing.{Printing}
use Rattle.soak.proofs.SomeTest.{some_test}
use Rattle.transcript_laws.specs.Transcripts.{transcript}
use Rattle.xinu_model.specs.Text.{shown}
use Rattle.xinu_model.proofs.Runs.{some_run}
use Rattle.xinu_commands.specs.Theorem.{Carries, Deserved, HasNoFile, IsPart, IsPartSent, IsSent, IsUnsent, IsWhole, Sends}
use Rattle.xinu_commands.specs.Work.{Does, Judges, Left, Output, Outputs, Refuses, Runs, Soaking, Verdict, judgement, only_printed, output_of, run_output}
use Rattle.run_inputs.specs.declared.refusals.Refusal.{Refusal}
use Rattle.run_inputs.specs.declared.refusals.Refusal.TheVariants as refusal

-- ---- nothing was sent

-- nothing was sent of a file, if its channel stayed
part_unsent : (bytes old new : Option (List ℕ)) → new ≡ old → IsPart bytes old new
part_unsent None old new same = same
part_unsent (Some bytes) old new same = inl same

-- of any output nothing was sent yet
pub nothing_sent : (output : Output) (h k : Outside) → IsUnsent h k → IsPartSent output h k
nothing_sent output h k unsent = record {
  out = (0, unsent.out ∙ sym (grown-nil h.out));
  disk0 = part_unsent output.disk0 h.disk0 k.disk0 unsent.files.disk0;
  disk1 = part_unsent output.disk1 h.disk1 k.disk1 unsent.files.disk1;
  image = part_unsent output.image h.image k.image unsent.files.image;
  text_first = inr unsent.files;
  raw_first = inr unsent.files.disk1;
}

-- A command that is refused before anything was sent is carried out whatever its verdict is, since there is a run through all events, and a soak
-- test of each number.
pub carries_nothing : (v : Verdict) (cause : Refusal) (h k : Outside) → Deserved v (Some cause) h k → IsUnsent h k
    → Carries v (Some cause) None h k
carries_nothing (Refuses c) cause h k deserved unsent =
    record { output = only_printed 0 []; deserved = deserved; sends = unsent; refused = λ some. refl }
carries_nothing (Does (Runs wanted start events)) cause h k deserved unsent =
    let run = some_run events start in
    let output = run_output wanted (shown wanted.plain (transcript start run.0 run.1 run.2)) run.1 None in record {
      output = output;
      deserved = deserved;
      sends = record {
        begins = record { last = run.1; disk1 = None; output = record { lines = run.0; end = run.2; runs = run.3; held = tt; written = refl } };
        part = nothing_sent output h k unsent;
        writes = λ none. absurd (cc);
        whole = λ none. absurd (cc);
      };
      refused = λ some. refl;
    }
carries_nothing (Does (Soaking seed start)) cause h k deserved unsent =
    let test = some_test seed start in
    let output = output_of test.0 None None in record {
      output = output;
      deserved = deserved;
      sends = record {
        begins = record { last = test.1; output = record { summary_line = test.0; soaks = test.2; written = refl } };
        part = nothing_sent output h k unsent;
        writes = λ none. absurd (cc);
        whole = λ none. absurd (cc);
      };
      refused = λ some. refl;
    }
carries_nothing (Does (Judges is_transcript)) cause h k deserved unsent = record {
  output = judgement is_transcript;
  deserved = deserved;
  sends = record {
    begins = refl;
    part = nothing_sent (judgement is_transcript) h k unsent;
    writes = λ none. absurd (cc);
    whole = λ none. absurd (cc);
  };
  refused = λ some. refl;
}
carries_nothing (Does (Outputs out disk1 file)) cause h k deserved unsent = record {
  output = output_of out disk1 file;
  deserved = deserved;
  sends = record {
    begins = refl;
    part = nothing_sent (output_of out disk1 file) h k unsent;
    writes = λ none. absurd (cc);
    whole = λ none. absurd (cc);
  };
  refused = λ some. refl;
}

-- nothing changed on a channel
pub unsent_refl : (h : Outside) → IsUnsent h h
unsent_refl h = record { out = refl; files = record { disk0 = refl; disk1 = refl; image = refl; names = refl } }

no_file_both : (h i k : Outside) → HasNoFile h i → HasNoFile i k → HasNoFile h k
no_file_both h i k first second = record {
  disk0 = second.disk0 ∙ first.disk0;
  disk1 = second.disk1 ∙ first.disk1;
  image = second.image ∙ first.image;
  names = second.names ∙ first.names;
}

pub unsent_both : (h i k : Outside) → IsUnsent h i → IsUnsent i k → IsUnsent h k
unsent_both h i k first second = record { out = second.out ∙ first.out; files = no_file_both h i k first.files second.files }

-- ---- from one stage to the next

-- the same verdict in another form
pub carries_as : (v w : Verdict) (ended : Option Refusal) (left : Option Left) (h k : Outside) → v ≡ w → Carries w ended left h k
    → Carries v ended left h k
carries_as v w ended left h k same carries =
    let P : Verdict → Type 0 = λ x. Carries x ended left h k in subst P (sym same) carries

deserved_within : (v : Verdict) (ended : Option Refusal) (h i j k : Outside) → h.faults ≤ i.faults → j.faults ≤ k.faults
    → Deserved v ended i j → Deserved v ended h k
deserved_within v None h i j k before after deserved = deserved
deserved_within v (Some refusal.HostFault) h i j k before after deserved =
    (deserved.0, (let rose : Rose i.faults j.faults = deserved.1 in omega arith))
deserved_within v (Some refusal.NoMemory) h i j k before after deserved = tt
deserved_within v (Some other) h i j k before after deserved = deserved

pub whole_within : (bytes h i j k : Option (List ℕ)) → i ≡ h → k ≡ j → IsWhole bytes i j → IsWhole bytes h k
whole_within bytes h i j k before after whole =
    let P : Option (List ℕ) → Type 0 = λ x. IsWhole bytes x j in
    let Q : Option (List ℕ) → Type 0 = λ x. IsWhole bytes h x in
    subst Q (sym after) (subst P before whole)

pub part_within : (bytes h i j k : Option (List ℕ)) → i ≡ h → k ≡ j → IsPart bytes i j → IsPart bytes h k
part_within bytes h i j k before after part =
    let P : Option (List ℕ) → Type 0 = λ x. IsPart bytes x j in
    let Q : Option (List ℕ) → Type 0 = λ x. IsPart bytes h x in
    subst Q (sym after) (subst P before part)

sent_within : (output : Output) (h i j k : Outside) → IsUnsent h i → IsUnsent j k → IsSent output i j → IsSent output h k
sent_within output h i j k before after sent = record {
  out = after.out ∙ sent.out ∙ ap (λ (o : Option (List ℕ)). grown o output.out) before.out;
  disk0 = whole_within output.disk0 h.disk0 i.disk0 j.disk0 k.disk0 before.files.disk0 after.files.disk0 sent.disk0;
  disk1 = whole_within output.disk1 h.disk1 i.disk1 j.disk1 k.disk1 before.files.disk1 after.files.disk1 sent.disk1;
  image = whole_within output.image h.image i.image j.image k.image before.files.image after.files.image sent.image;
}

part_sent_within : (output : Output) (h i j k : Outside) → IsUnsent h i → IsUnsent j k → IsPartSent output i j → IsPartSent output h k
part_sent_within output h i j k before after sent = record {
  out = (sent.out.0, after.out ∙ sent.out.1 ∙ ap (λ (o : Option (List ℕ)). grown o (take sent.out.0 output.out)) before.out);
  disk0 = part_within output.disk0 h.disk0 i.disk0 j.disk0 k.disk0 before.files.disk0 after.files.disk0 sent.disk0;
  disk1 = part_within output.disk1 h.disk1 i.disk1 j.disk1 k.disk1 before.files.disk1 after.files.disk1 sent.disk1;
  image = part_within output.image h.image i.image j.image k.image before.files.image after.files.image sent.image;
  text_first = elim sent.text_first [
    | inl whole ↦ inl (after.out ∙ whole ∙ ap (λ (o : Option (List ℕ)). grown o output.out) before.out)
    | inr none ↦ inr (no_file_both h i k before.files (no_file_both i j k none after.files))
  ];
  raw_first = elim sent.raw_first [
    | inl whole ↦ inl (whole_within output.disk0 h.disk0 i.disk0 j.disk0 k.disk0 before.files.disk0 after.files.disk0 whole)
    | inr none ↦ inr (after.files.disk1 ∙ none ∙ before.files.disk1)
  ];
}

sends_within : (v : Verdict) (output : Output) (ended : Option Refusal) (left : Option Left) (h i j k : Outside) → IsUnsent h i
    → IsUnsent j k → Sends v output ended left i j → Sends v output ended left h k
sends_within (Refuses cause) output ended left h i j k before after sends =
    unsent_both h j k (unsent_both h i j before sends) after
sends_within (Does work) output ended left h i j k before after sends = record {
  begins = sends.begins;
  part = part_sent_within output h i j k before after sends.part;
  writes = sends.writes;
  whole = λ none. sent_within output h i j k before after (sends.whole none);
}

-- What is carried out from one moment to another is so from before to after, if nothing is sent there.
pub carries_within : (v : Verdict) (ended : Option Refusal) (left : Option Left) (h i j k : Outside) → IsUnsent h i → h.faults ≤ i.faults
    → IsUnsent j k → j.faults ≤ k.faults → Carries v ended left i j → Carries v ended left h k
carries_within v ended left h i j k before earlier after later carries = record {
  output = carries.output;
  deserved = deserved_within v ended h i j k earlier later carries.deserved;
  sends = sends_within v carries.output ended left h i j k before after carries.sends;
  refused = carries.refused;
}

-- ---- printers

-- a printer that hasn't failed
abbrev pub new_printer : Bool → Printing
new_printer plain = record { plain = plain; failure = None }

-- such a printer that isn't plain
abbrev pub fresh : Printing
fresh = new_printer false
