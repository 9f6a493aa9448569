-- A refusal's text, and a line after it.
use Rattle.std.proofs.Common.{◌≡◌, ◌∙◌, ◌≤◌, ℕ, List, ◌++◌, length, take, append-nil, [], Option, Some, None, refl, sym, ap, append_assoc, arith}
use Rattle.std.proofs.lemmas.List.{take_all}
use Rattle.host_port.specs.HostCalls.{Rose}
use Rattle.host_port.specs.Outside.{Outside, appended, counted, grown}
use Rattle.host_port.specs.declared.host.Channel.TheVariants.{Fault}
use Rattle.refusal_words.specs.Tellings.{TellsInWords}
use Rattle.run_inputs.specs.Refusals.{TellsRefusal, text_of}
use Rattle.run_inputs.specs.declared.refusals.Refusal.{Refusal}

grown_twice : (channel : Option (List ℕ)) (one two : List ℕ) → grown (grown channel one) two ≡ grown channel (one ++ two)
grown_twice None one two = refl
grown_twice (Some before) one two = ap Some (append_assoc before one two)

-- two texts, one after the other
both_sent : (old mid new : Outside) (one two : List ℕ) → mid ≡ counted (appended old Fault one) mid.faults → new ≡ counted (appended mid Fault two) new.faults
    → new ≡ counted (appended old Fault (one ++ two)) new.faults
both_sent old mid new one two first second =
    second
    ∙ ap (λ (h : Outside). counted (appended h Fault two) new.faults) first
    ∙ ap (λ (f : Option (List ℕ)). record old { fault = f; faults = new.faults }) (grown_twice old.fault one two)

later_rose : (a b c : ℕ) → a ≤ b → Rose b c → Rose a c
later_rose a b c le rose = omega (arith, le, rose)

rose_later : (a b c : ℕ) → b ≤ c → Rose a b → Rose a c
rose_later a b c le rose = omega (arith, le, rose)

-- the whole line was sent
pub line_sent : (refusal : Refusal) (line : List ℕ) (status : ℕ) (old mid new : Outside) → TellsRefusal refusal status old mid
    → new ≡ counted (appended mid Fault line) new.faults → mid.faults ≤ new.faults → TellsInWords refusal line status old new
line_sent refusal line status old mid new told sent later = record {
  answer = told.answer;
  parts = (
    told.part.0,
    (
      length line,
      both_sent old mid new (take told.part.0 (text_of refusal)) (take (length line) line) told.part.1
          (sent ∙ ap (λ (bytes : List ℕ). counted (appended mid Fault bytes) new.faults) (sym (take_all (length line) line (omega arith)))),
    ),
  );
  whole = λ seven calm. both_sent old mid new (text_of refusal) line (told.whole seven (λ rose. calm (rose_later old.faults mid.faults new.faults later rose))) sent;
  later = omega (arith, told.later, later);
}

-- the host failed at the line
pub line_failed : (refusal : Refusal) (line : List ℕ) (status n : ℕ) (old mid new : Outside) → TellsRefusal refusal status old mid
    → new ≡ counted (appended mid Fault (take n line)) new.faults → Rose mid.faults new.faults → mid.faults ≤ new.faults → TellsInWords refusal line status old new
line_failed refusal line status n old mid new told part rose later = record {
  answer = told.answer;
  parts = (told.part.0, (n, both_sent old mid new (take told.part.0 (text_of refusal)) (take n line) told.part.1 part));
  whole = λ seven calm. absurd (calm (later_rose old.faults mid.faults new.faults told.later rose));
  later = omega (arith, told.later, later);
}

-- memory ran out at the line
pub line_lost : (refusal : Refusal) (line : List ℕ) (status n : ℕ) (old mid new : Outside) → TellsRefusal refusal status old mid
    → new ≡ counted (appended mid Fault (take n line)) new.faults → mid.faults ≤ new.faults → TellsInWords refusal line 7 old new
line_lost refusal line status n old mid new told part later = record {
  answer = λ seven. absurd (seven refl);
  parts = (told.part.0, (n, both_sent old mid new (take told.part.0 (text_of refusal)) (take n line) told.part.1 part));
  whole = λ seven. absurd (seven refl);
  later = omega (arith, told.later, later);
}

-- nothing of the line was sent
pub line_unsent : (refusal : Refusal) (line : List ℕ) (status : ℕ) (old new : Outside) → TellsRefusal refusal status old new → TellsInWords refusal line 7 old new
line_unsent refusal line status old new told = line_lost refusal line status 0 old new new told (nothing_more new) (omega arith)
  where
    grown_none : (channel : Option (List ℕ)) → channel ≡ grown channel []
    grown_none None = refl
    grown_none (Some before) = ap Some (sym (append-nil before))

    nothing_more : (h : Outside) → h ≡ counted (appended h Fault []) h.faults
    nothing_more h = ap (λ (f : Option (List ℕ)). record h { fault = f }) (grown_none h.fault)
