-- Steps of a session whose run was refused.
use Rattle.std.proofs.Common.{◌≡◌, ◌∙◌, ◌++◌, ◌+◌, ◌≤◌, suc, ℕ, Bool, true, false, not, List, [], Option, refl, sym, ap, arith, subst, append-nil, take, length, inl, inr}
use Rattle.std.proofs.Math.Seq.{take-append-add}
use Rattle.std.specs.Io.KnownBytes.{Appends, Consumes}
use Rattle.std.specs.Prelude.{OnErr, OnOk, Result, Ok, Err, Some, None}
use Rattle.gdb_command.proofs.Reading.{at}
use Rattle.gdb_command.proofs.Streams.{appends-none, consumes-none, passes-more, passes-none}
use Rattle.gdb_command.specs.Debugging.{RefusesIf}
use Rattle.gdb_command.specs.Reads.{Passes, ReadsMore, ReadsSome, Streams}
use Rattle.gdb_command.specs.Refusing.{AnswersFirst, AnswersOne, HasRefused, HasRefusedSome, IsOneCutOff, ReadsOne, Refuses, RefusesOne, Refusing, at_start, ends_with, refused_unit, with_answer, with_read}
use Rattle.gdb_command.specs.Serving.{IsPartial}
use Rattle.host_port.specs.declared.host.HostFault.{HostFault}
use Rattle.gdb_packets.specs.Units.{InputUnit, first_unit}

-- So many steps were made up to here.
pub record RefusesUpTo (n : ℕ) (error : List ℕ) (a b : Streams) (left : List ℕ) (ended : Bool) : Type 0 where
  pub end : Refusing
  pub refuses : Refuses n error end
  pub passes : Passes a b end.read end.answers
  pub left_is : end.left ≡ left
  pub ended_is : end.has_ended ≡ ended

-- none yet
pub no-steps : (error : List ℕ) (a : Streams) (left : List ℕ) → left ≡ [] → RefusesUpTo 0 error a a left false
unfolding Refuses
no-steps error a left none = record { end = at_start; refuses = refl; passes = passes-none a; left_is = sym none; ended_is = refl }

-- more was read
read-one : (n : ℕ) (error : List ℕ) (a b c : Streams) (left rest : List ℕ) → RefusesUpTo n error a b left false → ReadsOne b c left rest
    → RefusesUpTo (suc n) error a c rest false
unfolding Refuses
read-one n error a b c left rest before one = record {
  end = with_read one.more before.end;
  refuses = record {
    mid = before.end;
    earlier = before.refuses;
    on = before.ended_is;
    step = inl (record { waits = subst IsPartial (sym before.left_is) one.waits; more = one.more; read = refl });
  };
  passes =
      subst (λ (l : List ℕ). Passes a c (before.end.read ++ one.more) l) (append-nil before.end.answers)
      (passes-more a b c before.end.read one.more before.end.answers [] before.passes one.passes);
  left_is = ap (λ (l : List ℕ). l ++ one.more) before.left_is ∙ sym one.appends;
  ended_is = before.ended_is;
}

-- a piece was answered
answer-one : (n : ℕ) (error : List ℕ) (ends : Bool) (a b c : Streams) (left rest : List ℕ) → RefusesUpTo n error a b left false
    → AnswersOne error ends b c left rest → RefusesUpTo (suc n) error a c rest ends
unfolding Refuses
answer-one n error ends a b c left rest before one = record {
  end = with_answer error before.end;
  refuses = record { mid = before.end; earlier = before.refuses; on = before.ended_is; step = inr refl };
  passes =
      (let now : Passes b c [] (refused_unit error (first_unit left).0) = record {
        reads = subst (λ (l : Option (List ℕ)). Consumes b.left l []) (sym one.same) (consumes-none b.left);
        writes = one.first.writes;
      } in
      let all = passes-more a b c before.end.read [] before.end.answers (refused_unit error (first_unit left).0) before.passes now in
      let P : List ℕ → Type 0 = λ l. Passes a c l (before.end.answers ++ refused_unit error (first_unit left).0) in
      let Q : List ℕ → Type 0 = λ l. Passes a c before.end.read (before.end.answers ++ refused_unit error (first_unit l).0) in
      subst Q (sym before.left_is) (subst P (append-nil before.end.read) all));
  left_is = ap (λ (l : List ℕ). (first_unit l).1) before.left_is ∙ sym one.first.goes_on;
  ended_is = ap (λ (l : List ℕ). ends_with (first_unit l).0) before.left_is ∙ sym one.first.last;
}

next-step : (n : ℕ) (error : List ℕ) (a b c : Streams) (left rest : List ℕ) → RefusesUpTo n error a b left false → RefusesOne error true b c left rest
    → RefusesUpTo (suc n) error a c rest false
next-step n error a b c left rest before (inl one) = read-one n error a b c left rest before one
next-step n error a b c left rest before (inr one) = answer-one n error false a b c left rest before one

-- a step after which it goes on
pub step-on : (n : ℕ) (error : List ℕ) (goes : Bool) (a b c : Streams) (left rest : List ℕ) → RefusesUpTo n error a b left false
    → RefusesOne error goes b c left rest → goes ≡ true → RefusesUpTo (n + 1) error a c rest false
step-on n error true a b c left rest before one is =
    let next : suc n ≡ n + 1 = omega arith in
    subst (λ (k : ℕ). RefusesUpTo k error a c rest false) next (next-step n error a b c left rest before one)
step-on n error false a b c left rest before one is = absurd (cc)

-- a step that ends it
pub step-last : (n : ℕ) (error : List ℕ) (goes : Bool) (a b c : Streams) (left rest : List ℕ) → RefusesUpTo n error a b left false
    → RefusesOne error goes b c left rest → goes ≡ false → HasRefused error a c
step-last n error true a b c left rest before one is = absurd (cc)
step-last n error false a b c left rest before (inl one) is = record {
  count = n;
  end = before.end;
  refuses = before.refuses;
  passes =
      (let all = passes-more a b c before.end.read [] before.end.answers [] before.passes one.passes in
      let P : List ℕ → Type 0 = λ l. Passes a c l (before.end.answers ++ []) in
      let Q : List ℕ → Type 0 = λ l. Passes a c before.end.read l in
      subst Q (append-nil before.end.answers) (subst P (append-nil before.end.read) all));
  waits = λ on few. subst IsPartial (sym before.left_is) one.waits;
  stops = λ on few. one.end;
}
step-last n error false a b c left rest before (inr one) is =
    let last = answer-one n error true a b c left rest before one in
    record {
      count = suc n;
      end = last.end;
      refuses = last.refuses;
      passes = last.passes;
      waits = λ on few. (let over = last.ended_is in absurd (cc));
      stops = λ on few. (let over = last.ended_is in absurd (cc));
    }

-- as many steps as are made at most
pub steps-counted : (n : ℕ) (error : List ℕ) (a b : Streams) (left : List ℕ) → RefusesUpTo n error a b left false → 18446744073709551615 ≤ n
    → HasRefused error a b
steps-counted n error a b left before many = record {
  count = n;
  end = before.end;
  refuses = before.refuses;
  passes = before.passes;
  waits = λ on few. absurd (omega (arith, many, few));
  stops = λ on few. absurd (omega (arith, many, few));
}

-- the same streams
pub same-refused : (error : List ℕ) (a : Streams) (left after written so_far : Option (List ℕ)) → after ≡ left → so_far ≡ written
    → HasRefused error a (at left written) → HasRefused error a (at after so_far)
same-refused error a left after written so_far read wrote refused =
    let P : Option (List ℕ) → Type 0 = λ x. HasRefused error a (at x so_far) in
    let Q : Option (List ℕ) → Type 0 = λ x. HasRefused error a (at left x) in
    subst P (sym read) (subst Q (sym wrote) refused)

-- a step that was cut off
pub step-cut : (n : ℕ) (error : List ℕ) (a b c : Streams) (left : List ℕ) → RefusesUpTo n error a b left false → IsOneCutOff error b c left
    → HasRefusedSome error a c
unfolding Refuses
step-cut n error a b c left before cut = record {
  count = suc n;
  end = with_answer error before.end;
  refuses = record { mid = before.end; earlier = before.refuses; on = before.ended_is; step = inr refl };
  more = cut.more;
  part = length before.end.answers + cut.part;
  passes =
      (let all = passes-more a b c before.end.read cut.more before.end.answers (take cut.part (refused_unit error (first_unit left).0)) before.passes cut.passes in
      let P : List ℕ → Type 0 = λ l. Passes a c (before.end.read ++ cut.more) l in
      let Q : List ℕ → Type 0 = λ l. Passes a c (before.end.read ++ cut.more)
      (take (length before.end.answers + cut.part) (before.end.answers ++ refused_unit error (first_unit l).0)) in
      subst Q (sym before.left_is) (subst P (sym (take-append-add before.end.answers (refused_unit error (first_unit left).0) cut.part)) all));
}

-- nothing was read
pub none-refused : (error : List ℕ) (a : Streams) → HasRefusedSome error a a
unfolding Refuses
none-refused error a = record { count = 0; end = at_start; refuses = refl; more = []; part = 0; passes = passes-none a }

-- ---- one step

-- it was read on, or the input has ended
pub one-read : (error : List ℕ) (goes : Bool) (left rest : List ℕ) (a b w : Option (List ℕ)) → IsPartial left → ReadsMore goes left rest a b
    → RefusesOne error goes (at a w) (at b w) left rest
one-read error true left rest a b w waits reads = inl (record {
  waits = waits;
  more = reads.more;
  passes = record { reads = reads.reads; writes = appends-none w };
  appends = reads.appends;
})
one-read error false left rest a b w waits reads =
    let none : reads.more ≡ [] = reads.none refl in
    inl (record {
      waits = waits;
      passes = record { reads = subst (λ (l : List ℕ). Consumes a b l) none reads.reads; writes = appends-none w };
      same = reads.appends ∙ ap (λ (l : List ℕ). left ++ l) none ∙ append-nil left;
      end = reads.end refl;
    })

-- a piece was answered
pub first-answered : (error : List ℕ) (ends : Bool) (left next rest sent bytes : List ℕ) (unit : InputUnit) (w v : Option (List ℕ))
    → first_unit left ≡ (unit, next) → rest ≡ next → ends ≡ ends_with unit → sent ≡ refused_unit error unit → bytes ≡ sent → Appends w v bytes
    → AnswersFirst error ends left rest w v
first-answered error ends left next rest sent bytes unit w v begins same last answer all writes =
    let is : (first_unit left).0 ≡ unit = ap (λ (p : InputUnit × List ℕ). p.0) begins in
    record {
      writes = subst (λ (l : List ℕ). Appends w v l) (all ∙ answer ∙ ap (refused_unit error) (sym is)) writes;
      goes_on = same ∙ sym (ap (λ (p : InputUnit × List ℕ). p.1) begins);
      last = last ∙ ap ends_with (sym is);
    }

-- and it goes on unless it ends with that
one-step : (error : List ℕ) (ends goes : Bool) (a b : Streams) (left rest : List ℕ) → AnswersOne error ends a b left rest → goes ≡ not ends
    → RefusesOne error goes a b left rest
one-step error true false a b left rest one is = inr one
one-step error false true a b left rest one is = inr one
one-step error true true a b left rest one is = absurd (cc)
one-step error false false a b left rest one is = absurd (cc)

pub one-answered : (error : List ℕ) (ends goes : Bool) (left rest : List ℕ) (a w v : Option (List ℕ)) → AnswersFirst error ends left rest w v
    → goes ≡ not ends → RefusesOne error goes (at a w) (at a v) left rest
one-answered error ends goes left rest a w v first is =
    one-step error ends goes (at a w) (at a v) left rest (record { same = refl; first = first }) is

-- a read failed
pub cut-read : (error left : List ℕ) (a b w : Option (List ℕ)) → ReadsSome a b → IsOneCutOff error (at a w) (at b w) left
cut-read error left a b w some = record { more = some.more; part = 0; passes = record { reads = some.reads; writes = appends-none w } }

-- a part was written
pub part-answered : (error left next sent bytes : List ℕ) (unit : InputUnit) (w v : Option (List ℕ)) → first_unit left ≡ (unit, next)
    → sent ≡ refused_unit error unit → bytes ≡ sent → (n : ℕ) × Appends w v (take n bytes)
    → (n : ℕ) × Appends w v (take n (refused_unit error (first_unit left).0))
part-answered error left next sent bytes unit w v begins answer all part =
    let is : (first_unit left).0 ≡ unit = ap (λ (p : InputUnit × List ℕ). p.0) begins in
    (part.0, subst (λ (l : List ℕ). Appends w v (take part.0 l)) (all ∙ answer ∙ ap (refused_unit error) (sym is)) part.1)

-- nothing was written
pub none-answered : (bytes : List ℕ) (w : Option (List ℕ)) → (n : ℕ) × Appends w w (take n bytes)
none-answered bytes w = (0, appends-none w)

pub cut-answer : (error left : List ℕ) (a w v : Option (List ℕ)) → (n : ℕ) × Appends w v (take n (refused_unit error (first_unit left).0))
    → IsOneCutOff error (at a w) (at a v) left
cut-answer error left a w v part = record { more = []; part = part.0; passes = record { reads = consumes-none a; writes = part.1 } }

-- ---- the cause

-- however it ended
pub told-refused : {T : Type 0} (refused : Bool) (r : Result T HostFault) (error : List ℕ) (a b : Streams) → refused ≡ true → OnOk r (HasRefused error a b)
    → OnErr r (HasRefusedSome error a b) → RefusesIf refused error a b
told-refused true (Ok v) error a b is all part = record { fault = None; refuses = all }
told-refused true (Err fault) error a b is all part = record { fault = Some fault; refuses = part }
told-refused false r error a b is all part = absurd (cc)
