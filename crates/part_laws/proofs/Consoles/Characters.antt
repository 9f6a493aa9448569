-- A received character and a control function, row by row.
use Rattle.std.proofs.Common.{◌≡◌, ℕ, ◌<◌, ◌≤◌, ◌==◌, ◌&&◌, Bool, true, false, List, [], ◌∷◌, length, inl, Option, Some, None, refl, sym, ap, subst, ◌∙◌, arith}
use Rattle.std.proofs.lemmas.Bool.{cond_both, leb-false, and_parts}
use Rattle.xinu_base.specs.declared.console.Item.TheVariants.{Char, End}
use Rattle.xinu_base.specs.declared.console.TtyMode.{TtyMode}
use Rattle.xinu_base.specs.declared.console.TtyMode.TheVariants.{Raw, Cbreak, Cooked}
use Rattle.xinu_model.specs.Console.Constants.{TY_IBUFLEN, TY_OBUFLEN, TY_EBUFLEN, TY_EOFCH, TY_BELL, TY_BACKSP, TY_NEWLINE, TY_STRTCH, TY_STOPCH, TY_KILLCH}
use Rattle.xinu_model.specs.Console.Controls.{in_mode, echoing, silent, controlled}
use Rattle.xinu_model.specs.Console.Echo.{new_line, echo_of, erasing, echoed, rung}
use Rattle.xinu_model.specs.Console.Receiving.{holding, going_on, flowing, newline_for_return, received_in, received}
use Rattle.xinu_model.specs.Console.Rows.{Committed, commits_none, commits_item, typed, joined, line_ended, last_or, without_last, is_empty, is_full, is_line_full, ConsoleRow, raw_rows, cbreak_rows, cooked_rows, by_rows}
use Rattle.xinu_model.specs.Console.Sound.{IsSoundConsole}
use Rattle.xinu_model.specs.Console.State.{Console, input_size}
use Rattle.part_laws.proofs.Consoles.Steps.{Goes, with_echo_only, echoed_only, sound_echo, sound_typed, sound_shorter, sound_erased, goes_none, goes_item, goes_line}

-- if there is room there is
room_of : (c : Console) → is_full c ≡ false → input_size c < TY_IBUFLEN
room_of c h = leb-false TY_IBUFLEN (input_size c) h

-- nothing happens
same_goes : (c : Console) → Goes c (commits_none c)
same_goes c = goes_none c c refl refl (λ s. s)

-- the bell rings
bell_goes : (c : Console) → Goes c (commits_none (rung c))
bell_goes c = goes_none c (rung c) refl refl (sound_echo c (rung c) (with_echo_only (TY_BELL ∷ []) c))

-- something is done to the line, and echoed
line_goes : (bytes : List ℕ) (c d : Console) → d.committed ≡ c.committed → d.output ≡ c.output → (IsSoundConsole c → IsSoundConsole d)
    → Goes c (commits_none (echoed bytes d))
line_goes bytes c d committed output sound =
    let e = echoed_only bytes d in
    goes_none c (echoed bytes d) (e.committed ∙ committed) (e.output ∙ output) (λ s. sound_echo d (echoed bytes d) e (sound s))

-- the newline joins the line, and the whole line is committed
newline_goes : (c : Console) → c.mode ≡ Cooked → input_size c < TY_IBUFLEN → Goes c (line_ended c)
newline_goes c cooked room =
    let d = joined TY_NEWLINE c in
    let e = echoed_only new_line (typed TY_NEWLINE c) in
    goes_line c d e.committed e.output
    (λ s. let t = sound_echo (typed TY_NEWLINE c) d e (sound_typed TY_NEWLINE c cooked room s) in (t.input, t.output, t.echo))

-- raw mode
raw_goes : (b : ℕ) (c : Console) → Goes c (by_rows raw_rows b c)
raw_goes b c =
    cond_both (is_full c) (commits_none c) (commits_item (Char b) c) (Goes c) (λ _. same_goes c)
    (λ f. goes_item (Char b) c c refl refl (room_of c f) (λ s. s))

-- cbreak mode
cbreak_goes : (b : ℕ) (c : Console) → Goes c (by_rows cbreak_rows b c)
cbreak_goes b c =
    let d = echoed (echo_of b) c in
    let e = echoed_only (echo_of b) c in
    cond_both (is_full c) (commits_none (rung c)) (commits_item (Char b) d) (Goes c) (λ _. bell_goes c)
    (λ f. let r = room_of c f in
    let n : length d.committed ≡ length c.committed = ap length e.committed in
    let m : length d.line ≡ length c.line = ap length e.line in
    goes_item (Char b) c d e.committed e.output (omega arith) (sound_echo c d e))

-- cooked mode
cooked_goes : (b : ℕ) (c : Console) → c.mode ≡ Cooked → Goes c (by_rows cooked_rows b c)
cooked_goes b c cooked =
    cond_both ((b == TY_BACKSP) && is_empty c) _ _ (Goes c) (λ _. same_goes c)
    (λ _. cond_both (b == TY_BACKSP) _ _ (Goes c)
    (λ _. line_goes (erasing (echo_of (last_or 0 c.line))) c (record c { line = without_last c.line }) refl refl (sound_erased c cooked))
    (λ _. cond_both (b == TY_KILLCH) _ _ (Goes c)
    (λ _. line_goes new_line c (record c { line = [] }) refl refl
    (sound_shorter [] c cooked (let z : 0 ≤ length c.line = omega arith in z)))
    (λ _. cond_both ((b == TY_NEWLINE) && is_full c) _ _ (Goes c) (λ _. bell_goes c)
    (λ f. cond_both (b == TY_NEWLINE) _ _ (Goes c)
    (λ g. newline_goes c cooked (room_of c (sym (ap (λ x. x && is_full c) g) ∙ f)))
    (λ _. cond_both ((b == TY_EOFCH) && (is_empty c && is_full c)) _ _ (Goes c) (λ _. bell_goes c)
    (λ f. cond_both ((b == TY_EOFCH) && is_empty c) _ _ (Goes c)
    (λ g. let parts = and_parts (b == TY_EOFCH) (is_empty c) g in
    goes_item End c c refl refl
    (room_of c (sym (ap (λ x. x && (is_empty c && is_full c)) parts.0 ∙ ap (λ x. x && is_full c) parts.1) ∙ f)) (λ s. s))
    (λ _. cond_both (is_line_full c) _ _ (Goes c) (λ _. bell_goes c)
    (λ f. let r = leb-false 127 (input_size c) f in
    line_goes (echo_of b) c (typed b c) refl refl (sound_typed b c cooked (omega arith))))))))))

-- the characters that hold the output and let it go on
flowing_goes : (rows : List ConsoleRow) (b : ℕ) (c : Console) → Goes (going_on c) (by_rows rows b (going_on c)) → Goes c (flowing rows b c)
flowing_goes rows b c go =
    let other : (held : Bool) → IsSoundConsole c → IsSoundConsole (record c { is_held = held }) =
    λ held s. record { input = s.input; output = s.output; echo = s.echo; line = s.line } in
    cond_both (b == TY_STOPCH) _ _ (Goes c) (λ _. goes_none c (holding c) refl refl (other true))
    (λ _. cond_both (b == TY_STRTCH) _ _ (Goes c) (λ _. goes_none c (going_on c) refl refl (other false))
    (λ _. let a = go.appends in record {
      appends = record { items = a.items; committed = a.committed; count = a.count; output = a.output };
      sound = λ s. go.sound (other false s);
    }))

-- A received character.
pub received_goes : (b : ℕ) (c : Console) → Goes c (received b c)
received_goes b c = by_mode c.mode refl
  where
    by_mode : (mode : TtyMode) → c.mode ≡ mode → Goes c (received_in mode b c)
    by_mode Raw e = raw_goes b c
    by_mode Cbreak e = flowing_goes cbreak_rows (newline_for_return b) c (cbreak_goes (newline_for_return b) (going_on c))
    by_mode Cooked e = flowing_goes cooked_rows (newline_for_return b) c (cooked_goes (newline_for_return b) (going_on c) e)

-- what becomes of a control function that there is, or else nothing
abbrev GoesIf : Console → Option Committed → Type 0
GoesIf c None = Unit {0}
GoesIf c (Some m) = Goes c m

-- A control function.
controlled_by : (f : ℕ) (c : Console) → GoesIf c (controlled f c)
controlled_by f c =
    let sizes : IsSoundConsole c → (input_size c ≤ TY_IBUFLEN) × (length c.output ≤ TY_OBUFLEN) × (length c.echo ≤ TY_EBUFLEN) =
    λ s. (s.input, s.output, s.echo) in
    cond_both (f == 1) _ _ (GoesIf c) (λ _. goes_line c (going_on (in_mode Raw c)) refl refl sizes)
    (λ _. cond_both (f == 2) _ _ (GoesIf c) (λ _. goes_line c (in_mode Cbreak c) refl refl sizes)
    (λ _. cond_both (f == 3) _ _ (GoesIf c)
    (λ _. goes_none c (in_mode Cooked c) refl refl (λ s. record { input = s.input; output = s.output; echo = s.echo; line = inl refl }))
    (λ _. cond_both (f == 5) _ _ (GoesIf c)
    (λ _. goes_none c (echoing c) refl refl (λ s. record { input = s.input; output = s.output; echo = s.echo; line = s.line }))
    (λ _. cond_both (f == 6) _ _ (GoesIf c)
    (λ _. goes_none c (silent c) refl refl (λ s. record { input = s.input; output = s.output; echo = s.echo; line = s.line }))
    (λ _. tt)))))

pub controlled_goes : (f : ℕ) (c : Console) (m : Committed) → controlled f c ≡ Some m → Goes c m
controlled_goes f c m e = subst (GoesIf c) e (controlled_by f c)
