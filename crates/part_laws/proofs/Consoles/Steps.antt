-- What the effects of characters are made of: each appends items and keeps what always holds.
use Rattle.std.proofs.Common.{◌≡◌, ◌⊎◌, ℕ, ◌-◌, ◌<◌, ◌≤◌, List, [], ◌∷◌, ◌++◌, length, map, take, refl, sym, ap, ◌∙◌, arith, inl, inr, ⊎_elim}
use Rattle.std.proofs.lemmas.Bool.{cond_both}
use Rattle.std.proofs.lemmas.List.{append-nil, length-append, length-map, length-take}
use Rattle.xinu_base.specs.declared.console.Item.{Item}
use Rattle.xinu_base.specs.declared.console.Item.TheVariants.{Char}
use Rattle.xinu_base.specs.declared.console.TtyMode.TheVariants.{Cooked}
use Rattle.xinu_model.specs.Console.Constants.{TY_IBUFLEN, TY_OBUFLEN, TY_EBUFLEN}
use Rattle.xinu_model.specs.Console.Echo.{with_echo, echoed}
use Rattle.xinu_model.specs.Console.Rows.{Committed, commits_none, commits_item, commits_line, typed, without_last}
use Rattle.xinu_model.specs.Console.Sound.{IsSoundConsole}
use Rattle.xinu_model.specs.Console.State.{Console, input_size}
use Rattle.part_laws.specs.Consoles.{Appends}

-- What a character or a control function does: items are appended, and what always holds is kept.
pub record Goes (c : Console) (m : Committed) : Type 0 where
  pub appends : Appends c m
  pub sound : IsSoundConsole c → IsSoundConsole m.console

-- the echo alone is another one
pub record EchoOnly (c d : Console) : Type 0 where
  pub mode : d.mode ≡ c.mode
  pub committed : d.committed ≡ c.committed
  pub line : d.line ≡ c.line
  pub output : d.output ≡ c.output
  pub echo : length c.echo ≤ TY_EBUFLEN → length d.echo ≤ TY_EBUFLEN

pub with_echo_only : (bytes : List ℕ) (c : Console) → EchoOnly c (with_echo bytes c)
with_echo_only bytes c = record {
  mode = refl;
  committed = refl;
  line = refl;
  output = refl;
  echo = λ h. let e = length-append c.echo (take (TY_EBUFLEN - length c.echo) bytes) in
      let f = length-take (TY_EBUFLEN - length c.echo) bytes in omega arith;
}

pub echoed_only : (bytes : List ℕ) (c : Console) → EchoOnly c (echoed bytes c)
echoed_only bytes c =
    cond_both c.echoes (with_echo bytes c) c (EchoOnly c) (λ _. with_echo_only bytes c)
    (λ _. record { mode = refl; committed = refl; line = refl; output = refl; echo = λ h. h })

-- a line is typed only in cooked mode, also where mode and line are the same
line_kept : (c d : Console) → d.mode ≡ c.mode → d.line ≡ c.line → (c.mode ≡ Cooked) ⊎ (c.line ≡ []) → (d.mode ≡ Cooked) ⊎ (d.line ≡ [])
line_kept c d mode line h =
    ⊎_elim (λ (e : c.mode ≡ Cooked). inl (mode ∙ e)) (λ (e : c.line ≡ []). inr (line ∙ e)) h

-- another echo keeps what always holds
pub sound_echo : (c d : Console) → EchoOnly c d → IsSoundConsole c → IsSoundConsole d
sound_echo c d e s =
    let committed : length d.committed ≡ length c.committed = ap length e.committed in
    let line : length d.line ≡ length c.line = ap length e.line in
    let output : length d.output ≡ length c.output = ap length e.output in
    let input = s.input in
    let most = s.output in
    record { input = omega arith; output = omega arith; echo = e.echo s.echo; line = line_kept c d e.mode e.line s.line }

-- a byte is typed in cooked mode
pub sound_typed : (b : ℕ) (c : Console) → c.mode ≡ Cooked → input_size c < TY_IBUFLEN → IsSoundConsole c → IsSoundConsole (typed b c)
sound_typed b c cooked room s =
    let line = length-append c.line (b ∷ []) in
    record { input = omega arith; output = s.output; echo = s.echo; line = inl cooked }

-- the line without its last byte is no longer
without_last_size : (bytes : List ℕ) → length (without_last bytes) ≤ length bytes
without_last_size [] = omega arith
without_last_size (b ∷ bytes) = let e = length-take (length bytes) (b ∷ bytes) in omega arith

-- bytes leave the line, in cooked mode
pub sound_shorter : (bytes : List ℕ) (c : Console) → c.mode ≡ Cooked → length bytes ≤ length c.line → IsSoundConsole c
    → IsSoundConsole (record c { line = bytes })
sound_shorter bytes c cooked fewer s =
    let input = s.input in
    record { input = omega arith; output = s.output; echo = s.echo; line = inl cooked }

pub sound_erased : (c : Console) → c.mode ≡ Cooked → IsSoundConsole c → IsSoundConsole (record c { line = without_last c.line })
sound_erased c cooked s = sound_shorter (without_last c.line) c cooked (without_last_size c.line) s

-- Nothing is committed.
pub goes_none : (c d : Console) → d.committed ≡ c.committed → d.output ≡ c.output → (IsSoundConsole c → IsSoundConsole d)
    → Goes c (commits_none d)
goes_none c d committed output sound = record {
  appends = record { items = []; committed = committed ∙ sym (append-nil c.committed); count = refl; output = output };
  sound = sound;
}

-- An item is committed.
pub goes_item : (x : Item) (c d : Console) → d.committed ≡ c.committed → d.output ≡ c.output → input_size d < TY_IBUFLEN
    → (IsSoundConsole c → IsSoundConsole d) → Goes c (commits_item x d)
goes_item x c d committed output room sound = record {
  appends = record { items = x ∷ []; committed = ap (λ items. items ++ x ∷ []) committed; count = refl; output = output };
  sound = λ s. let t = sound s in let n = length-append d.committed (x ∷ []) in
      record { input = omega arith; output = t.output; echo = t.echo; line = t.line };
}

-- The line is committed.
pub goes_line : (c d : Console) → d.committed ≡ c.committed → d.output ≡ c.output
    → (IsSoundConsole c → (input_size d ≤ TY_IBUFLEN) × (length d.output ≤ TY_OBUFLEN) × (length d.echo ≤ TY_EBUFLEN))
    → Goes c (commits_line d)
goes_line c d committed output sizes = record {
  appends = record {
    items = map Char d.line;
    committed = ap (λ items. items ++ map Char d.line) committed;
    count = sym (length-map d.line Char);
    output = output;
  };
  sound = λ s. let t = sizes s in let n = length-append d.committed (map Char d.line) in let m = length-map d.line Char in
      record { input = omega arith; output = t.1; echo = t.2; line = inr refl };
}
