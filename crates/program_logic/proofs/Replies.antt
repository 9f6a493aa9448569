-- The registers of those who are answered by a call, and of the others.
use Rattle.std.proofs.Common.{List, ap, arith, get_or, length, not, set, sym, ℕ, ℤ, ◌<◌, ◌∙◌, ◌≡◌, ◌≢◌}
use Rattle.std.proofs.Math.ListN.{length-set}
use Rattle.std.proofs.lemmas.List.{get_or-set_other, get_or-set_same}
use Rattle.xinu_base.specs.declared.registers.Hart.{Hart}
use Rattle.xinu_model.specs.Machine.{no_hart, with_reply}
use Rattle.xinu_model.specs.Words.{word}

-- the registers of who is answered, and of the others
pub reply_mine : (l : List Hart) (p : ℕ) (h : Hart) (v : ℤ) → p < length l
    → get_or (with_reply (set l p h) (p, v)) p no_hart ≡ record h { regs = set h.regs 10 (word v) }
reply_mine l p h v within =
    let there = get_or-set_same l p h no_hart within in
    let g = get_or (set l p h) p no_hart in
    let many = length-set l p h in
    get_or-set_same (set l p h) p (record g { regs = set g.regs 10 (word v) }) no_hart (omega arith)
    ∙ ap (λ (x : Hart). record x { regs = set x.regs 10 (word v) }) there

pub reply_other : (l : List Hart) (p q : ℕ) (h : Hart) (v : ℤ) → q ≢ p → get_or (with_reply (set l p h) (p, v)) q no_hart ≡ get_or l q no_hart
reply_other l p q h v other =
    let g = get_or (set l p h) p no_hart in
    get_or-set_other (set l p h) p q (record g { regs = set g.regs 10 (word v) }) no_hart other ∙ get_or-set_other l p q h no_hart other

-- the registers of two that are answered, and of the others
pub two_his : (l : List Hart) (p z : ℕ) (h : Hart) (v w : ℤ) → z ≢ p → z < length l
    → get_or (with_reply (with_reply (set l p h) (z, w)) (p, v)) z no_hart ≡ record (get_or l z no_hart) { regs = set (get_or l z no_hart).regs 10 (word w) }
two_his l p z h v w other within =
    let a = set l p h in
    let b = with_reply a (z, w) in
    let g = get_or b p no_hart in
    let many = length-set l p h in
    let i = get_or a z no_hart in
    get_or-set_other b p z (record g { regs = set g.regs 10 (word v) }) no_hart other
    ∙ get_or-set_same a z (record i { regs = set i.regs 10 (word w) }) no_hart (omega arith)
    ∙ ap (λ (x : Hart). record x { regs = set x.regs 10 (word w) }) (get_or-set_other l p z h no_hart other)

pub two_mine : (l : List Hart) (p z : ℕ) (h : Hart) (v w : ℤ) → z ≢ p → p < length l
    → get_or (with_reply (with_reply (set l p h) (z, w)) (p, v)) p no_hart ≡ record h { regs = set h.regs 10 (word v) }
two_mine l p z h v w other within =
    let a = set l p h in
    let i = get_or a z no_hart in
    let b = with_reply a (z, w) in
    let g = get_or b p no_hart in
    let many = length-set l p h in
    let more = length-set a z (record i { regs = set i.regs 10 (word w) }) in
    get_or-set_same b p (record g { regs = set g.regs 10 (word v) }) no_hart (omega arith)
    ∙ ap (λ (x : Hart). record x { regs = set x.regs 10 (word v) })
    (get_or-set_other a z p (record i { regs = set i.regs 10 (word w) }) no_hart (λ e. other (sym e)) ∙ get_or-set_same l p h no_hart within)

pub two_other : (l : List Hart) (p z q : ℕ) (h : Hart) (v w : ℤ) → q ≢ z → q ≢ p
    → get_or (with_reply (with_reply (set l p h) (z, w)) (p, v)) q no_hart ≡ get_or l q no_hart
two_other l p z q h v w not neither =
    let a = set l p h in
    let i = get_or a z no_hart in
    let b = with_reply a (z, w) in
    let g = get_or b p no_hart in
    get_or-set_other b p q (record g { regs = set g.regs 10 (word v) }) no_hart neither
    ∙ get_or-set_other a z q (record i { regs = set i.regs 10 (word w) }) no_hart not ∙ get_or-set_other l p q h no_hart neither
