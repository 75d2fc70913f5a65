-- `field_index::names::name_at` meets its contract. Assumes nothing.
use Rattle.std.proofs.Common.{◌≡◌, ◌+◌, ℕ, sym, ap, ◌∙◌, arith}
use Rattle.text_rules.specs.Text.{Sym}
use Rattle.field_index.specs.Names.{name_at}
use Rattle.tape.specs.Bytes.{part}
use Rattle.field_index.proofs.NameLaws.{cut_short, other-kind, a-number, too_long, a_text}
use Rattle.field_index.proofs.names.name_at.Goals as goal
use Rattle.field_index.proofs.names.name_at.Goals.{then-len-lt5-via-then-len-lt5, then-len-lt5-via-else-len-lt5+then-len-at, in_default-via-in-6+else-n-len, in_default-via-in_default-1}

pub returns-then-len-lt5 : goal.returns-then-len-lt5
returns-then-len-lt5 c = sym (cut_short c.args.tape.now c.args.at (elim c.then-len-lt5.branch [ then-len-lt5-via-then-len-lt5 w ↦ omega arith | then-len-lt5-via-else-len-lt5+then-len-at w ↦ omega arith ]))

pub returns-in-7 : goal.returns-in-7
returns-in-7 c = ap Sym.id c.u32_at-n.ensures.0 ∙ sym (a-number c.args.tape.now c.args.at (omega arith) c.in-7.is)

pub returns-in-6 : goal.returns-in-6
returns-in-6 c =
    let t = c.args.tape.now in
    let at = c.args.at in
    let n = c.u32_at-n.ensures.0 in
    ap (λ (k : ℕ). Sym.text (part t (at + 5) (at + 5 + k))) n ∙ sym (a_text t at (omega (arith, n)) c.in-6.is)

pub returns-in_default : goal.returns-in_default
returns-in_default c =
    let t = c.args.tape.now in
    let at = c.args.at in
    let n = c.u32_at-n.ensures.0 in
    elim c.in_default.branch as (λ _. Sym.text _ ≡ name_at t at) [ in_default-via-in-6+else-n-len w ↦ sym (too_long t at (omega (arith, n)) w.in-6.is) | in_default-via-in_default-1 w ↦ sym (other-kind t at (λ e. omega arith) (λ e. omega arith)) ]
