-- `quoted::raw_at` meets its contract. Assumes nothing.
use Prim.Native.Nat.{◌+◌, ◌-◌}
use mathlib.Core.Path.{◌≡◌, sym, ◌∙◌}
use native.Mathlib.Omega.{arith}
use lib.ListN.{take, drop}
use borrow.Author.Tests.{le-leb}
use Rattle.text_rules.proofs.Utf8Chars.{char_in}
use Rattle.tokens.proofs.QuotedSteps.{raw_at}
use Rattle.tokens.proofs.Keeping.{kept_all}
use Rattle.tokens.proofs.quoted.raw_at.Goals as goal

pub returns-then-not-is_raw : goal.returns-then-not-is_raw
returns-then-not-is_raw c =
    let a = c.args in
    record { told = (raw_at _ a.text.now a.at c.requires ∙ rw (sym c.is_raw.ensures ∙ c.if-not-is_raw.true), kept_all) }

pub returns-then-n-eq0 : goal.returns-then-n-eq0
returns-then-n-eq0 c =
    let a = c.args in
    record { told = (raw_at _ a.text.now a.at c.requires ∙ simp (sym c.is_raw.ensures ∙ c.if-not-is_raw.false, sym c.char_len-n.ensures ∙ c.if-n-eq0.true), kept_all) }

pub overflow_add-end : goal.overflow_add-end
overflow_add-end c = omega (arith, c.char_len-n.ensures, char_in c.args.text.now c.args.at c.requires)

pub slice_bounds-put_bytes-count : goal.slice_bounds-put_bytes-count
slice_bounds-put_bytes-count c = omega (arith, c.char_len-n.ensures, char_in c.args.text.now c.args.at c.requires)

pub slice_bounds-put_bytes-end : goal.slice_bounds-put_bytes-end
slice_bounds-put_bytes-end c = omega (arith, c.char_len-n.ensures, char_in c.args.text.now c.args.at c.requires)

pub returns : goal.returns
returns c =
    let a = c.args in
    let n = c.char_len-n.result in
    let z : a.at + n - a.at ≡ n = omega arith in
    let k = sym c.char_len-n.ensures in
    record { told = (take n (drop a.at a.text.now), raw_at _ a.text.now a.at c.requires ∙ simp (sym c.is_raw.ensures ∙ c.if-not-is_raw.false, k, le-leb 1 n (omega (arith, c.if-n-eq0.false))), omega (arith, c.if-n-eq0.false), omega (arith, c.char_len-n.ensures, char_in a.text.now a.at c.requires), rw z at c.put_bytes-p.ensures) }
