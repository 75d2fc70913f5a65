-- `text_formatter::format_quoted_at` meets its contract. Assumes nothing.
use Prim.Native.Nat.{◌+◌, ◌-◌}
use mathlib.Core.Path.{◌≡◌, sym, ◌∙◌}
use native.Mathlib.Omega.{arith}
use lib.ListN.{take, drop}
use Rattle.output.specs.Wrote.{le_bytes}
use Rattle.text_rules.proofs.LaneTests.{word-part, raw_word, marked-raw}
use Rattle.text_rules.proofs.SymbolsText.{symbol_always}
use Rattle.text_rules.proofs.text_formatter.format_quoted_at.Goals as goal

pub returns-then-is_raw_word : goal.returns-then-is_raw_word
returns-then-is_raw_word c =
    let a = c.args in
    let x = c.word_at-x.result in
    let e : le_bytes a.n x ≡ take a.n (drop a.from a.s.now) = word-part a.s.now a.from a.n x c.if-n-le8.true c.word_at-x.ensures in
    let k = sym c.is_raw_word.ensures ∙ c.if-is_raw_word.true in
    record {
      between = rw (sym e, marked-raw (le_bytes a.n x) (raw_word a.n x k)) c.put_quoted_word.ensures;
      always = rw (sym e, symbol_always (le_bytes a.n x), marked-raw (le_bytes a.n x) (raw_word a.n x k)) c.put_quoted_word.ensures;
    }

pub returns : goal.returns
returns c =
    let a = c.args in
    let e : a.from + a.n - a.from ≡ a.n = omega arith in
    record { between = rw e at c.put_marked.ensures; always = rw (symbol_always (take a.n (drop a.from a.s.now))) (rw e at c.put_marked.ensures) }
