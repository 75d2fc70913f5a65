-- `parts::name_length` meets its contract. Assumes nothing.
use mathlib.Core.Path.{◌≡◌}
use mathlib.Core.List.{List}
use mathlib.Core.Option.{some}
use native.Mathlib.Omega.{arith}
use Prim.Native.Nat.{ℕ, ◌+◌, ◌<◌, ◌≤◌}
use lib.ListN.{length, get_or, take, drop}
use Rattle.text_rules.specs.Text.{Sym}
use Rattle.tape.specs.Bytes.{le_number, part}
use Rattle.tape.specs.Tape.{name_of}
use Rattle.tape.specs.Steps.{size_taken}
use Rattle.tape.specs.declared.Frame.TheVariants.{Struct}
use Rattle.tape.proofs.Parts.{trailed}
use Rattle.writer.specs.Steps.{name_in}
use Rattle.writer.proofs.Leaves.{NameAt, text_name, id_name}
use Rattle.measure.specs.Steps.{quoting}
use Rattle.measure.proofs.NumberLengths.{id_most}
use Rattle.measure.proofs.PartLaws.{text_most, text_name-length, id_name-length}
use Rattle.measure.proofs.SymbolLengths.{quotes_most}
use Rattle.measure.proofs.parts.name_length.Goals as goal

-- what the node is, where it is text
module _ (s : List ℕ) (at e n : ℕ) (w : at ≤ e) (r : e + 8 ≤ length s) (z : name_of Struct (part s at e) ≡ some (name_in Struct (part s at e), size_taken (name_of Struct (part s at e)))) (q : n ≡ le_number 4 (drop (at + 1) s)) (k : get_or s at 0 < 7) where
  name : NameAt s at e (Sym.text (take n (drop 5 (part s at e)))) (5 + n)
  name = text_name s at e w (trailed r) z n q (λ (i : get_or s at 0 ≡ 7). omega arith)

pub plain_at-requires : goal.plain_at-requires
plain_at-requires c =
    let r = (name c.args.tape.now c.args.at c.args.end c.u32_at-n.result c.requires.at_le_end c.requires.end_in_bounds c.requires.end_value c.u32_at-n.ensures.0 c.if-tape-at-lt7.true).room in
    let k = c.requires.end_in_bounds in
    omega arith

pub overflow_add-result : goal.overflow_add-result
overflow_add-result c =
    let u = c.u32_at-n.ensures.1 in
    record { fits = omega (arith, quotes_most (quoting c.args.quotes), c.requires.quotes_value) }

pub overflow_add-result-then-plain_at : goal.overflow_add-result-then-plain_at
overflow_add-result-then-plain_at c =
    let u = c.u32_at-n.ensures.1 in
    record { fits = omega (arith, quotes_most (quoting c.args.quotes), c.requires.quotes_value) }

pub returns-then-plain_at : goal.returns-then-plain_at
returns-then-plain_at c =
    let q = quoting c.args.quotes in
    let p = c.plain_at.ensures c.if-plain_at.true q in
    let t = text_name-length q _ (name c.args.tape.now c.args.at c.args.end c.u32_at-n.result c.requires.at_le_end c.requires.end_in_bounds c.requires.end_value c.u32_at-n.ensures.0 c.if-tape-at-lt7.true) in
    let m = c.requires.quotes_value in
    omega arith

pub symbol_length-requires : goal.symbol_length-requires
symbol_length-requires c =
    let r = (name c.args.tape.now c.args.at c.args.end c.u32_at-n.result c.requires.at_le_end c.requires.end_in_bounds c.requires.end_value c.u32_at-n.ensures.0 c.if-tape-at-lt7.true).room in
    let k = c.requires.end_in_bounds in
    let u = c.u32_at-n.ensures.1 in
    record { n_in_bounds = omega arith; n_bound = omega arith; quotes_value = c.requires.quotes_value }

pub overflow_add-result-then-tape-at-lt7 : goal.overflow_add-result-then-tape-at-lt7
overflow_add-result-then-tape-at-lt7 c =
    let a = c.args in
    let m = text_most (quoting a.quotes) _ (drop (a.at + 5) a.tape.now) c.u32_at-n.ensures.1 in
    let r = c.symbol_length.ensures in
    record { fits = omega arith }

pub returns-then-tape-at-lt7 : goal.returns-then-tape-at-lt7
returns-then-tape-at-lt7 c =
    let a = c.args in
    let r = c.symbol_length.ensures in
    let t = text_name-length (quoting a.quotes) _ (name c.args.tape.now c.args.at c.args.end c.u32_at-n.result c.requires.at_le_end c.requires.end_in_bounds c.requires.end_value c.u32_at-n.ensures.0 c.if-tape-at-lt7.true) in
    omega arith

pub overflow_add-result-2 : goal.overflow_add-result-2
overflow_add-result-2 c =
    let m = id_most c.u32_at-n.result in
    let r = c.symbol_id_length.ensures in
    record { fits = omega arith }

pub returns : goal.returns
returns c =
    let a = c.args in
    let q = id_name a.tape.now a.at a.end c.requires.at_le_end (trailed c.requires.end_in_bounds) c.requires.end_value _ c.u32_at-n.ensures.0 c.if-tape-at-lt7.false in
    let t = id_name-length (quoting a.quotes) _ q in
    let r = c.symbol_id_length.ensures in
    omega arith
