-- `parts::untold_length` meets its contract. Assumes nothing.
use mathlib.Core.Path.{◌≡◌, refl, sym, ap, ◌∙◌}
use mathlib.Core.List.{List, []}
use native.Mathlib.Omega.{arith}
use Prim.Native.Nat.{ℕ, ◌+◌, ◌-◌}
use lib.Ieee.{Float}
use lib.ListN.{get_or}
use Rattle.tape.specs.Bytes.{part}
use Rattle.tape.specs.Tree.{encode_scalar, encode_sym}
use Rattle.tape.specs.Tape.{float_as}
use Rattle.tape.specs.Steps.{meant_scalar}
use Rattle.tape.specs.Fine.{Bytes}
use Rattle.tape.specs.declared.Scalar.{Scalar}
use Rattle.tape.specs.declared.Scalar.TheVariants as C
use Rattle.tape.proofs.Parts.{trailed}
use Rattle.writer.specs.Text.{scalar_text}
use Rattle.writer.proofs.Leaves.{symbol_leaf, string_leaf}
use Rattle.measure.specs.Steps.{quoting}
use Rattle.measure.proofs.PartLaws.{stands, untold_clob, symbol-length-is, string-length-is, clob-length-is, float_read, clob_leaf, kind-is}
use Rattle.measure.proofs.parts.untold_length.Goals as goal

-- the bits of a float are read as a float
unreached : (s : Scalar) (k : ℕ) (l : List ℕ) → k ≡ 3 → k ≡ get_or (encode_scalar (meant_scalar s l)) 0 0 → ((x : Float) → s ≡ C.«Float» x → ⊥) → ⊥
unfolding encode_scalar encode_sym
unreached (C.Null t) k l h q o = omega arith
unreached (C.«Bool» b) k l h q o = omega arith
unreached (C.Int n) k l h q o = omega arith
unreached (C.«Float» x) k l h q o = o x refl
unreached (C.Decimal neg m x) k l h q o = omega arith
unreached (C.Timestamp x) k l h q o = omega arith
unreached (C.Symbol n) k l h q o = omega arith
unreached (C.Id i) k l h q o = omega arith
unreached (C.«String» n) k l h q o = omega arith
unreached (C.Clob n) k l h q o = omega arith
unreached (C.Blob n) k l h q o = omega arith

pub u64_at-requires : goal.u64_at-requires
u64_at-requires c =
    let a = c.args in
    let r = (float_read a.tape.now a.at a.end c.requires.at_le_end (trailed c.requires.end_in_bounds) c.requires.bound c.if-k-eq3.true).0 in
    let k = c.requires.end_in_bounds in
    omega arith

pub returns-in_default : goal.returns-in_default
returns-in_default c =
    let e = rw c.in_default.is at (c.float_of.ensures []) in
    rw ((float_read c.args.tape.now c.args.at c.args.end c.requires.at_le_end (trailed c.requires.end_in_bounds) c.requires.bound c.if-k-eq3.true).1 ∙ ap float_as (sym c.u64_at.ensures) ∙ sym e) refl

pub returns-in_default-s : goal.returns-in_default-s
returns-in_default-s c =
    let a = c.args in
    let l = part a.tape.now a.at a.end in
    let e = rw c.in-Some.is at (c.float_of.ensures l) in
    let all : Bytes a.tape.now = λ i. (c.type_inv.tape i).fits in
    let k = kind-is a.tape.now a.at a.end c.requires.at_le_end (trailed c.requires.end_in_bounds) c.requires.bound all _ _ ((float_read c.args.tape.now c.args.at c.args.end c.requires.at_le_end (trailed c.requires.end_in_bounds) c.requires.bound c.if-k-eq3.true).1 ∙ ap float_as (sym c.u64_at.ensures) ∙ sym e) in
    absurd (unreached c.in-Some.s _ _ c.if-k-eq3.true k c.in_default-s.not-Float)

pub returns-then-k-eq3 : goal.returns-then-k-eq3
unfolding scalar_text
returns-then-k-eq3 c =
    let e = rw c.in-Float.is at (rw c.in-Some.is at (c.float_of.ensures [])) in
    rw ((float_read c.args.tape.now c.args.at c.args.end c.requires.at_le_end (trailed c.requires.end_in_bounds) c.requires.bound c.if-k-eq3.true).1 ∙ ap float_as (sym c.u64_at.ensures) ∙ sym e) c.float_length.ensures

pub symbol_length_at-requires : goal.symbol_length_at-requires
symbol_length_at-requires c =
    let r = (symbol_leaf c.args.tape.now c.args.at c.args.end c.requires.at_le_end (trailed c.requires.end_in_bounds) (stands c.args.tape.now c.args.at c.args.end c.requires.bound) _ c.u32_at-n.ensures.0 c.if-k-eq6.true).room in
    let k = c.requires.end_in_bounds in
    let b = c.u32_at-n.ensures.1 in
    record { quotes_value = c.requires.quotes_value; n_in_bounds = omega arith; n_bound = omega arith }

pub returns-then-k-eq6 : goal.returns-then-k-eq6
returns-then-k-eq6 c = c.symbol_length_at.ensures ∙ sym (symbol-length-is _ _ (symbol_leaf c.args.tape.now c.args.at c.args.end c.requires.at_le_end (trailed c.requires.end_in_bounds) (stands c.args.tape.now c.args.at c.args.end c.requires.bound) _ c.u32_at-n.ensures.0 c.if-k-eq6.true))

pub string_length_at-requires : goal.string_length_at-requires
string_length_at-requires c =
    let b = c.u32_at-n.ensures.1 in
    let r = (string_leaf c.args.tape.now c.args.at c.args.end c.requires.at_le_end (trailed c.requires.end_in_bounds) (stands c.args.tape.now c.args.at c.args.end c.requires.bound) _ c.u32_at-n.ensures.0 c.if-k-eq8.true).room in
    let k = c.requires.end_in_bounds in
    record { n_in_bounds = omega arith; n_bound = omega arith }

pub returns-then-k-eq8 : goal.returns-then-k-eq8
returns-then-k-eq8 c = c.string_length_at.ensures ∙ sym (string-length-is _ _ (string_leaf c.args.tape.now c.args.at c.args.end c.requires.at_le_end (trailed c.requires.end_in_bounds) (stands c.args.tape.now c.args.at c.args.end c.requires.bound) _ c.u32_at-n.ensures.0 c.if-k-eq8.true))

pub slice_bounds-clob_length-end : goal.slice_bounds-clob_length-end
slice_bounds-clob_length-end c =
    let r = (clob_leaf c.args.tape.now c.args.at c.args.end c.requires.at_le_end (trailed c.requires.end_in_bounds) c.requires.bound _ c.u32_at-n.ensures.0 (untold_clob _ c.requires.at_value c.if-k-eq3.false c.if-k-eq6.false c.if-k-eq8.false)).room in
    let k = c.requires.end_in_bounds in
    omega arith

pub returns : goal.returns
returns c =
    let a = c.args in
    let n = c.u32_at-n.result in
    let e : a.at + 5 + n - (a.at + 5) ≡ n = omega arith in
    rw e at c.clob_length.ensures ∙ sym (clob-length-is (quoting a.quotes) n (clob_leaf c.args.tape.now c.args.at c.args.end c.requires.at_le_end (trailed c.requires.end_in_bounds) c.requires.bound _ c.u32_at-n.ensures.0 (untold_clob _ c.requires.at_value c.if-k-eq3.false c.if-k-eq6.false c.if-k-eq8.false)))
