-- `parts::leaf_at` meets its contract: each kind has its own size and length. Assumes nothing.
use mathlib.Core.Path.{◌≡◌, ap}
use native.Mathlib.Omega.{arith}
use Prim.Native.Nat.{ℕ, ◌<◌, ◌≤◌}
use mir.Syntax.{w32, w64}
use mir.Val.{SFits}
use mir.ValLaws.{to_z-of_z}
use Rattle.tape.proofs.Parts.{trailed}
use Rattle.tape.proofs.CodeFacts.{six_on}
use Rattle.measure.specs.Steps.{quoting, is_untold}
use Rattle.measure.proofs.PartLaws.{null-told, bool-told, int_told, float-told, decimal_refused, decimal_room, decimal_told, timestamp-refused, timestamp-room, timestamp-told, id_told, string-told}
use borrow.Author.Rules.{rules}
use Rattle.measure.proofs.parts.leaf_at.Goals as goal

pub returns-then-size-eq0 : goal.returns-then-size-eq0
returns-then-size-eq0 c =
    let a = c.args in
    let t = decimal_refused (quoting a.quotes) a.tape.now a.at a.end c.requires.at_lt_end (trailed c.requires.end_in_bounds) _ c.in-4.is c.decimal_size-size.ensures c.if-size-eq0.true in
    record { size = t.0; length = t.1.0; untold = t.1.1 }

pub magnitude_of-requires : goal.magnitude_of-requires
magnitude_of-requires c =
    let a = c.args in
    let r = decimal_room (quoting a.quotes) a.tape.now a.at a.end c.requires.at_lt_end (trailed c.requires.end_in_bounds) _ c.in-4.is c.decimal_size-size.ensures c.if-size-eq0.false in
    let k = c.requires.end_in_bounds in
    omega arith

pub exponent_of-requires : goal.exponent_of-requires
exponent_of-requires c =
    let a = c.args in
    let r = decimal_room (quoting a.quotes) a.tape.now a.at a.end c.requires.at_lt_end (trailed c.requires.end_in_bounds) _ c.in-4.is c.decimal_size-size.ensures c.if-size-eq0.false in
    let k = c.requires.end_in_bounds in
    omega arith

pub returns-then-size-eq0-2 : goal.returns-then-size-eq0-2
returns-then-size-eq0-2 c =
    let a = c.args in
    let t = timestamp-refused (quoting a.quotes) a.tape.now a.at a.end c.requires.at_lt_end (trailed c.requires.end_in_bounds) _ c.in-5.is c.timestamp_size-size.ensures c.if-size-eq0-2.true in
    record { size = t.0; length = t.1.0; untold = t.1.1 }

pub timestamp_of-requires : goal.timestamp_of-requires
timestamp_of-requires c =
    let a = c.args in
    let r = timestamp-room (quoting a.quotes) a.tape.now a.at a.end c.requires.at_lt_end (trailed c.requires.end_in_bounds) _ c.in-5.is c.timestamp_size-size.ensures c.if-size-eq0-2.false in
    let k = c.requires.end_in_bounds in
    omega arith

pub returns-in-0 : goal.returns-in-0
returns-in-0 c =
    let a = c.args in
    let t = null-told (quoting a.quotes) a.tape.now a.at a.end c.requires.at_lt_end (trailed c.requires.end_in_bounds) _ _ c.in-0.is c.null_size.ensures c.null_length.ensures in
    record { size = t.0; length = t.1.0; untold = t.1.1 }

pub returns-in-1 : goal.returns-in-1
returns-in-1 c =
    let a = c.args in
    let t = bool-told (quoting a.quotes) a.tape.now a.at a.end c.requires.at_lt_end (trailed c.requires.end_in_bounds) _ _ c.in-1.is c.bool_size.ensures c.bool_length.ensures in
    record { size = t.0; length = t.1.0; untold = t.1.1 }

pub returns-in-2 : goal.returns-in-2
returns-in-2 c =
    let a = c.args in
    let z = c.int_of.result in
    let k : SFits w64 z = search rules in
    let t = int_told (quoting a.quotes) a.tape.now a.at a.end c.requires.at_lt_end (trailed c.requires.end_in_bounds) _ _ c.in-2.is c.int_size.ensures (rw (to_z-of_z w64 z k, c.int_of.ensures) at c.integer_length.ensures.0) in
    record { size = t.0; length = t.1.0; untold = t.1.1 }

pub returns-in-3 : goal.returns-in-3
returns-in-3 c =
    let a = c.args in
    let t = float-told (quoting a.quotes) a.tape.now a.at a.end c.requires.at_lt_end (trailed c.requires.end_in_bounds) _ c.in-3.is c.float_size.ensures in
    record { size = t.0; length = t.1.0; untold = t.1.1 }

pub returns-else-size-eq0 : goal.returns-else-size-eq0
returns-else-size-eq0 c =
    let a = c.args in
    let z = c.exponent_of.result in
    let k : SFits w32 z = search rules in
    let t = decimal_told (quoting a.quotes) a.tape.now a.at a.end c.requires.at_lt_end (trailed c.requires.end_in_bounds) _ c.in-4.is c.decimal_size-size.ensures _ (rw (to_z-of_z w32 z k, c.exponent_of.ensures, c.magnitude_of.ensures) at c.decimal_length.ensures) in
    record { size = t.0; length = t.1.0; untold = t.1.1 }

pub returns-else-size-eq0-2 : goal.returns-else-size-eq0-2
returns-else-size-eq0-2 c =
    let a = c.args in
    let t = timestamp-told (quoting a.quotes) a.tape.now a.at a.end c.requires.at_lt_end (trailed c.requires.end_in_bounds) _ c.in-5.is c.timestamp_size-size.ensures _ (rw c.timestamp_of.ensures at c.timestamp_length.ensures) in
    record { size = t.0; length = t.1.0; untold = t.1.1 }

pub returns-in-6 : goal.returns-in-6
returns-in-6 c =
    record { size = c.symbol_leaf.ensures.size; length = c.symbol_leaf.ensures.length; untold = λ h p. ap (λ (j : ℕ). is_untold j) c.in-6.is }

pub returns-in-7 : goal.returns-in-7
returns-in-7 c =
    let a = c.args in
    let t = id_told (quoting a.quotes) a.tape.now a.at a.end c.requires.at_lt_end (trailed c.requires.end_in_bounds) _ _ _ c.in-7.is c.sym_size.ensures c.u32_at.ensures.0 c.symbol_id_length.ensures in
    record { size = t.0; length = t.1.0; untold = t.1.1 }

-- the last arm is for strings
eight : (k : ℕ) → 6 ≤ k → (k ≡ 6 → ⊥) → (k ≡ 7 → ⊥) → k < 9 → k ≡ 8
eight k h a b m = omega arith

pub returns-in_default : goal.returns-in_default
returns-in_default c =
    let a = c.args in
    let r = c.in_default.in_default-own.rest in
    let k = eight _ (six_on _ r.0.0.0.0.0.0.0.1 r.0.0.0.0.0.0.1 r.0.0.0.0.0.1 r.0.0.0.0.1 r.0.0.0.1 r.0.0.1) r.0.1 r.1 c.requires.at_bound in
    let t = string-told (quoting a.quotes) a.tape.now a.at a.end c.requires.at_lt_end (trailed c.requires.end_in_bounds) _ k c.text_size.ensures in
    record { size = t.0; length = t.1.0; untold = t.1.1 }
