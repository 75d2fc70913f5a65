-- `tape::value_size` meets its contract. Assumes nothing.
-- the value is there, and its kind is the byte at the place
use mathlib.Core.Path.{◌≡◌, sym, ◌∙◌}
use Prim.Native.Nat.{ℕ, ◌<◌, ◌≤◌}
use mathlib.Core.List.{List}
use native.Mathlib.Omega.{arith}
use lib.ListN.{length, get_or}
use Rattle.tape.specs.Bytes.{part}
use Rattle.tape.specs.Tape.{kind}
use Rattle.tape.specs.Steps.{size_at}
use Rattle.tape.proofs.Parts.{part_length, part-first, part-number}
use Rattle.tape.proofs.Sizes.{some_there, size_two, size_nine, size_decimal, size-timestamp, size_id, size_marker, size_long}
use Rattle.tape.proofs.value_size.Goals as goal

module _ (t : List ℕ) (at end : ℕ) (h : end ≤ length t) (z : 0 < size_at (part t at end)) where
  before-end : at < end
  before-end = let s = some_there (part t at end) z in let n = part_length t at end h in omega arith

  kind-is : kind (part t at end) ≡ get_or t at 0
  kind-is = part-first t at end before-end

pub bounds-tape-at : goal.bounds-tape-at
bounds-tape-at c =
    let a = c.args in
    let h = before-end a.tape.now a.at a.end c.requires.end_in_bounds c.requires.nonzero in
    omega arith

pub returns-in-0 : goal.returns-in-0
returns-in-0 c =
    let a = c.args in
    let k = kind-is a.tape.now a.at a.end c.requires.end_in_bounds c.requires.nonzero in
    sym (size_two (part a.tape.now a.at a.end) c.requires.nonzero (omega arith)).size

pub returns-in-2 : goal.returns-in-2
returns-in-2 c =
    let a = c.args in
    let k = kind-is a.tape.now a.at a.end c.requires.end_in_bounds c.requires.nonzero in
    sym (size_nine (part a.tape.now a.at a.end) c.requires.nonzero (omega arith) (omega arith)).size

pub returns-in-4 : goal.returns-in-4
returns-in-4 c =
    let a = c.args in
    let k = kind-is a.tape.now a.at a.end c.requires.end_in_bounds c.requires.nonzero in
    sym (size_decimal (part a.tape.now a.at a.end) c.requires.nonzero (omega arith)).size

pub returns-in-5 : goal.returns-in-5
returns-in-5 c =
    let a = c.args in
    let k = kind-is a.tape.now a.at a.end c.requires.end_in_bounds c.requires.nonzero in
    sym (size-timestamp (part a.tape.now a.at a.end) c.requires.nonzero (omega arith)).size

pub returns-in-7 : goal.returns-in-7
returns-in-7 c =
    let a = c.args in
    let k = kind-is a.tape.now a.at a.end c.requires.end_in_bounds c.requires.nonzero in
    sym (size_id (part a.tape.now a.at a.end) c.requires.nonzero (omega arith)).size

pub returns-in-14 : goal.returns-in-14
returns-in-14 c =
    let a = c.args in
    let k = kind-is a.tape.now a.at a.end c.requires.end_in_bounds c.requires.nonzero in
    sym (size_marker (part a.tape.now a.at a.end) c.requires.nonzero (omega arith)).size

pub u32_at-requires : goal.u32_at-requires
u32_at-requires c =
    let a = c.args in
    let k = kind-is a.tape.now a.at a.end c.requires.end_in_bounds c.requires.nonzero in
    let r = (size_long (part a.tape.now a.at a.end) c.requires.nonzero (omega arith) (λ e. omega arith) (λ e. omega arith)).room in
    let n = part_length a.tape.now a.at a.end c.requires.end_in_bounds in
    omega arith

pub returns-in_default : goal.returns-in_default
returns-in_default c =
    let a = c.args in
    let k = kind-is a.tape.now a.at a.end c.requires.end_in_bounds c.requires.nonzero in
    let r = (size_long (part a.tape.now a.at a.end) c.requires.nonzero (omega arith) (λ e. omega arith) (λ e. omega arith)).room in
    let n = part_length a.tape.now a.at a.end c.requires.end_in_bounds in
    let u = part-number a.tape.now a.at a.end 4 1 (omega arith) in
    let v = c.u32_at.ensures.0 in
    sym ((size_long (part a.tape.now a.at a.end) c.requires.nonzero (omega arith) (λ e. omega arith) (λ e. omega arith)).size ∙ omega arith)
