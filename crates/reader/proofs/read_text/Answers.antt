-- `reader::read_text` meets its contract, in its three cases: no meaning, no room, and a tape. Assumes nothing.
use Prim.Native.Nat.{ℕ}
use mathlib.Core.Path.{◌∙◌, ap, sym}
use mathlib.Core.List.{List}
use native.Mathlib.Omega.{arith}
use lib.ListN.{replicate}
use lib.Seq.{length_front, length-take-le}
use Rattle.tokens.specs.Quoted.{raw_rule}
use Rattle.reader.proofs.Whole.{whole-none, whole_long, whole-fits}
use Rattle.reader.proofs.read_text.Goals as goal

pub slice_bounds-write_tape-end-2 : goal.slice_bounds-write_tape-end-2
slice_bounds-write_tape-end-2 c =
    let b : List ℕ = c.args.out.now in
    sym (length-take-le c.limit_of-limit.result b (omega arith))

pub returns-in_default : goal.returns-in_default
unfolding raw_rule
returns-in_default c =
    let b : List ℕ = c.args.out.now in
    let t : List ℕ = c.args.text.now in
    let w = c.write_tape in
    let e = rw c.in_default.is at w.ensures in
    let r = whole-none t b e.0 in
    record { answer = r.0; buffer = c.zero.ensures ∙ ap (λ (n : ℕ). replicate n 0) (length_front b w.new.buf c.limit_of-limit.result w.auto.buf) ∙ r.1 }

pub returns-then-limit-made : goal.returns-then-limit-made
unfolding raw_rule
returns-then-limit-made c =
    let b : List ℕ = c.args.out.now in
    let t : List ℕ = c.args.text.now in
    let l = c.limit_of-limit in
    let w = c.write_tape in
    let e = rw c.in-Some.is at w.ensures in
    let r = whole_long t b l.result _ _ e.0 l.ensures e.1 e.3 c.if-limit-made.true in
    record { answer = r.0; buffer = c.zero-then-limit-made.ensures ∙ ap (λ (n : ℕ). replicate n 0) (length_front b w.new.buf l.result w.auto.buf) ∙ r.1 }

pub returns : goal.returns
unfolding raw_rule
returns c =
    let b : List ℕ = c.args.out.now in
    let t : List ℕ = c.args.text.now in
    let l = c.limit_of-limit in
    let w = c.write_tape in
    let e = rw c.in-Some.is at w.ensures in
    let r = whole-fits t b l.result _ _ e.0 l.ensures e.1 e.3 c.if-limit-made.false in
    record { answer = r.0; buffer = r.1 }
