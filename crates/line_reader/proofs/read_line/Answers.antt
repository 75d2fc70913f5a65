-- `line_reader::read_line` meets its contract: no LF at the end, no meaning, not one node, no room, and a tape. Assumes nothing.
use Prim.Native.Nat.{ℕ, ◌-◌}
use mathlib.Core.Path.{◌≡◌, sym, ap, ◌∙◌}
use mathlib.Core.List.{List}
use mathlib.Core.Bool.{true}
use native.Mathlib.Omega.{arith}
use lib.ListN.{length, replicate}
use lib.Seq.{length_front, length-take-le}
use Rattle.tokens.specs.Quoted.{raw_rule}
use Rattle.line_reader.specs.Book.{ends_in_lf}
use Rattle.line_reader.proofs.LineLaws.{ends_long, book_open, book-none, book_several, book_long, book-laid}
use Rattle.line_reader.proofs.read_line.Goals as goal

pub returns-then-not-ends_in_lf : goal.returns-then-not-ends_in_lf
returns-then-not-ends_in_lf c =
    let a = c.args in
    λ at. book_open a.line.now at a.out.now _ c.zero.ensures (sym c.ends_in_lf.ensures ∙ c.if-not-ends_in_lf.true)

pub overflow_sub-end : goal.overflow_sub-end
overflow_sub-end c = ends_long c.args.line.now (sym c.ends_in_lf.ensures ∙ c.if-not-ends_in_lf.false)

pub slice_bounds-write_tape-end : goal.slice_bounds-write_tape-end
slice_bounds-write_tape-end c =
    let t : List ℕ = c.args.line.now in
    sym (length-take-le (length t - 1) t (omega arith))

pub slice_bounds-write_tape-end-3 : goal.slice_bounds-write_tape-end-3
slice_bounds-write_tape-end-3 c =
    let b : List ℕ = c.args.out.now in
    sym (length-take-le c.limit_of-limit.result b (omega arith))

pub returns-in_default : goal.returns-in_default
unfolding raw_rule
returns-in_default c =
    let b : List ℕ = c.args.out.now in
    let t : List ℕ = c.args.line.now in
    let l = c.limit_of-limit in
    let w = c.write_tape in
    let f : ends_in_lf t ≡ true = sym c.ends_in_lf.ensures ∙ c.if-not-ends_in_lf.false in
    let e = rw c.in_default.is at w.ensures in
    λ at. book-none t at b f _ (c.zero-in_default.ensures ∙ ap (λ (n : ℕ). replicate n 0) (length_front b w.new.buf l.result w.auto.buf)) e.0

pub returns-then-made-ne1 : goal.returns-then-made-ne1
unfolding raw_rule
returns-then-made-ne1 c =
    let b : List ℕ = c.args.out.now in
    let t : List ℕ = c.args.line.now in
    let l = c.limit_of-limit in
    let w = c.write_tape in
    let f : ends_in_lf t ≡ true = sym c.ends_in_lf.ensures ∙ c.if-not-ends_in_lf.false in
    let e = rw c.in-Some.is at w.ensures in
    λ at. book_several t at b f e.0 e.1 _ (c.zero-then-made-ne1.ensures ∙ ap (λ (n : ℕ). replicate n 0) (length_front b w.new.buf l.result w.auto.buf)) (λ s. c.if-made-ne1.true (e.2 ∙ s))

pub returns-then-limit-made : goal.returns-then-limit-made
unfolding raw_rule
returns-then-limit-made c =
    let b : List ℕ = c.args.out.now in
    let t : List ℕ = c.args.line.now in
    let l = c.limit_of-limit in
    let w = c.write_tape in
    let f : ends_in_lf t ≡ true = sym c.ends_in_lf.ensures ∙ c.if-not-ends_in_lf.false in
    let e = rw c.in-Some.is at w.ensures in
    λ at. book_long t at b f e.0 e.1 (sym e.2 ∙ c.if-made-ne1.false) l.result _ _ l.ensures e.3 _ (c.zero-then-limit-made.ensures ∙ ap (λ (n : ℕ). replicate n 0) (length_front b w.new.buf l.result w.auto.buf)) c.if-limit-made.true

pub returns : goal.returns
unfolding raw_rule
returns c =
    let b : List ℕ = c.args.out.now in
    let t : List ℕ = c.args.line.now in
    let l = c.limit_of-limit in
    let w = c.write_tape in
    let f : ends_in_lf t ≡ true = sym c.ends_in_lf.ensures ∙ c.if-not-ends_in_lf.false in
    let e = rw c.in-Some.is at w.ensures in
    λ at. book-laid t at b f e.0 e.1 (sym e.2 ∙ c.if-made-ne1.false) l.result _ _ l.ensures e.3 c.if-limit-made.false
