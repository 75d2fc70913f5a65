-- `claims::write_and_read` meets its contract: a refusal is handed on; a finished text reads back as the tape. Assumes nothing.
use mathlib.Core.Path.{ap, sym, ◌∙◌}
use mathlib.Core.Bool.{Bool}
use mathlib.Core.List.{List}
use Prim.Native.Nat.{ℕ}
use native.Mathlib.Omega.{arith}
use lib.ListN.{length, take}
use lib.Seq.{length-take-le}
use Rattle.tape.specs.Fine.{Bytes}
use Rattle.tape.specs.Answer.{outcome}
use Rattle.reader.specs.Outcome as read
use Rattle.claims.specs.Back.{back_answer, back_leaves}
use Rattle.claims.proofs.Reread.{finished, text_answer, text_leaves, handed_on}
use Rattle.claims.proofs.write_and_read.Goals as goal

pub returns-in_default : goal.returns-in_default
returns-in_default c =
    let s = c.write_stream_with-a in
    let o : List ℕ = c.args.out.now in
    let t : List ℕ = c.args.tape.now in
    let h = handed_on s.result c.in_default.not-Count t o in
    record { answer = sym h.0 ∙ ap (λ x. back_answer x t (length o)) s.ensures.answer; text = s.ensures.buffer; tape = sym h.1 ∙ ap (λ x. back_leaves x t o) s.ensures.answer }

pub slice_bounds-read_text-end : goal.slice_bounds-read_text-end
slice_bounds-read_text-end c =
    let s = c.write_stream_with-a in
    let b : List ℕ = c.args.text.now in
    let e = sym s.ensures.answer ∙ ap outcome c.in-Count.is in
    let f = finished _ _ _ b _ e in
    omega (arith, f.room, s.auto.out)

pub slice_bounds-read_text-end-2 : goal.slice_bounds-read_text-end-2
slice_bounds-read_text-end-2 c =
    let s = c.write_stream_with-a in
    let b : List ℕ = c.args.text.now in
    let e = sym s.ensures.answer ∙ ap outcome c.in-Count.is in
    let f = finished _ _ _ b _ e in
    sym (length-take-le _ _ (omega (arith, f.room, s.auto.out)))

pub returns : goal.returns
returns c =
    let s = c.write_stream_with-a in
    let r = c.read_text in
    let b : List ℕ = c.args.text.now in
    let o : List ℕ = c.args.out.now in
    let t : List ℕ = c.args.tape.now in
    let q : Bool = c.args.quoted in
    let y : ℕ = c.args.layout in
    let m : Bytes t = λ i. (c.type_inv.tape i).fits in
    let e = sym s.ensures.answer ∙ ap outcome c.in-Count.is in
    let f = finished q y t b _ e in
    let is = ap (take c.in-Count.n) s.ensures.buffer ∙ f.is_text in
    record { answer = r.ensures.answer ∙ ap (λ x. read.answer x (length o)) is ∙ text_answer q y t (length o) m f.let_through ∙ sym (ap (λ x. back_answer x t (length o)) e); text = s.ensures.buffer; tape = r.ensures.buffer ∙ ap (λ x. read.leaves x o) is ∙ text_leaves q y t o m f.let_through ∙ sym (ap (λ x. back_leaves x t o) e) }
