-- `order::compare_syms` meets its contract. Assumes nothing.
use Rattle.std.proofs.Common.{◌≡◌, ◌+◌, ◌-◌, ◌<◌, sym, ◌∙◌, arith}
use Rattle.std.specs.Cmp.Lexicographic.{slice_cmp}
use Rattle.std.proofs.lemmas.Map.Lookups.{exact_unsigned}
use Rattle.tape.specs.Bytes.{part}
use Rattle.tape.specs.Tape.{scalar_of}
use Rattle.tape.specs.Steps.{size_taken}
use Rattle.order.specs.Order.{scalars, syms}
use Rattle.order.specs.Steps.{scalar_in, syms_in}
use Rattle.order.proofs.CodeLaws.{decided, passed}
use Rattle.order.proofs.HeadLaws.{symbols_turn, symbols_none, syms-both, syms_counted}
use Rattle.order.proofs.compare_syms.Goals as goal

pub compare_scalar-w-requires : goal.compare_scalar-w-requires
compare_scalar-w-requires c =
    let a = c.args in
    let l = c.loop-k in
    let v = l.invariant in
    record { leaf = (symbols_turn (a.na - l.k) a.a.now l.x a.ea v.left (omega (arith, c.min-k-end.ensures))).leaf; leaf_2 = (symbols_turn (a.nb - l.k) a.b.now l.y a.eb v.right (omega (arith, c.min-k-end.ensures))).leaf }

pub returns-then-is_ne : goal.returns-then-is_ne
returns-then-is_ne c =
    let a = c.args in
    let l = c.loop-k in
    let v = l.invariant in
    let s = a.a.now in
    let t = a.b.now in
    let n = sym c.is_ne.ensures ∙ c.if-is_ne.true in
    record {
      order =
          decided (scalars (scalar_in (part s l.x a.ea)) (scalar_in (part t l.y a.eb)))
          (slice_cmp syms (syms_in (a.na - l.k - 1) (part s (l.x + size_taken (scalar_of (part s l.x a.ea))) a.ea)) (syms_in (a.nb - l.k - 1) (part t (l.y + size_taken (scalar_of (part t l.y a.eb))) a.eb))) c.compare_scalar-w.result c.compare_scalar-w.ensures n
          ∙ sym (v.order ∙ syms-both (a.na - l.k) (a.nb - l.k) s t l.x a.ea l.y a.eb v.left v.right (omega (arith, c.min-k-end.ensures)) (omega (arith, c.min-k-end.ensures)));
      places = λ z. (let h = rw z at n in cc);
    }

pub scalar_end-x-requires : goal.scalar_end-x-requires
scalar_end-x-requires c =
    let a = c.args in
    let l = c.loop-k in
    (symbols_turn (a.na - l.k) a.a.now l.x a.ea l.invariant.left (omega (arith, c.min-k-end.ensures))).leaf

pub scalar_end-y-requires : goal.scalar_end-y-requires
scalar_end-y-requires c =
    let a = c.args in
    let l = c.loop-k in
    (symbols_turn (a.nb - l.k) a.b.now l.y a.eb l.invariant.right (omega (arith, c.min-k-end.ensures))).leaf

pub loop-k-preserved : goal.loop-k-preserved
loop-k-preserved c =
    let a = c.args in
    let l = c.loop-k in
    let v = l.invariant in
    let s = a.a.now in
    let t = a.b.now in
    let pc : 0 < a.na - l.k = omega (arith, c.min-k-end.ensures) in
    let pd : 0 < a.nb - l.k = omega (arith, c.min-k-end.ensures) in
    let u = symbols_turn (a.na - l.k) s l.x a.ea v.left pc in
    let w = symbols_turn (a.nb - l.k) t l.y a.eb v.right pd in
    let m : a.na - (l.k + 1) ≡ a.na - l.k - 1 = omega arith in
    let n : a.nb - (l.k + 1) ≡ a.nb - l.k - 1 = omega arith in
    let order =
    v.order ∙ syms-both (a.na - l.k) (a.nb - l.k) s t l.x a.ea l.y a.eb v.left v.right pc pd
    ∙ passed (scalars (scalar_in (part s l.x a.ea)) (scalar_in (part t l.y a.eb)))
    (slice_cmp syms (syms_in (a.na - l.k - 1) (part s (l.x + size_taken (scalar_of (part s l.x a.ea))) a.ea)) (syms_in (a.nb - l.k - 1) (part t (l.y + size_taken (scalar_of (part t l.y a.eb))) a.eb))) c.compare_scalar-w.result c.compare_scalar-w.ensures (sym c.is_ne.ensures ∙ c.if-is_ne.false) in
    rw (m, n, c.scalar_end-x.ensures, c.scalar_end-y.ensures) (record { left = u.next; right = w.next; order = order; ends = v.ends ∙ u.ends; ends_2 = v.ends_2 ∙ w.ends })

pub returns : goal.returns
returns c =
    let a = c.args in
    let l = c.loop-k in
    let v = l.invariant in
    let s = a.a.now in
    let t = a.b.now in
    let m = c.min-k-end.ensures in
    record {
      order = c.cmp.ensures ∙ sym (v.order ∙ syms_counted a.na a.nb l.k s t l.x a.ea l.y a.eb v.left v.right (omega (arith, m)));
      places = λ z.
          (let e : a.na ≡ a.nb = exact_unsigned _ _ (sym c.cmp.ensures ∙ z) in
          let x = (symbols_none (a.na - l.k) (part s l.x a.ea) (omega (arith, m))).1 in
          let y = (symbols_none (a.nb - l.k) (part t l.y a.eb) (omega (arith, m))).1 in
          let p = v.ends in
          let q = v.ends_2 in
          (omega arith, omega arith));
    }
