-- `blobs::format_base64` meets its contract. Assumes nothing.
use Prim.Native.Nat.{◌+◌, ◌-◌}
use mathlib.Core.Path.{◌≡◌, refl, sym, ◌∙◌}
use mathlib.Core.List.{append-nil}
use native.Mathlib.Omega.{arith}
use Rattle.output.proofs.Laws.{begin, more, finish, wrote-length}
use Rattle.text_rules.proofs.Base64Laws.{base64-next}
use borrow.Author.Rules.{rules}
use Rattle.text_rules.proofs.blobs.format_base64.Goals as goal

pub loop-i-init : goal.loop-i-init
loop-i-init c =
    let a = c.args in
    let e : a.n - 0 ≡ a.n = omega arith in
    let f : a.from + 0 ≡ a.from = omega arith in
    (omega arith, rw (e, f) (begin _ _ _ _ c.bounded-p.ensures (search rules)))

pub loop-i-preserved : goal.loop-i-preserved
loop-i-preserved c =
    let a = c.args in
    let l = c.loop-i in
    let f : a.from + (l.i + 3072) ≡ a.from + l.i + 3072 = omega arith in
    (omega arith, rw f (more l.invariant.1 c.put_base64-p.ensures (base64-next a.s.now (a.from + l.i) (a.n - l.i) 3072 (a.n - (l.i + 3072)) (omega arith) refl (omega arith))))

pub shape_of-buf : goal.shape_of-buf
shape_of-buf c = wrote-length c.put_base64.ensures ∙ wrote-length c.loop-i.invariant.1.wrote

pub returns : goal.returns
returns c = finish (more c.loop-i.invariant.1 c.put_base64.ensures (sym (append-nil _))) refl
