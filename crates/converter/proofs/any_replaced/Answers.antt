-- `converter::any_replaced` meets its contract. Assumes nothing.
-- where no flag is set yet, the whole stays as it is if what is left does
use mathlib.Core.Path.{◌≡◌, refl, sym, ap, ◌∙◌}
use mathlib.Core.Bool.{Bool, true, false, ◌||◌}
use mathlib.Core.List.{List, [], ◌∷◌}
use Prim.Native.Nat.{ℕ, ◌+◌}
use native.Mathlib.Omega.{arith}
use lib.ListN.{get_or, drop, drop_of_length-le}
use Rattle.text_rules.proofs.Places.{byte_at}
use Rattle.converter.specs.Convert.{converted}
use Rattle.converter.proofs.Texts.{converted-nothing, converted_kept}
use Rattle.converter.proofs.any_replaced.Goals as goal

neither : (a b : Bool) → (a || b) ≡ false → (a ≡ false) × (b ≡ false)
neither false b e = (refl, e)
neither true b e = absurd (let z : ◌≡◌ {A = ℕ} 0 1 = cc in omega arith)

pub loop-b-init : goal.loop-b-init
loop-b-init c = (omega arith, λ e h. h)

pub loop-b-preserved : goal.loop-b-preserved
loop-b-preserved c =
    let l = c.loop-b in
    let s : List ℕ = c.args.s.now in
    let x = c.is_replaced-any in
    let a = byte_at s l.b-index c.loop-b-test.true in (
      omega arith,
      λ e h.
          let n = neither l.any x.result e in
          l.invariant.1 n.0 (ap converted a ∙ converted_kept (get_or s l.b-index 0) (drop (l.b-index + 1) s) (sym x.ensures ∙ n.1) ∙ ap (λ (t : List ℕ). get_or s l.b-index 0 ∷ t) h ∙ sym a),
    )

pub returns : goal.returns
returns c =
    let l = c.loop-b in
    let s : List ℕ = c.args.s.now in
    let e : drop l.b-index s ≡ [] = drop_of_length-le s {i = l.b-index} (omega arith) in
    λ z. l.invariant.1 z (rw e converted-nothing)
