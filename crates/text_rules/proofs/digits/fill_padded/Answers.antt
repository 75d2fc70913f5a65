-- `digits::fill_padded` meets its contract. Assumes nothing.
use mathlib.Core.Path.{◌≡◌, ◌∙◌, ap}
use mathlib.Core.List.{List}
use Prim.Native.Nat.{ℕ, ◌+◌, ◌-◌, ◌/◌, ◌%◌}
use native.Mathlib.Omega.{arith}
use lib.Seq.{sets}
use Rattle.text_rules.specs.Digits.{pad}
use Rattle.text_rules.proofs.DigitCode.{sets-blocks}
use Rattle.text_rules.proofs.digits.fill_padded.Goals as goal

pub returns-else-w-le16 : goal.returns-else-w-le16
returns-else-w-le16 c =
    let a = c.args in
    let b = a.buf.now in
    let h = a.n / 100000000 in
    let d : a.n / 10000000000000000 ≡ h / 100000000 = omega arith in
    let e : a.w - 16 + 8 ≡ a.w - 8 = omega arith in
    let f : a.w - 8 + 8 ≡ a.w = omega arith in
    c.eight-else-w-le16-2.ensures
    ∙ ap (λ (l : List ℕ). sets l (a.pos + (a.w - 8)) (pad 8 (a.n % 100000000))) (
    c.eight-else-w-le16.ensures
    ∙ ap (λ (l : List ℕ). sets l (a.pos + (a.w - 16)) (pad 8 (h % 100000000))) (c.fill_short-else-w-le16.ensures ∙ ap (λ (x : ℕ). sets b a.pos (pad (a.w - 16) x)) d)
    ∙ sets-blocks b a.pos (a.w - 16) 8 h
    ∙ ap (λ (k : ℕ). sets b a.pos (pad k h)) e
    )
    ∙ sets-blocks b a.pos (a.w - 8) 8 a.n
    ∙ ap (λ (k : ℕ). sets b a.pos (pad k a.n)) f

pub returns-then-w-le16 : goal.returns-then-w-le16
returns-then-w-le16 c =
    let a = c.args in
    let e : a.w - 8 + 8 ≡ a.w = omega arith in
    c.eight.ensures
    ∙ ap (λ (l : List ℕ). sets l (a.pos + (a.w - 8)) (pad 8 (a.n % 100000000))) c.fill_short-then-w-le16.ensures
    ∙ sets-blocks a.buf.now a.pos (a.w - 8) 8 a.n
    ∙ ap (λ (k : ℕ). sets a.buf.now a.pos (pad k a.n)) e
