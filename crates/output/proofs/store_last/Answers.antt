-- `output::store_last` meets its contract. Assumes nothing.
use mathlib.Core.Path.{◌≡◌, sym, ap, ◌∙◌}
use mathlib.Core.List.{List, [], ◌∷◌}
use Prim.Native.Nat.{ℕ, ◌+◌, ◌-◌, ◌/◌, ◌%◌, ◌^◌, ◌<◌}
use native.Mathlib.Omega.{arith}
use lib.ListN.{drop}
use lib.Seq.{sets}
use Rattle.output.specs.Wrote.{le_bytes}
use Rattle.output.proofs.Words.{shift, last-lap}
use Rattle.output.proofs.store_last.Goals as goal

last_byte : (w : ℕ) → w < 2 ^ 64 → drop 7 (le_bytes 8 w) ≡ w / 72057594037927936 ∷ []
unfolding le_bytes
last_byte w h =
    let e : w / 72057594037927936 % 256 ≡ w / 72057594037927936 = omega arith in
    sym (shift 1 w (omega arith)) ∙ ap (λ (x : ℕ). x ∷ []) e

no_byte : (w : ℕ) → drop 8 (le_bytes 8 w) ≡ []
unfolding le_bytes
no_byte w = sym (shift 0 w (omega arith))

pub returns-then-c-ge4 : goal.returns-then-c-ge4
returns-then-c-ge4 c =
    let a = c.args in
    c.store-then-c-ge4.ensures
    ∙ ap (λ (l : List ℕ). sets l (a.p + (a.c - 4)) (le_bytes 4 (a.w / 4294967296))) c.store.ensures
    ∙ last-lap a.buf.now a.p a.w a.c 4 (omega arith) (omega arith) (omega arith)

pub returns-then-c-ge2 : goal.returns-then-c-ge2
returns-then-c-ge2 c =
    let a = c.args in
    c.store-then-c-ge2-2.ensures
    ∙ ap (λ (l : List ℕ). sets l (a.p + (a.c - 2)) (le_bytes 2 (a.w / 281474976710656))) c.store-then-c-ge2.ensures
    ∙ last-lap a.buf.now a.p a.w a.c 2 (omega arith) (omega arith) (omega arith)

pub returns-then-c-eq1 : goal.returns-then-c-eq1
returns-then-c-eq1 c =
    let a = c.args in
    let e : a.c ≡ 1 = omega arith in
    rw (e, last_byte a.w (omega arith))

pub returns-else-c-eq1 : goal.returns-else-c-eq1
returns-else-c-eq1 c =
    let a = c.args in
    let e : a.c ≡ 0 = omega arith in
    rw (e, no_byte a.w)
