-- The conversion of a text from a place on: a byte and the rest, a block and the rest. Assumes nothing.
use Prim.Native.Nat.{ℕ, ◌+◌, ◌-◌, ◌≤◌, ◌<◌}
use mathlib.Core.Path.{◌≡◌, sym, ap, ◌∙◌}
use mathlib.Core.List.{List, ◌++◌}
use native.Mathlib.Omega.{arith}
use lib.ListN.{length, get_or, take, drop, take-append-drop}
use lib.Seq.{drop-drop}
use Rattle.text_rules.proofs.Places.{byte_at}
use Rattle.converter.specs.Convert.{replacement, converted}
use Rattle.converter.proofs.Texts.{converted-append}

pub byte_step : (s : List ℕ) (i : ℕ) → i < length s → converted (drop i s) ≡ replacement (get_or s i 0) ++ converted (drop (i + 1) s)
unfolding converted
byte_step s i h = rw (byte_at s i h)

pub block_step : (s : List ℕ) (i e : ℕ) → i ≤ e → converted (drop i s) ≡ converted (take (e - i) (drop i s)) ++ converted (drop e s)
block_step s i e h =
    let z : i + (e - i) ≡ e = omega arith in
    ap converted (sym (take-append-drop (e - i) (drop i s))) ∙ converted-append (take (e - i) (drop i s)) (drop (e - i) (drop i s))
    ∙ ap (λ (t : List ℕ). converted (take (e - i) (drop i s)) ++ converted t) (drop-drop (e - i) i s ∙ ap (λ (k : ℕ). drop k s) z)
