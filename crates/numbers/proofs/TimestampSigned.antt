-- The text of an offset by its sign and its minutes. Assumes nothing.
use mathlib.Core.Path.{◌≡◌, refl, sym}
use mathlib.Core.Bool.{true, false}
use mathlib.Core.List.{◌∷◌}
use Prim.Native.Nat.{◌/◌, ◌%◌}
use native.Mathlib.Omega.{arith}
use lib.IntN.{ℤ, pos, negsuc, nat_abs}
use lib.Signed.{lt_z}
use mir.Syntax.{w16}
use mir.Val.{SFits, of_z}
use borrow.Author.Tests.{ne_eqb, le-ltb}
use Rattle.output.specs.Logic.{byte}
use Rattle.text_rules.specs.Digits.{pad}
use Rattle.text_rules.proofs.DigitLaws.{never}
use Rattle.numbers.specs.Timestamp.{unknown, hour_and_minute, offset_text}

pub text_unknown : (e : ℤ) → SFits w16 e → of_z w16 e ≡ unknown → offset_text e ≡ byte "-" ∷ hour_and_minute 0 0
unfolding offset_text hour_and_minute pad
text_unknown (pos m) s h = rw h
text_unknown (negsuc m) s h = let bad : ⊥ = omega (arith, s.sfits) in absurd bad

pub text_west : (e : ℤ) → lt_z e (pos 0) ≡ true → offset_text e ≡ byte "-" ∷ hour_and_minute (nat_abs e / 60) (nat_abs e % 60)
unfolding offset_text
text_west (pos m) h = never (sym (rw (le-ltb m 0 (omega arith)) at h))
text_west (negsuc m) h = refl

pub text_east : (e : ℤ) → lt_z e (pos 0) ≡ false → (of_z w16 e ≡ unknown → ⊥) → offset_text e ≡ byte "+" ∷ hour_and_minute (nat_abs e / 60) (nat_abs e % 60)
unfolding offset_text
text_east (pos m) h n = rw (ne_eqb m unknown n)
text_east (negsuc m) h n = never h
