-- Digits under the conversion. Assumes nothing.
use Prim.Native.Nat.{ℕ}
use mathlib.Core.Path.{◌≡◌, refl}
use mathlib.Core.Bool.{false}
use mathlib.Core.List.{List}
use Rattle.text_rules.specs.Digits.{is_digit, run, behind_digits}
use Rattle.converter.specs.Convert.{converted}
use Rattle.converter.proofs.Bytes.{gone_same, Outside}
use Rattle.converter.proofs.Texts.{front-converted, behind-converted}

pub decimals : Outside is_digit
unfolding is_digit
decimals = record { gone = gone_same is_digit (λ c. false) refl; slash = refl }

pub run-converted : (t : List ℕ) → run (converted t) ≡ run t
unfolding run
run-converted = front-converted decimals run (λ c t. refl)

pub behind-digits-converted : (t : List ℕ) → behind_digits (converted t) ≡ converted (behind_digits t)
unfolding behind_digits
behind-digits-converted = behind-converted decimals behind_digits refl (λ c t. refl)
