-- Answers of a token reader. Assumes nothing.
use mathlib.Core.Path.{◌≡◌}
use mathlib.Core.List.{List}
use mathlib.Core.Option.{Option, none, some}
use Prim.Native.Nat.{ℕ, ◌≤◌}
use native.Mathlib.Omega.{arith}
use Rattle.text_rules.specs.Reading.{Ends, Reads}

-- what ends behind a place ends behind an earlier one
ends-from : {A : Type 0} (t : List ℕ) (i j : ℕ) (r : Option (A × ℕ)) → i ≤ j → Ends t j r → Ends t i r
ends-from t i j none h v = tt
ends-from t i j (some x) h v = (omega (arith, v.0), v.1)

pub reads_from : {A : Type 0} {t : List ℕ} {i j : ℕ} {o : Option (A × List ℕ)} {r : Option (A × ℕ)} → Reads t j o r → i ≤ j → Reads t i o r
reads_from {t = t} {i} {j} {r = r} v h = record { is = v.is; place = ends-from t i j r h v.place }

pub refused : {A : Type 0} {t : List ℕ} {i : ℕ} {o : Option (A × List ℕ)} → o ≡ none → Reads t i o none
refused h = record { is = h; place = tt }
