-- What it is to be a total order, for a comparison in three ways. Assumes nothing: these are definitions.
use Rattle.std.specs.Prelude.{ℕ, ◌≡◌, List}
use Rattle.tape.specs.Fine.{Bytes}
use Rattle.tape.specs.Verdict.{verdict}
use Rattle.std.specs.declared.cmp.Ordering.{Ordering}
use Rattle.std.specs.declared.cmp.Ordering.TheVariants.{Less, Equal, Greater}
use Rattle.std.specs.Ordering.{ordering_reverse}

-- what x to z is, where x to y and y to z are given: less and less is less, greater and greater is greater, and equals may be exchanged
abbrev pub Through : Ordering → Ordering → Ordering → Type 0
Through Less Less w = w ≡ Less
Through Less Equal w = w ≡ Less
Through Less Greater w = Unit {0}
Through Equal v w = w ≡ v
Through Greater Less w = Unit {0}
Through Greater Equal w = w ≡ Greater
Through Greater Greater w = w ≡ Greater

-- Total on what P holds of: of any two, exactly one of less, equal, greater, and the other way round its reverse; transitive; and equal only for equal.
pub record Total {A : Type 0} (P : A → Type 0) (c : A → A → Ordering) : Type 0 where
  pub swap : (x y : A) → c y x ≡ ordering_reverse (c x y)
  pub through : (x y z : A) → Through (c x y) (c y z) (c x z)
  pub same : (x y : A) → P x → P y → c x y ≡ Equal → x ≡ y

-- an accepted tape: bytes that nothing of 1 to 4 refuses
pub record Accepted (t : List ℕ) : Type 0 where
  pub bytes : Bytes t
  pub sound : verdict t ≡ 0
