-- The text of a null whose number is no type's. Assumes nothing.
use Prim.Native.Nat.{ℕ}
use mathlib.Core.Path.{◌≡◌}
use borrow.Author.Tests.{ne_eqb}
use Rattle.output.specs.Logic.{ascii}
use Rattle.text_rules.specs.Text.{null_text, type_name}

pub no_type : (t : ℕ) → (t ≡ 0 → ⊥) → (t ≡ 1 → ⊥) → (t ≡ 2 → ⊥) → (t ≡ 3 → ⊥) → (t ≡ 4 → ⊥) → (t ≡ 5 → ⊥) → (t ≡ 6 → ⊥) → (t ≡ 7 → ⊥) → (t ≡ 8 → ⊥) → (t ≡ 9 → ⊥) → (t ≡ 10 → ⊥) → (t ≡ 11 → ⊥) → (t ≡ 12 → ⊥) → null_text t ≡ ascii "null."
unfolding null_text type_name
no_type t a b c d e f g h i j k l m =
    simp (ne_eqb t 0 a, ne_eqb t 1 b, ne_eqb t 2 c, ne_eqb t 3 d, ne_eqb t 4 e, ne_eqb t 5 f, ne_eqb t 6 g, ne_eqb t 7 h, ne_eqb t 8 i, ne_eqb t 9 j, ne_eqb t 10 k, ne_eqb t 11 l, ne_eqb t 12 m)
