-- Which symbol text is written bare. Assumes nothing.
use Prim.Native.Nat.{ℕ, ◌<◌}
use mathlib.Core.Path.{◌≡◌, refl, sym}
use mathlib.Core.Bool.{Bool, true, false, ◌&&◌, ◌||◌, not}
use mathlib.Core.List.{List, [], ◌∷◌}
use lib.Dec.{eqb}
use lib.ListN.{length, get_or}
use native.Mathlib.Omega.{arith}
use Rattle.output.specs.Logic.{if, byte}
use Rattle.text_rules.specs.Texts.{starts, strip, same}
use Rattle.text_rules.specs.Words.{is_keyword, resembles_symbol_id, resembles_version_marker, is_identifier}
use Rattle.text_rules.specs.Text.{marked, symbol_text}
use Rattle.text_rules.specs.WordSteps.{special, is_bare}
use Rattle.text_rules.proofs.DigitLaws.{never}

-- a word that is bare is an identifier, and no keyword, number or version
pub record Bare (s : List ℕ) : Type 0 where
  pub identifier : is_identifier s ≡ true
  pub no_keyword : is_keyword s ≡ false
  pub no_number : resembles_symbol_id s ≡ false
  pub no_version : resembles_version_marker s ≡ false

tests : (i k n v : Bool) → i && (not k && (not n && not v)) ≡ true → (i ≡ true) × (k ≡ false) × (n ≡ false) × (v ≡ false)
tests true false false false h = (refl, refl, refl, refl)
tests false k n v h = never (sym h)
tests true true n v h = never (sym h)
tests true false true v h = never (sym h)
tests true false false true h = never (sym h)

pub bare_is : (s : List ℕ) → is_bare s ≡ true → Bare s
unfolding is_bare
bare_is s h =
    let t = tests (is_identifier s) (is_keyword s) (resembles_symbol_id s) (resembles_version_marker s) h in
    record { identifier = t.0; no_keyword = t.1; no_number = t.2; no_version = t.3 }

-- the rule, by its four tests
choice : {A : Type 0} (i k n v : Bool) (a b : A) → if (k || n || v) b (if i a b) ≡ if (i && (not k && (not n && not v))) a b
choice true true n v a b = refl
choice false true n v a b = refl
choice true false true v a b = refl
choice false false true v a b = refl
choice true false false true a b = refl
choice false false false true a b = refl
choice true false false false a b = refl
choice false false false false a b = refl

symbol_choice : (s : List ℕ) → symbol_text false s ≡ if (is_bare s) s (marked (byte "'") s)
unfolding symbol_text is_bare
symbol_choice s = choice (is_identifier s) (is_keyword s) (resembles_symbol_id s) (resembles_version_marker s) s (marked (byte "'") s)

pub symbol_bare : (s : List ℕ) → is_bare s ≡ true → symbol_text false s ≡ s
symbol_bare s h = rw (symbol_choice s, h)

-- "every symbol text is quoted"
pub symbol_always : (s : List ℕ) → symbol_text true s ≡ marked (byte "'") s
unfolding symbol_text
symbol_always s = refl

pub symbol-marked : (quoted : Bool) (s : List ℕ) → is_bare s ≡ false → symbol_text quoted s ≡ marked (byte "'") s
symbol-marked true s h = symbol_always s
symbol-marked false s h = rw (symbol_choice s, h)

-- what holds of a text if it is bare, and of it quoted, holds of its symbol text under either setting
pub symbol_either : (P : List ℕ → Type 0) (quoted : Bool) (s : List ℕ) → (is_bare s ≡ true → P s) → P (marked (byte "'") s) → P (symbol_text quoted s)
symbol_either P true s b m = rw (symbol_always s) m
symbol_either P false s b m = go (is_bare s) refl
  where
    go : (i : Bool) → is_bare s ≡ i → P (symbol_text false s)
    go true e = rw (symbol_bare s e) (b e)
    go false e = rw (symbol-marked false s e) m

-- an identifier that starts with no byte of a quoted-only spelling is bare
pub plain_bare : (s : List ℕ) → is_identifier s ≡ true → special (get_or s 0 0) ≡ false → is_bare s ≡ true
unfolding is_bare is_identifier is_keyword resembles_symbol_id resembles_version_marker same starts strip special
plain_bare [] h e = never (sym h)
plain_bare (c ∷ t) h e = go (eqb c (byte "$")) (eqb c (byte "t")) (eqb c (byte "f")) (eqb c (byte "n")) refl refl refl refl e
  where
    go : (d t' f n : Bool) → eqb c (byte "$") ≡ d → eqb c (byte "t") ≡ t' → eqb c (byte "f") ≡ f → eqb c (byte "n") ≡ n → d || t' || f || n ≡ false → is_bare (c ∷ t) ≡ true
    go true t' f n a b g k e = never e
    go false true f n a b g k e = never e
    go false false true n a b g k e = never e
    go false false false true a b g k e = never e
    go false false false false a b g k e = rw (h, a, b, g, k)

-- an identifier has a byte
pub identifier_some : (s : List ℕ) → is_identifier s ≡ true → 0 < length s
unfolding is_identifier
identifier_some [] h = never (sym h)
identifier_some (c ∷ t) h = omega arith
