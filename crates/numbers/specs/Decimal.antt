-- The text of ints and decimals: `format_integer`, and `format_text` and `write_scientific` of types/decimal/mod.rs.
-- Assumes nothing: these are definitions.
use Rattle.std.specs.Prelude.{ℕ, zero, suc, ◌+◌, ◌-◌, ℤ, pos, negsuc, Bool, true, false, List, [], ◌∷◌, ◌++◌, length, take, drop, replicate, leb, ltb}
use Rattle.output.specs.Logic.{if, byte}
use Rattle.text_rules.specs.Digits.{digits}

-- an int, or an exponent: a minus if below zero, then plain digits
unfoldable pub int_text : ℤ → List ℕ
int_text (pos n) = digits n
int_text (negsuc n) = byte "-" ∷ digits (suc n)

-- digits with a point after k of them
unfoldable pub pointed : List ℕ → ℕ → List ℕ
pointed ds k = take k ds ++ (byte "." ∷ drop k ds)

-- first digit, point and remaining digits, `d`, exponent. A lone digit keeps its point.
unfoldable pub scientific : List ℕ → ℤ → List ℕ
scientific ds e = pointed ds 1 ++ (byte "d" ∷ int_text e)

-- The digits are ds, L of them. The exponent e is 0: L over 6, scientific with exponent L - 1; else digits and a point.
-- e over 0: digits, `d`, e.
unfoldable pub above : List ℕ → ℕ → ℕ → List ℕ
above ds L zero = if (ltb 6 L) (scientific ds (pos (L - 1))) (ds ++ (byte "." ∷ []))
above ds L (suc e) = ds ++ (byte "d" ∷ int_text (pos (suc e)))

-- The exponent is -k, below 0; p is L - k. p over 0: point after p digits; p from -5 to 0: `0.`, -p zeros, digits;
-- p at most -6: scientific with exponent p - 1, which is -(k - L) - 1.
unfoldable pub below : List ℕ → ℕ → ℕ → List ℕ
below ds L k =
    if (ltb k L) (pointed ds (L - k))
    (if (leb k (L + 5)) (byte "0" ∷ byte "." ∷ (replicate (k - L) (byte "0") ++ ds))
    (scientific ds (negsuc (k - L))))

unfoldable pub form : List ℕ → ℕ → ℤ → List ℕ
form ds L (pos e) = above ds L e
form ds L (negsuc n) = below ds L (suc n)

unfoldable pub sign : Bool → List ℕ
sign true = byte "-" ∷ []
sign false = []

-- a minus if negative, then the form
unfoldable pub decimal_text : Bool → ℕ → ℤ → List ℕ
decimal_text negative magnitude e = sign negative ++ form (digits magnitude) (length (digits magnitude)) e
