-- Whole numbers as a float prints them (02, A8), written and read. Assumes nothing: these are definitions.
use Rattle.std.specs.Prelude.{ℕ, ◌-◌, ◌*◌, ◌%◌, ◌^◌, ◌&&◌, List, [], ◌∷◌, ◌++◌, length, drop, eqb, leb}
use Rattle.std.proofs.Math.Option.{Option, none, some}
use Rattle.output.specs.Logic.{if, byte, ascii}
use Rattle.text_rules.specs.Digits.{digits, is_digit, run, behind_digits, number, whole as unpadded}
use Rattle.text_rules.specs.Texts.{empty, starts}

-- every whole number up to here is a float
abbrev pub most_whole : ℕ
most_whole = 9_007_199_254_740_992

-- ---- the text

-- digits without trailing zeros
unfoldable pub significant : List ℕ → List ℕ
significant [] = []
significant (c ∷ t) = if (eqb c (byte "0") && empty (significant t)) [] (c ∷ significant t)

-- a point after the first digit if more follow
unfoldable pub point : List ℕ → List ℕ
point [] = []
point (c ∷ []) = c ∷ []
point (c ∷ d ∷ t) = c ∷ byte "." ∷ d ∷ t

-- digits without trailing zeros, a point after the first digit if more follow, `e`, the exponent, which is one less than there are digits
unfoldable pub powered : List ℕ → List ℕ
powered ds = point (significant ds) ++ (byte "e" ∷ digits (length ds - 1))

-- zero is `0e0`
unfoldable pub whole_text : ℕ → List ℕ
whole_text n = if (eqb n 0) (ascii "0e0") (powered (digits n))

-- ---- the token: exactly these texts of the numbers up to the most. What may stand behind it is the sequence's to say.

abbrev pub ReadWhole : Type 0
ReadWhole = Option (ℕ × List ℕ)

-- m times ten to the e, where f of the digits of m stand after the point: a whole number, and not over the most, which has the exponent 15
unfoldable pub ranged : ℕ → ℕ → ℕ → List ℕ → ReadWhole
ranged m f e r = if (leb f e && leb e 15 && leb (m * 10 ^ (e - f)) most_whole) (some (m * 10 ^ (e - f), r)) none

-- all digits joined are m: the last is no 0, but in `0e0`
unfoldable pub scaled : ℕ → ℕ → ℕ → List ℕ → ReadWhole
scaled m f e r = if (eqb m 0) (if (eqb e 0) (some (0, r)) none) (if (eqb (m % 10) 0) none (ranged m f e r))

-- the exponent: 0, or digits without leading zero
unfoldable pub behind_e : ℕ → ℕ → List ℕ → ReadWhole
behind_e m f t = if (unpadded (run t)) (scaled m f (number 0 (run t)) (behind_digits t)) none

-- behind all digits: `e`
unfoldable pub behind_all : ℕ → ℕ → List ℕ → ReadWhole
behind_all m f t = if (starts (byte "e") t) (behind_e m f (drop 1 t)) none

-- behind the first digit m: where m is not 0, a point and one digit or more; or nothing
unfoldable pub behind_first : ℕ → List ℕ → ReadWhole
behind_first m t =
    if (starts (byte ".") t)
    (if (leb 1 m && leb 1 (length (run (drop 1 t)))) (behind_all (number m (run (drop 1 t))) (length (run (drop 1 t))) (behind_digits (drop 1 t))) none)
    (behind_all m 0 t)

unfoldable pub whole_number : List ℕ → ReadWhole
whole_number [] = none
whole_number (c ∷ t) = if (is_digit c) (behind_first (c - byte "0") t) none
