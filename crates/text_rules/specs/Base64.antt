-- Base64 (RFC 4648, section 4: the standard alphabet, padded), both ways. Assumes nothing: these are definitions.
use Rattle.std.specs.Prelude.{ℕ, suc, ◌+◌, ◌-◌, ◌*◌, ◌/◌, ◌%◌, ◌^◌, List, [], ◌∷◌, ◌++◌, eqb, take, get_or}
use Rattle.std.proofs.Math.Option.{Option, none, some}
use Rattle.output.specs.Logic.{if, then, byte, ascii}
use Rattle.text_rules.specs.Texts.{empty}

-- the characters of the numbers 0 to 63
unfoldable pub alphabet : List ℕ
alphabet = ascii "ABCDEFGHIJKLMNOPQRSTUVWXYZabcdefghijklmnopqrstuvwxyz0123456789+/"

unfoldable pub base64_character : ℕ → ℕ
base64_character v = get_or alphabet v 0

-- three bytes are 24 bits, the first byte the highest
abbrev pub bits24 : ℕ → ℕ → ℕ → ℕ
bits24 a b c = (a * 256 + b) * 256 + c

-- 24 bits are four numbers of six bits, each a character
unfoldable pub characters24 : ℕ → List ℕ
characters24 n = base64_character (n / 262144) ∷ base64_character (n / 4096 % 64) ∷ base64_character (n / 64 % 64) ∷ base64_character (n % 64) ∷ []

-- To one or two bytes at the end zero bits are added on the right. `=` stands in place of the characters that have added bits alone.
unfoldable pub base64 : List ℕ → List ℕ
base64 [] = []
base64 (a ∷ []) = take 2 (characters24 (bits24 a 0 0)) ++ ascii "=="
base64 (a ∷ b ∷ []) = take 3 (characters24 (bits24 a b 0)) ++ ascii "="
base64 (a ∷ b ∷ c ∷ s) = characters24 (bits24 a b c) ++ base64 s

-- ---- read

-- the place of c in a list, counted from n on
unfoldable pub place_from : ℕ → ℕ → List ℕ → Option ℕ
place_from n c [] = none
place_from n c (a ∷ s) = if (eqb c a) (some n) (place_from (suc n) c s)

-- the number whose character c is
unfoldable pub base64_value : ℕ → Option ℕ
base64_value c = place_from 0 c alphabet

-- the 24 bits of four characters
unfoldable pub bits_of : ℕ → ℕ → ℕ → ℕ → Option ℕ
bits_of a b c d =
    then (base64_value a) (λ i.
    then (base64_value b) (λ j.
    then (base64_value c) (λ k.
    then (base64_value d) (λ l. some (((i * 64 + j) * 64 + k) * 64 + l)))))

-- their three bytes
unfoldable pub bytes24 : ℕ → List ℕ
bytes24 n = n / 65536 ∷ n / 256 % 256 ∷ n % 256 ∷ []

-- the first w of them, if the bits behind those are zero
unfoldable pub first_bytes : ℕ → ℕ → Option (List ℕ)
first_bytes w n = if (eqb (n % 256 ^ (3 - w)) 0) (some (take w (bytes24 n))) none

-- a last group in which `=` stands: with `A`, which is zero bits, in its place, it has one byte or two
unfoldable pub padded : ℕ → ℕ → ℕ → Option (List ℕ)
padded a b c = if (eqb c (byte "=")) (then (bits_of a b (byte "A") (byte "A")) (first_bytes 1)) (then (bits_of a b c (byte "A")) (first_bytes 2))

-- the bytes whose base64 a text is
unfoldable pub base64_bytes : List ℕ → Option (List ℕ)
base64_bytes [] = some []
base64_bytes (a ∷ []) = none
base64_bytes (a ∷ b ∷ []) = none
base64_bytes (a ∷ b ∷ c ∷ []) = none
base64_bytes (a ∷ b ∷ c ∷ d ∷ t) =
    if (eqb d (byte "="))
    (if (empty t) (padded a b c) none)
    (then (bits_of a b c d) (λ n. then (base64_bytes t) (λ s. some (bytes24 n ++ s))))
