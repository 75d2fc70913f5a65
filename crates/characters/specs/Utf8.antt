-- UTF-8: the bytes of a character, and the lists of bytes that are characters one after the other.
-- Assumes nothing: these are definitions.
use Rattle.std.specs.Prelude.{ℕ, zero, suc, ◌+◌, ◌-◌, ◌*◌, ◌/◌, ◌%◌, Bool, true, ◌&&◌, ◌||◌, List, [], ◌∷◌, leb, ltb, eqb, get_or}
use Rattle.output.specs.Logic.{if}

-- the leading one bits of a first byte give its length: 0xxxxxxx is 1, 110xxxxx 2, 1110xxxx 3, 11110xxx 4; any other byte starts no character
unfoldable pub lead_of : ℕ → ℕ
lead_of b = if (ltb b 0x80) 1 (if (ltb b 0xC0) 0 (if (ltb b 0xE0) 2 (if (ltb b 0xF0) 3 (if (ltb b 0xF8) 4 0))))

-- 10xxxxxx
unfoldable pub is_cont : ℕ → Bool
is_cont b = leb 0x80 b && ltb b 0xC0

-- the numbers that sequences of two, three and four bytes stand for
abbrev pub value2 : ℕ → ℕ → ℕ
value2 a b = a % 32 * 64 + b % 64

abbrev pub value3 : ℕ → ℕ → ℕ → ℕ
value3 a b c = a % 16 * 4096 + b % 64 * 64 + c % 64

abbrev pub value4 : ℕ → ℕ → ℕ → ℕ → ℕ
value4 a b c d = a % 8 * 262144 + b % 64 * 4096 + c % 64 * 64 + d % 64

-- a scalar value: no surrogate, nothing past hex 10FFFF
unfoldable pub is_scalar : ℕ → Bool
is_scalar v = ltb v 0xD800 || leb 0xE000 v && ltb v 0x11_0000

-- overlong forms, surrogates and values past hex 10FFFF are broken
unfoldable pub ok2 : ℕ → ℕ → Bool
ok2 a b = is_cont b && leb 0x80 (value2 a b)

unfoldable pub ok3 : ℕ → ℕ → ℕ → Bool
ok3 a b c = is_cont b && (is_cont c && (leb 0x800 (value3 a b c) && is_scalar (value3 a b c)))

unfoldable pub ok4 : ℕ → ℕ → ℕ → ℕ → Bool
ok4 a b c d = is_cont b && (is_cont c && (is_cont d && (leb 0x1_0000 (value4 a b c d) && is_scalar (value4 a b c d))))

-- The length of the character that starts with the bytes a b c d, 0 if none does. A missing byte is 0, which is no continuation.
unfoldable pub char_of : ℕ → ℕ → ℕ → ℕ → ℕ
char_of a b c d =
    if (eqb (lead_of a) 1) 1
    (if (eqb (lead_of a) 2) (if (ok2 a b) 2 0)
    (if (eqb (lead_of a) 3) (if (ok3 a b c) 3 0) (if (eqb (lead_of a) 4) (if (ok4 a b c d) 4 0) 0)))

-- the same of the character at a place of a list
abbrev pub char_at : List ℕ → ℕ → ℕ
char_at s i = char_of (get_or s i 0) (get_or s (i + 1) 0) (get_or s (i + 2) 0) (get_or s (i + 3) 0)

-- After n bytes that belong to a character, characters one after the other up to the end. A list never ends inside a character: all of its
-- bytes were looked at when it began.
unfoldable pub after : ℕ → List ℕ → Bool
after n [] = true
after (suc n) (b ∷ s) = after n s
after zero (b ∷ s) = ltb 0 (char_at (b ∷ s) 0) && after (char_at (b ∷ s) 0 - 1) s

unfoldable pub valid : List ℕ → Bool
valid s = after 0 s

-- the bytes of a scalar value
unfoldable pub utf8 : ℕ → List ℕ
utf8 v =
    if (ltb v 0x80) (v ∷ [])
    (if (ltb v 0x800) ((0xC0 + v / 64) ∷ (0x80 + v % 64) ∷ [])
    (if (ltb v 0x1_0000) ((0xE0 + v / 4096) ∷ (0x80 + v / 64 % 64) ∷ (0x80 + v % 64) ∷ [])
    ((0xF0 + v / 262144) ∷ (0x80 + v / 4096 % 64) ∷ (0x80 + v / 64 % 64) ∷ (0x80 + v % 64) ∷ [])))
