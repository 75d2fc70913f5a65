-- Laws of what is written for a byte. Assumes nothing.
use mathlib.Core.Path.{◌≡◌, refl, sym, ap, ap₂, ◌∙◌}
use mathlib.Core.Bool.{Bool, true, false, ◌||◌}
use mathlib.Core.List.{List, [], ◌∷◌, ◌++◌, append_assoc}
use Prim.Native.Nat.{ℕ, zero, suc, ◌+◌, ◌-◌, ◌*◌, ◌≤◌, ◌<◌}
use native.Mathlib.Omega.{arith}
use lib.Dec.{eqb}
use lib.ListN.{length, get_or, take, drop, take-append-drop, length-append, length-drop}
use lib.Seq.{drop-drop, take_all}
use Rattle.output.specs.Logic.{if, byte}
use Rattle.text_rules.specs.Escapes.{letter_of, has_letter, hex_escape, has_hex, text_escape, text_body}
pub use Rattle.text_rules.proofs.Places.{byte_at}

-- ---- text

-- a byte takes one byte to four
pub escape_short : (b : ℕ) → length (text_escape b) ≤ 4
unfolding text_escape
escape_short b = go (has_letter b || eqb b (byte "'")) (has_hex b)
  where
    go : (e h : Bool) → length (if e (byte "\\" ∷ letter_of b ∷ []) (if h (hex_escape b) (b ∷ []))) ≤ 4
    go true h = omega arith
    go false true = omega arith
    go false false = omega arith

pub escape-some : (b : ℕ) → 1 ≤ length (text_escape b)
unfolding text_escape
escape-some b = go (has_letter b || eqb b (byte "'")) (has_hex b)
  where
    go : (e h : Bool) → 1 ≤ length (if e (byte "\\" ∷ letter_of b ∷ []) (if h (hex_escape b) (b ∷ [])))
    go true h = omega arith
    go false true = omega arith
    go false false = omega arith

-- only hex digits take more than two
pub escape_two : (b : ℕ) → has_hex b ≡ false → length (text_escape b) ≤ 2
unfolding text_escape
escape_two b n = rw n (go (has_letter b || eqb b (byte "'")))
  where
    go : (e : Bool) → length (if e (byte "\\" ∷ letter_of b ∷ []) (b ∷ [])) ≤ 2
    go true = omega arith
    go false = omega arith

-- at most four times as long as the text
pub text_body_most : (s : List ℕ) → length (text_body s) ≤ 4 * length s
unfolding text_body
text_body_most [] = omega arith
text_body_most (c ∷ s) = omega (arith, escape_short c, text_body_most s, length-append (text_escape c) (text_body s))

pub body_step : (s : List ℕ) (i : ℕ) → i < length s → text_body (drop i s) ≡ text_escape (get_or s i 0) ++ text_body (drop (i + 1) s)
unfolding text_body
body_step s i h = rw (byte_at s i h)

-- a raw byte, and then a text that needs no escape
pub body_raw : (s : List ℕ) (i : ℕ) → i < length s → text_escape (get_or s i 0) ≡ get_or s i 0 ∷ [] → text_body (drop (i + 1) s) ≡ drop (i + 1) s → text_body (drop i s) ≡ drop i s
body_raw s i h e g = body_step s i h ∙ rw (e, g) (sym (byte_at s i h))

-- ---- text that needs no escape, in parts

body_append : (s t : List ℕ) → text_body (s ++ t) ≡ text_body s ++ text_body t
unfolding text_body
body_append [] t = refl
body_append (c ∷ s) t = ap (λ (u : List ℕ). text_escape c ++ u) (body_append s t) ∙ sym (append_assoc (text_escape c) (text_body s) (text_body t))

-- k bytes that need none, and then a text that needs none
pub body_part : (s : List ℕ) (i k : ℕ) → text_body (take k (drop i s)) ≡ take k (drop i s) → text_body (drop (i + k) s) ≡ drop (i + k) s → text_body (drop i s) ≡ drop i s
body_part s i k e g =
    let j : take k (drop i s) ++ drop (i + k) s ≡ drop i s = ap (λ (u : List ℕ). take k (drop i s) ++ u) (sym (drop-drop k i s)) ∙ take-append-drop k (drop i s) in
    ap text_body (sym j) ∙ body_append (take k (drop i s)) (drop (i + k) s) ∙ ap₂ (λ (u v : List ℕ). u ++ v) e g ∙ j

-- an escape makes a text longer, so every part of a text that needs none needs none
pub body_longer : (s : List ℕ) → length s ≤ length (text_body s)
unfolding text_body
body_longer [] = omega arith
body_longer (c ∷ s) = omega (arith, escape-some c, body_longer s, length-append (text_escape c) (text_body s))

body_tail : (c : ℕ) (s : List ℕ) → text_body (c ∷ s) ≡ c ∷ s → text_body s ≡ s
unfolding text_body text_escape
body_tail c s = go (has_letter c || eqb c (byte "'")) (has_hex c)
  where
    go : (b h : Bool) → if b (byte "\\" ∷ letter_of c ∷ []) (if h (hex_escape c) (c ∷ [])) ++ text_body s ≡ c ∷ s → text_body s ≡ s
    go true h e = absurd (omega (arith, ap length e, body_longer s))
    go false true e = absurd (omega (arith, ap length e, body_longer s))
    go false false e = ap (drop 1) e

pub body_drop : (k : ℕ) (s : List ℕ) → text_body s ≡ s → text_body (drop k s) ≡ drop k s
body_drop zero s e = e
body_drop (suc k) [] e = e
body_drop (suc k) (c ∷ s) e = body_drop k s (body_tail c s e)

-- the last k bytes need no escape, so what is left of them needs none
pub body_last : (s : List ℕ) (i k : ℕ) → length s ≤ i + k → k ≤ length s → text_body (take k (drop (length s - k) s)) ≡ take k (drop (length s - k) s) → text_body (drop i s) ≡ drop i s
body_last s i k h l e =
    let m = length s - k in
    let t : take k (drop m s) ≡ drop m s = take_all k (drop m s) (omega (arith, length-drop m s)) in
    let j : drop (i - m) (drop m s) ≡ drop i s = drop-drop (i - m) m s ∙ ap (λ (n : ℕ). drop n s) (let q : m + (i - m) ≡ i = omega arith in q) in
    rw j at (body_drop (i - m) (drop m s) (rw t at e))
