-- The digits of a date and a time by words of eight bytes, with the marks between them. Assumes nothing.
use mathlib.Core.Path.{◌≡◌, refl, sym, ap, ◌∙◌}
use mathlib.Core.List.{List, ◌∷◌, ◌++◌, append_assoc}
use Prim.Native.Nat.{ℕ, ◌+◌, ◌/◌, ◌%◌, ◌≤◌, ◌<◌}
use native.Mathlib.Omega.{arith}
use lib.Bits.{bit_or, or_add_and, and_le_l, and_le_r}
use lib.ListN.{length, set}
use lib.Seq.{sets}
use Rattle.output.specs.Logic.{byte}
use Rattle.output.specs.Wrote.{le_bytes}
use Rattle.text_rules.specs.Digits.{pad}
use Rattle.text_rules.proofs.DigitLaws.{length-pad, pad-split}
use Rattle.text_rules.proofs.DigitCode.{pad_mod}
use Rattle.numbers.specs.Timestamp.{year_and_month, date, hour_and_minute, date_hour_and_minute}
use Rattle.numbers.proofs.Stores.{sets_mark, pair-1, pair-2, pair-3, pair-4, pairs-12}

-- `hh:mm`
pub clock_stores : (l a b : List ℕ) (p h m w : ℕ) → le_bytes 8 w ≡ pad 2 (h % 100) ++ pad 2 (m % 100) ++ pad 2 0 ++ pad 2 0 → a ≡ sets l p (le_bytes 2 w) → b ≡ sets (set a (p + 2) (byte ":")) (p + 3) (le_bytes 2 (w / 65536)) → b ≡ sets l p (hour_and_minute h m)
unfolding hour_and_minute
clock_stores l a b p h m w e ea eb =
    sets_mark l a b p (pad 2 h) (le_bytes 2 (w / 65536)) (pad 2 m) 2 (byte ":") (length-pad 2 h) (ea ∙ ap (sets l p) (pair-1 w (h % 100) (m % 100) 0 0 e ∙ pad_mod 2 h)) eb (pair-2 w (h % 100) (m % 100) 0 0 e ∙ pad_mod 2 m)

pub length-clock : (h m : ℕ) → length (hour_and_minute h m) ≡ 5
unfolding hour_and_minute pad
length-clock h m = refl

-- `YYYY-MM-DDThh:mm:ss`

date-word : (v y m o : ℕ) → le_bytes 8 v ≡ pad 2 (y / 100) ++ pad 2 (y % 100) ++ pad 2 m ++ pad 2 o → le_bytes 4 v ++ (byte "-" ∷ le_bytes 2 (v / 4294967296)) ++ (byte "-" ∷ le_bytes 2 (v / 281474976710656)) ≡ date y m o
unfolding date year_and_month
date-word v y m o h =
    let e : le_bytes 4 v ≡ pad 4 y = pairs-12 v (y / 100) (y % 100) m o h ∙ ap (λ (t : List ℕ). pad 2 (y / 100) ++ t) (pad_mod 2 y) ∙ sym (pad-split 2 2 y) in
    rw (e, pair-3 v (y / 100) (y % 100) m o h, pair-4 v (y / 100) (y % 100) m o h)

time_word : (w h i s : ℕ) → le_bytes 8 w ≡ pad 2 h ++ pad 2 i ++ pad 2 s ++ pad 2 0 → le_bytes 2 w ++ (byte ":" ∷ le_bytes 2 (w / 65536)) ++ (byte ":" ∷ le_bytes 2 (w / 4294967296)) ≡ hour_and_minute h i ++ (byte ":" ∷ pad 2 s)
unfolding hour_and_minute
time_word w h i s e = rw (pair-1 w h i s 0 e, pair-2 w h i s 0 e, pair-3 w h i s 0 e)

pub length-date : (y m o : ℕ) → length (date y m o) ≡ 10
unfolding date year_and_month pad
length-date y m o = refl

pub date_stores : (l a : List ℕ) (p y m o v : ℕ) → le_bytes 8 v ≡ pad 2 (y / 100 % 100) ++ pad 2 (y % 100) ++ pad 2 (m % 100) ++ pad 2 (o % 100) → a ≡ sets l p (le_bytes 4 v ++ (byte "-" ∷ le_bytes 2 (v / 4294967296)) ++ (byte "-" ∷ le_bytes 2 (v / 281474976710656))) → a ≡ sets l p (date y m o)
date_stores l a p y m o v h e = e ∙ ap (sets l p) (date-word v y m o (h ∙ rw (pad_mod 2 (y / 100), pad_mod 2 m, pad_mod 2 o)))

pub second_stores : (l a b : List ℕ) (p y m o h i s v w : ℕ) → le_bytes 8 v ≡ pad 2 (y / 100) ++ pad 2 (y % 100) ++ pad 2 m ++ pad 2 o → le_bytes 8 w ≡ pad 2 h ++ pad 2 i ++ pad 2 s ++ pad 2 0
    → a ≡ sets l p (le_bytes 4 v ++ (byte "-" ∷ le_bytes 2 (v / 4294967296)) ++ (byte "-" ∷ le_bytes 2 (v / 281474976710656)))
    → b ≡ sets (set a (p + 10) (byte "T")) (p + 11) (le_bytes 2 w ++ (byte ":" ∷ le_bytes 2 (w / 65536)) ++ (byte ":" ∷ le_bytes 2 (w / 4294967296)))
    → b ≡ sets l p (date_hour_and_minute y m o h i ++ (byte ":" ∷ pad 2 s))
unfolding date_hour_and_minute
second_stores l a b p y m o h i s v w hv hw ea eb =
    sets_mark l a b p (date y m o) (le_bytes 2 w ++ (byte ":" ∷ le_bytes 2 (w / 65536)) ++ (byte ":" ∷ le_bytes 2 (w / 4294967296))) (hour_and_minute h i ++ (byte ":" ∷ pad 2 s)) 10 (byte "T") (length-date y m o) (ea ∙ ap (sets l p) (date-word v y m o hv)) eb (time_word w h i s hw)
    ∙ ap (sets l p) (sym (append_assoc (date y m o) (byte "T" ∷ hour_and_minute h i) (byte ":" ∷ pad 2 s)))

pub length-second : (y m o h i s : ℕ) → length (date_hour_and_minute y m o h i ++ (byte ":" ∷ pad 2 s)) ≡ 19
unfolding date_hour_and_minute date year_and_month hour_and_minute pad
length-second y m o h i s = refl

-- ---- fields that have the digits of their places

pub or_left : (a b : ℕ) → a ≤ bit_or a b
or_left a b = omega (arith, or_add_and a b, and_le_r a b)

pub or_right : (a b : ℕ) → b ≤ bit_or a b
or_right a b = omega (arith, or_add_and a b, and_le_l a b)

pub five-small : (a b c d e : ℕ) → bit_or (bit_or (bit_or (bit_or a b) c) d) e < 64 → (a < 100) × (b < 100) × (c < 100) × (d < 100) × (e < 100)
five-small a b c d e h =
    let x = bit_or a b in
    let y = bit_or x c in
    let z = bit_or y d in
    let ez = or_left z e in
    let dz = or_left y d in
    let cy = or_left x c in
    (omega (arith, or_left a b), omega (arith, or_right a b), omega (arith, or_right x c), omega (arith, or_right y d), omega (arith, or_right z e))
