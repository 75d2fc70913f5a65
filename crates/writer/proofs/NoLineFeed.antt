-- No LF stands in the text of a scalar, a name, a bracket or the marker: `separator` and `broken` alone write one. Assumes nothing.
use Prim.Native.Nat.{ℕ, zero, suc, ◌+◌, ◌-◌, ◌/◌, ◌%◌}
use mathlib.Core.Path.{◌≡◌, refl, sym, ap, ◌∙◌}
use mathlib.Core.List.{List, [], ◌∷◌, ◌++◌}
use mathlib.Core.Bool.{Bool, true, false, not, ◌||◌, ◌&&◌}
use mathlib.Core.Option.{Option, none, some}
use native.Mathlib.Omega.{arith}
use lib.Dec.{eqb, leb, ltb}
use lib.IntN.{ℤ, pos, negsuc}
use lib.Ieee.{Float, nan, inf, fin}
use lib.ListN.{length, get_or, take, drop, replicate}
use borrow.Author.Tests.{eqb-true, ne_eqb}
use Rattle.output.specs.Logic.{if, byte, ascii}
use Rattle.text_rules.specs.Digits.{is_digit, digits, pad}
use Rattle.text_rules.specs.Words.{is_start, is_part, behind_word}
use Rattle.text_rules.specs.Escapes.{has_letter, letter_of, hex_digit, hex_escape, has_hex, text_escape, text_body, clob_escape, clob_body}
use Rattle.text_rules.specs.Base64.{alphabet, base64_character, characters24, base64}
use Rattle.text_rules.specs.Text.{Sym, marked, symbol_text, symbol_id_text, string_text, clob_text, blob_text, type_name, null_text, bool_text}
use Rattle.numbers.specs.Decimal.{int_text, pointed, scientific, above, below, form, sign, decimal_text}
use Rattle.numbers.specs.declared.timestamp.Timestamp.{Timestamp}
use Rattle.numbers.specs.Timestamp.{unknown, timestamp_text, year_and_month, date, hour_and_minute, date_hour_and_minute, fractional_seconds, offset_text}
use Rattle.floats.specs.Value.{magnitude}
use Rattle.floats.specs.Float.{signed_text, float_text}
use Rattle.tape.specs.Tree.{Scalar, null, bool, int, float, decimal, timestamp, symbol, string, clob, blob}
use Rattle.tape.specs.declared.Frame.{Frame}
use Rattle.tape.specs.declared.Frame.TheVariants.{Top, List as ListF, Sexp, Struct}
use Rattle.writer.specs.Text.{sym_text, scalar_text, name_text, opening, closing, blanks, unbroken}
use Rattle.text_rules.proofs.DigitLaws.{never, Digits, digit_range, digits-take, digits-drop, digits-zeros, digits-pad, digits-digits}
use Rattle.text_rules.proofs.WordsBack.{word-all, identifier_word, unlike}
use Rattle.text_rules.proofs.SymbolsText.{bare_is, symbol_either}
use Rattle.floats.proofs.WholeBytes.{whole-all}

-- ---- texts without LF

pub record Unbroken (s : List ℕ) : Type 0 where
  pub told : unbroken s ≡ true

pub unbroken_nil : Unbroken []
unfolding unbroken
unbroken_nil = record { told = refl }

unbroken_byte : {s : List ℕ} (c : ℕ) → eqb c (byte "\n") ≡ false → Unbroken s → Unbroken (c ∷ s)
unfolding unbroken
unbroken_byte c h u = record { told = rw h u.told }

-- the first byte, and what follows it
pub unbroken-first : {s : List ℕ} (c : ℕ) → Unbroken (c ∷ s) → (eqb c (byte "\n") ≡ false) × Unbroken s
unfolding unbroken
unbroken-first {s} c u = go (eqb c (byte "\n")) u.told
  where
    go : (b : Bool) → not b && unbroken s ≡ true → (b ≡ false) × Unbroken s
    go true h = never (sym h)
    go false h = (refl, record { told = h })

pub unbroken-both : {s t : List ℕ} → Unbroken s → Unbroken t → Unbroken (s ++ t)
unbroken-both {s} {t} u v = go s u
  where
    go : (s : List ℕ) → Unbroken s → Unbroken (s ++ t)
    go [] u = v
    go (c ∷ s) u = let f = unbroken-first c u in unbroken_byte c f.0 (go s f.1)

spelled : (s : List ℕ) → unbroken s ≡ true → Unbroken s
spelled s h = record { told = h }

unbroken_if : {s t : List ℕ} (b : Bool) → Unbroken s → Unbroken t → Unbroken (if b s t)
unbroken_if true m n = m
unbroken_if false m n = n

-- ---- digits and words

unbroken-digits : (w : List ℕ) → Digits w → Unbroken w
unbroken-digits [] h = unbroken_nil
unbroken-digits (c ∷ w) h = let d = digit_range c h.0 in unbroken_byte c (ne_eqb c 10 (λ q. omega arith)) (unbroken-digits w h.1)

unbroken-pad : (w n : ℕ) → Unbroken (pad w n)
unbroken-pad w n = unbroken-digits (pad w n) (digits-pad w n)

unbroken-number : (n : ℕ) → Unbroken (digits n)
unbroken-number n = unbroken-digits (digits n) (digits-digits n)

unbroken-word : (w : List ℕ) → behind_word w ≡ [] → Unbroken w
unbroken-word w h = word-all Unbroken unbroken_nil (λ c v e n. unbroken_byte c (unlike c 10 e (unfold is_part is_start is_digit in refl)) n) w h

-- ---- escapes: LF is written as a backslash and a letter

not_if : (b : Bool) (x y : ℕ) → eqb x 10 ≡ false → eqb y 10 ≡ false → eqb (if b x y) 10 ≡ false
not_if true x y h k = h
not_if false x y h k = k

letter-not : (c : ℕ) → eqb (letter_of c) 10 ≡ false
letter-not c = go (eqb c 10) refl
  where
    here : letter_of 10 ≡ 110
    here = unfold letter_of in refl

    chain : (a b d e f g h i : Bool) → eqb c 10 ≡ false → eqb (if a 48 (if b 97 (if d 98 (if e 116 (if f 110 (if g 118 (if h 102 (if i 114 c)))))))) 10 ≡ false
    chain a b d e f g h i k = not_if a 48 _ refl (not_if b 97 _ refl (not_if d 98 _ refl (not_if e 116 _ refl (not_if f 110 _ refl (not_if g 118 _ refl (not_if h 102 _ refl (not_if i 114 _ refl k)))))))

    go : (b : Bool) → eqb c 10 ≡ b → eqb (letter_of c) 10 ≡ false
    go true e = ap (λ (x : ℕ). eqb (letter_of x) 10) (eqb-true c 10 e) ∙ ap (λ (x : ℕ). eqb x 10) here
    go false e = unfold letter_of in chain (eqb c 0) (eqb c 7) (eqb c 8) (eqb c 9) (eqb c 10) (eqb c 11) (eqb c 12) (eqb c 13) e

-- a byte without a letter is not LF
raw-not : (c : ℕ) → has_letter c ≡ false → eqb c 10 ≡ false
raw-not c h = ne_eqb c 10 (λ q. never (sym here ∙ sym (ap has_letter q) ∙ h))
  where
    here : has_letter 10 ≡ true
    here = unfold has_letter in refl

unbroken_two : (c : ℕ) → Unbroken (byte "\\" ∷ letter_of c ∷ [])
unbroken_two c = unbroken_byte (byte "\\") refl (unbroken_byte (letter_of c) (letter-not c) unbroken_nil)

or-false : (a b : Bool) → a || b ≡ false → a ≡ false
or-false false b h = refl
or-false true b h = never h

hex-not : (d : ℕ) → eqb (hex_digit d) 10 ≡ false
unfolding hex_digit
hex-not d = not_if (ltb d 10) (48 + d) (97 + (d - 10)) (ne_eqb (48 + d) 10 (λ (q : 48 + d ≡ 10). omega arith)) (ne_eqb (97 + (d - 10)) 10 (λ (q : 97 + (d - 10) ≡ 10). omega arith))

unbroken-hex : (c : ℕ) → Unbroken (hex_escape c)
unbroken-hex c = unbroken_byte (byte "\\") refl (unbroken_byte (byte "x") refl (unbroken_byte (hex_digit (c / 16)) (hex-not (c / 16)) (unbroken_byte (hex_digit (c % 16)) (hex-not (c % 16)) unbroken_nil)))

unbroken-escape : (c : ℕ) → Unbroken (text_escape c)
unfolding text_escape
unbroken-escape c = go (has_letter c || eqb c (byte "'")) refl (has_hex c)
  where
    go : (b : Bool) → has_letter c || eqb c (byte "'") ≡ b → (h : Bool) → Unbroken (if b (byte "\\" ∷ letter_of c ∷ []) (if h (hex_escape c) (c ∷ [])))
    go true e h = unbroken_two c
    go false e true = unbroken-hex c
    go false e false = unbroken_byte c (raw-not c (or-false (has_letter c) (eqb c (byte "'")) e)) unbroken_nil

unbroken_body : (s : List ℕ) → Unbroken (text_body s)
unfolding text_body
unbroken_body [] = unbroken_nil
unbroken_body (c ∷ s) = unbroken-both (unbroken-escape c) (unbroken_body s)

unbroken-marked : (q : ℕ) (s : List ℕ) → eqb q 10 ≡ false → Unbroken (marked q s)
unbroken-marked q s h = unbroken_byte q h (unbroken-both (unbroken_body s) (unbroken_byte q h unbroken_nil))

unbroken-clob_byte : (c : ℕ) → Unbroken (clob_escape c)
unfolding clob_escape
unbroken-clob_byte c = go (has_letter c) refl
  where
    go : (b : Bool) → has_letter c ≡ b → Unbroken (if b (byte "\\" ∷ letter_of c ∷ []) (if (leb 0x20 c && leb c 0x7E) (c ∷ []) (hex_escape c)))
    go true e = unbroken_two c
    go false e = unbroken_if (leb 0x20 c && leb c 0x7E) (unbroken_byte c (raw-not c e) unbroken_nil) (unbroken-hex c)

unbroken-clob_body : (s : List ℕ) → Unbroken (clob_body s)
unfolding clob_body
unbroken-clob_body [] = unbroken_nil
unbroken-clob_body (c ∷ s) = unbroken-both (unbroken-clob_byte c) (unbroken-clob_body s)

-- ---- base64

-- a byte of a text, or 0 past its end
byte_not : (s : List ℕ) (v : ℕ) → Unbroken s → eqb (get_or s v 0) 10 ≡ false
byte_not [] v u = refl
byte_not (c ∷ s) zero u = (unbroken-first c u).0
byte_not (c ∷ s) (suc v) u = byte_not s v (unbroken-first c u).1

unbroken-character : {s : List ℕ} (v : ℕ) → Unbroken s → Unbroken (base64_character v ∷ s)
unfolding base64_character alphabet unbroken
unbroken-character v u = unbroken_byte _ (byte_not alphabet v (spelled alphabet refl)) u

unbroken-base64 : (s : List ℕ) → Unbroken (base64 s)
unfolding base64 characters24 unbroken
unbroken-base64 [] = unbroken_nil
unbroken-base64 (a ∷ []) = unbroken-character _ (unbroken-character _ (spelled (ascii "==") refl))
unbroken-base64 (a ∷ b ∷ []) = unbroken-character _ (unbroken-character _ (unbroken-character _ (spelled (ascii "=") refl)))
unbroken-base64 (a ∷ b ∷ c ∷ s) = unbroken-character _ (unbroken-character _ (unbroken-character _ (unbroken-character _ (unbroken-base64 s))))

-- ---- symbols, strings, clobs, blobs

unbroken-symbol : (quoted : Bool) (s : List ℕ) → Unbroken (symbol_text quoted s)
unbroken-symbol quoted s = symbol_either Unbroken quoted s (λ i. unbroken-word s (identifier_word s (bare_is s i).identifier)) (unbroken-marked (byte "'") s refl)

unbroken-sym : (quoted : Bool) (s : Sym) → Unbroken (sym_text quoted s)
unfolding sym_text symbol_id_text
unbroken-sym quoted (Sym.text s) = unbroken-symbol quoted s
unbroken-sym quoted (Sym.id n) = unbroken_byte (byte "$") refl (unbroken-number n)

pub unbroken-name : (quoted : Bool) (x : Option Sym) → Unbroken (name_text quoted x)
unfolding name_text unbroken
unbroken-name quoted none = unbroken_nil
unbroken-name quoted (some s) = unbroken-both (unbroken-sym quoted s) record { told = refl }

unbroken-clob : (s : List ℕ) → Unbroken (clob_text s)
unfolding clob_text unbroken
unbroken-clob s = unbroken-both (unbroken-both (spelled (ascii "{{\"") refl) (unbroken-clob_body s)) (spelled (ascii "\"}}") refl)

unbroken-blob : (s : List ℕ) → Unbroken (blob_text s)
unfolding blob_text unbroken
unbroken-blob s = unbroken-both (unbroken-both (spelled (ascii "{{") refl) (unbroken-base64 s)) (spelled (ascii "}}") refl)

-- ---- nulls and bools, literal spellings

unbroken_type : (t : ℕ) → Unbroken (type_name t)
unfolding type_name unbroken
unbroken_type t =
    unbroken_if (eqb t 0) record { told = refl }
    (unbroken_if (eqb t 1) record { told = refl }
    (unbroken_if (eqb t 2) record { told = refl }
    (unbroken_if (eqb t 3) record { told = refl }
    (unbroken_if (eqb t 4) record { told = refl }
    (unbroken_if (eqb t 5) record { told = refl }
    (unbroken_if (eqb t 6) record { told = refl }
    (unbroken_if (eqb t 7) record { told = refl }
    (unbroken_if (eqb t 8) record { told = refl }
    (unbroken_if (eqb t 9) record { told = refl }
    (unbroken_if (eqb t 10) record { told = refl }
    (unbroken_if (eqb t 11) record { told = refl }
    (unbroken_if (eqb t 12) record { told = refl } unbroken_nil))))))))))))

unbroken-null : (t : ℕ) → Unbroken (null_text t)
unfolding null_text unbroken
unbroken-null t = unbroken_if (eqb t 0) record { told = refl } (unbroken-both (spelled (ascii "null.") refl) (unbroken_type t))

unbroken-bool : (b : Bool) → Unbroken (bool_text b)
unfolding bool_text unbroken
unbroken-bool b = unbroken_if b record { told = refl } record { told = refl }

-- ---- floats

unbroken-sign : (b : Bool) → Unbroken (sign b)
unfolding sign
unbroken-sign true = unbroken_byte (byte "-") refl unbroken_nil
unbroken-sign false = unbroken_nil

unbroken-signed : (s : Bool) (o : Option ℕ) → Unbroken (signed_text s o)
unfolding signed_text
unbroken-signed s none = unbroken_nil
unbroken-signed s (some n) = unbroken-both (unbroken-sign s) (whole-all Unbroken unbroken_nil (λ c t h k u. unbroken_byte c (ne_eqb c 10 (λ q. omega arith)) u) n)

unbroken-float : (x : Float) → Unbroken (float_text x)
unfolding float_text unbroken
unbroken-float nan = record { told = refl }
unbroken-float (inf s) = unbroken_if s record { told = refl } record { told = refl }
unbroken-float (fin s m e) = unbroken-signed s (magnitude (fin s m e))

-- ---- ints, decimals, timestamps

unbroken_int : (n : ℤ) → Unbroken (int_text n)
unfolding int_text
unbroken_int (pos n) = unbroken-number n
unbroken_int (negsuc n) = unbroken_byte (byte "-") refl (unbroken-number (suc n))

unbroken-pointed : (m k : ℕ) → Unbroken (pointed (digits m) k)
unfolding pointed
unbroken-pointed m k = unbroken-both (unbroken-digits (take k (digits m)) (digits-take k (digits m) (digits-digits m))) (unbroken_byte (byte ".") refl (unbroken-digits (drop k (digits m)) (digits-drop k (digits m) (digits-digits m))))

unbroken-scientific : (m : ℕ) (e : ℤ) → Unbroken (scientific (digits m) e)
unfolding scientific
unbroken-scientific m e = unbroken-both (unbroken-pointed m 1) (unbroken_byte (byte "d") refl (unbroken_int e))

unbroken-above : (m L k : ℕ) → Unbroken (above (digits m) L k)
unfolding above
unbroken-above m L zero = unbroken_if (ltb 6 L) (unbroken-scientific m (pos (L - 1))) (unbroken-both (unbroken-number m) (unbroken_byte (byte ".") refl unbroken_nil))
unbroken-above m L (suc k) = unbroken-both (unbroken-number m) (unbroken_byte (byte "d") refl (unbroken_int (pos (suc k))))

unbroken-below : (m L k : ℕ) → Unbroken (below (digits m) L k)
unfolding below
unbroken-below m L k =
    unbroken_if (ltb k L) (unbroken-pointed m (L - k))
    (unbroken_if (leb k (L + 5)) (unbroken_byte (byte "0") refl (unbroken_byte (byte ".") refl (unbroken-both (unbroken-digits (replicate (k - L) (byte "0")) (digits-zeros (k - L))) (unbroken-number m))))
    (unbroken-scientific m (negsuc (k - L))))

unbroken_decimal : (neg : Bool) (m : ℕ) (e : ℤ) → Unbroken (decimal_text neg m e)
unfolding decimal_text
unbroken_decimal neg m e = unbroken-both (unbroken-sign neg) (forms e)
  where
    forms : (e : ℤ) → Unbroken (form (digits m) (length (digits m)) e)
    forms (pos k) = unfold form in unbroken-above m (length (digits m)) k
    forms (negsuc k) = unfold form in unbroken-below m (length (digits m)) (suc k)

unbroken-clock : (h m : ℕ) → Unbroken (hour_and_minute h m)
unfolding hour_and_minute
unbroken-clock h m = unbroken-both (unbroken-pad 2 h) (unbroken_byte (byte ":") refl (unbroken-pad 2 m))

unbroken_offset : (o : ℤ) → Unbroken (offset_text o)
unfolding offset_text unbroken
unbroken_offset (pos m) = unbroken_if (eqb m unknown) record { told = refl } (unbroken_byte (byte "+") refl (unbroken-clock (m / 60) (m % 60)))
unbroken_offset (negsuc m) = unbroken_byte (byte "-") refl (unbroken-clock (suc m / 60) (suc m % 60))

unbroken_month : (y m : ℕ) → Unbroken (year_and_month y m)
unfolding year_and_month
unbroken_month y m = unbroken-both (unbroken-pad 4 y) (unbroken_byte (byte "-") refl (unbroken-pad 2 m))

unbroken-date : (y m d : ℕ) → Unbroken (date y m d)
unfolding date
unbroken-date y m d = unbroken-both (unbroken_month y m) (unbroken_byte (byte "-") refl (unbroken-pad 2 d))

unbroken_time : (y m d h n : ℕ) → Unbroken (date_hour_and_minute y m d h n)
unfolding date_hour_and_minute
unbroken_time y m d h n = unbroken-both (unbroken-date y m d) (unbroken_byte (byte "T") refl (unbroken-clock h n))

unbroken-fraction : (n f : ℕ) → Unbroken (fractional_seconds n f)
unfolding fractional_seconds
unbroken-fraction n f = unbroken_if (eqb n 0) unbroken_nil (unbroken_byte (byte ".") refl (unbroken-pad n f))

unbroken-timestamp : (x : Timestamp) → Unbroken (timestamp_text x)
unfolding timestamp_text unbroken
unbroken-timestamp x =
    unbroken_if (eqb x.precision 0) (unbroken-both (unbroken-pad 4 x.year) record { told = refl })
    (unbroken_if (eqb x.precision 1) (unbroken-both (unbroken_month x.year x.month) record { told = refl })
    (unbroken_if (eqb x.precision 2) (unbroken-both (unbroken-date x.year x.month x.day) record { told = refl })
    (unbroken_if (eqb x.precision 3) (unbroken-both (unbroken_time x.year x.month x.day x.hour x.minute) (unbroken_offset x.offset))
    (unbroken-both (unbroken-both (unbroken-both (unbroken_time x.year x.month x.day x.hour x.minute) (unbroken_byte (byte ":") refl (unbroken-pad 2 x.second)))
    (unbroken-fraction x.digits x.fraction)) (unbroken_offset x.offset)))))

-- no scalar is written with an LF
pub unbroken-scalar : (quoted : Bool) (s : Scalar) → Unbroken (scalar_text quoted s)
unfolding scalar_text string_text
unbroken-scalar quoted (null t) = unbroken-null t
unbroken-scalar quoted (bool b) = unbroken-bool b
unbroken-scalar quoted (int n) = unbroken_int n
unbroken-scalar quoted (float x) = unbroken-float x
unbroken-scalar quoted (decimal neg m e) = unbroken_decimal neg m e
unbroken-scalar quoted (timestamp x) = unbroken-timestamp x
unbroken-scalar quoted (symbol s) = unbroken-sym quoted s
unbroken-scalar quoted (string s) = unbroken-marked (byte "\"") s refl
unbroken-scalar quoted (clob s) = unbroken-clob s
unbroken-scalar quoted (blob s) = unbroken-blob s

-- ---- blanks, brackets, the marker

pub unbroken-blanks : (w : ℕ) → Unbroken (blanks w)
unbroken-blanks zero = unbroken_nil
unbroken-blanks (suc w) = unbroken_byte (byte " ") refl (unbroken-blanks w)

pub unbroken-opening : (k : Frame) → Unbroken (opening k)
unfolding opening unbroken
unbroken-opening Top = unbroken_nil
unbroken-opening ListF = record { told = refl }
unbroken-opening Sexp = record { told = refl }
unbroken-opening Struct = record { told = refl }

pub unbroken-closing : (k : Frame) → Unbroken (closing k)
unfolding closing unbroken
unbroken-closing Top = unbroken_nil
unbroken-closing ListF = record { told = refl }
unbroken-closing Sexp = record { told = refl }
unbroken-closing Struct = record { told = refl }

pub unbroken_marker : Unbroken (ascii "$ion_1_0")
unfolding unbroken
unbroken_marker = record { told = refl }
