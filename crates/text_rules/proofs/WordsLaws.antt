-- The steps of reading words, as laws of what the contracts say. Assumes nothing.
use Prim.Native.Nat.{ℕ, suc, ◌+◌, ◌-◌, ◌*◌, ◌≤◌, ◌<◌}
use mathlib.Core.Path.{◌≡◌, refl, sym, ap, ◌∙◌}
use mathlib.Core.List.{List, [], ◌∷◌}
use mathlib.Core.Bool.{Bool, true, false, ◌||◌, ◌&&◌}
use mathlib.Core.Option.{none, some}
use native.Mathlib.Omega.{arith}
use lib.ListN.{length, take, drop, get_or, length-drop, length-take}
use lib.Dec.{eqb, leb}
use borrow.Author.Tests.{eq-eqb, ne_eqb, le-leb, lt-leb, eqb-true, eqb-false}
use Rattle.output.specs.Logic.{if, on, byte, ascii}
use Rattle.text_rules.specs.Digits.{is_digit, run, behind_digits, number, whole}
use Rattle.text_rules.specs.Texts.{empty, starts, strip, same}
use Rattle.text_rules.specs.Words.{is_start, is_part, word, behind_word, all_digits, version, resembles_symbol_id, resembles_version_marker, is_identifier, is_keyword, symbol_id, kind_of}
use Rattle.text_rules.specs.WordSteps.{Spanned, Passed, WordStands, bounded}
use Rattle.text_rules.specs.declared.words.Kind.TheVariants.{Null, True, False, Nan, Marker, Number, Text, Refused}
use Rattle.text_rules.proofs.Places.{byte_at, end-at, next}
use Rattle.text_rules.proofs.DigitLaws.{never, number_more}

-- ---- a byte of an identifier, by its range

or_last : (b : Bool) → b ≡ b || false
or_last true = refl
or_last false = refl

module _ (b : ℕ) where
  pub part_small : 97 ≤ b → leb b 122 ≡ is_part b
  unfolding is_part is_start is_digit
  part_small h =
      or_last (leb b 122)
      ∙ simp (ne_eqb b 36 (λ q. omega arith), ne_eqb b 95 (λ q. omega arith), le-leb 65 b (omega arith), lt-leb b 90 (omega arith), le-leb 97 b h, le-leb 48 b (omega arith), lt-leb b 57 (omega arith))

-- ---- the word that starts at a place

zero_long : (i : ℕ) → i - i ≡ 0
zero_long i = omega arith

pub spanned_stop : (t : List ℕ) (i : ℕ) → i < length t → is_part (get_or t i 0) ≡ false → Spanned t i i
unfolding word behind_word
spanned_stop t i h e = record { ahead = omega arith; inside = omega arith; rest = rw (byte_at t i h, e); bytes = ap (λ (n : ℕ). take n (drop i t)) (zero_long i) ∙ rw (byte_at t i h, e) }

pub spanned_end : (t : List ℕ) (i : ℕ) → i ≡ length t → Spanned t i i
unfolding word behind_word
spanned_end t i h = record { ahead = omega arith; inside = omega arith; rest = rw (end-at t i h); bytes = ap (λ (n : ℕ). take n (drop i t)) (zero_long i) ∙ rw (end-at t i h) }

pub spanned_more : (t : List ℕ) (i r : ℕ) → i < length t → is_part (get_or t i 0) ≡ true → Spanned t (i + 1) r → Spanned t i r
unfolding word behind_word
spanned_more t i r h e s = record {
  ahead = omega arith;
  inside = s.inside;
  rest = rw (byte_at t i h, e) s.rest;
  bytes = ap (λ (n : ℕ). take n (drop i t)) longer ∙ rw (byte_at t i h, e) (ap (λ (l : List ℕ). get_or t i 0 ∷ l) s.bytes);
}
  where
    longer : r - i ≡ suc (r - (i + 1))
    longer = omega (arith, s.ahead)

-- ---- a word that stands at a place

-- ---- a word that stands at a place

pub strip-all : (w t : List ℕ) (i : ℕ) → i ≡ length w → strip (drop i w) t ≡ some t
unfolding strip
strip-all w t i h = rw (end-at w i h)

pub strip-other : (w t : List ℕ) (i j : ℕ) → i < length w → j < length t → (get_or t j 0 ≡ get_or w i 0 → ⊥) → strip (drop i w) (drop j t) ≡ none
unfolding strip
strip-other w t i j h l e = rw (byte_at w i h, byte_at t j l, ne_eqb _ _ e)

pub strip_byte : (w t : List ℕ) (i j : ℕ) → i < length w → j < length t → get_or t j 0 ≡ get_or w i 0 → strip (drop i w) (drop j t) ≡ strip (drop (i + 1) w) (drop (j + 1) t)
unfolding strip
strip_byte w t i j h l e = rw (byte_at w i h, byte_at t j l, eq-eqb _ _ e)

-- a text that is shorter than a word does not start with it
pub strip_short : (w t : List ℕ) → length t < length w → strip w t ≡ none
unfolding strip
strip_short [] t h = absurd (omega arith)
strip_short (x ∷ w) [] h = refl
strip_short (x ∷ w) (c ∷ t) h = go (eqb c x) (strip_short w t (omega arith))
  where
    go : (b : Bool) → strip w t ≡ none → if b (strip w t) none ≡ none
    go true e = e
    go false e = refl

pub stands_short : (t w : List ℕ) (at : ℕ) → at ≤ length t → length t - at < length w → WordStands t at w false
stands_short t w at h l = record { is = strip_short w (drop at t) (let e = length-drop at t in omega arith); inside = h }

-- ---- a text that is a word, whole

pub same_long : (w t : List ℕ) → (length t ≡ length w → ⊥) → same w t ≡ false
unfolding same strip
same_long [] [] h = absurd (h refl)
same_long [] (c ∷ t) h = refl
same_long (x ∷ w) [] h = refl
same_long (x ∷ w) (c ∷ t) h = go (eqb c x) (same_long w t (λ e. h (ap suc e)))
  where
    go : (b : Bool) → on (strip w t) empty false ≡ false → on (if b (strip w t) none) empty false ≡ false
    go true e = e
    go false e = refl

pub same_stands : (w t : List ℕ) (r : Bool) → length t ≡ length w → WordStands t 0 w r → r ≡ same w t
unfolding same
same_stands w t true h s = sym (rw s.is (ap empty (end-at t (0 + length w) (omega arith))))
same_stands w t false h s = sym (rw s.is)

pub same-other : (c : ℕ) (k t : List ℕ) → 0 < length t → (get_or t 0 0 ≡ c → ⊥) → same (c ∷ k) t ≡ false
unfolding same strip
same-other c k [] h e = absurd (omega arith)
same-other c k (x ∷ t) h e = rw (ne_eqb x c e)

pub same-is : (w t : List ℕ) → same w t ≡ true → t ≡ w
unfolding same strip
same-is [] [] h = refl
same-is [] (c ∷ t) h = never (sym h)
same-is (x ∷ w) [] h = never (sym h)
same-is (x ∷ w) (c ∷ t) h = go (eqb c x) refl (same-is w t)
  where
    go : (b : Bool) → eqb c x ≡ b → (same w t ≡ true → t ≡ w) → c ∷ t ≡ x ∷ w
    go true e f = let i = f (rw e at h) in let y = eqb-true c x e in cc
    go false e f = never (sym (rw e at h))

-- ---- digits

pub passed-stop : (t : List ℕ) (i : ℕ) → i < length t → is_digit (get_or t i 0) ≡ false → drop i t ≡ behind_digits (drop i t)
unfolding behind_digits
passed-stop t i h e = rw (byte_at t i h, e)

pub past_digit : (t : List ℕ) (i : ℕ) → i < length t → is_digit (get_or t i 0) ≡ true → behind_digits (drop i t) ≡ behind_digits (drop (i + 1) t)
unfolding behind_digits
past_digit t i h e = rw (byte_at t i h, e)

pub passed-end : (t : List ℕ) (i : ℕ) → i ≡ length t → drop i t ≡ behind_digits (drop i t)
unfolding behind_digits
passed-end t i h = rw (end-at t i h)

-- nothing is left exactly at the end
pub ends_here : (t : List ℕ) (i : ℕ) → i ≤ length t → eqb i (length t) ≡ empty (drop i t)
ends_here t i h = go (eqb i (length t)) refl
  where
    go : (b : Bool) → eqb i (length t) ≡ b → eqb i (length t) ≡ empty (drop i t)
    go true e = e ∙ rw (end-at t i (eqb-true i (length t) e))
    go false e =
        let l : i < length t = let n : i ≡ length t → ⊥ = eqb-false i (length t) e in omega (arith, n) in
        e ∙ rw (byte_at t i l)

digits_past : (c : ℕ) (t : List ℕ) → empty (behind_digits (c ∷ t)) ≡ all_digits (c ∷ t)
unfolding behind_digits all_digits
digits_past c t = go (is_digit c)
  where
    go : (b : Bool) → empty (if b (behind_digits t) (c ∷ t)) ≡ b && empty (behind_digits t)
    go true = refl
    go false = refl

pub digits-none : (t : List ℕ) (i : ℕ) → length t ≤ i → all_digits (drop i t) ≡ false
unfolding all_digits
digits-none t i h = rw (none_left)
  where
    none_left : drop i t ≡ []
    none_left = lib.ListN.drop_of_length-le t h

pub digits-all : (t : List ℕ) (i r : ℕ) → i < length t → Passed t i r → eqb r (length t) ≡ all_digits (drop i t)
digits-all t i r h p =
    ends_here t r p.inside
    ∙ ap empty p.is
    ∙ rw (byte_at t i h) (digits_past (get_or t i 0) (drop (i + 1) t))

-- ---- numbers

pub number_step : (t : List ℕ) (i n d : ℕ) → i < length t → d ≡ get_or t i 0 - 48 → number n (drop i t) ≡ number (n * 10 + d) (drop (i + 1) t)
unfolding number
number_step t i n d h e = rw (byte_at t i h, e)

pub number_over : (t u : List ℕ) (n m : ℕ) → number n t ≡ number m u → 4_294_967_295 < n → bounded (number m u) ≡ Refused
number_over t u n m e h = rw (lt-leb (number m u) 4_294_967_295 (omega (arith, number_more n t)))

pub number-end : (t u : List ℕ) (i n m : ℕ) → i ≡ length t → number n (drop i t) ≡ number m u → n ≤ 4_294_967_295 → bounded (number m u) ≡ Number n
number-end t u i n m z e h = rw (sym e ∙ here, le-leb n 4_294_967_295 h)
  where
    here : number n (drop i t) ≡ n
    here = unfold number in rw (end-at t i z)

-- ---- the number behind `$`

whole-padded : (c d : ℕ) (t : List ℕ) → c ≡ byte "0" → whole (c ∷ d ∷ t) ≡ false
unfolding whole
whole-padded c d t e = rw (eq-eqb c 48 e)

whole-other : (c : ℕ) (t : List ℕ) → (c ≡ byte "0" → ⊥) → whole (c ∷ t) ≡ true
unfolding whole
whole-other c [] e = refl
whole-other c (d ∷ t) e = rw (ne_eqb c 48 e)

pub id_padded : (w : List ℕ) → 2 < length w → get_or w 1 0 ≡ byte "0" → symbol_id (drop 1 w) ≡ Refused
unfolding symbol_id
id_padded w h e = rw (byte_at w 1 (omega arith), byte_at w 2 h, whole-padded (get_or w 1 0) (get_or w 2 0) (drop 3 w) e)

pub id_other : (w : List ℕ) → 1 < length w → (get_or w 1 0 ≡ byte "0" → ⊥) → symbol_id (drop 1 w) ≡ bounded (number 0 (drop 1 w))
unfolding symbol_id
id_other w h e = rw (ap whole (byte_at w 1 h) ∙ whole-other (get_or w 1 0) (drop 2 w) e)

pub id_short : (w : List ℕ) → length w ≡ 2 → symbol_id (drop 1 w) ≡ bounded (number 0 (drop 1 w))
unfolding symbol_id
id_short w h = rw (ap whole (byte_at w 1 (omega arith) ∙ ap (λ (l : List ℕ). get_or w 1 0 ∷ l) (end-at w 2 (omega arith))) ∙ alone (get_or w 1 0))
  where
    alone : (c : ℕ) → whole (c ∷ []) ≡ true
    alone c = unfold whole in refl

-- ---- what a word is

or_none : (a b c d : Bool) → a || b || c || d ≡ false → (a ≡ false) × (b ≡ false) × (c ≡ false) × (d ≡ false)
or_none true b c d h = never h
or_none false true c d h = never h
or_none false false true d h = never h
or_none false false false true h = never h
or_none false false false false h = (refl, refl, refl, refl)

pub or_third : (b : Bool) → b ≡ (false || false) || b || false
or_third true = refl
or_third false = refl

-- the four keywords, by the tests that stand before each
module _ (w : List ℕ) where
  pub kind-null : same (ascii "null") w ≡ true → kind_of w ≡ Null
  unfolding kind_of
  kind-null a = rw a

  pub kind-true : same (ascii "null") w ≡ false → same (ascii "true") w ≡ true → kind_of w ≡ True
  unfolding kind_of
  kind-true a b = rw (a, b)

  pub kind-false : same (ascii "null") w ≡ false → same (ascii "true") w ≡ false → same (ascii "false") w ≡ true → kind_of w ≡ False
  unfolding kind_of
  kind-false a b c = rw (a, b, c)

  pub kind-nan : same (ascii "null") w ≡ false → same (ascii "true") w ≡ false → same (ascii "false") w ≡ false → is_keyword w ≡ true → kind_of w ≡ Nan
  unfolding kind_of is_keyword
  kind-nan a b c d =
      let e : same (ascii "nan") w ≡ true = or_third (same (ascii "nan") w) ∙ (rw (b, c, a) at d) in
      rw (a, b, c, e)

  -- what is no keyword
  after_keywords : is_keyword w ≡ false → kind_of w ≡ if (resembles_version_marker w) (if (same (ascii "$ion_1_0") w) Marker Refused) (if (resembles_symbol_id w) (symbol_id (drop 1 w)) (if (is_identifier w) Text Refused))
  unfolding kind_of is_keyword
  after_keywords h =
      let n = or_none (same (ascii "true") w) (same (ascii "false") w) (same (ascii "nan") w) (same (ascii "null") w) h in
      rw (n.3, n.0, n.1, n.2)

  -- a word that starts with another byte than the keywords
  pub no_keyword : 0 < length w → (get_or w 0 0 ≡ byte "t" → ⊥) → (get_or w 0 0 ≡ byte "f" → ⊥) → (get_or w 0 0 ≡ byte "n" → ⊥) → is_keyword w ≡ false
  unfolding is_keyword
  no_keyword h t f n = rw (same-other 116 (ascii "rue") w h t, same-other 102 (ascii "alse") w h f, same-other 110 (ascii "an") w h n, same-other 110 (ascii "ull") w h n)

  first : 0 < length w → w ≡ get_or w 0 0 ∷ drop 1 w
  first h = byte_at w 0 h

  pub starts-at : (c : ℕ) → 0 < length w → get_or w 0 0 ≡ c → starts c w ≡ true
  starts-at c h e = ap (starts c) (first h) ∙ unfold starts in eq-eqb _ _ e

  pub starts_other : (c : ℕ) → 0 < length w → (get_or w 0 0 ≡ c → ⊥) → starts c w ≡ false
  starts_other c h e = ap (starts c) (first h) ∙ unfold starts in ne_eqb _ _ e

pub starts_long : (c : ℕ) (w : List ℕ) → starts c w ≡ true → (0 < length w) × (get_or w 0 0 ≡ c)
unfolding starts
starts_long c [] h = never (sym h)
starts_long c (x ∷ w) h = (omega arith, eqb-true x c h)

-- a word that starts with `$`
module _ (w : List ℕ) (d : starts (byte "$") w ≡ true) where
  dollar_plain : kind_of w ≡ if (resembles_version_marker w) (if (same (ascii "$ion_1_0") w) Marker Refused) (if (all_digits (drop 1 w)) (symbol_id (drop 1 w)) (if (is_identifier w) Text Refused))
  dollar_plain =
      let s = starts_long 36 w d in
      let e : get_or w 0 0 ≡ 36 = s.1 in
      let i : resembles_symbol_id w ≡ all_digits (drop 1 w) = unfold resembles_symbol_id in rw d in
      after_keywords w (no_keyword w s.0 (λ q. omega arith) (λ q. omega arith) (λ q. omega arith)) ∙ rw i

  pub dollar_marker : resembles_version_marker w ≡ true → same (ascii "$ion_1_0") w ≡ true → kind_of w ≡ Marker
  dollar_marker a b = dollar_plain ∙ rw (a, b)

  pub dollar_version : resembles_version_marker w ≡ true → same (ascii "$ion_1_0") w ≡ false → kind_of w ≡ Refused
  dollar_version a b = dollar_plain ∙ rw (a, b)

  pub dollar_number : resembles_version_marker w ≡ false → all_digits (drop 1 w) ≡ true → kind_of w ≡ symbol_id (drop 1 w)
  dollar_number a b = dollar_plain ∙ rw (a, b)

  pub dollar_other : resembles_version_marker w ≡ false → all_digits (drop 1 w) ≡ false → (b : Bool) → is_identifier w ≡ b → kind_of w ≡ if b Text Refused
  dollar_other a b i e = dollar_plain ∙ rw (a, b, e)

pub digits_long : (w : List ℕ) → all_digits (drop 1 w) ≡ true → 1 < length w
unfolding all_digits
digits_long [] h = never (sym h)
digits_long (c ∷ []) h = never (sym h)
digits_long (c ∷ d ∷ w) h = omega arith

-- ---- the rules by which text is quoted

pub id_none : (w : List ℕ) → starts (byte "$") w ≡ false → resembles_symbol_id w ≡ false
unfolding resembles_symbol_id
id_none w h = rw h

pub marker_none : (w : List ℕ) → starts (byte "$") w ≡ false → resembles_version_marker w ≡ false
unfolding resembles_version_marker starts strip
marker_none [] h = refl
marker_none (c ∷ w) h = rw h

-- a word that is neither keyword, number nor version
pub kind-plain : (w : List ℕ) → 0 < length w → (get_or w 0 0 ≡ byte "$" → ⊥) → is_keyword w ≡ false → (b : Bool) → is_identifier w ≡ b → kind_of w ≡ if b Text Refused
kind-plain w h e k b i =
    let s = starts_other w 36 h e in
    after_keywords w k ∙ rw (marker_none w s, id_none w s, i)

-- an identifier that is none of the words that are quoted
pub kind_bare : (w : List ℕ) → is_keyword w ≡ false → resembles_version_marker w ≡ false → resembles_symbol_id w ≡ false → is_identifier w ≡ true → kind_of w ≡ Text
kind_bare w k v n i = after_keywords w k ∙ rw (v, n, i)

pub kind-nothing : kind_of [] ≡ Refused
unfolding kind_of same strip resembles_version_marker resembles_symbol_id starts is_identifier
kind-nothing = refl

-- ---- version

module _ (t : List ℕ) (i : ℕ) where
  pub version-end : i ≡ length t → version (drop i t) ≡ false
  unfolding version run
  version-end h = rw (end-at t i h)

  pub version-other : i < length t → is_digit (get_or t i 0) ≡ false → version (drop i t) ≡ false
  unfolding version run
  version-other h e = rw (byte_at t i h, e)

  -- what stands behind the first digits
  pub version_behind : i < length t → is_digit (get_or t i 0) ≡ true → {e : ℕ} → Passed t (i + 1) e → version (drop i t) ≡ starts (byte "_") (drop e t) && all_digits (drop (e + 1) t)
  unfolding version run behind_digits
  version_behind h d {e} p = rw (byte_at t i h, d, ← p.is, ← next t e)

-- ---- identifiers

pub identifier_none : (w : List ℕ) → length w ≡ 0 → is_identifier w ≡ false
unfolding is_identifier
identifier_none [] h = refl
identifier_none (c ∷ w) h = absurd (omega arith)

pub identifier_other : (w : List ℕ) → 0 < length w → is_start (get_or w 0 0) ≡ false → is_identifier w ≡ false
identifier_other w h e = ap is_identifier (byte_at w 0 h) ∙ unfold is_identifier in rw e

pub identifier_here : (w : List ℕ) (r : ℕ) → 0 < length w → is_start (get_or w 0 0) ≡ true → Spanned w 1 r → eqb r (length w) ≡ is_identifier w
identifier_here w r h e s = ends_here w r s.inside ∙ ap empty s.rest ∙ sym (ap is_identifier (byte_at w 0 h) ∙ unfold is_identifier in rw e)

-- all bytes of a word are parts
pub behind-word : (t : List ℕ) → behind_word (word t) ≡ []
unfolding behind_word word
behind-word [] = refl
behind-word (c ∷ t) = go (is_part c) refl (behind-word t)
  where
    go : (b : Bool) → is_part c ≡ b → behind_word (word t) ≡ [] → behind_word (if b (c ∷ word t) []) ≡ []
    go true e h = rw e h
    go false e h = refl

word_identifier : (c : ℕ) (t : List ℕ) → 0 < length (word (c ∷ t)) → is_start c ≡ is_identifier (word (c ∷ t))
unfolding word
word_identifier c t h = go (is_part c) refl
  where
    and-true : (b : Bool) → b ≡ b && true
    and-true true = refl
    and-true false = refl

    go : (b : Bool) → is_part c ≡ b → is_start c ≡ is_identifier (if (is_part c) (c ∷ word t) [])
    go true e = rw e (and-true (is_start c) ∙ sym (unfold is_identifier in rw (behind-word t)))
    go false e = absurd (let z : 0 < 0 = rw e at h in omega arith)

-- from `A` on a part of an identifier may be its first
part-start : (b : ℕ) → 65 ≤ b → is_part b ≡ true → is_start b ≡ true
unfolding is_part is_digit
part-start b l h = or_last (is_start b) ∙ simp (le-leb 48 b (omega arith), lt-leb b 57 (omega arith)) at h

word-name : (c : ℕ) (t : List ℕ) → 0 < length (word (c ∷ t)) → 65 ≤ c → is_keyword (word (c ∷ t)) ≡ false → kind_of (word (c ∷ t)) ≡ Text
unfolding word
word-name c t h l k = go (is_part c) refl
  where
    go : (b : Bool) → is_part c ≡ b → kind_of (word (c ∷ t)) ≡ Text
    go true e = kind-plain (word (c ∷ t)) h (λ q. let z : c ≡ 36 = rw e at q in omega arith) k true (sym (word_identifier c t h) ∙ part-start c l e)
    go false e = absurd (let z : 0 < 0 = rw e at h in omega arith)

module _ {text : List ℕ} {at e : ℕ} (s : Spanned text at e) where
  pub spanned_long : length (take (e - at) (drop at text)) ≡ e - at
  spanned_long = let d = length-drop at text in let i = s.inside in length-take (e - at) (drop at text) ∙ omega arith

  pub spanned_identifier : at < e → is_start (get_or text at 0) ≡ is_identifier (take (e - at) (drop at text))
  spanned_identifier h =
      let i = s.inside in
      let l = spanned_long in
      let b : drop at text ≡ get_or text at 0 ∷ drop (at + 1) text = byte_at text at (omega arith) in
      let n : length (word (drop at text)) ≡ e - at = ap length (sym s.bytes) ∙ l in
      let m : 0 < length (word (get_or text at 0 ∷ drop (at + 1) text)) = rw b at (let z : 0 < length (word (drop at text)) = omega arith in z) in
      word_identifier (get_or text at 0) (drop (at + 1) text) m
      ∙ ap (λ (l : List ℕ). is_identifier (word l)) (sym b)
      ∙ ap is_identifier (sym s.bytes)

  pub spanned_name : at < e → 65 ≤ get_or text at 0 → is_keyword (take (e - at) (drop at text)) ≡ false → kind_of (word (drop at text)) ≡ Text
  spanned_name h c k =
      let i = s.inside in
      let l = spanned_long in
      let b : drop at text ≡ get_or text at 0 ∷ drop (at + 1) text = byte_at text at (omega arith) in
      let n : length (word (drop at text)) ≡ e - at = ap length (sym s.bytes) ∙ l in
      let m : 0 < length (word (get_or text at 0 ∷ drop (at + 1) text)) = rw b at (let z : 0 < length (word (drop at text)) = omega arith in z) in
      let q : is_keyword (word (drop at text)) ≡ false = ap is_keyword (sym s.bytes) ∙ k in
      ap (λ (l : List ℕ). kind_of (word l)) b ∙ word-name (get_or text at 0) (drop (at + 1) text) m c (ap (λ (l : List ℕ). is_keyword (word l)) (sym b) ∙ q)

  pub spanned_none : e ≡ at → word (drop at text) ≡ []
  spanned_none h = sym s.bytes ∙ ap (λ (n : ℕ). take n (drop at text)) (let z : e - at ≡ 0 = omega arith in z)

-- ---- a word that stands at a place, byte by byte

module _ (t w : List ℕ) (at i : ℕ) (g : strip (drop i w) (drop (at + i) t) ≡ strip w (drop at t)) where
  pub stands_other : at ≤ length t → i < length w → at + i < length t → (get_or t (at + i) 0 ≡ get_or w i 0 → ⊥) → WordStands t at w false
  stands_other a h l n = record { is = sym g ∙ strip-other w t i (at + i) h l n; inside = a }

  pub stands_all : at + length w ≤ length t → i ≡ length w → WordStands t at w true
  stands_all a h = record { is = sym g ∙ strip-all w (drop (at + i) t) i h ∙ ap (λ (k : ℕ). some (drop (at + k) t)) h; inside = a }

  pub strip_more : i < length w → at + i < length t → get_or t (at + i) 0 ≡ get_or w i 0 → strip (drop (i + 1) w) (drop (at + (i + 1)) t) ≡ strip w (drop at t)
  strip_more h l n =
      let a : at + (i + 1) ≡ (at + i) + 1 = omega arith in
      ap (λ (k : ℕ). strip (drop (i + 1) w) (drop k t)) a ∙ sym (strip_byte w t i (at + i) h l n) ∙ g
