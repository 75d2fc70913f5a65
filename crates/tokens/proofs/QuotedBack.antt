-- Quoted text and strings are read back: what is written for valid text, and its mark behind it, is read as that text.
-- Assumes nothing.
use Prim.Native.Nat.{ℕ, zero, suc, ◌≤◌, ◌<◌}
use mathlib.Core.Path.{◌≡◌, refl, sym, ap, subst, ◌∙◌}
use mathlib.Core.Bool.{Bool, true, false}
use mathlib.Core.List.{List, [], ◌∷◌, ◌++◌, append_assoc}
use mathlib.Core.Option.{none, some}
use native.Mathlib.Omega.{arith}
use lib.Dec.{ltb}
use lib.ListN.{length, take, drop, length-append}
use borrow.Author.Tests.{eq-eqb, ne_eqb, le-leb, lt-leb, ltb-true, ltb-false, leb-true}
use Rattle.output.specs.Logic.{if, byte}
use Rattle.text_rules.specs.Texts.{starts}
use Rattle.text_rules.specs.Utf8.{lead_of, is_cont, ok2, ok3, ok4, char_of, char_at, after, valid, is_scalar, utf8}
use Rattle.text_rules.specs.Escapes.{letter_of, has_letter, hex_digit, has_hex, text_escape, text_body, letter, hex_value, hex}
use Rattle.tokens.specs.Quoted.{Mark, symbol_mark, string_mark, quote, scalar_escape, letter_escape, escape, old_raw, strict_raw, raw_rule, raw, character, quoted, string}
use Rattle.text_rules.specs.Text.{string_text}
use Rattle.text_rules.proofs.EscapesLaws.{escape-some}
use Rattle.text_rules.proofs.Table.{same}
use Rattle.text_rules.proofs.Utf8Chars.{and_left, and_second, and-third}
use Rattle.text_rules.proofs.Utf8View.{Char, one, two, three, four, char-at, char_some, valid_char, view}
use Rattle.tokens.proofs.QuotedSteps.{rule_plain}
use Rattle.tokens.proofs.QuotedMany.{Read, many, many-end, many_more, characters-many}

-- ---- reading up to the mark, with any fuel that is enough

pub record All (step : List ℕ → Read) (q : ℕ) (t x r : List ℕ) : Type 0 where
  pub told : (f : ℕ) → suc (length t) ≤ f → many step f q t ≡ some (x, r)

pub all_mark : {step : List ℕ → Read} (q : ℕ) (r : List ℕ) → All step q (q ∷ r) [] r
unfolding quote
all_mark {step} q r = record { told = go }
  where
    go : (f : ℕ) → suc (length (q ∷ r)) ≤ f → many step f q (q ∷ r) ≡ some ([], r)
    go zero l = absurd (omega arith)
    go (suc f) l = many-end step q f (q ∷ r) r (rw (eq-eqb q q refl))

pub all_piece : {step : List ℕ → Read} {q : ℕ} {v t u x r : List ℕ} → quote q t ≡ none → step t ≡ some (v, u) → length u < length t → All step q u x r → All step q t (v ++ x) r
all_piece {step} {q} {v} {t} {u} {x} {r} h e l g = record { told = go }
  where
    go : (f : ℕ) → suc (length t) ≤ f → many step f q t ≡ some (v ++ x, r)
    go zero k = absurd (omega arith)
    go (suc f) k = many_more step q f v t u (some (x, r)) h e (g.told f (omega arith))

-- ---- the two marks

mark_low : {q : ℕ} → Mark q → q < 0x80
mark_low symbol_mark = omega arith
mark_low string_mark = omega arith

-- ---- a character below hex 80: one test over all of them

quote_ascii : {q : ℕ} → Mark q → (t : List ℕ) (c : ℕ) → c < 0x80 → quote q (text_escape c ++ t) ≡ none
unfolding quote text_escape has_letter has_hex letter_of
quote_ascii symbol_mark t = same (λ c. quote (byte "'") (text_escape c ++ t)) (λ c. none) 0x80 refl
quote_ascii string_mark t = same (λ c. quote (byte "\"") (text_escape c ++ t)) (λ c. none) 0x80 refl

read_ascii : (old : Bool) (t : List ℕ) (c : ℕ) → c < 0x80 → character (raw_rule old) (text_escape c ++ t) ≡ some (c ∷ [], t)
unfolding character starts escape letter_escape letter scalar_escape hex hex_value is_scalar utf8 raw raw_rule old_raw strict_raw char_of lead_of text_escape has_letter has_hex letter_of hex_digit
read_ascii true t = same (λ c. character old_raw (text_escape c ++ t)) (λ c. some (c ∷ [], t)) 0x80 refl
read_ascii false t = same (λ c. character strict_raw (text_escape c ++ t)) (λ c. some (c ∷ [], t)) 0x80 refl

-- ---- a character from hex 80 on: its bytes are written as they are

high_raw : (c : ℕ) → 0x80 ≤ c → text_escape c ≡ c ∷ []
unfolding text_escape has_letter has_hex
high_raw c h = rw (le-leb 1 c (omega arith), lt-leb c 6 (omega arith), le-leb 0x0E c (omega arith), lt-leb c 0x1F (omega arith), ne_eqb c 0 (λ e. omega arith), le-leb 7 c (omega arith), lt-leb c 13 (omega arith), ne_eqb c (byte "\"") (λ e. omega arith), ne_eqb c (byte "\\") (λ e. omega arith), ne_eqb c (byte "'") (λ e. omega arith))

body_high : (c : ℕ) (s : List ℕ) → 0x80 ≤ c → text_body (c ∷ s) ≡ c ∷ text_body s
unfolding text_body
body_high c s h = ap (λ (x : List ℕ). x ++ text_body s) (high_raw c h)

cont_high : (c : ℕ) → is_cont c ≡ true → 0x80 ≤ c
unfolding is_cont
cont_high c e = leb-true 0x80 c (and_left _ _ e)

ok2_cont : (a b : ℕ) → ok2 a b ≡ true → is_cont b ≡ true
unfolding ok2
ok2_cont a b e = and_left (is_cont b) _ e

ok3_cont : (a b c : ℕ) → ok3 a b c ≡ true → (is_cont b ≡ true) × (is_cont c ≡ true)
unfolding ok3
ok3_cont a b c e = (and_left (is_cont b) _ e, and_second (is_cont b) (is_cont c) _ e)

ok4_cont : (a b c d : ℕ) → ok4 a b c d ≡ true → (is_cont b ≡ true) × (is_cont c ≡ true) × (is_cont d ≡ true)
unfolding ok4
ok4_cont a b c d e = (and_left (is_cont b) _ e, and_second (is_cont b) (is_cont c) _ e, and-third (is_cont b) (is_cont c) (is_cont d) _ e)

lead_high : (n a : ℕ) → lead_of a ≡ suc (suc n) → 0x80 ≤ a
unfolding lead_of
lead_high n a e = go (ltb a 0x80) refl
  where
    go : (p : Bool) → ltb a 0x80 ≡ p → 0x80 ≤ a
    go false p = ltb-false a 0x80 p
    go true p = absurd (let z : ◌≡◌ {A = ℕ} 1 (suc (suc n)) = (rw p at e) in omega arith)

lead_low : (a : ℕ) → lead_of a ≡ 1 → a < 0x80
unfolding lead_of
lead_low a e = go (ltb a 0x80) refl (ltb a 0xC0) (ltb a 0xE0) (ltb a 0xF0) (ltb a 0xF8) e
  where
    go : (p : Bool) → ltb a 0x80 ≡ p → (q r s t : Bool) → if {A = ℕ} p 1 (if q 0 (if r 2 (if s 3 (if t 4 0)))) ≡ 1 → a < 0x80
    go true p q r s t e = ltb-true a 0x80 p
    go false p true r s t e = absurd (omega arith)
    go false p false true s t e = absurd (omega arith)
    go false p false false true t e = absurd (omega arith)
    go false p false false false true e = absurd (omega arith)
    go false p false false false false e = absurd (omega arith)

-- such a byte is no mark, no control and no backslash, so its character is read raw
high_quote : (q a : ℕ) (t : List ℕ) → q < 0x80 → 0x80 ≤ a → quote q (a ∷ t) ≡ none
unfolding quote
high_quote q a t l h = rw (ne_eqb a q (λ z. omega arith))

high_read : (old : Bool) (a : ℕ) (t : List ℕ) (n : ℕ) → 0x80 ≤ a → char_at (a ∷ t) 0 ≡ suc n → character (raw_rule old) (a ∷ t) ≡ some (take (suc n) (a ∷ t), drop (suc n) (a ∷ t))
unfolding character starts raw
high_read old a t n h e = rw (ne_eqb a (byte "\\") (λ z. omega arith), rule_plain old a (omega arith), e, le-leb 1 (suc n) (omega arith))

first_char : (a : ℕ) (t : List ℕ) → valid (a ∷ t) ≡ true → 1 ≤ char_at (a ∷ t) 0
unfolding valid after
first_char a t e = ltb-true 0 _ (and_left (ltb 0 (char_at (a ∷ t) 0)) _ e)

-- By either raw rule.
module _ (old : Bool) where
  -- ---- what is written for a character, and that it is read back

  record Back (q : ℕ) (x : List ℕ) : Type 0 where
    written : List ℕ
    body : (s : List ℕ) → text_body (x ++ s) ≡ written ++ text_body s
    other : (t : List ℕ) → quote q (written ++ t) ≡ none
    reads : (t : List ℕ) → character (raw_rule old) (written ++ t) ≡ some (x, t)
    some_byte : 1 ≤ length written

  back_char : {q : ℕ} → Mark q → {x : List ℕ} → Char x → Back q x
  unfolding text_body
  back_char {q} m (one a e) = record {
    written = text_escape a;
    body = λ s. refl;
    other = λ t. quote_ascii m t a (lead_low a e);
    reads = λ t. read_ascii old t a (lead_low a e);
    some_byte = escape-some a;
  }
  back_char {q} m (two a b e o) =
      let ha = lead_high 0 a e in
      let hb = cont_high b (ok2_cont a b o) in
      record {
        written = a ∷ b ∷ [];
        body = λ s. body_high a (b ∷ s) ha ∙ ap (λ (u : List ℕ). a ∷ u) (body_high b s hb);
        other = λ t. high_quote q a (b ∷ t) (mark_low m) ha;
        reads = λ t. high_read old a (b ∷ t) 1 ha (char-at (two a b e o) t);
        some_byte = omega arith;
      }
  back_char {q} m (three a b c e o) =
      let ha = lead_high 1 a e in
      let k = ok3_cont a b c o in
      let hb = cont_high b k.0 in
      let hc = cont_high c k.1 in
      record {
        written = a ∷ b ∷ c ∷ [];
        body = λ s. body_high a (b ∷ c ∷ s) ha ∙ ap (λ (u : List ℕ). a ∷ u) (body_high b (c ∷ s) hb ∙ ap (λ (u : List ℕ). b ∷ u) (body_high c s hc));
        other = λ t. high_quote q a (b ∷ c ∷ t) (mark_low m) ha;
        reads = λ t. high_read old a (b ∷ c ∷ t) 2 ha (char-at (three a b c e o) t);
        some_byte = omega arith;
      }
  back_char {q} m (four a b c d e o) =
      let ha = lead_high 2 a e in
      let k = ok4_cont a b c d o in
      let hb = cont_high b k.0 in
      let hc = cont_high c k.1 in
      let hd = cont_high d k.2 in
      record {
        written = a ∷ b ∷ c ∷ d ∷ [];
        body = λ s. body_high a (b ∷ c ∷ d ∷ s) ha ∙ ap (λ (u : List ℕ). a ∷ u) (body_high b (c ∷ d ∷ s) hb ∙ ap (λ (u : List ℕ). b ∷ u) (body_high c (d ∷ s) hc ∙ ap (λ (u : List ℕ). c ∷ u) (body_high d s hd)));
        other = λ t. high_quote q a (b ∷ c ∷ d ∷ t) (mark_low m) ha;
        reads = λ t. high_read old a (b ∷ c ∷ d ∷ t) 3 ha (char-at (four a b c d e o) t);
        some_byte = omega arith;
      }

  -- ---- the whole text, one character after the other

  -- a text, if every shorter one is read back
  text_turn : {q : ℕ} → Mark q → (r s : List ℕ) → valid s ≡ true
      → ((u : List ℕ) → length u < length s → valid u ≡ true → All (character (raw_rule old)) q (text_body u ++ (q ∷ r)) u r)
      → All (character (raw_rule old)) q (text_body s ++ (q ∷ r)) s r
  unfolding text_body
  text_turn {q} m r [] e back = all_mark q r
  text_turn {q} m r (a ∷ t) e back =
      let v = view a t (first_char a t e) in
      let w = back_char m v.good in
      let x = v.char in
      let s = v.rest in
      let k = char_some v.good in
      let i = length-append x s in
      let j : length (x ++ s) ≡ suc (length t) = sym (ap length v.is) in
      let good : valid s ≡ true = sym (valid_char v.good s) ∙ sym (ap valid v.is) ∙ e in
      let u = text_body s ++ (q ∷ r) in
      let whole : text_body (a ∷ t) ++ (q ∷ r) ≡ w.written ++ u =
      ap (λ (y : List ℕ). text_body y ++ (q ∷ r)) v.is ∙ ap (λ (y : List ℕ). y ++ (q ∷ r)) (w.body s) ∙ append_assoc w.written (text_body s) (q ∷ r)
      in
      let shorter : length u < length (w.written ++ u) = (let z = w.some_byte in omega (arith, length-append w.written u)) in
      let all = all_piece (w.other u) (w.reads u) shorter (back s (omega arith) good) in
      subst (λ (y : List ℕ). All (character (raw_rule old)) q y (a ∷ t) r) (sym whole) (subst (λ (y : List ℕ). All (character (raw_rule old)) q (w.written ++ u) y r) (sym v.is) all)

  text_back : {q : ℕ} → Mark q → (r : List ℕ) (n : ℕ) (s : List ℕ) → length s ≤ n → valid s ≡ true → All (character (raw_rule old)) q (text_body s ++ (q ∷ r)) s r
  text_back m r zero s l e = text_turn m r s e (λ u k g. absurd (omega arith))
  text_back m r (suc n) s l e = text_turn m r s e (λ u k g. text_back m r n u (omega arith) g)

  -- quoted text, and its mark behind it
  pub quoted_back : {q : ℕ} → Mark q → (s r : List ℕ) → valid s ≡ true → quoted (raw_rule old) q (text_body s ++ (q ∷ r)) ≡ some (s, r)
  unfolding quoted
  quoted_back {q} m s r e =
      let t = text_body s ++ (q ∷ r) in
      characters-many (raw_rule old) (suc (length t)) q t ∙ (text_back m r (length s) s (omega arith) e).told (suc (length t)) (omega arith)

  pub string_back : (s r : List ℕ) → valid s ≡ true → string (raw_rule old) (string_text s ++ r) ≡ some (s, r)
  unfolding string string_text starts
  string_back s r e = ap (λ (t : List ℕ). quoted (raw_rule old) (byte "\"") t) (append_assoc (text_body s) (byte "\"" ∷ []) r) ∙ quoted_back string_mark s r e
