-- The steps of reading quoted text and clobs at a place of a text. Assumes nothing.
use Prim.Native.Nat.{ℕ, suc, ◌+◌, ◌*◌, ◌^◌, ◌≤◌, ◌<◌}
use mathlib.Core.Path.{◌≡◌, refl, sym, ◌∙◌}
use mathlib.Core.Bool.{Bool, true, false, ◌&&◌}
use mathlib.Core.List.{List, [], ◌∷◌}
use mathlib.Core.Option.{Option, none, some}
use native.Mathlib.Nat.{add-zero, pow-suc, pow-le-pow_right}
use native.Mathlib.Numerals.{add-one}
use native.Mathlib.Decide.{dec_le}
use native.Mathlib.Omega.{arith}
use lib.Dec.{eqb, leb}
use lib.ListN.{length, take, drop, get_or, drop_of_length-le}
use lib.Seq.{drop-drop, get_or-drop}
use borrow.Author.Tests.{le-leb, lt-leb, ne_eqb}
use Rattle.output.specs.Logic.{if, then, byte}
use Rattle.text_rules.specs.Texts.{starts}
use Rattle.text_rules.specs.Utf8.{char_at, is_scalar, utf8}
use Rattle.text_rules.specs.Escapes.{hex_value, hex}
use Rattle.tokens.specs.Quoted.{scalar_escape, letter_escape, escape, old_raw, strict_raw, raw_rule, raw, character, byte_escape, raw_byte, clob_byte}
use Rattle.tokens.specs.Steps.{Copies, RunTo}
use Rattle.tokens.specs.declared.quoted.Step.{Step}
use Rattle.std.specs.Prelude.{Some, None}
use Rattle.std.specs.Prelude as std
use Rattle.text_rules.proofs.EscapesLaws.{byte_at}
use Rattle.text_rules.proofs.DigitLaws.{never}
use Rattle.text_rules.proofs.Utf8Chars.{char_drop}

-- ---- runs

pub run_more : {p : ℕ → Bool} {text : List ℕ} {at i : ℕ} → RunTo p text at i → i < length text → p (get_or text i 0) ≡ true → RunTo p text at (i + 1)
run_more {p} {text} {at} {i} g h e = record {
  ahead = let a = g.ahead in omega arith;
  inside = omega arith;
  each = λ k l u. go k l u (dec_le (suc k) i);
}
  where
    go : (k : ℕ) → at ≤ k → k < i + 1 → Dec (suc k ≤ i) → p (get_or text k 0) ≡ true
    go k l u (yes d) = g.each k l d
    go k l u (no d) = let z : k ≡ i = omega arith in rw z e

-- ---- a definition's answer told of another, and of an earlier place

pub copies_as : {text : List ℕ} {lo lo' : ℕ} {b b' : List ℕ} {p : ℕ} {o o' : Option (List ℕ × List ℕ)} (r : std.Option Step) → lo' ≤ lo → o' ≡ o → Copies text lo b b' p o r → Copies text lo' b b' p o' r
copies_as (Some s) l e g = let t = g.told in record { told = (t.0, e ∙ t.1, (let z = t.2 in omega arith), t.3, t.4) }
copies_as None l e g = let t = g.told in record { told = (e ∙ t.0, t.1) }

-- ---- hex digits

pub hex_more : (w v d : ℕ) (t : List ℕ) (i : ℕ) → i < length t → hex_value (get_or t i 0) ≡ some d → hex (suc w) v (drop i t) ≡ hex w (v * 16 + d) (drop (i + 1) t)
unfolding hex
hex_more w v d t i h e = rw (byte_at t i h, e)

pub hex-other : (w v : ℕ) (t : List ℕ) (i : ℕ) → i < length t → hex_value (get_or t i 0) ≡ none → hex (suc w) v (drop i t) ≡ none
unfolding hex
hex-other w v t i h e = rw (byte_at t i h, e)

pub hex_short : (w v : ℕ) (t : List ℕ) (i : ℕ) → length t ≤ i → hex (suc w) v (drop i t) ≡ none
unfolding hex
hex_short w v t i h = let e : drop i t ≡ [] = drop_of_length-le t {i = i} h in rw e

-- ---- characters

-- what Ion's raw rule takes, 01's takes too
pub rule_both : (old : Bool) (c : ℕ) → strict_raw c ≡ true → raw_rule old c ≡ true
unfolding raw_rule old_raw strict_raw
rule_both true c h = rw (ne_eqb c 10 (λ e. never (sym (rw e at h))), ne_eqb c 13 (λ e. never (sym (rw e at h))))
rule_both false c h = h

-- both take every byte that is no control
pub rule_plain : (old : Bool) (c : ℕ) → 0x20 ≤ c → raw_rule old c ≡ true
rule_plain old c h = rule_both old c (unfold strict_raw in rw (le-leb 0x20 c h))

pub starts-at : (b : ℕ) (t : List ℕ) (i : ℕ) → i < length t → starts b (drop i t) ≡ eqb (get_or t i 0) b
unfolding starts
starts-at b t i h = rw (byte_at t i h)

pub raw_at : (is_raw : ℕ → Bool) (t : List ℕ) (i : ℕ) → i < length t → raw is_raw (drop i t) ≡ if (is_raw (get_or t i 0) && leb 1 (char_at t i)) (some (take (char_at t i) (drop i t), drop (i + char_at t i) t)) none
raw_at is_raw t i h =
    let z : 0 < length (get_or t i 0 ∷ drop (i + 1) t) = omega arith in
    whole (drop i t) (rw (byte_at t i h) z)
    ∙ rw (char_drop t i, drop-drop (char_at t i) i t, get_or-drop i t 0 0, add-zero i)
  where
    whole : (u : List ℕ) → 0 < length u → raw is_raw u ≡ if (is_raw (get_or u 0 0) && leb 1 (char_at u 0)) (some (take (char_at u 0) u, drop (char_at u 0) u)) none
    whole [] l = absurd (omega arith)
    whole (c ∷ u) l = unfold raw in refl

-- ---- the number of hex digits read so far

pub hex_grows : (v d i : ℕ) → v < 16 ^ i → d < 16 → v * 16 + d < 16 ^ (i + 1)
hex_grows v d i h l = rw (add-one i, pow-suc 16 i) (omega arith)

pub hex-fits : (x i w : ℕ) → x < 16 ^ i → i ≤ w → w ≤ 8 → x < 4294967296
hex-fits x i w h l k =
    let z : 16 ^ i ≤ 16 ^ 8 = pow-le-pow_right {n = 16} (omega arith) {i = i} {j = 8} (omega arith) in
    omega arith

-- ---- which rule a byte leads to

module _ (t : List ℕ) (i : ℕ) (h : i < length t) where
  pub character-escape : (is_raw : ℕ → Bool) → get_or t i 0 ≡ byte "\\" → character is_raw (drop i t) ≡ escape (drop (i + 1) t)
  unfolding character
  character-escape is_raw e = rw (starts-at (byte "\\") t i h, e, drop-drop 1 i t)

  pub character-raw : (is_raw : ℕ → Bool) → (get_or t i 0 ≡ byte "\\" → ⊥) → character is_raw (drop i t) ≡ raw is_raw (drop i t)
  unfolding character
  character-raw is_raw n = rw (starts-at (byte "\\") t i h, ne_eqb _ _ n)

  pub escape-x : get_or t i 0 ≡ byte "x" → escape (drop i t) ≡ scalar_escape 2 (drop (i + 1) t)
  unfolding escape
  escape-x e = rw (starts-at (byte "x") t i h, e, drop-drop 1 i t)

  pub escape-u : get_or t i 0 ≡ byte "u" → escape (drop i t) ≡ scalar_escape 4 (drop (i + 1) t)
  unfolding escape
  escape-u e = rw (starts-at (byte "x") t i h, starts-at (byte "u") t i h, e, drop-drop 1 i t)

  pub escape-U : get_or t i 0 ≡ byte "U" → escape (drop i t) ≡ scalar_escape 8 (drop (i + 1) t)
  unfolding escape
  escape-U e = rw (starts-at (byte "x") t i h, starts-at (byte "u") t i h, starts-at (byte "U") t i h, e, drop-drop 1 i t)

  pub escape-letter : (get_or t i 0 ≡ byte "x" → ⊥) → (get_or t i 0 ≡ byte "u" → ⊥) → (get_or t i 0 ≡ byte "U" → ⊥) → escape (drop i t) ≡ letter_escape (drop i t)
  unfolding escape
  escape-letter l m n = rw (starts-at (byte "x") t i h, starts-at (byte "u") t i h, starts-at (byte "U") t i h, ne_eqb _ _ l, ne_eqb _ _ m, ne_eqb _ _ n)

  pub byte_escape-x : get_or t i 0 ≡ byte "x" → byte_escape (drop i t) ≡ then (hex 2 0 (drop (i + 1) t)) (λ v. some (v.0 ∷ [], v.1))
  unfolding byte_escape
  byte_escape-x e = rw (starts-at (byte "x") t i h, e, drop-drop 1 i t)

  pub byte_escape-letter : (get_or t i 0 ≡ byte "x" → ⊥) → byte_escape (drop i t) ≡ letter_escape (drop i t)
  unfolding byte_escape
  byte_escape-letter n = rw (starts-at (byte "x") t i h, ne_eqb _ _ n)

  pub clob_byte_escape : get_or t i 0 ≡ byte "\\" → clob_byte (drop i t) ≡ byte_escape (drop (i + 1) t)
  unfolding clob_byte
  clob_byte_escape e = rw (starts-at (byte "\\") t i h, e, drop-drop 1 i t)

  pub clob_byte_raw : (get_or t i 0 ≡ byte "\\" → ⊥) → 0x20 ≤ get_or t i 0 → get_or t i 0 ≤ 0x7E → clob_byte (drop i t) ≡ some (get_or t i 0 ∷ [], drop (i + 1) t)
  unfolding clob_byte raw_byte
  clob_byte_raw n l m = rw (starts-at (byte "\\") t i h, ne_eqb _ _ n, byte_at t i h, le-leb _ _ l, le-leb _ _ m)

  pub clob_byte_low : (get_or t i 0 ≡ byte "\\" → ⊥) → get_or t i 0 < 0x20 → clob_byte (drop i t) ≡ none
  unfolding clob_byte raw_byte
  clob_byte_low n l = rw (starts-at (byte "\\") t i h, ne_eqb _ _ n, byte_at t i h, lt-leb _ _ l)

  pub clob_byte_high : (get_or t i 0 ≡ byte "\\" → ⊥) → 0x7E < get_or t i 0 → clob_byte (drop i t) ≡ none
  unfolding clob_byte raw_byte
  clob_byte_high n l = rw (starts-at (byte "\\") t i h, ne_eqb _ _ n, byte_at t i h, le-leb 0x20 (get_or t i 0) (omega arith), lt-leb _ _ l)

pub escape_end : (t : List ℕ) (i : ℕ) → i ≡ length t → (escape (drop i t) ≡ none) × (byte_escape (drop i t) ≡ none)
unfolding escape byte_escape letter_escape starts
escape_end t i h = let e : drop i t ≡ [] = drop_of_length-le t {i = i} (omega arith) in (rw e, rw e)

pub scalar-none : (w : ℕ) (t : List ℕ) → hex w 0 t ≡ none → scalar_escape w t ≡ none
unfolding scalar_escape
scalar-none w t e = rw e

pub scalar_no : (w v : ℕ) (t u : List ℕ) → hex w 0 t ≡ some (v, u) → is_scalar v ≡ false → scalar_escape w t ≡ none
unfolding scalar_escape
scalar_no w v t u e n = rw (e, n)

pub scalar-yes : (w v : ℕ) (t u : List ℕ) → hex w 0 t ≡ some (v, u) → is_scalar v ≡ true → scalar_escape w t ≡ some (utf8 v, u)
unfolding scalar_escape
scalar-yes w v t u e y = rw (e, y)

pub hex_byte : (v : ℕ) (t u : List ℕ) → hex 2 0 t ≡ some (v, u) → then {B = List ℕ × List ℕ} (hex 2 0 t) (λ v. some (v.0 ∷ [], v.1)) ≡ some (v ∷ [], u)
hex_byte v t u e = rw e
