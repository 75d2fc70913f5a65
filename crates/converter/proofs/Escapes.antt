-- Quote marks and escapes under the conversion. Of an escape one direction holds: `\` and a replaced byte is none, and the converted text has `\\` there.
-- Assumes nothing.
use Prim.Native.Nat.{ℕ, zero, suc, ◌+◌, ◌*◌}
use mathlib.Core.Path.{◌≡◌, refl}
use mathlib.Core.Bool.{Bool, true, false}
use mathlib.Core.List.{List, [], ◌∷◌}
use mathlib.Core.Option.{Option, none, some}
use lib.Dec.{eqb}
use lib.ListN.{drop}
use Rattle.output.specs.Logic.{if, then, byte}
use Rattle.text_rules.specs.Utf8.{is_scalar}
use Rattle.text_rules.specs.Escapes.{letter, hex_value, hex}
use Rattle.tokens.specs.Quoted.{quote, scalar_escape, letter_escape, escape}
use Rattle.converter.specs.Convert.{replaced, converted}
use Rattle.converter.proofs.Bytes.{gone_same, plain_byte, one_plain}
use Rattle.converter.proofs.Texts.{Seen, found, other, seen, converted-nothing, converted_kept, converted_gone}
use Rattle.converter.proofs.Image.{image, image_rest, image_then, image_found, choice, started}
use Rattle.converter.proofs.Carried.{Carried, lost, carried_image}

pub quote-converted : (q : ℕ) → plain_byte q ≡ true → (t : List ℕ) → quote q (converted t) ≡ image_rest (quote q t)
unfolding quote
quote-converted q h [] = rw converted-nothing
quote-converted q h (c ∷ t) = go (seen (one_plain q h) c t)
  where
    go : Seen (λ c. eqb c q) c t → quote q (converted (c ∷ t)) ≡ image_rest (if (eqb c q) (some t) none)
    go (found e i) = rw (i, e)
    go (other e d u k i) = rw (i, e, k)

hex_gone : (c : ℕ) → replaced c ≡ true → hex_value c ≡ none
unfolding hex_value
hex_gone = gone_same hex_value (λ c. none) refl

pub hex-converted : (w a : ℕ) (t : List ℕ) → hex w a (converted t) ≡ image (hex w a t)
unfolding hex
hex-converted zero a t = refl
hex-converted (suc w) a [] = rw converted-nothing
hex-converted (suc w) a (c ∷ t) = go (replaced c) refl (λ d. hex-converted w (a * 16 + d) t)
  where
    digit : (o : Option ℕ) → ((d : ℕ) → hex w (a * 16 + d) (converted t) ≡ image (hex w (a * 16 + d) t)) → then o (λ d. hex w (a * 16 + d) (converted t)) ≡ image (then o (λ d. hex w (a * 16 + d) t))
    digit none again = refl
    digit (some d) again = again d

    go : (b : Bool) → replaced c ≡ b → ((d : ℕ) → hex w (a * 16 + d) (converted t) ≡ image (hex w (a * 16 + d) t)) → hex (suc w) a (converted (c ∷ t)) ≡ image (then (hex_value c) (λ d. hex w (a * 16 + d) t))
    go true h again = rw (converted_gone c t h, hex_gone c h) (unfold hex_value in refl)
    go false h again = rw (converted_kept c t h) (digit (hex_value c) again)

scalar-converted : (w : ℕ) (t : List ℕ) → scalar_escape w (converted t) ≡ image (scalar_escape w t)
unfolding scalar_escape
scalar-converted w t = image_then (hex w 0 t) _ (hex-converted w 0 t) (λ v. choice image (is_scalar v.0) refl refl)

letter_gone : (c : ℕ) → replaced c ≡ true → letter c ≡ none
unfolding letter
letter_gone = gone_same letter (λ c. none) refl

pub letter_carried : (t : List ℕ) → Carried converted (letter_escape t) (letter_escape (converted t))
unfolding letter_escape
letter_carried [] = lost
letter_carried (c ∷ t) = go (replaced c) refl
  where
    go : (b : Bool) → replaced c ≡ b → Carried converted (then (letter c) (λ v. some (v ∷ [], t))) (letter_escape (converted (c ∷ t)))
    go true h = rw (letter_gone c h) lost
    go false h = rw (converted_kept c t h) (carried_image _ (image_found (λ v. v ∷ []) (letter c) t))

pub escape_carried : (t : List ℕ) → Carried converted (escape t) (escape (converted t))
unfolding escape
escape_carried t =
    started (Carried converted) (byte "x") refl (scalar_escape 2) t (carried_image (scalar_escape 2 (drop 1 t)) (scalar-converted 2 (drop 1 t)))
    (started (Carried converted) (byte "u") refl (scalar_escape 4) t (carried_image (scalar_escape 4 (drop 1 t)) (scalar-converted 4 (drop 1 t)))
    (started (Carried converted) (byte "U") refl (scalar_escape 8) t (carried_image (scalar_escape 8 (drop 1 t)) (scalar-converted 8 (drop 1 t))) (letter_carried t)))
