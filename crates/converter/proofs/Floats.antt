-- Floats under the conversion. Assumes nothing.
use Prim.Native.Nat.{ℕ, ◌-◌, ◌*◌, ◌%◌, ◌^◌}
use mathlib.Core.Path.{◌≡◌, refl}
use mathlib.Core.Bool.{Bool, true, false, ◌&&◌}
use mathlib.Core.List.{List, [], ◌∷◌}
use mathlib.Core.Option.{none}
use lib.ListN.{length, drop}
use lib.Dec.{eqb, leb}
use Rattle.output.specs.Logic.{if, byte, ascii}
use Rattle.text_rules.specs.Digits.{is_digit, run, behind_digits, number, whole}
use Rattle.text_rules.specs.Texts.{strip, same}
use Rattle.text_rules.specs.Words.{word}
use Rattle.floats.specs.Whole.{most_whole, ranged, scaled, behind_e, behind_all, behind_first, whole_number}
use Rattle.floats.specs.Float.{nan_word, spelled, signed_whole, float}
use Rattle.converter.specs.Convert.{converted}
use Rattle.converter.proofs.Bytes.{plain}
use Rattle.converter.proofs.Texts.{Seen, found, other, seen, converted-nothing}
use Rattle.converter.proofs.Image.{image, image_then, rest_then, image_or, choice, starting, strip-converted}
use Rattle.converter.proofs.Words.{word-converted, behind-word-converted}
use Rattle.converter.proofs.Digits.{decimals, run-converted, behind-digits-converted}

-- ---- whole numbers

ranged-converted : (m f e : ℕ) (r : List ℕ) → ranged m f e (converted r) ≡ image (ranged m f e r)
unfolding ranged
ranged-converted m f e r = choice image (leb f e && leb e 15 && leb (m * 10 ^ (e - f)) most_whole) refl refl

scaled-converted : (m f e : ℕ) (r : List ℕ) → scaled m f e (converted r) ≡ image (scaled m f e r)
unfolding scaled
scaled-converted m f e r = choice image (eqb m 0) (choice image (eqb e 0) refl refl) (choice image (eqb (m % 10) 0) refl (ranged-converted m f e r))

behind_e_converted : (m f : ℕ) (t : List ℕ) → behind_e m f (converted t) ≡ image (behind_e m f t)
unfolding behind_e
behind_e_converted m f t = rw (run-converted t, behind-digits-converted t) (choice image (whole (run t)) (scaled-converted m f (number 0 (run t)) (behind_digits t)) refl)

behind-all-converted : (m f : ℕ) (t : List ℕ) → behind_all m f (converted t) ≡ image (behind_all m f t)
unfolding behind_all
behind-all-converted m f t = starting image (byte "e") refl (behind_e m f) t (behind_e_converted m f (drop 1 t)) refl

behind-first-converted : (m : ℕ) (t : List ℕ) → behind_first m (converted t) ≡ image (behind_first m t)
unfolding behind_first
behind-first-converted m t =
    let u = drop 1 t in
    starting image (byte ".") refl (λ u. if (leb 1 m && leb 1 (length (run u))) (behind_all (number m (run u)) (length (run u)) (behind_digits u)) none) t
    (rw (run-converted u, behind-digits-converted u) (choice image (leb 1 m && leb 1 (length (run u))) (behind-all-converted (number m (run u)) (length (run u)) (behind_digits u)) refl))
    (behind-all-converted m 0 t)

whole-number-converted : (t : List ℕ) → whole_number (converted t) ≡ image (whole_number t)
unfolding whole_number
whole-number-converted [] = rw converted-nothing
whole-number-converted (c ∷ t) = go (seen decimals c t)
  where
    go : Seen is_digit c t → whole_number (converted (c ∷ t)) ≡ image (if (is_digit c) (behind_first (c - byte "0") t) none)
    go (found e i) = rw (i, e) (behind-first-converted (c - byte "0") t)
    go (other e d u k i) = rw (i, e, k)

-- ---- the token

nan-converted : (t : List ℕ) → nan_word (converted t) ≡ image (nan_word t)
unfolding nan_word
nan-converted t = rw (word-converted t, behind-word-converted t) (choice image (same (ascii "nan") (word t)) refl refl)

spelled-converted : (w : List ℕ) → plain w ≡ true → (s : Bool) (t : List ℕ) → spelled w s (converted t) ≡ image (spelled w s t)
unfolding spelled
spelled-converted w h s t = rest_then (strip w t) _ (strip-converted w h t) (λ r. refl)

signed-converted : (s : Bool) (t : List ℕ) → signed_whole s (converted t) ≡ image (signed_whole s t)
unfolding signed_whole
signed-converted s t = image_then (whole_number t) _ (whole-number-converted t) (λ r. refl)

pub float-converted : (t : List ℕ) → float (converted t) ≡ image (float t)
unfolding float
float-converted t =
    image_or (nan_word t) _ (nan-converted t)
    (image_or (spelled (ascii "+inf") false t) _ (spelled-converted (ascii "+inf") refl false t)
    (image_or (spelled (ascii "-inf") true t) _ (spelled-converted (ascii "-inf") refl true t)
    (image_or (signed_whole false t) _ (signed-converted false t)
    (rest_then (strip (ascii "-") t) (signed_whole true) (strip-converted (ascii "-") refl t) (signed-converted true)))))
