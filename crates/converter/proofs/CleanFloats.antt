-- The rules of floats take clean bytes alone. Assumes nothing.
use Prim.Native.Nat.{ℕ, ◌-◌, ◌*◌, ◌%◌, ◌^◌}
use mathlib.Core.Path.{◌≡◌, refl}
use mathlib.Core.Bool.{Bool, true, false, ◌&&◌}
use mathlib.Core.List.{List, [], ◌∷◌}
use lib.ListN.{length, drop}
use lib.Dec.{eqb, leb}
use Rattle.output.specs.Logic.{byte, ascii}
use Rattle.text_rules.specs.Digits.{is_digit, run, behind_digits, number, whole}
use Rattle.text_rules.specs.Texts.{strip, same}
use Rattle.text_rules.specs.Words.{word}
use Rattle.floats.specs.Whole.{most_whole, ranged, scaled, behind_e, behind_all, behind_first, whole_number}
use Rattle.floats.specs.Float.{nan_word, spelled, signed_whole, float}
use Rattle.converter.proofs.Bytes.{kept, plain}
use Rattle.converter.proofs.Digits.{decimals}
use Rattle.converter.proofs.CleanRules.{unread, passed, CleanRead, clean-behind, clean_if, clean_or, clean_then, clean_class, clean-starts, strip-clean, digits-clean}
use Rattle.converter.proofs.CleanTokens.{behind-word-clean}

-- ---- whole numbers

ranged-clean : (m f e : ℕ) (t : List ℕ) → CleanRead t (ranged m f e t)
unfolding ranged
ranged-clean m f e t = clean_if (leb f e && leb e 15 && leb (m * 10 ^ (e - f)) most_whole) (passed (λ e. e)) unread

scaled-clean : (m f e : ℕ) (t : List ℕ) → CleanRead t (scaled m f e t)
unfolding scaled
scaled-clean m f e t = clean_if (eqb m 0) (clean_if (eqb e 0) (passed (λ e. e)) unread) (clean_if (eqb (m % 10) 0) unread (ranged-clean m f e t))

behind_e_clean : (m f : ℕ) (t : List ℕ) → CleanRead t (behind_e m f t)
unfolding behind_e
behind_e_clean m f t = clean_if (whole (run t)) (clean-behind (digits-clean t) (scaled-clean m f (number 0 (run t)) (behind_digits t))) unread

behind-all-clean : (m f : ℕ) (t : List ℕ) → CleanRead t (behind_all m f t)
unfolding behind_all
behind-all-clean m f t = clean-starts (byte "e") refl t (behind_e_clean m f (drop 1 t)) unread

behind-first-clean : (m : ℕ) (t : List ℕ) → CleanRead t (behind_first m t)
unfolding behind_first
behind-first-clean m t =
    let u = drop 1 t in
    clean-starts (byte ".") refl t (clean_if (leb 1 m && leb 1 (length (run u))) (clean-behind (digits-clean u) (behind-all-clean _ _ (behind_digits u))) unread) (behind-all-clean m 0 t)

whole-number-clean : (t : List ℕ) → CleanRead t (whole_number t)
unfolding whole_number
whole-number-clean [] = unread
whole-number-clean (c ∷ t) = clean_class (is_digit c) (kept decimals c) (behind-first-clean (c - byte "0") t) unread

-- ---- the token

spelled-clean : (w : List ℕ) → plain w ≡ true → (s : Bool) (t : List ℕ) → CleanRead t (spelled w s t)
unfolding spelled
spelled-clean w h s t = clean_then (strip w t) _ (strip-clean w h t) (λ r. passed (λ e. e))

signed-clean : (s : Bool) (t : List ℕ) → CleanRead t (signed_whole s t)
unfolding signed_whole
signed-clean s t = clean_then (whole_number t) _ (whole-number-clean t) (λ r. passed (λ e. e))

pub float-clean : (t : List ℕ) → CleanRead t (float t)
unfolding float nan_word
float-clean t =
    clean_or _ _ (clean_if (same (ascii "nan") (word t)) (passed (behind-word-clean t)) unread)
    (clean_or _ _ (spelled-clean (ascii "+inf") refl false t)
    (clean_or _ _ (spelled-clean (ascii "-inf") refl true t)
    (clean_or _ _ (signed-clean false t) (clean_then (strip (ascii "-") t) _ (strip-clean (ascii "-") refl t) (signed-clean true)))))
