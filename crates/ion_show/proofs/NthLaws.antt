-- The words of a text that blanks part, one after the other. Assumes nothing.
use Prim.Native.Nat.{ℕ, zero, suc, ◌+◌, ◌-◌, ◌≤◌}
use mathlib.Core.Path.{◌≡◌, refl, ap, ◌∙◌}
use mathlib.Core.List.{List, []}
use native.Mathlib.Omega.{arith}
use lib.ListN.{length, take, drop, drop_of_length-le}
use lib.Seq.{drop-drop}
use Rattle.output.specs.Logic.{byte}
use Rattle.program_io.specs.Framed.{distance}
use Rattle.ion_show.specs.Lines.{nth}

nth_nil : (k : ℕ) → nth k [] ≡ []
unfolding nth distance
nth_nil zero = refl
nth_nil (suc k) = nth_nil k

module _ (w : List ℕ) (at end : ℕ) (e : end ≡ at + distance (byte " ") (drop at w)) where
  pub nth_here : nth 0 (drop at w) ≡ take (end - at) (drop at w)
  unfolding nth
  nth_here = let d : distance (byte " ") (drop at w) ≡ end - at = omega arith in ap (λ (n : ℕ). take n (drop at w)) d

  pub nth-next : (k : ℕ) → nth (suc k) (drop at w) ≡ nth k (drop (end + 1) w)
  unfolding nth
  nth-next k =
      let d : at + (distance (byte " ") (drop at w) + 1) ≡ end + 1 = omega arith in
      ap (nth k) (drop-drop (distance (byte " ") (drop at w) + 1) at w ∙ ap (λ (n : ℕ). drop n w) d)

  pub nth_past : length w ≤ end → (k : ℕ) → nth (suc k) (drop at w) ≡ []
  nth_past h k = let z : drop (end + 1) w ≡ [] = drop_of_length-le w {i = end + 1} (omega arith) in nth-next k ∙ rw z (nth_nil k)
