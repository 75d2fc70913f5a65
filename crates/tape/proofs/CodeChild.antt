-- The child at a place: its head, and what stands behind it. Assumes nothing.
use Prim.Native.Nat.{ℕ, ◌+◌, ◌-◌, ◌≤◌}
use mathlib.Core.Path.{◌≡◌, ap, ◌∙◌}
use mathlib.Core.List.{List, []}
use mathlib.Core.Option.{Option, none}
use native.Mathlib.Omega.{arith}
use lib.ListN.{length, drop}
use Rattle.tape.specs.Bytes.{part}
use Rattle.tape.specs.Tree.{Head, encode_head}
use Rattle.tape.specs.Tape.{reading, head_of, Value, value_of, bad, free_at, headed_child, child_of}
use Rattle.tape.specs.Steps.{place_of, head_at}
use Rattle.tape.specs.declared.Frame.{Frame}
use Rattle.std.specs.Prelude.{Some}
use Rattle.tape.proofs.Parts.{part-drop}
use Rattle.tape.proofs.Reading.{head_sound}
use Rattle.tape.proofs.CodeReading.{place_read, place-within}

module _ (k : Frame) (s : List ℕ) (at e : ℕ) where
  pub head-within : (p : ℕ) → at ≤ e → e ≤ length s → place_of at (head_of k (part s at e)) ≡ Some p → (at ≤ p) × (p ≤ e)
  head-within p h i z = place-within encode_head s at e p (head_of k (part s at e)) h i (head_sound k (part s at e)) z

  pub child_headless : head_of k (part s at e) ≡ none → child_of k (part s at e) ≡ bad
  unfolding child_of
  child_headless z = ap (λ (o : Option (Head × ℕ)). reading o bad (λ h n. headed_child h n (value_of (free_at k (part s at e)) (drop n (part s at e))))) z

  -- the child is what stands behind the head
  pub child_is : (p : ℕ) → at ≤ p → place_of at (head_of k (part s at e)) ≡ Some p → (v : Value) → value_of (free_at k (part s at e)) (part s p e) ≡ v
      → child_of k (part s at e) ≡ headed_child (head_at k (part s at e)) (p - at) v
  unfolding child_of
  child_is p h z v m =
      let y : at + (p - at) ≡ p = omega arith in
      ap (λ (o : Option (Head × ℕ)). reading o bad (λ h n. headed_child h n (value_of (free_at k (part s at e)) (drop n (part s at e))))) (place_read (none, []) at p (head_of k (part s at e)) z).1
      ∙ ap (λ (l : List ℕ). headed_child (head_at k (part s at e)) (p - at) (value_of (free_at k (part s at e)) l)) (part-drop s at e (p - at) ∙ ap (λ (i : ℕ). part s i e) y)
      ∙ ap (headed_child (head_at k (part s at e)) (p - at)) m
