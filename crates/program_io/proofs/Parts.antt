-- What the loops go by, a byte at a time, and a frame by its length. Assumes nothing.
use Prim.Native.Nat.{ℕ, suc, ◌+◌, ◌-◌, ◌/◌, ◌%◌, ◌<◌, ◌≤◌}
use mathlib.Core.Path.{◌≡◌}
use mathlib.Core.List.{List, [], ◌∷◌, ◌++◌}
use lib.ListN.{length, get_or, drop, length-drop, drop_of_length-le}
use lib.Seq.{drop-drop}
use borrow.Author.Tests.{eq-eqb, ne_eqb, le-leb, lt-leb}
use Rattle.text_rules.specs.Escapes.{hex_digit}
use Rattle.text_rules.proofs.Places.{byte_at}
use Rattle.std.specs.Prelude.{Some, None}
use Rattle.tape.specs.Bytes.{le_number}
use Rattle.program_io.specs.Shown.{hex_text}
use Rattle.program_io.specs.Framed.{frame_size, framed, distance}

pub hex-step : (s : List ℕ) (i : ℕ) → i < length s → hex_text (drop i s) ≡ (hex_digit (get_or s i 0 / 16) ∷ hex_digit (get_or s i 0 % 16) ∷ []) ++ hex_text (drop (i + 1) s)
unfolding hex_text
hex-step s i h = rw (byte_at s i h)

-- ---- the first place of a byte

module _ (x : ℕ) (s : List ℕ) (i : ℕ) where
  pub found : i < length s → get_or s i 0 ≡ x → distance x (drop i s) ≡ 0
  unfolding distance
  found h e = rw (byte_at s i h, eq-eqb _ _ e)

  pub passed : i < length s → (get_or s i 0 ≡ x → ⊥) → distance x (drop i s) ≡ suc (distance x (drop (i + 1) s))
  unfolding distance
  passed h e = rw (byte_at s i h, ne_eqb _ _ e)

  pub nowhere : length s ≤ i → distance x (drop i s) ≡ 0
  unfolding distance
  nowhere h = rw (drop_of_length-le s {i = i} h)

-- ---- frames

module _ (s : List ℕ) (at h n : ℕ) (e : n ≡ le_number 4 (drop (at + (h - 4)) s)) where
  size-by : frame_size h (drop at s) ≡ h + n
  size-by = rw (drop-drop (h - 4) at s, e)

  pub whole-frame : h + n ≤ length s - at → framed s at h ≡ Some (at + (h + n))
  unfolding framed
  whole-frame l = rw (size-by, length-drop at s, le-leb _ _ l)

  pub cut-frame : length s - at < h + n → framed s at h ≡ None
  unfolding framed
  cut-frame l = rw (size-by, length-drop at s, lt-leb _ _ l)
