-- The number on which the reading of quoted text and of clobs recurses is enough: for a text of n bytes every number above n gives the same.
-- Assumes nothing.
use Prim.Native.Nat.{ℕ, zero, suc, ◌<◌}
use mathlib.Core.Path.{◌≡◌, refl, sym, ◌∙◌}
use mathlib.Core.Bool.{Bool}
use mathlib.Core.List.{List}
use mathlib.Core.Option.{Option, none, some}
use native.Mathlib.Omega.{arith}
use lib.ListN.{length}
use Rattle.output.specs.Logic.{byte}
use Rattle.tokens.specs.Quoted.{quote, character, characters, clob_byte, clob_bytes}
use Rattle.tokens.proofs.QuotedMany.{Read, many, characters-many, clob-many, many-end, many_wrong, many_more}
use Rattle.tokens.proofs.Shorter.{Left, fewer, character-left, clob_byte_left}

many-same : (step : List ℕ → Read) → ((t : List ℕ) → Left (length t) (step t)) → (f g q : ℕ) (t : List ℕ) → length t < f → length t < g → many step f q t ≡ many step g q t
many-same step s zero g q t h k = absurd (omega arith)
many-same step s (suc f) zero q t h k = absurd (omega arith)
many-same step s (suc f) (suc g) q t h k = go (quote q t) refl (step t) refl (s t) (λ u l. many-same step s f g q u (omega arith) (omega arith))
  where
    go : (m : Option (List ℕ)) → quote q t ≡ m → (o : Read) → step t ≡ o → Left (length t) o → ((u : List ℕ) → length u < length t → many step f q u ≡ many step g q u) → many step (suc f) q t ≡ many step (suc g) q t
    go (some r) e o i l again = many-end step q f t r e ∙ sym (many-end step q g t r e)
    go none e none i l again = many_wrong step q f t e i ∙ sym (many_wrong step q g t e i)
    go none e (some v) i (fewer l) again = many_more step q f v.0 t v.1 _ e i (again v.1 l) ∙ sym (many_more step q g v.0 t v.1 _ e i refl)

pub characters_enough : (is_raw : ℕ → Bool) (f q : ℕ) (t : List ℕ) → length t < f → characters is_raw f q t ≡ characters is_raw (suc (length t)) q t
characters_enough is_raw f q t h =
    characters-many is_raw f q t ∙ many-same (character is_raw) (character-left is_raw) f (suc (length t)) q t h (omega arith) ∙ sym (characters-many is_raw (suc (length t)) q t)

pub clob_enough : (f : ℕ) (t : List ℕ) → length t < f → clob_bytes f t ≡ clob_bytes (suc (length t)) t
clob_enough f t h = clob-many f t ∙ many-same clob_byte clob_byte_left f (suc (length t)) (byte "\"") t h (omega arith) ∙ sym (clob-many (suc (length t)) t)
