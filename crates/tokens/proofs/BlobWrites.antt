-- The bytes of groups, as they are written. Assumes nothing.
use Prim.Native.Nat.{ℕ, zero, suc, ◌+◌, ◌-◌, ◌*◌, ◌/◌, ◌%◌, ◌^◌, ◌≤◌, ◌<◌}
use mathlib.Core.Path.{◌≡◌, refl, ◌∙◌}
use mathlib.Core.List.{List, [], ◌∷◌}
use mathlib.Core.Option.{none, some}
use native.Mathlib.Omega.{arith}
use lib.ListN.{length, take}
use lib.Seq.{sets}
use borrow.Author.Tests.{eq-eqb, ne_eqb}
use Rattle.output.specs.Wrote.{Wrote, limit, le_bytes}
use Rattle.output.proofs.Laws.{sets-append}
use Rattle.text_rules.specs.Base64.{bytes24, first_bytes}

three_le : (a b c w : ℕ) → a < 256 → b < 256 → c < 256 → w ≤ 3 → le_bytes w (a + 256 * b + 65536 * c) ≡ take w (a ∷ b ∷ c ∷ [])
unfolding le_bytes
three_le a b c w ha hb hc k = go w k
  where
    y : ℕ
    y = a + 256 * b + 65536 * c

    p : y % 256 ≡ a
    p = omega arith

    q : y / 256 ≡ b + 256 * c
    q = omega arith

    r : (b + 256 * c) % 256 ≡ b
    r = omega arith

    s : (b + 256 * c) / 256 % 256 ≡ c
    s = omega arith

    go : (w : ℕ) → w ≤ 3 → le_bytes w y ≡ take w (a ∷ b ∷ c ∷ [])
    go zero k = refl
    go (suc zero) k = rw p
    go (suc (suc zero)) k = rw (p, q, r)
    go (suc (suc (suc zero))) k = rw (p, q, r, s)
    go (suc (suc (suc (suc w)))) k = absurd (omega arith)

-- the three bytes of 24 bits, the first one lowest
pub bytes_le : (n w : ℕ) → n < 16777216 → w ≤ 3 → le_bytes w (n / 65536 + 256 * (n / 256 % 256) + 65536 * (n % 256)) ≡ take w (bytes24 n)
unfolding bytes24
bytes_le n w h k = three_le (n / 65536) (n / 256 % 256) (n % 256) w (omega arith) (omega arith) (omega arith) k

-- four bytes of a word and the next two
pub wrote_six : {a b c : List ℕ} (p w : ℕ) → b ≡ sets a p (le_bytes 4 w) → c ≡ sets b (p + 4) (le_bytes 2 (w / 4294967296)) → p + 5 < length a → length a < limit → Wrote a c p (p + 6) (le_bytes 6 w)
unfolding le_bytes
wrote_six {a} {b} {c} p w e g l room =
    let z : w / 4294967296 ≡ w / 256 / 256 / 256 / 256 = omega arith in
    record {
      bytes = g ∙ rw (e, z) (sets-append a p (le_bytes 4 w) (le_bytes 2 (w / 256 / 256 / 256 / 256)));
      count = omega arith;
      room = room;
    }

-- ---- the first bytes, if the bits behind them are zero

pub first-odd : (n w : ℕ) → (n % 256 ^ (3 - w) ≡ 0 → ⊥) → first_bytes w n ≡ none
unfolding first_bytes
first-odd n w h = rw (ne_eqb (n % 256 ^ (3 - w)) 0 h)

pub first-whole : (n w : ℕ) → n % 256 ^ (3 - w) ≡ 0 → first_bytes w n ≡ some (take w (bytes24 n))
unfolding first_bytes
first-whole n w h = rw (eq-eqb (n % 256 ^ (3 - w)) 0 h)

-- by the last byte, and of one byte by the last two
pub last-odd : (n w : ℕ) → 1 ≤ w → w ≤ 2 → (n % 256 ≡ 0 → ⊥) → n % 256 ^ (3 - w) ≡ 0 → ⊥
last-odd n zero l k h e = omega arith
last-odd n (suc zero) l k h e = h (omega arith)
last-odd n (suc (suc zero)) l k h e = h e
last-odd n (suc (suc (suc w))) l k h e = omega arith

pub last_even : (n w : ℕ) → 1 ≤ w → w ≤ 2 → (w ≡ 1 → n % 65536 ≡ 0) → n % 256 ≡ 0 → n % 256 ^ (3 - w) ≡ 0
last_even n zero l k h e = absurd (omega arith)
last_even n (suc zero) l k h e = h refl
last_even n (suc (suc zero)) l k h e = e
last_even n (suc (suc (suc w))) l k h e = absurd (omega arith)
