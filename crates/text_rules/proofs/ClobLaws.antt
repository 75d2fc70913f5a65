-- Laws of what is written for a clob. Assumes nothing.
use mathlib.Core.Path.{◌≡◌, refl, sym, ◌∙◌}
use mathlib.Core.Bool.{Bool, true, false, ◌&&◌}
use mathlib.Core.List.{List, [], ◌∷◌, ◌++◌}
use Prim.Native.Nat.{ℕ, ◌+◌, ◌<◌}
use lib.Dec.{eqb, leb}
use lib.ListN.{length, get_or, drop}
use Rattle.output.specs.Logic.{if, byte}
use Rattle.text_rules.specs.Escapes.{letter_of, has_letter, escape_kind, hex_escape, clob_escape, clob_body}
use Rattle.text_rules.proofs.Places.{byte_at}

-- what is written for a byte, by its kind in the table
abbrev pub clob_by : ℕ → ℕ → List ℕ
clob_by k c = if (eqb k 1) (byte "\\" ∷ letter_of c ∷ []) (if (eqb k 2) (hex_escape c) (c ∷ []))

pub clob-by : (c : ℕ) → clob_escape c ≡ clob_by (escape_kind c) c
unfolding clob_escape escape_kind
clob-by c = go (has_letter c) (leb 0x20 c && leb c 0x7E)
  where
    go : (h r : Bool) → if h (byte "\\" ∷ letter_of c ∷ []) (if r (c ∷ []) (hex_escape c)) ≡ clob_by (if h 1 (if r 0 2)) c
    go true r = refl
    go false true = refl
    go false false = refl

pub clob-step : (s : List ℕ) (i : ℕ) → i < length s → clob_body (drop i s) ≡ clob_escape (get_or s i 0) ++ clob_body (drop (i + 1) s)
unfolding clob_body
clob-step s i h = rw (byte_at s i h)

-- a raw byte, and then bytes that need no escape
pub clob-raw : (s : List ℕ) (i : ℕ) → i < length s → clob_escape (get_or s i 0) ≡ get_or s i 0 ∷ [] → clob_body (drop (i + 1) s) ≡ drop (i + 1) s → clob_body (drop i s) ≡ drop i s
clob-raw s i h e g = clob-step s i h ∙ rw (e, g) (sym (byte_at s i h))
