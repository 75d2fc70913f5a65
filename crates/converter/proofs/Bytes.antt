-- Single bytes under the conversion: which are replaced, and which classes of bytes the replaced ones and the backslash stand outside of.
-- Assumes nothing.
use Prim.Native.Nat.{ℕ, ◌≤◌, ◌<◌}
use mathlib.Core.Path.{◌≡◌, refl, sym, ap, ◌∙◌}
use mathlib.Core.Bool.{Bool, true, false, not, ◌&&◌, ◌||◌}
use mathlib.Core.List.{List, [], ◌∷◌}
use native.Mathlib.Decide.{dec_le}
use native.Mathlib.Omega.{arith}
use lib.Dec.{eqb, leb}
use borrow.Author.Tests.{le-leb, lt-leb, ne_eqb, not-true}
use Rattle.output.specs.Logic.{if, byte}
use Rattle.output.proofs.Bools.{never, both}
use Rattle.text_rules.specs.Escapes.{hex_digit, hex_escape}
use Rattle.text_rules.proofs.Table.{tabulate, same}
use Rattle.tokens.specs.Quoted.{old_raw, strict_raw}
use Rattle.converter.specs.Convert.{replaced, clean}

-- from hex 20 on nothing is replaced
pub high_kept : (c : ℕ) → 0x20 ≤ c → replaced c ≡ false
unfolding replaced strict_raw
high_kept c h = rw (le-leb 0x20 c h) (none_left (old_raw c))
  where
    none_left : (b : Bool) → b && false ≡ false
    none_left true = refl
    none_left false = refl

-- below hex 20, 9 to 13 alone stay
abbrev pub spared : ℕ → Bool
spared c = leb 9 c && leb c 13

low-replaced : (c : ℕ) → c < 0x20 → not (replaced c) ≡ spared c
unfolding replaced old_raw strict_raw
low-replaced = same (λ c. not (replaced c)) spared 0x20 refl

-- two functions that agree, by computation, at the replaced bytes
pub gone_same : {A : Type 0} (f g : ℕ → A) → tabulate (λ c. if (spared c) (g c) (f c)) 0x20 0 ≡ tabulate g 0x20 0 → (c : ℕ) → replaced c ≡ true → f c ≡ g c
gone_same f g e c h = go (dec_le c 0x1F)
  where
    go : Dec (c ≤ 0x1F) → f c ≡ g c
    go (yes l) = ap (λ (b : Bool). if b (g c) (f c)) (ap not (sym h) ∙ low-replaced c (omega arith)) ∙ same (λ c. if (spared c) (g c) (f c)) g 0x20 e c (omega arith)
    go (no l) = never (sym h ∙ high_kept c (omega arith))

-- what stands in a replaced byte's place is clean
pub escape-clean : (c : ℕ) → replaced c ≡ true → clean (hex_escape c) ≡ true
unfolding replaced old_raw strict_raw clean hex_digit
escape-clean = gone_same (λ c. clean (hex_escape c)) (λ c. true) refl

-- ---- classes of bytes

-- no replaced byte is in the class, and the backslash is not
pub record Outside (p : ℕ → Bool) : Type 0 where
  pub gone : (c : ℕ) → replaced c ≡ true → p c ≡ false
  pub slash : p (byte "\\") ≡ false

-- what is in the class stays
pub kept : {p : ℕ → Bool} → Outside p → (c : ℕ) → p c ≡ true → replaced c ≡ false
kept {p} o c h = go (replaced c) refl
  where
    go : (b : Bool) → replaced c ≡ b → b ≡ false
    go true e = never (sym h ∙ o.gone c e)
    go false e = refl

-- neither replaced nor the backslash
abbrev pub plain_byte : ℕ → Bool
plain_byte c = (leb 0x20 c || spared c) && not (eqb c (byte "\\"))

abbrev pub plain : List ℕ → Bool
plain [] = true
plain (c ∷ s) = plain_byte c && plain s

pub plain-byte : (c : ℕ) → plain_byte c ≡ not (replaced c) && not (eqb c (byte "\\"))
plain-byte c = go (dec_le c 0x1F)
  where
    go : Dec (c ≤ 0x1F) → plain_byte c ≡ not (replaced c) && not (eqb c (byte "\\"))
    go (yes l) = rw (lt-leb 0x20 c (omega arith), low-replaced c (omega arith))
    go (no l) = rw (le-leb 0x20 c (omega arith), high_kept c (omega arith))

pub plain_kept : (c : ℕ) → plain_byte c ≡ true → replaced c ≡ false
plain_kept c h = not-true _ (both _ _ (sym (plain-byte c) ∙ h)).0

pub plain-clean : (w : List ℕ) → plain w ≡ true → clean w ≡ true
unfolding clean
plain-clean [] h = refl
plain-clean (c ∷ w) h = let p = both (plain_byte c) (plain w) h in rw (plain_kept c p.0) (plain-clean w p.1)

-- a plain byte is a class of its own
pub one_plain : (b : ℕ) → plain_byte b ≡ true → Outside (λ c. eqb c b)
one_plain b h = record {
  gone = λ c e. ne_eqb c b (λ i. never (sym h ∙ ap plain_byte (sym i) ∙ plain-byte c ∙ ap (λ (r : Bool). not r && not (eqb c (byte "\\"))) e));
  slash = ne_eqb (byte "\\") b (λ i. never (sym h ∙ ap plain_byte (sym i)));
}
