-- The conversion of texts: its parts, its length, and that a clean text is unchanged. Assumes nothing.
use Prim.Native.Nat.{ℕ, suc, ◌*◌, ◌≤◌}
use mathlib.Core.Path.{◌≡◌, refl, sym, ap, ◌∙◌}
use mathlib.Core.Bool.{Bool, true, false, not}
use mathlib.Core.List.{List, [], ◌∷◌, ◌++◌, append_assoc}
use native.Mathlib.Omega.{arith}
use lib.ListN.{length}
use borrow.Author.Tests.{not-true}
use Rattle.output.specs.Logic.{if, byte}
use Rattle.output.proofs.Bools.{both}
use Rattle.text_rules.specs.Escapes.{hex_escape}
use Rattle.converter.specs.Convert.{replaced, converted, clean}
use Rattle.converter.proofs.Bytes.{escape-clean, Outside}

pub converted-nothing : converted [] ≡ []
unfolding converted
converted-nothing = refl

pub converted_kept : (c : ℕ) (s : List ℕ) → replaced c ≡ false → converted (c ∷ s) ≡ c ∷ converted s
unfolding converted
converted_kept c s h = rw h

pub converted_gone : (c : ℕ) (s : List ℕ) → replaced c ≡ true → converted (c ∷ s) ≡ hex_escape c ++ converted s
unfolding converted
converted_gone c s h = rw h

pub converted-append : (s t : List ℕ) → converted (s ++ t) ≡ converted s ++ converted t
unfolding converted
converted-append [] t = refl
converted-append (c ∷ s) t =
    let e = if (replaced c) (hex_escape c) (c ∷ []) in
    ap (λ (u : List ℕ). e ++ u) (converted-append s t) ∙ sym (append_assoc e (converted s) (converted t))

-- ---- clean texts

pub clean-append : (s t : List ℕ) → clean s ≡ true → clean t ≡ true → clean (s ++ t) ≡ true
unfolding clean
clean-append [] t h k = k
clean-append (c ∷ s) t h k = let b = both (not (replaced c)) (clean s) h in rw b.0 (clean-append s t b.1 k)

-- "A text already clean comes out unchanged"
pub clean-same : (t : List ℕ) → clean t ≡ true → converted t ≡ t
unfolding clean
clean-same [] h = converted-nothing
clean-same (c ∷ t) h = let b = both (not (replaced c)) (clean t) h in converted_kept c t (not-true _ b.0) ∙ ap (λ (u : List ℕ). c ∷ u) (clean-same t b.1)

-- what the converter writes is clean
pub converted-clean : (t : List ℕ) → clean (converted t) ≡ true
unfolding converted
converted-clean [] = unfold clean in refl
converted-clean (c ∷ t) = clean-append (if (replaced c) (hex_escape c) (c ∷ [])) (converted t) (go (replaced c) refl) (converted-clean t)
  where
    go : (b : Bool) → replaced c ≡ b → clean (if b (hex_escape c) (c ∷ [])) ≡ true
    go true h = escape-clean c h
    go false h = unfold clean in rw h

pub converted-again : (t : List ℕ) → converted (converted t) ≡ converted t
converted-again t = clean-same (converted t) (converted-clean t)

-- ---- its length

length_kept : (t : List ℕ) → (length t ≤ length (converted t)) × (length (converted t) ≤ 4 * length t)
unfolding converted
length_kept [] = (omega arith, omega arith)
length_kept (c ∷ t) = go (replaced c) (length_kept t)
  where
    go : (b : Bool) → (length t ≤ length (converted t)) × (length (converted t) ≤ 4 * length t) → (suc (length t) ≤ length (if b (hex_escape c) (c ∷ []) ++ converted t)) × (length (if b (hex_escape c) (c ∷ []) ++ converted t) ≤ 4 * suc (length t))
    go true h = (omega arith, omega arith)
    go false h = (omega arith, omega arith)

-- the text gets no shorter, and at most four times as long
pub length_least : (t : List ℕ) → length t ≤ length (converted t)
length_least t = (length_kept t).0

pub length_most : (t : List ℕ) → length (converted t) ≤ 4 * length t
length_most t = (length_kept t).1

-- nothing was replaced
pub length-same : (t : List ℕ) → length (converted t) ≡ length t → converted t ≡ t
unfolding converted
length-same [] h = refl
length-same (c ∷ t) h = go (replaced c) h (length-same t)
  where
    go : (b : Bool) → length (if b (hex_escape c) (c ∷ []) ++ converted t) ≡ suc (length t) → (length (converted t) ≡ length t → converted t ≡ t) → if b (hex_escape c) (c ∷ []) ++ converted t ≡ c ∷ t
    go true e i = absurd (omega (arith, length_least t))
    go false e i = ap (λ (u : List ℕ). c ∷ u) (i (omega arith))

-- ---- the first byte

-- what a class finds at a text's start: a byte of the class, which stays; or another, and then another stands at the start of the converted text
pub data Seen (p : ℕ → Bool) (c : ℕ) (t : List ℕ) : Type 0 where
  found : p c ≡ true → converted (c ∷ t) ≡ c ∷ converted t → Seen p c t
  other : p c ≡ false → (d : ℕ) (u : List ℕ) → p d ≡ false → converted (c ∷ t) ≡ d ∷ u → Seen p c t

pub seen : {p : ℕ → Bool} → Outside p → (c : ℕ) (t : List ℕ) → Seen p c t
seen {p} o c t = go (replaced c) refl (p c) refl
  where
    go : (b : Bool) → replaced c ≡ b → (d : Bool) → p c ≡ d → Seen p c t
    go true h d e = other (o.gone c h) (byte "\\") _ o.slash (converted_gone c t h)
    go false h true e = found e (converted_kept c t h)
    go false h false e = other e c (converted t) e (converted_kept c t h)

-- ---- the bytes of a class that a text starts with

-- f gives them
pub front-converted : {p : ℕ → Bool} → Outside p → (f : List ℕ → List ℕ) → ((c : ℕ) (t : List ℕ) → f (c ∷ t) ≡ if (p c) (c ∷ f t) []) → (t : List ℕ) → f (converted t) ≡ f t
front-converted o f s [] = ap f converted-nothing
front-converted {p} o f s (c ∷ t) = go (seen o c t) (front-converted o f s t)
  where
    go : Seen p c t → f (converted t) ≡ f t → f (converted (c ∷ t)) ≡ f (c ∷ t)
    go (found e i) again = rw (i, s c (converted t), s c t, e, again)
    go (other e d u k i) again = rw (i, s d u, s c t, e, k)

-- f gives the text behind them
pub behind-converted : {p : ℕ → Bool} → Outside p → (f : List ℕ → List ℕ) → f [] ≡ [] → ((c : ℕ) (t : List ℕ) → f (c ∷ t) ≡ if (p c) (f t) (c ∷ t)) → (t : List ℕ) → f (converted t) ≡ converted (f t)
behind-converted o f z s [] = rw (converted-nothing, z, converted-nothing)
behind-converted {p} o f z s (c ∷ t) = go (seen o c t) (behind-converted o f z s t)
  where
    go : Seen p c t → f (converted t) ≡ converted (f t) → f (converted (c ∷ t)) ≡ converted (f (c ∷ t))
    go (found e i) again = rw (i, s c (converted t), s c t, e) again
    go (other e d u k i) again = rw (s c t, e, i, s d u, k)
