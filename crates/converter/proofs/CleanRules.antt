-- Rules that take clean bytes alone: the text is clean if what stands behind the rule is. The ways in which rules are put together keep this.
-- Assumes nothing.
use Prim.Native.Nat.{ℕ}
use mathlib.Core.Path.{◌≡◌, refl, sym, ap, subst, ◌∙◌}
use mathlib.Core.Bool.{Bool, true, false}
use mathlib.Core.List.{List, [], ◌∷◌, ◌++◌}
use mathlib.Core.Option.{Option, none, some}
use lib.Dec.{eqb, leb}
use lib.ListN.{drop}
use borrow.Author.Tests.{leb-true, eqb-true}
use Rattle.output.specs.Logic.{if, then, on, or}
use Rattle.output.proofs.Bools.{both}
use Rattle.text_rules.specs.Digits.{behind_digits}
use Rattle.text_rules.specs.Texts.{starts, strip}
use Rattle.tokens.proofs.BlobChars.{clash}
use Rattle.reader.specs.Grammar.{taken}
use Rattle.converter.specs.Convert.{replaced, converted, clean}
use Rattle.converter.proofs.Bytes.{high_kept, Outside, kept, plain_byte, plain, one_plain}
use Rattle.converter.proofs.Texts.{clean-same, converted-clean}
use Rattle.converter.proofs.Digits.{decimals}

-- what was found in the text t, if anything was: `rest` tells the text behind it, and what stands before that is clean
pub data TakesClean {A : Type 0} (rest : A → List ℕ) (t : List ℕ) : Option A → Type 0 where
  unread : TakesClean rest t none
  passed : {v : A} → (clean (rest v) ≡ true → clean t ≡ true) → TakesClean rest t (some v)

-- a rule that gives a value and the text behind it; one that gives the text alone
abbrev pub CleanRead : {A : Type 0} → List ℕ → Option (A × List ℕ) → Type 0
CleanRead t o = TakesClean (λ v. v.1) t o

abbrev pub CleanRest : List ℕ → Option (List ℕ) → Type 0
CleanRest t o = TakesClean (λ r. r) t o

-- ---- rules put together

module _ {A : Type 0} {rest : A → List ℕ} where
  -- behind other clean bytes
  pub clean-behind : {t u : List ℕ} {o : Option A} → (clean u ≡ true → clean t ≡ true) → TakesClean rest u o → TakesClean rest t o
  clean-behind h unread = unread
  clean-behind h (passed k) = passed (λ e. h (k e))

  pub clean_if : {t : List ℕ} (b : Bool) {x y : Option A} → TakesClean rest t x → TakesClean rest t y → TakesClean rest t (if b x y)
  clean_if true h k = h
  clean_if false h k = k

  pub clean_or : {t : List ℕ} (o p : Option A) → TakesClean rest t o → TakesClean rest t p → TakesClean rest t (or o p)
  clean_or none p h k = k
  clean_or (some v) p h k = h

  pub clean_on : {B : Type 0} {behind : B → List ℕ} {t : List ℕ} (o : Option B) (g : B → Option A) (p : Option A) → TakesClean behind t o → ((v : B) → TakesClean rest (behind v) (g v)) → TakesClean rest t p → TakesClean rest t (on o g p)
  clean_on none g p h k i = i
  clean_on (some v) g p (passed h) k i = clean-behind h (k v)

  pub clean_then : {B : Type 0} {behind : B → List ℕ} {t : List ℕ} (o : Option B) (g : B → Option A) → TakesClean behind t o → ((v : B) → TakesClean rest (behind v) (g v)) → TakesClean rest t (then o g)
  clean_then none g h k = unread
  clean_then (some v) g (passed h) k = clean-behind h (k v)

pub clean-taken : {A B : Type 0} {t : List ℕ} (f : A → B) (o : Option (A × List ℕ)) → CleanRead t o → CleanRead t (taken f o)
clean-taken f o h = clean_then o _ h (λ v. passed (λ e. e))

-- what is found by something else than the text's bytes
pub clean_found : {A : Type 0} {t : List ℕ} (o : Option A) → TakesClean (λ _. t) t o
clean_found none = unread
clean_found (some v) = passed (λ e. e)

-- ---- single bytes

pub kept_clean : (c : ℕ) (t : List ℕ) → replaced c ≡ false → clean t ≡ true → clean (c ∷ t) ≡ true
unfolding clean
kept_clean c t h e = rw h e

-- from hex 20 on
pub high_byte : (b : ℕ) → leb 0x20 b ≡ true → (c : ℕ) → eqb c b ≡ true → replaced c ≡ false
high_byte b h c e = ap replaced (eqb-true c b e) ∙ high_kept b (leb-true 0x20 b h)

-- a byte of a class, which is passed
pub clean_class : {A : Type 0} {rest : A → List ℕ} {c : ℕ} {t : List ℕ} (b : Bool) {x y : Option A} → (b ≡ true → replaced c ≡ false) → TakesClean rest t x → TakesClean rest (c ∷ t) y → TakesClean rest (c ∷ t) (if b x y)
clean_class {c = c} {t = t} true h k i = clean-behind (kept_clean c t (h refl)) k
clean_class false h k i = i

-- f passes the bytes of a class that a text starts with
pub behind-clean : {p : ℕ → Bool} → Outside p → (f : List ℕ → List ℕ) → ((c : ℕ) (t : List ℕ) → f (c ∷ t) ≡ if (p c) (f t) (c ∷ t)) → (t : List ℕ) → clean (f t) ≡ true → clean t ≡ true
behind-clean o f s [] e = unfold clean in refl
behind-clean {p} o f s (c ∷ t) e = go (p c) refl (ap clean (sym (s c t)) ∙ e) (behind-clean o f s t)
  where
    go : (b : Bool) → p c ≡ b → clean (if b (f t) (c ∷ t)) ≡ true → (clean (f t) ≡ true → clean t ≡ true) → clean (c ∷ t) ≡ true
    go true h i again = kept_clean c t (kept o c h) (again i)
    go false h i again = i

-- a byte that stands for something, as no replaced byte does
pub clean-value : {A : Type 0} (g : ℕ → Option A) → ((c : ℕ) → replaced c ≡ true → g c ≡ none) → (c : ℕ) (t : List ℕ) → TakesClean (λ _. t) (c ∷ t) (g c)
clean-value {A} g gone c t = go (g c) refl (replaced c) refl
  where
    go : (o : Option A) → g c ≡ o → (b : Bool) → replaced c ≡ b → TakesClean (λ _. t) (c ∷ t) o
    go none e b h = unread
    go (some v) e true h = absurd (clash (gone c h) e)
    go (some v) e false h = passed (kept_clean c t h)

pub clean-starts : {A : Type 0} {rest : A → List ℕ} (b : ℕ) → leb 0x20 b ≡ true → (t : List ℕ) {x y : Option A} → TakesClean rest (drop 1 t) x → TakesClean rest t y → TakesClean rest t (if (starts b t) x y)
unfolding starts
clean-starts b h [] k i = i
clean-starts b h (c ∷ t) k i = clean_class (eqb c b) (high_byte b h c) k i

pub strip-clean : (w : List ℕ) → plain w ≡ true → (t : List ℕ) → CleanRest t (strip w t)
unfolding strip
strip-clean [] h t = passed (λ e. e)
strip-clean (b ∷ w) h [] = unread
strip-clean (b ∷ w) h (c ∷ t) =
    let p = both (plain_byte b) (plain w) h in
    clean_class (eqb c b) (kept (one_plain b p.0) c) (strip-clean w p.1 t) unread

-- ---- bytes w that the conversion keeps

pub own-clean : (t w r : List ℕ) → t ≡ w ++ r → converted t ≡ w ++ converted r → clean r ≡ true → clean t ≡ true
own-clean t w r e i h = subst (λ u. clean u ≡ true) (i ∙ ap (λ (u : List ℕ). w ++ u) (clean-same r h) ∙ sym e) (converted-clean t)

-- ---- digits

pub digits-clean : (t : List ℕ) → clean (behind_digits t) ≡ true → clean t ≡ true
unfolding behind_digits
digits-clean = behind-clean decimals behind_digits (λ c t. refl)
