-- Rules under the conversion: what a rule gives at the converted text is what it gives at the text, with the rest converted. The ways in which rules are put
-- together keep this. Assumes nothing.
use Prim.Native.Nat.{ℕ}
use mathlib.Core.Path.{◌≡◌, refl, sym, ap, ◌∙◌}
use mathlib.Core.Bool.{Bool, true, false}
use mathlib.Core.List.{List, [], ◌∷◌}
use mathlib.Core.Option.{Option, none, some}
use lib.Dec.{eqb}
use lib.ListN.{drop}
use Rattle.output.specs.Logic.{if, then, or}
use Rattle.output.proofs.Bools.{both}
use Rattle.text_rules.specs.Texts.{starts, strip}
use Rattle.reader.specs.Grammar.{taken}
use Rattle.converter.specs.Convert.{converted}
use Rattle.converter.proofs.Bytes.{plain_byte, plain, one_plain}
use Rattle.converter.proofs.Texts.{Seen, found, other, seen, converted-nothing}

-- what was read, with the rest mapped by m
abbrev pub mapped : {A : Type 0} → (List ℕ → List ℕ) → Option (A × List ℕ) → Option (A × List ℕ)
mapped m o = then o (λ v. some (v.0, m v.1))

-- the same of a rule that gives the rest alone
abbrev pub mapped_rest : (List ℕ → List ℕ) → Option (List ℕ) → Option (List ℕ)
mapped_rest m o = then o (λ r. some (m r))

pub mapped-same : {A : Type 0} (o : Option (A × List ℕ)) → mapped (λ u. u) o ≡ o
mapped-same none = refl
mapped-same (some v) = refl

pub rest-same : (o : Option (List ℕ)) → mapped_rest (λ u. u) o ≡ o
rest-same none = refl
rest-same (some r) = refl

-- with the rest converted
abbrev pub image : {A : Type 0} → Option (A × List ℕ) → Option (A × List ℕ)
image o = mapped converted o

abbrev pub image_rest : Option (List ℕ) → Option (List ℕ)
image_rest o = mapped_rest converted o

-- ---- rules put together

pub image_then : {A B : Type 0} {o' : Option (A × List ℕ)} (o : Option (A × List ℕ)) (f : A × List ℕ → Option (B × List ℕ)) → o' ≡ image o → ((v : A × List ℕ) → f (v.0, converted v.1) ≡ image (f v)) → then o' f ≡ image (then o f)
image_then {A} o f e h = ap (λ (p : Option (A × List ℕ)). then p f) e ∙ go o
  where
    go : (o : Option (A × List ℕ)) → then (image o) f ≡ image (then o f)
    go none = refl
    go (some v) = h v

-- behind a step that gives the rest alone
pub rest_then : {B : Type 0} {o' : Option (List ℕ)} (o : Option (List ℕ)) (f : List ℕ → Option (B × List ℕ)) → o' ≡ image_rest o → ((r : List ℕ) → f (converted r) ≡ image (f r)) → then o' f ≡ image (then o f)
rest_then o f e h = ap (λ (p : Option (List ℕ)). then p f) e ∙ go o
  where
    go : (o : Option (List ℕ)) → then (image_rest o) f ≡ image (then o f)
    go none = refl
    go (some r) = h r

-- something that was found, taken as something else, and a rest
pub image_found : {A B : Type 0} (f : A → B) (o : Option A) (r : List ℕ) → then o (λ x. some (f x, converted r)) ≡ image (then o (λ x. some (f x, r)))
image_found f none r = refl
image_found f (some x) r = refl

pub image_or : {A : Type 0} {o' p' : Option (A × List ℕ)} (o p : Option (A × List ℕ)) → o' ≡ image o → p' ≡ image p → or o' p' ≡ image (or o p)
image_or {A} {p' = p'} o p e h = ap (λ (x : Option (A × List ℕ)). or x p') e ∙ go o
  where
    go : (o : Option (A × List ℕ)) → or (image o) p' ≡ image (or o p)
    go none = h
    go (some v) = refl

pub image-taken : {A B : Type 0} {o' : Option (A × List ℕ)} (o : Option (A × List ℕ)) (f : A → B) → o' ≡ image o → taken f o' ≡ image (taken f o)
image-taken o f e = image_then o (λ v. some (f v.0, v.1)) e (λ v. refl)

-- a choice, under any relation, and under any function of what is chosen
pub chosen : {A B : Type 0} (R : A → B → Type 0) (b : Bool) {x y : A} {x' y' : B} → R x x' → R y y' → R (if b x y) (if b x' y')
chosen R true h k = h
chosen R false h k = k

pub choice : {A B : Type 0} (g : A → B) (b : Bool) {x' y' : B} {x y : A} → x' ≡ g x → y' ≡ g y → if b x' y' ≡ g (if b x y)
choice g b h k = chosen (λ x x'. x' ≡ g x) b h k

-- ---- the first byte, and words

pub starts-converted : (b : ℕ) → plain_byte b ≡ true → (t : List ℕ) → starts b (converted t) ≡ starts b t
unfolding starts
starts-converted b h [] = rw converted-nothing
starts-converted b h (c ∷ t) = go (seen (one_plain b h) c t)
  where
    go : Seen (λ c. eqb c b) c t → starts b (converted (c ∷ t)) ≡ eqb c b
    go (found e i) = rw i
    go (other e d u k i) = rw i (k ∙ sym e)

-- a choice by the first byte b, behind which the rule f reads on: under any relation, and under any function
pub started : {A B : Type 0} (R : A → B → Type 0) (b : ℕ) → plain_byte b ≡ true → (f : List ℕ → B) (t : List ℕ) {x y : A} {y' : B} → R x (f (converted (drop 1 t))) → R y y' → R (if (starts b t) x y) (if (starts b (converted t)) (f (drop 1 (converted t))) y')
unfolding starts
started R b h f [] i k = rw converted-nothing k
started R b h f (c ∷ t) {x = x} {y = y} {y' = y'} i k = go (seen (one_plain b h) c t)
  where
    go : Seen (λ c. eqb c b) c t → R (if (eqb c b) x y) (if (starts b (converted (c ∷ t))) (f (drop 1 (converted (c ∷ t)))) y')
    go (found e j) = rw (j, e) i
    go (other e d u n j) = rw (j, e, n) k

pub starting : {A B : Type 0} (g : A → B) (b : ℕ) → plain_byte b ≡ true → (f : List ℕ → B) (t : List ℕ) {y' : B} {x y : A} → f (converted (drop 1 t)) ≡ g x → y' ≡ g y → if (starts b (converted t)) (f (drop 1 (converted t))) y' ≡ g (if (starts b t) x y)
starting g b h f t i k = started (λ x x'. x' ≡ g x) b h f t i k

pub strip-converted : (w : List ℕ) → plain w ≡ true → (t : List ℕ) → strip w (converted t) ≡ image_rest (strip w t)
unfolding strip
strip-converted [] h t = refl
strip-converted (b ∷ w) h [] = rw converted-nothing
strip-converted (b ∷ w) h (c ∷ t) = let p = both (plain_byte b) (plain w) h in go (seen (one_plain b p.0) c t) (strip-converted w p.1 t)
  where
    go : Seen (λ c. eqb c b) c t → strip w (converted t) ≡ image_rest (strip w t) → strip (b ∷ w) (converted (c ∷ t)) ≡ image_rest (if (eqb c b) (strip w t) none)
    go (found e i) again = rw (i, e) again
    go (other e d u k i) again = rw (i, e, k)
