-- Rules under a map of texts, in one direction: what one reads at a text, the other reads at the mapped text, with the rest mapped. The two may differ.
-- Assumes nothing.
use Prim.Native.Nat.{ℕ}
use mathlib.Core.Path.{◌≡◌, refl, ap, ◌∙◌}
use mathlib.Core.List.{List}
use mathlib.Core.Option.{Option, none, some}
use Rattle.output.specs.Logic.{then, on}
use Rattle.tokens.proofs.BlobChars.{clash, then_some}
use Rattle.reader.specs.Grammar.{taken}
use Rattle.converter.proofs.Image.{mapped, mapped_rest}

-- o at the text, o' at the mapped one
pub record Carried (m : List ℕ → List ℕ) {A : Type 0} (o o' : Option (A × List ℕ)) : Type 0 where
  pub is : (v : A × List ℕ) → o ≡ some v → o' ≡ some (v.0, m v.1)

module _ {m : List ℕ → List ℕ} where
  pub lost : {A : Type 0} {o' : Option (A × List ℕ)} → Carried m none o'
  lost = record { is = λ v e. absurd (clash refl e) }

  pub carried_image : {A : Type 0} {o' : Option (A × List ℕ)} (o : Option (A × List ℕ)) → o' ≡ mapped m o → Carried m o o'
  carried_image {A} o e = record { is = λ v i. e ∙ ap (λ (p : Option (A × List ℕ)). mapped m p) i }

  pub carried_then : {A B : Type 0} {o' : Option (A × List ℕ)} (o : Option (A × List ℕ)) (f f' : A × List ℕ → Option (B × List ℕ)) → Carried m o o' → ((v : A × List ℕ) → Carried m (f v) (f' (v.0, m v.1))) → Carried m (then o f) (then o' f')
  carried_then {A} o f f' h k = record { is = λ v e. let p = then_some o f v e in ap (λ (q : Option (A × List ℕ)). then q f') (h.is p.0 p.1) ∙ (k p.0).is v p.2 }

  pub carried_taken : {A B : Type 0} {o' : Option (A × List ℕ)} (o : Option (A × List ℕ)) (f : A → B) → Carried m o o' → Carried m (taken f o) (taken f o')
  carried_taken o f h = carried_then o _ _ h (λ v. carried_image (some (f v.0, v.1)) refl)

  -- behind a step that gives the rest alone
  pub carried_on : {B : Type 0} {o' : Option (List ℕ)} (o : Option (List ℕ)) (f f' : List ℕ → Option (B × List ℕ)) {p p' : Option (B × List ℕ)} → o' ≡ mapped_rest m o → ((r : List ℕ) → Carried m (f r) (f' (m r))) → Carried m p p' → Carried m (on o f p) (on o' f' p')
  carried_on none f f' e h k = rw e k
  carried_on (some r) f f' e h k = rw e (h r)

  pub carried_rest : {B : Type 0} {o' : Option (List ℕ)} (o : Option (List ℕ)) (f f' : List ℕ → Option (B × List ℕ)) → o' ≡ mapped_rest m o → ((r : List ℕ) → Carried m (f r) (f' (m r))) → Carried m (then o f) (then o' f')
  carried_rest none f f' e h = lost
  carried_rest (some r) f f' e h = rw e (h r)

  -- steps behind steps, grouped the other way
  pub carried_group : {A A' B B' C : Type 0} (o : Option A) (j : A → Option B) (g : B → Option (C × List ℕ)) (o' : Option A') (j' : A' → Option B') (g' : B' → Option (C × List ℕ)) → Carried m (then o (λ v. then (j v) g)) (then o' (λ v. then (j' v) g')) → Carried m (then (then o j) g) (then (then o' j') g')
  carried_group none j g none j' g' h = h
  carried_group none j g (some v') j' g' h = h
  carried_group (some v) j g none j' g' h = h
  carried_group (some v) j g (some v') j' g' h = h
