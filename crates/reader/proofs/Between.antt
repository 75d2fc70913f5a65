-- The grammar's steps between tokens, at a place of a text. Assumes nothing.
use Prim.Native.Nat.{ℕ, ◌+◌, ◌<◌}
use mathlib.Core.Path.{◌≡◌, refl, ◌∙◌}
use mathlib.Core.List.{List, [], ◌∷◌}
use mathlib.Core.Bool.{true, false}
use mathlib.Core.Option.{none, some}
use lib.ListN.{length, drop, get_or}
use borrow.Author.Tests.{ne_eqb}
use Rattle.output.specs.Logic.{if, byte}
use Rattle.text_rules.specs.Texts.{blank, starts, strip}
use Rattle.tape.specs.declared.Frame.TheVariants.{Sexp}
use Rattle.text_rules.proofs.Places.{byte_at, end-at, next}
use Rattle.reader.specs.Grammar.{skip, gap}

pub skip_stop : (t : List ℕ) (i : ℕ) → i < length t → blank (get_or t i 0) ≡ false → skip (drop i t) ≡ drop i t
unfolding skip
skip_stop t i h e = rw (byte_at t i h, e)

pub skip-blank : (t : List ℕ) (i : ℕ) → i < length t → blank (get_or t i 0) ≡ true → skip (drop i t) ≡ skip (drop (i + 1) t)
unfolding skip
skip-blank t i h e = rw (byte_at t i h, e)

pub skip-none : (t : List ℕ) (i : ℕ) → i ≡ length t → skip (drop i t) ≡ drop i t
unfolding skip
skip-none t i h = rw (end-at t i h)

-- one byte, by the question whether it stands there
strip_one : (c : ℕ) (t : List ℕ) → strip (c ∷ []) t ≡ if (starts c t) (some (drop 1 t)) none
unfolding strip starts
strip_one c [] = refl
strip_one c (d ∷ t) = refl

module _ (t : List ℕ) (i c : ℕ) where
  pub mark_here : starts c (drop i t) ≡ true → strip (c ∷ []) (drop i t) ≡ some (drop (i + 1) t)
  mark_here h = strip_one c (drop i t) ∙ rw (h, next t i)

  pub mark_none : starts c (drop i t) ≡ false → strip (c ∷ []) (drop i t) ≡ none
  mark_none h = strip_one c (drop i t) ∙ rw h

-- behind a value in a sexp
module _ (t : List ℕ) (i : ℕ) (h : i < length t) where
  pub gap_close : get_or t i 0 ≡ byte ")" → gap Sexp (drop i t) ≡ some (drop i t)
  gap_close e = unfold gap blank in rw (byte_at t i h, e)

  pub gap-blank : blank (get_or t i 0) ≡ true → gap Sexp (drop i t) ≡ some (drop i t)
  gap-blank e = unfold gap in rw (byte_at t i h) (simp e)

  pub gap_other : (get_or t i 0 ≡ byte ")" → ⊥) → blank (get_or t i 0) ≡ false → gap Sexp (drop i t) ≡ none
  gap_other n e = unfold gap in rw (byte_at t i h) (simp (e, ne_eqb _ _ n))
