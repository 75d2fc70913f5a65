-- What stands between tokens, and brackets, under the conversion. Assumes nothing.
use Prim.Native.Nat.{ℕ}
use mathlib.Core.Path.{◌≡◌, refl, sym}
use mathlib.Core.Bool.{Bool, true, false, ◌||◌}
use mathlib.Core.List.{List, [], ◌∷◌}
use mathlib.Core.Option.{none, some}
use lib.Dec.{eqb}
use lib.ListN.{drop}
use Rattle.output.specs.Logic.{if, byte, ascii}
use Rattle.text_rules.specs.Texts.{starts, blank}
use Rattle.tokens.proofs.BlobChars.{clash}
use Rattle.tape.specs.declared.Frame.{Frame}
use Rattle.tape.specs.declared.Frame.TheVariants.{Top, List as ListF, Sexp, Struct}
use Rattle.reader.specs.Grammar.{skip, opener, closes, comma, gap, opens}
use Rattle.converter.specs.Convert.{replaced, converted}
use Rattle.converter.proofs.Bytes.{gone_same, Outside, plain_byte, one_plain}
use Rattle.converter.proofs.Texts.{converted-nothing, converted_kept, converted_gone, Seen, found, other, seen, behind-converted}
use Rattle.converter.proofs.Image.{image_rest, choice, starts-converted, starting, strip-converted}

pub blanks : Outside blank
unfolding blank
blanks = record { gone = gone_same blank (λ c. false) refl; slash = refl }

pub skip-converted : (t : List ℕ) → skip (converted t) ≡ converted (skip t)
unfolding skip
skip-converted = behind-converted blanks skip refl (λ c t. refl)

pub closes-converted : (k : Frame) (t : List ℕ) → closes k (converted t) ≡ image_rest (closes k t)
unfolding closes
closes-converted Top [] = rw converted-nothing
closes-converted Top (c ∷ t) = go (replaced c) refl
  where
    go : (b : Bool) → replaced c ≡ b → closes Top (converted (c ∷ t)) ≡ none
    go true h = rw (converted_gone c t h)
    go false h = rw (converted_kept c t h)
closes-converted ListF t = strip-converted (ascii "]") refl t
closes-converted Sexp t = strip-converted (ascii ")") refl t
closes-converted Struct t = strip-converted (ascii "}") refl t

pub comma-converted : (e : ℕ) → plain_byte e ≡ true → (t : List ℕ) → comma e (converted t) ≡ image_rest (comma e t)
unfolding comma
comma-converted e h t = starting image_rest (byte ",") refl some t refl (rw (starts-converted e h t) (choice image_rest (starts e t) refl refl))

pub gap-converted : (k : Frame) (t : List ℕ) → gap k (converted t) ≡ image_rest (gap k t)
unfolding gap
gap-converted Top [] = rw converted-nothing
gap-converted Top (c ∷ t) = go (seen blanks c t)
  where
    go : Seen blank c t → gap Top (converted (c ∷ t)) ≡ image_rest (if (blank c) (some (c ∷ t)) none)
    go (found e i) = rw (e, i, e)
    go (other e d u k i) = rw (e, i, k)
gap-converted ListF t = rw (skip-converted t) (comma-converted (byte "]") refl (skip t))
gap-converted Sexp [] = rw converted-nothing
gap-converted Sexp (c ∷ t) = go (seen ends c t)
  where
    ends : Outside (λ c. blank c || eqb c (byte ")"))
    ends = unfold blank in record { gone = gone_same (λ c. blank c || eqb c (byte ")")) (λ c. false) refl; slash = refl }

    go : Seen (λ c. blank c || eqb c (byte ")")) c t → gap Sexp (converted (c ∷ t)) ≡ image_rest (if (blank c || eqb c (byte ")")) (some (c ∷ t)) none)
    go (found e i) = rw (e, i, e)
    go (other e d u k i) = rw (e, i, k)
gap-converted Struct t = rw (skip-converted t) (comma-converted (byte "}") refl (skip t))

opener_gone : (c : ℕ) → replaced c ≡ true → opener c ≡ none
unfolding opener
opener_gone = gone_same opener (λ c. none) refl

-- a replaced byte opens nothing
opens_gone : (c : ℕ) (t : List ℕ) → replaced c ≡ true → opens (c ∷ t) ≡ none
unfolding opens
opens_gone c t h = rw ((one_plain (byte "{") refl).gone c h, opener_gone c h)

pub opens-converted : (t : List ℕ) → opens (converted t) ≡ opens t
unfolding opens
opens-converted [] = rw converted-nothing
opens-converted (c ∷ t) = go (replaced c) refl
  where
    go : (b : Bool) → replaced c ≡ b → opens (converted (c ∷ t)) ≡ opens (c ∷ t)
    go true h = rw (converted_gone c t h) (unfold opener in sym (opens_gone c t h))
    go false h = rw (converted_kept c t h, starts-converted (byte "{") refl t)

-- behind an opening bracket
pub opened_converted : (t : List ℕ) (k : Frame) → opens t ≡ some k → drop 1 (converted t) ≡ converted (drop 1 t)
opened_converted [] k e = rw converted-nothing
opened_converted (c ∷ t) k e = go (replaced c) refl
  where
    go : (b : Bool) → replaced c ≡ b → drop 1 (converted (c ∷ t)) ≡ converted t
    go true h = absurd (clash (opens_gone c t h) e)
    go false h = rw (converted_kept c t h)
