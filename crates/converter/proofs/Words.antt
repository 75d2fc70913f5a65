-- Bare words and nulls under the conversion. Assumes nothing.
use Prim.Native.Nat.{ℕ}
use mathlib.Core.Path.{◌≡◌, refl, ap, ◌∙◌}
use mathlib.Core.Bool.{Bool, false}
use mathlib.Core.List.{List}
use mathlib.Core.Option.{some}
use lib.ListN.{drop}
use Rattle.output.specs.Logic.{then, byte}
use Rattle.text_rules.specs.Digits.{is_digit}
use Rattle.text_rules.specs.Words.{is_start, is_part, word, behind_word, kind_of}
use Rattle.text_rules.specs.declared.words.Kind.{Kind}
use Rattle.text_rules.specs.declared.words.Kind.TheVariants.{Null, True, False, Nan, Marker, Number, Text, Refused}
use Rattle.tokens.specs.Token.{type_of, word_symbol, bare_symbol, null_behind}
use Rattle.reader.specs.Grammar.{by_kind, words}
use Rattle.converter.specs.Convert.{converted}
use Rattle.converter.proofs.Bytes.{gone_same, Outside}
use Rattle.converter.proofs.Texts.{front-converted, behind-converted}
use Rattle.converter.proofs.Image.{image, image_found, image-taken, choice, starting}

pub parts : Outside is_part
unfolding is_part is_start is_digit
parts = record { gone = gone_same is_part (λ c. false) refl; slash = refl }

pub word-converted : (t : List ℕ) → word (converted t) ≡ word t
unfolding word
word-converted = front-converted parts word (λ c t. refl)

pub behind-word-converted : (t : List ℕ) → behind_word (converted t) ≡ converted (behind_word t)
unfolding behind_word
behind-word-converted = behind-converted parts behind_word refl (λ c t. refl)

-- ---- bare symbols

pub bare_converted : (t : List ℕ) → bare_symbol (converted t) ≡ image (bare_symbol t)
unfolding bare_symbol
bare_converted t = rw (word-converted t, behind-word-converted t) (image_found (λ x. x) (word_symbol (kind_of (word t)) (word t)) (behind_word t))

-- ---- nulls

pub null-converted : (t : List ℕ) → null_behind (converted t) ≡ image (null_behind t)
unfolding null_behind
null-converted t =
    let u = drop 1 t in
    starting image (byte ".") refl (λ u. then (type_of (word u)) (λ k. some (k, behind_word u))) t (rw (word-converted u, behind-word-converted u) (image_found (λ x. x) (type_of (word u)) (behind_word u))) refl

-- ---- a bare word as a value

pub words-converted : (m : Bool) (t : List ℕ) → words m (converted t) ≡ image (words m t)
unfolding words
words-converted m t = rw (word-converted t) (go (kind_of (word t)))
  where
    go : (k : Kind) → by_kind m k (converted t) ≡ image (by_kind m k t)
    go Null = image-taken (null_behind (behind_word t)) _ (ap null_behind (behind-word-converted t) ∙ null-converted (behind_word t))
    go True = rw (behind-word-converted t)
    go False = rw (behind-word-converted t)
    go Nan = rw (behind-word-converted t)
    go Marker = rw (behind-word-converted t) (choice image m refl refl)
    go (Number n) = rw (behind-word-converted t)
    go Text = rw (word-converted t, behind-word-converted t)
    go Refused = refl
