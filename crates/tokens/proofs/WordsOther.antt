-- A text is not mistaken for a null or a bool by the word it starts with. Assumes nothing.
use Prim.Native.Nat.{ℕ}
use mathlib.Core.Path.{◌≡◌, refl, ap, ◌∙◌}
use mathlib.Core.List.{List}
use mathlib.Core.Bool.{Bool, true, false}
use mathlib.Core.Option.{none}
use Rattle.output.specs.Logic.{ascii}
use Rattle.text_rules.specs.Texts.{strip, same}
use Rattle.text_rules.specs.Words.{word, kind_of}
use Rattle.tokens.specs.Token.{null, bool_of, bool}
use Rattle.text_rules.specs.declared.words.Kind.{Kind}
use Rattle.text_rules.specs.declared.words.Kind.TheVariants.{Null, Nan}
use Rattle.text_rules.proofs.WordsLaws.{same-is}

-- a word of another kind than a literal's is not that literal
same_not : (k w : List ℕ) → (kind_of w ≡ kind_of k → ⊥) → same k w ≡ false
same_not k w n = go (same k w) refl
  where
    go : (b : Bool) → same k w ≡ b → same k w ≡ false
    go true e = absurd (n (ap kind_of (same-is k w e)))
    go false e = e

null-kind : kind_of (ascii "null") ≡ Null
unfolding kind_of same strip
null-kind = refl

pub nan-kind : kind_of (ascii "nan") ≡ Nan
unfolding kind_of same strip
nan-kind = refl

pub null-none : (t : List ℕ) → (kind_of (word t) ≡ Null → ⊥) → null t ≡ none
unfolding null
null-none t n = rw (same_not (ascii "null") (word t) (λ e. n (e ∙ null-kind)))

pub bool-none : (t : List ℕ) (k : Kind) → kind_of (word t) ≡ k → bool_of k ≡ none → bool t ≡ none
unfolding bool
bool-none t k e h = rw (ap bool_of e ∙ h)
