-- "Its output is in the new grammar and means the tape that the old text meant"; what the strict grammar takes, the old one takes with the same meaning
-- (02, A6). Assumes nothing.
use Prim.Native.Nat.{ℕ}
use mathlib.Core.Path.{◌≡◌, refl, sym, ap, ◌∙◌}
use mathlib.Core.Bool.{Bool, true, false}
use mathlib.Core.List.{List}
use mathlib.Core.Option.{Option, none, some}
use native.Mathlib.Omega.{arith}
use Rattle.output.specs.Logic.{byte}
use Rattle.text_rules.specs.Texts.{strip}
use Rattle.tokens.specs.Quoted.{Mark, symbol_mark, string_mark, quote, old_raw, strict_raw}
use Rattle.tokens.specs.Token.{bare_symbol}
use Rattle.tape.specs.Tree.{Nodes}
use Rattle.reader.specs.Grammar.{closes, gap, words, numbers, braces, meaning}
use Rattle.converter.specs.Convert.{replaced, converted, clean}
use Rattle.converter.proofs.Bytes.{Outside, plain_byte, one_plain}
use Rattle.converter.proofs.Texts.{converted_kept, converted_gone, clean-same, length_least}
use Rattle.converter.proofs.Image.{mapped-same, rest-same, strip-converted}
use Rattle.converter.proofs.Between.{skip-converted, closes-converted, gap-converted, opens-converted, opened_converted}
use Rattle.converter.proofs.Words.{bare_converted, words-converted}
use Rattle.converter.proofs.Numbers.{numerics, numbers-converted}
use Rattle.converter.proofs.Carried.{carried_image}
use Rattle.converter.proofs.Escapes.{quote-converted}
use Rattle.converter.proofs.Braces.{braces_carried}
use Rattle.converter.proofs.Characters.{character-converted, character-same}
use Rattle.converter.proofs.Mapped.{First, Laws, meaning_carried}

-- ---- the converted text

mark_plain : {b : ℕ} → Mark b → plain_byte b ≡ true
mark_plain symbol_mark = refl
mark_plain string_mark = refl

first-converted : (c : ℕ) (t : List ℕ) → First converted c t
first-converted c t = go (replaced c) refl
  where
    gone : {p : ℕ → Bool} → Outside p → replaced c ≡ true → p (byte "\\") ≡ p c
    gone o h = o.slash ∙ sym (o.gone c h)

    go : (b : Bool) → replaced c ≡ b → First converted c t
    go true h = record {
      d = byte "\\";
      u = _;
      is = converted_gone c t h;
      as_string = gone (one_plain (byte "\"") refl) h;
      as_symbol = gone (one_plain (byte "'") refl) h;
      as_brace = gone (one_plain (byte "{") refl) h;
      as_number = gone numerics h;
    }
    go false h = record { d = c; u = converted t; is = converted_kept c t h; as_string = refl; as_symbol = refl; as_brace = refl; as_number = refl }

converted_laws : Laws old_raw strict_raw converted
converted_laws = record {
  longer = length_least;
  first = first-converted;
  blanks = skip-converted;
  end = closes-converted;
  between = gap-converted;
  opening = opens-converted;
  opened = opened_converted;
  fixed = strip-converted;
  mark = λ {b} h. quote-converted b (mark_plain h);
  one = character-converted;
  bare = bare_converted;
  braced = braces_carried;
  number = numbers-converted;
  bare_word = words-converted;
}

-- "Its output is in the new grammar and means the tape that the old text meant"
pub converted_means : (t : List ℕ) (ns : Nodes) → meaning old_raw t ≡ some ns → meaning strict_raw (converted t) ≡ some ns
converted_means t ns e = meaning_carried old_raw strict_raw converted converted_laws t ns e

-- ---- the text as it stands

same_laws : Laws strict_raw old_raw (λ t. t)
same_laws = record {
  longer = λ t. omega arith;
  first = λ c t. record { d = c; u = t; is = refl; as_string = refl; as_symbol = refl; as_brace = refl; as_number = refl };
  blanks = λ t. refl;
  end = λ k t. sym (rest-same (closes k t));
  between = λ k t. sym (rest-same (gap k t));
  opening = λ t. refl;
  opened = λ t k e. refl;
  fixed = λ w h t. sym (rest-same (strip w t));
  mark = λ {b} h t. sym (rest-same (quote b t));
  one = character-same;
  bare = λ t. sym (mapped-same (bare_symbol t));
  braced = λ t. carried_image (braces t) (sym (mapped-same (braces t)));
  number = λ t. sym (mapped-same (numbers t));
  bare_word = λ b t. sym (mapped-same (words b t));
}

-- what the strict grammar takes, the old one takes with the same meaning
pub strict_old : (t : List ℕ) (ns : Nodes) → meaning strict_raw t ≡ some ns → meaning old_raw t ≡ some ns
strict_old t ns e = meaning_carried strict_raw old_raw (λ u. u) same_laws t ns e

-- ---- clean texts

-- on a clean text the two agree
pub clean_agrees : (t : List ℕ) → clean t ≡ true → meaning old_raw t ≡ meaning strict_raw t
clean_agrees t c = go (meaning old_raw t) refl (meaning strict_raw t) refl
  where
    go : (o : Option Nodes) → meaning old_raw t ≡ o → (s : Option Nodes) → meaning strict_raw t ≡ s → o ≡ s
    go (some ns) e s h = sym (converted_means t ns e) ∙ ap (meaning strict_raw) (clean-same t c) ∙ h
    go none e (some ns) h = sym e ∙ strict_old t ns h
    go none e none h = refl
