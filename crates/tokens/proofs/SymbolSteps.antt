-- The steps of reading symbols, as laws of what the contracts say. Assumes nothing.
use Prim.Native.Nat.{ℕ, suc, ◌+◌, ◌-◌, ◌≤◌, ◌<◌}
use mathlib.Core.Path.{◌≡◌, refl, sym, ap, ◌∙◌}
use mathlib.Core.List.{List, []}
use mathlib.Core.Bool.{Bool, true, false}
use mathlib.Core.Option.{Option, none, some}
use native.Mathlib.Omega.{arith}
use lib.ListN.{length, take, drop, get_or}
use borrow.Author.Tests.{eq-eqb, ne_eqb}
use Rattle.output.specs.Logic.{then, byte}
use Rattle.output.specs.Wrote.{Wrote}
use Rattle.text_rules.specs.Texts.{starts}
use Rattle.text_rules.specs.Words.{word, behind_word, kind_of}
use Rattle.tokens.specs.Quoted.{quoted}
use Rattle.tokens.specs.Steps.{Kept, Copies}
use Rattle.text_rules.specs.WordSteps.{WordAt}
use Rattle.text_rules.specs.Text.{Sym}
use Rattle.tokens.specs.Token.{word_symbol, bare_symbol, quoted_symbol, symbol}
use Rattle.tokens.specs.TokenSteps.{SymbolAt}
use Rattle.text_rules.specs.declared.words.Kind.{Kind}
use Rattle.text_rules.specs.declared.words.Kind.TheVariants.{Null, True, False, Nan, Marker, Number, Text, Refused}
use Rattle.text_rules.specs.declared.words.Word.{Word}
use Rattle.std.specs.Prelude.{Some, None}
use Rattle.std.specs.Prelude as std
use Rattle.tokens.specs.declared.values.SymbolRead.{SymbolRead}
use Rattle.tokens.specs.declared.values.SymbolRead.TheVariants as S
use Rattle.text_rules.proofs.Places.{byte_at, end-at, next}
use Rattle.text_rules.proofs.WordsLaws.{kind-nothing}
use Rattle.tokens.proofs.TokensLaws.{word_ahead}

bare_is : (t : List ℕ) (o : Option Sym) → word_symbol (kind_of (word t)) (word t) ≡ o → bare_symbol t ≡ then o (λ s. some (s, behind_word t))
unfolding bare_symbol
bare_is t o e = rw e

pub bare_none : (t : List ℕ) (k : Kind) → kind_of (word t) ≡ k → word_symbol k (word t) ≡ none → bare_symbol t ≡ none
bare_none t k e h = bare_is t none (rw e h)

bare_some : (t : List ℕ) (k : Kind) (x : Sym) → kind_of (word t) ≡ k → word_symbol k (word t) ≡ some x → bare_symbol t ≡ some (x, behind_word t)
bare_some t k x e h = bare_is t (some x) (rw e h)

-- a word of another kind is no symbol
pub other_word : (k : Kind) (w : List ℕ) → (k ≡ Text → ⊥) → ((n : ℕ) → k ≡ Number n → ⊥) → word_symbol k w ≡ none
other_word Text w t n = absurd (t refl)
other_word (Number m) w t n = absurd (n m refl)
other_word Null w t n = refl
other_word True w t n = refl
other_word False w t n = refl
other_word Nan w t n = refl
other_word Marker w t n = refl
other_word Refused w t n = refl

no_text : Text ≡ Refused → ⊥
no_text e = let z : ◌≡◌ {A = ℕ} 0 1 = cc in omega arith

no_number : (n : ℕ) → Number n ≡ Refused → ⊥
no_number n e = let z : ◌≡◌ {A = ℕ} 0 1 = cc in omega arith

module _ {text : List ℕ} {at : ℕ} {w : Word} (a : WordAt text at w) {b b' : List ℕ} {p : ℕ} where
  pub bare_text : {q : ℕ} → w.kind ≡ Text → Wrote b b' p q (take (w.end - at) (drop at text)) → SymbolAt text (suc at) b b' p (bare_symbol (drop at text)) (Some (S.Text w.end q))
  bare_text e h =
      let d = drop at text in
      let i : bare_symbol d ≡ some (Sym.text (word d), behind_word d) = bare_some d Text (Sym.text (word d)) (sym a.kind ∙ e) refl in
      let l : at < w.end = word_ahead a (λ r. no_text (sym e ∙ r)) in
      record { told = (take (w.end - at) d, rw (a.bytes, a.rest) i, l, a.inside, h) }

  pub bare_number : (n : ℕ) → w.kind ≡ Number n → b' ≡ b → SymbolAt text (suc at) b b' p (bare_symbol (drop at text)) (Some (S.Id n w.end))
  bare_number n e h =
      let d = drop at text in
      let i : bare_symbol d ≡ some (Sym.id n, behind_word d) = bare_some d (Number n) (Sym.id n) (sym a.kind ∙ e) refl in
      let l : at < w.end = word_ahead a (λ r. no_number n (sym e ∙ r)) in
      record { told = (rw a.rest i, l, a.inside, h) }

  pub bare_bad : (k : Kind) → w.kind ≡ k → word_symbol k (word (drop at text)) ≡ none → Kept p b b' → SymbolAt text (suc at) b b' p (bare_symbol (drop at text)) None
  bare_bad k e h l = record { told = (bare_none (drop at text) k (sym a.kind ∙ e) h, l) }

-- ---- a symbol, by its first byte

-- By any raw rule.
module _ (is_raw : ℕ → Bool) where
  unmarked : (t : List ℕ) → starts (byte "'") t ≡ false → symbol is_raw t ≡ bare_symbol t
  unfolding symbol
  unmarked t h = rw h

  pub no_symbol : symbol is_raw [] ≡ none
  unfolding starts word
  no_symbol = unmarked [] refl ∙ bare_none [] Refused kind-nothing refl

  module _ (text : List ℕ) (at : ℕ) where
    pub is_bare : at < length text → (get_or text at 0 ≡ byte "'" → ⊥) → bare_symbol (drop at text) ≡ symbol is_raw (drop at text)
    is_bare h n = sym (unmarked (drop at text) (ap (starts (byte "'")) (byte_at text at h) ∙ unfold starts in ne_eqb _ _ n))

    is-quoted : at < length text → get_or text at 0 ≡ byte "'" → (o : Option (List ℕ × List ℕ)) → quoted is_raw (byte "'") (drop (at + 1) text) ≡ o → symbol is_raw (drop at text) ≡ then o (λ r. some (Sym.text r.0, r.1))
    unfolding symbol quoted_symbol
    is-quoted h m o e =
        let s : starts (byte "'") (drop at text) ≡ true = ap (starts (byte "'")) (byte_at text at h) ∙ unfold starts in eq-eqb _ _ m in
        rw (s, next text at, e)

  module _ (text : List ℕ) (at : ℕ) {b b' : List ℕ} {p : ℕ} where
    pub symbol_end : at ≡ length text → Kept p b b' → SymbolAt text (suc at) b b' p (symbol is_raw (drop at text)) None
    symbol_end h l = record { told = (ap (symbol is_raw) (end-at text at h) ∙ no_symbol, l) }

    pub symbol_unquoted : (r : std.Option SymbolRead) → at < length text → (get_or text at 0 ≡ byte "'" → ⊥) → SymbolAt text (suc at) b b' p (bare_symbol (drop at text)) r → SymbolAt text (suc at) b b' p (symbol is_raw (drop at text)) r
    symbol_unquoted r h n k = rw (is_bare text at h n) at k

    pub symbol-quoted : at < length text → get_or text at 0 ≡ byte "'" → (lo e q : ℕ) → suc at ≤ lo → Copies text lo b b' p (quoted is_raw (byte "'") (drop (at + 1) text)) (Some record { at = e; pos = q }) → SymbolAt text (suc at) b b' p (symbol is_raw (drop at text)) (Some (S.Text e q))
    symbol-quoted h m lo e q l c =
        let k = c.told in
        record { told = (k.0, is-quoted text at h m (some (k.0, drop e text)) k.1, omega (arith, k.2), k.3, k.4) }

    pub symbol-broken : at < length text → get_or text at 0 ≡ byte "'" → (lo : ℕ) → Copies text lo b b' p (quoted is_raw (byte "'") (drop (at + 1) text)) None → SymbolAt text (suc at) b b' p (symbol is_raw (drop at text)) None
    symbol-broken h m lo c = record { told = (is-quoted text at h m none c.told.0, c.told.1) }
