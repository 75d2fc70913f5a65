-- The steps of reading nulls and bools, as laws of what the contracts say. Assumes nothing.
use Prim.Native.Nat.{ℕ, suc, ◌+◌, ◌-◌, ◌≤◌, ◌<◌}
use mathlib.Core.Path.{◌≡◌, refl, sym, ap, ◌∙◌}
use mathlib.Core.List.{List, []}
use mathlib.Core.Bool.{Bool, true, false}
use mathlib.Core.Option.{Option, none, some}
use native.Mathlib.Omega.{arith}
use lib.Dec.{eqb}
use lib.ListN.{length, take, drop, get_or}
use borrow.Author.Tests.{eq-eqb, ne_eqb}
use Rattle.output.specs.Logic.{then, byte, ascii}
use Rattle.text_rules.specs.Texts.{starts, same}
use Rattle.text_rules.specs.Words.{word, behind_word, kind_of}
use Rattle.text_rules.specs.WordSteps.{Spanned, WordAt}
use Rattle.text_rules.specs.Reading.{Reads}
use Rattle.tokens.specs.Token.{type_of, null_behind, null, bool_of, bool}
use Rattle.text_rules.specs.declared.words.Kind.{Kind}
use Rattle.text_rules.specs.declared.words.Kind.TheVariants.{Null, True, False, Nan, Marker, Number, Text, Refused}
use Rattle.text_rules.specs.declared.words.Word.{Word}
use Rattle.text_rules.proofs.Places.{byte_at, end-at, next}
use Rattle.text_rules.proofs.ReadingLaws.{reads_from, refused}
use Rattle.text_rules.proofs.WordsLaws.{same-is, spanned_long, kind-nothing}

-- ---- answers

pub reads_some : {A : Type 0} {text : List ℕ} {lo : ℕ} {o : Option (A × List ℕ)} (x : A) (at : ℕ) → o ≡ some (x, drop at text) → lo ≤ at → at ≤ length text → Reads text lo o (some (x, at))
reads_some x at e l h = record { is = e; place = (l, h) }

-- what was read behind a place was read behind one before it
pub reads_before : {A : Type 0} {text : List ℕ} {lo lo' : ℕ} {o o' : Option (A × List ℕ)} {r : Option (A × ℕ)} → o' ≡ o → lo' ≤ lo → Reads text lo o r → Reads text lo' o' r
reads_before e l h = record { is = e ∙ h.is; place = (reads_from h l).place }

-- ---- nulls

module _ (text : List ℕ) (at : ℕ) where
  pub null-end : at ≡ length text → Reads text at (null_behind (drop at text)) (some (0, at))
  null-end h =
      let i : null_behind (drop at text) ≡ some (0, drop at text) = unfold null_behind starts in rw (end-at text at h) in
      reads_some 0 at i (omega arith) (omega arith)

  pub null-plain : at < length text → (get_or text at 0 ≡ byte "." → ⊥) → Reads text at (null_behind (drop at text)) (some (0, at))
  null-plain h n =
      let i : null_behind (drop at text) ≡ some (0, drop at text) = unfold null_behind starts in rw (byte_at text at h, ne_eqb _ _ n) in
      reads_some 0 at i (omega arith) (omega arith)

  module _ (h : at < length text) (dot : get_or text at 0 ≡ byte ".") {e : ℕ} (s : Spanned text (at + 1) e) (o : Option ℕ) (is : type_of (take (e - (at + 1)) (drop (at + 1) text)) ≡ o) where
    behind_dot : null_behind (drop at text) ≡ then o (λ k. some (k, drop e text))
    unfolding null_behind
    behind_dot =
        let d : starts (byte ".") (drop at text) ≡ true = unfold starts in rw (byte_at text at h) (eq-eqb _ _ dot) in
        let i : type_of (word (drop (at + 1) text)) ≡ o = ap type_of (sym s.bytes) ∙ is in
        rw (d, next text at, i, ← s.rest)

    pub null_typed : (t : ℕ) → o ≡ some t → Reads text at (null_behind (drop at text)) (some (t, e))
    null_typed t n = let a = s.ahead in reads_some t e (behind_dot ∙ rw n) (omega arith) s.inside

    pub null_untyped : o ≡ none → Reads text at (null_behind (drop at text)) none
    null_untyped z = refused (behind_dot ∙ rw z)

module _ {text : List ℕ} {at e : ℕ} (s : Spanned text at e) where
  word-is : (w : List ℕ) (b : Bool) → b ≡ same w (take (e - at) (drop at text)) → same w (word (drop at text)) ≡ b
  word-is w b h = ap (same w) (sym s.bytes) ∙ sym h

  -- a word that is not empty ends behind its place
  word_long : (w : List ℕ) → true ≡ same w (take (e - at) (drop at text)) → 0 < length w → at < e
  word_long w h l =
      let n = spanned_long s in
      let m : length (take (e - at) (drop at text)) ≡ length w = ap length (same-is w (take (e - at) (drop at text)) (sym h)) in
      omega arith

  pub null-other : (b : Bool) → b ≡ same (ascii "null") (take (e - at) (drop at text)) → b ≡ false → Reads text (suc at) (null (drop at text)) none
  null-other b h f = refused (unfold null in rw (word-is (ascii "null") b h, f))

  pub null_here : (b : Bool) → b ≡ same (ascii "null") (take (e - at) (drop at text)) → b ≡ true → (r : Option (ℕ × ℕ)) → Reads text e (null_behind (drop e text)) r → Reads text (suc at) (null (drop at text)) r
  null_here b h f r g =
      let l : at < e = word_long (ascii "null") (sym f ∙ h) (omega arith) in
      let i : null (drop at text) ≡ null_behind (drop e text) = unfold null in rw (word-is (ascii "null") b h, f, ← s.rest) in
      reads_before i l g

-- ---- bools

-- a word of another kind is no bool
pub no_bool : (k : Kind) → (k ≡ True → ⊥) → (k ≡ False → ⊥) → bool_of k ≡ none
no_bool True t f = absurd (t refl)
no_bool False t f = absurd (f refl)
no_bool Null t f = refl
no_bool Nan t f = refl
no_bool Marker t f = refl
no_bool (Number n) t f = refl
no_bool Text t f = refl
no_bool Refused t f = refl

bool-some : (t : List ℕ) (b : Bool) → bool_of (kind_of (word t)) ≡ some b → bool t ≡ some (b, behind_word t)
unfolding bool
bool-some t b e = rw e

module _ {text : List ℕ} {at : ℕ} {w : Word} (a : WordAt text at w) where
  pub word_ahead : (w.kind ≡ Refused → ⊥) → at < w.end
  word_ahead n = go (eqb w.end at) refl
    where
      go : (b : Bool) → eqb w.end at ≡ b → at < w.end
      go true e =
          let z : w.end ≡ at = borrow.Author.Tests.eqb-true w.end at e in
          let y : w.end - at ≡ 0 = omega arith in
          let v : word (drop at text) ≡ [] = sym a.bytes ∙ ap (λ (k : ℕ). take k (drop at text)) y in
          absurd (n (a.kind ∙ ap kind_of v ∙ kind-nothing))
      go false e = let n : w.end ≡ at → ⊥ = borrow.Author.Tests.eqb-false w.end at e in let l = a.ahead in omega (arith, n)

  pub bool_here : (k : Kind) (b : Bool) → w.kind ≡ k → bool_of k ≡ some b → Reads text (suc at) (bool (drop at text)) (some (b, w.end))
  bool_here k b e h =
      let i : bool_of (kind_of (word (drop at text))) ≡ some b = ap bool_of (sym a.kind ∙ e) ∙ h in
      reads_some b w.end (bool-some (drop at text) b i ∙ ap (λ (l : List ℕ). some (b, l)) (sym a.rest)) (word_ahead (λ r. bad (sym (ap bool_of (sym e ∙ r)) ∙ h))) a.inside
    where
      bad : bool_of Refused ≡ some b → ⊥
      bad z = let y : ◌≡◌ {A = ℕ} 0 1 = cc in omega arith

  pub bool-none : (k : Kind) → w.kind ≡ k → bool_of k ≡ none → Reads text (suc at) (bool (drop at text)) none
  bool-none k e h = refused (unfold bool in rw (ap bool_of (sym a.kind ∙ e) ∙ h))
