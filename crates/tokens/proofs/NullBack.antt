-- Nulls and bools that are written are read back. Assumes nothing.
use Prim.Native.Nat.{ℕ, zero, suc, ◌≤◌}
use mathlib.Core.Path.{◌≡◌, refl, ap, ◌∙◌}
use mathlib.Core.List.{List, [], ◌∷◌, ◌++◌}
use mathlib.Core.Bool.{Bool, true, false}
use mathlib.Core.Option.{none, some}
use native.Mathlib.Omega.{arith}
use borrow.Author.Tests.{ne_eqb}
use Rattle.output.specs.Logic.{if, byte, ascii}
use Rattle.text_rules.specs.Digits.{is_digit}
use Rattle.text_rules.specs.Texts.{starts, strip, same, blank, delimiter, ended}
use Rattle.text_rules.specs.Words.{is_start, is_part, word, behind_word, kind_of}
use Rattle.text_rules.specs.Text.{null_text, type_name, bool_text}
use Rattle.tokens.specs.Token.{type_of, null_behind, null, bool_of, bool}
use Rattle.text_rules.specs.declared.words.Kind.{Kind}
use Rattle.text_rules.specs.declared.words.Kind.TheVariants.{Null, True, False}
use Rattle.text_rules.proofs.WordsLaws.{kind-null}
use Rattle.text_rules.proofs.WordsBack.{Stops, stops, stops_at, word_back, behind_back, delimiter-not}

-- ---- nulls

null_word : behind_word (ascii "null") ≡ []
unfolding behind_word is_part is_start
null_word = refl

no_point : (r : List ℕ) → ended r ≡ true → starts (byte ".") r ≡ false
unfolding starts ended
no_point [] h = refl
no_point (c ∷ r) h = delimiter-not c (byte ".") h (unfold delimiter blank in refl)

null_stops : (u : List ℕ) → Stops u → null (ascii "null" ++ u) ≡ null_behind u
unfolding null
null_stops u s = rw (word_back (ascii "null") u null_word s, behind_back (ascii "null") u null_word s) is-null
  where
    is-null : if (same (ascii "null") (ascii "null")) (null_behind u) none ≡ null_behind u
    is-null = unfold same strip in refl

plain_back : (r : List ℕ) → ended r ≡ true → null (ascii "null" ++ r) ≡ some (0, r)
plain_back r e = null_stops r (stops r e) ∙ unfold null_behind in rw (no_point r e)

point-part : is_part (byte ".") ≡ false
unfolding is_part is_start is_digit
point-part = refl

typed_back : (w r : List ℕ) (t : ℕ) → behind_word w ≡ [] → type_of w ≡ some t → ended r ≡ true → null ((ascii "null." ++ w) ++ r) ≡ some (t, r)
typed_back w r t a h e =
    null_stops (byte "." ∷ (w ++ r)) (stops_at (byte ".") (w ++ r) point-part) ∙ point_back
  where
    point_back : null_behind (byte "." ∷ (w ++ r)) ≡ some (t, r)
    point_back = unfold null_behind starts in rw (word_back w r a (stops r e), h, behind_back w r a (stops r e))

-- the types' names are words, and name them
named : (t : ℕ) → t ≤ 11 → (behind_word (type_name (suc t)) ≡ []) × (type_of (type_name (suc t)) ≡ some (suc t))
unfolding behind_word is_part is_start type_name type_of same strip
named zero h = (refl, refl)
named (suc zero) h = (refl, refl)
named (suc (suc zero)) h = (refl, refl)
named (suc (suc (suc zero))) h = (refl, refl)
named (suc (suc (suc (suc zero)))) h = (refl, refl)
named (suc (suc (suc (suc (suc zero))))) h = (refl, refl)
named (suc (suc (suc (suc (suc (suc zero)))))) h = (refl, refl)
named (suc (suc (suc (suc (suc (suc (suc zero))))))) h = (refl, refl)
named (suc (suc (suc (suc (suc (suc (suc (suc zero)))))))) h = (refl, refl)
named (suc (suc (suc (suc (suc (suc (suc (suc (suc zero))))))))) h = (refl, refl)
named (suc (suc (suc (suc (suc (suc (suc (suc (suc (suc zero)))))))))) h = (refl, refl)
named (suc (suc (suc (suc (suc (suc (suc (suc (suc (suc (suc zero))))))))))) h = (refl, refl)
named (suc (suc (suc (suc (suc (suc (suc (suc (suc (suc (suc (suc t)))))))))))) h = absurd (omega arith)

text_typed : (t : ℕ) → null_text (suc t) ≡ ascii "null." ++ type_name (suc t)
unfolding null_text
text_typed t = rw (ne_eqb (suc t) 0 (λ q. omega arith))

text_plain : null_text 0 ≡ ascii "null"
unfolding null_text
text_plain = refl

pub null_back : (t : ℕ) (r : List ℕ) → t ≤ 12 → ended r ≡ true → null (null_text t ++ r) ≡ some (t, r)
null_back zero r h e = rw text_plain (plain_back r e)
null_back (suc t) r h e = let n = named t (omega arith) in rw (text_typed t) (typed_back (type_name (suc t)) r (suc t) n.0 n.1 e)

-- the word that a null starts with
pub null-kind : (t : ℕ) (r : List ℕ) → ended r ≡ true → (word (null_text t ++ r) ≡ ascii "null") × (kind_of (ascii "null") ≡ Null)
null-kind t r e = (go t, kind-null (ascii "null") (unfold same strip in refl))
  where
    go : (t : ℕ) → word (null_text t ++ r) ≡ ascii "null"
    go zero = rw text_plain (word_back (ascii "null") r null_word (stops r e))
    go (suc t) = rw (text_typed t) (word_back (ascii "null") (byte "." ∷ (type_name (suc t) ++ r)) null_word (stops_at (byte ".") (type_name (suc t) ++ r) point-part))

-- ---- bools

abbrev kind_of_bool : Bool → Kind
kind_of_bool true = True
kind_of_bool false = False

bool_word : (b : Bool) → behind_word (bool_text b) ≡ []
unfolding bool_text behind_word is_part is_start
bool_word true = refl
bool_word false = refl

pub bool-kind : (b : Bool) → kind_of (bool_text b) ≡ kind_of_bool b
unfolding bool_text kind_of same strip
bool-kind true = refl
bool-kind false = refl

bool-of : (b : Bool) → bool_of (kind_of_bool b) ≡ some b
bool-of true = refl
bool-of false = refl

pub bool_back : (b : Bool) (r : List ℕ) → ended r ≡ true → bool (bool_text b ++ r) ≡ some (b, r)
unfolding bool
bool_back b r e =
    let a = bool_word b in
    let s = stops r e in
    let k : bool_of (kind_of (bool_text b)) ≡ some b = ap bool_of (bool-kind b) ∙ bool-of b in
    rw (word_back (bool_text b) r a s, k, behind_back (bool_text b) r a s)
