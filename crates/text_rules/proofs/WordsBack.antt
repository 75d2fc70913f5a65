-- A word that is written is read back: it ends where what may follow a token does. Assumes nothing.
use Prim.Native.Nat.{ℕ, ◌≤◌}
use mathlib.Core.Path.{◌≡◌, refl, sym, ap, ◌∙◌}
use mathlib.Core.List.{List, [], ◌∷◌, ◌++◌}
use mathlib.Core.Bool.{Bool, true, false, ◌||◌, ◌&&◌}
use native.Mathlib.Omega.{arith}
use lib.Dec.{eqb, leb}
use borrow.Author.Tests.{eqb-true, ne_eqb, lt-leb, leb-true}
use Rattle.text_rules.specs.Digits.{is_digit}
use Rattle.text_rules.specs.Texts.{empty, blank, delimiter, ended}
use Rattle.text_rules.specs.Words.{is_start, is_part, word, behind_word, is_identifier}
use Rattle.text_rules.proofs.DigitLaws.{never, both, Digits}

-- ---- what may follow a token is no part of a word

or_cases : {A : Type 0} (a b : Bool) → (a ≡ true → A) → (b ≡ true → A) → a || b ≡ true → A
or_cases true b f g h = f refl
or_cases false b f g h = g h

low_part : (c : ℕ) → c ≤ 35 → is_part c ≡ false
unfolding is_part is_start is_digit
low_part c h =
    simp (ne_eqb c 36 (λ q. omega arith), ne_eqb c 95 (λ q. omega arith), lt-leb 65 c (omega arith), lt-leb 97 c (omega arith), lt-leb 48 c (omega arith))

is-part : (c k : ℕ) → is_part k ≡ false → eqb c k ≡ true → is_part c ≡ false
is-part c k h e = ap is_part (eqb-true c k e) ∙ h

blank_part : (c : ℕ) → blank c ≡ true → is_part c ≡ false
unfolding blank
blank_part c h =
    or_cases (eqb c 32) (leb 9 c && leb c 13)
    (is-part c 32 (low_part 32 (omega arith)))
    (λ e. let l : c ≤ 13 = leb-true c 13 (both (leb 9 c) (leb c 13) e).1 in low_part c (omega arith))
    h

pub delimiter-part : (c : ℕ) → delimiter c ≡ true → is_part c ≡ false
unfolding delimiter is_part is_start is_digit
delimiter-part c =
    or_cases (blank c || eqb c 44 || eqb c 93 || eqb c 41 || eqb c 125) (eqb c 58)
    (or_cases (blank c || eqb c 44 || eqb c 93 || eqb c 41) (eqb c 125)
    (or_cases (blank c || eqb c 44 || eqb c 93) (eqb c 41)
    (or_cases (blank c || eqb c 44) (eqb c 93) (or_cases (blank c) (eqb c 44) (blank_part c) (is-part c 44 refl)) (is-part c 93 refl))
    (is-part c 41 refl))
    (is-part c 125 refl))
    (is-part c 58 refl)

-- what may follow a token is no byte that may not
pub delimiter-not : (c x : ℕ) → delimiter c ≡ true → delimiter x ≡ false → eqb c x ≡ false
delimiter-not c x h e = ne_eqb c x (λ q. never (sym h ∙ ap delimiter q ∙ e))

-- a word ends here
pub record Stops (r : List ℕ) : Type 0 where
  pub no_word : word r ≡ []
  pub all-behind : behind_word r ≡ r

pub stops_at : (c : ℕ) (t : List ℕ) → is_part c ≡ false → Stops (c ∷ t)
unfolding word behind_word
stops_at c t e = record { no_word = rw e; all-behind = rw e }

pub stops : (r : List ℕ) → ended r ≡ true → Stops r
unfolding word behind_word ended
stops [] h = record { no_word = refl; all-behind = refl }
stops (c ∷ t) h = stops_at c t (delimiter-part c h)

-- ---- a whole word, and what ends it

behind-first : (c : ℕ) (w : List ℕ) → behind_word (c ∷ w) ≡ [] → (is_part c ≡ true) × (behind_word w ≡ [])
unfolding behind_word
behind-first c w h = go (is_part c) refl
  where
    go : (b : Bool) → is_part c ≡ b → (is_part c ≡ true) × (behind_word w ≡ [])
    go true e = (e, rw e at h)
    go false e = absurd (let z : ◌≡◌ {A = List ℕ} (c ∷ w) [] = rw e at h in let y : ◌≡◌ {A = ℕ} 0 1 = cc in omega arith)

pub word_back : (w r : List ℕ) → behind_word w ≡ [] → Stops r → word (w ++ r) ≡ w
unfolding word
word_back [] r h s = s.no_word
word_back (c ∷ w) r h s = let p = behind-first c w h in rw p.0 (ap (λ (l : List ℕ). c ∷ l) (word_back w r p.1 s))

pub behind_back : (w r : List ℕ) → behind_word w ≡ [] → Stops r → behind_word (w ++ r) ≡ r
unfolding behind_word
behind_back [] r h s = s.all-behind
behind_back (c ∷ w) r h s = let p = behind-first c w h in rw p.0 (behind_back w r p.1 s)

-- what holds of nothing, and of a text with one more byte of a word in front, holds of a whole word
pub word-all : (P : List ℕ → Type 0) → P [] → ((c : ℕ) (w : List ℕ) → is_part c ≡ true → P w → P (c ∷ w)) → (w : List ℕ) → behind_word w ≡ [] → P w
word-all P z s [] h = z
word-all P z s (c ∷ w) h = let p = behind-first c w h in s c w p.0 (word-all P z s w p.1)

-- ---- identifiers and digits are words

empty-is : (t : List ℕ) → empty t ≡ true → t ≡ []
empty-is [] h = refl
empty-is (c ∷ t) h = never (sym h)

pub start-part : (c : ℕ) → is_start c ≡ true → is_part c ≡ true
unfolding is_part
start-part c h = rw h

digit-part : (c : ℕ) → is_digit c ≡ true → is_part c ≡ true
unfolding is_part
digit-part c h = go (is_start c)
  where
    go : (b : Bool) → b || is_digit c ≡ true
    go true = refl
    go false = h

pub behind-digits : (w : List ℕ) → Digits w → behind_word w ≡ []
unfolding behind_word
behind-digits [] h = refl
behind-digits (c ∷ w) h = rw (digit-part c h.0) (behind-digits w h.1)

-- an identifier starts as one, and is a word
pub identifier_parts : (c : ℕ) (w : List ℕ) → is_identifier (c ∷ w) ≡ true → (is_start c ≡ true) × (behind_word (c ∷ w) ≡ [])
unfolding is_identifier behind_word
identifier_parts c w h =
    let p = both (is_start c) (empty (behind_word w)) h in
    (p.0, rw (start-part c p.0) (empty-is (behind_word w) p.1))

pub identifier_word : (w : List ℕ) → is_identifier w ≡ true → behind_word w ≡ []
identifier_word [] h = unfold behind_word in refl
identifier_word (c ∷ w) h = (identifier_parts c w h).1

-- a byte of a word is none that is no part of one
pub unlike : (c x : ℕ) → is_part c ≡ true → is_part x ≡ false → eqb c x ≡ false
unlike c x h e = ne_eqb c x (λ q. never (sym h ∙ ap is_part q ∙ e))

pub start-other : (c x : ℕ) → is_start c ≡ true → is_start x ≡ false → eqb c x ≡ false
start-other c x h e = ne_eqb c x (λ q. never (sym h ∙ ap is_start q ∙ e))
