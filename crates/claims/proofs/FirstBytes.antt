-- The byte that a text starts with, and what it tells: which token is tried, and that no blank and no closing bracket stands there.
-- Assumes nothing.
use Prim.Native.Nat.{ℕ, ◌≤◌}
use mathlib.Core.Path.{◌≡◌, refl, sym, ap, ◌∙◌}
use mathlib.Core.List.{List, [], ◌∷◌, ◌++◌}
use mathlib.Core.Bool.{Bool, true, false, ◌||◌, ◌&&◌}
use mathlib.Core.Option.{Option, none}
use native.Mathlib.Omega.{arith}
use lib.Dec.{eqb, leb}
use lib.ListN.{length}
use borrow.Author.Tests.{eqb-true, ne_eqb, leb-true, lt-leb}
use Rattle.output.specs.Logic.{if, byte}
use Rattle.text_rules.specs.Digits.{is_digit}
use Rattle.text_rules.specs.Texts.{starts, strip, blank}
use Rattle.text_rules.specs.Words.{is_start}
use Rattle.tape.specs.declared.Frame.{Frame}
use Rattle.tape.specs.declared.Frame.TheVariants.{Top, List as ListF, Sexp, Struct}
use Rattle.reader.specs.Grammar.{skip, opener, opens, closes, numbers, numeric, words, scalar}
use Rattle.text_rules.proofs.DigitLaws.{never}

-- ---- a first byte of some kind

pub record First (P : ℕ → Bool) (t : List ℕ) : Type 0 where
  pub byte₀ : ℕ
  pub rest : List ℕ
  pub is : t ≡ byte₀ ∷ rest
  pub tells : P byte₀ ≡ true

pub first_more : {P : ℕ → Bool} {t : List ℕ} (u : List ℕ) → First P t → First P (t ++ u)
first_more u f = record { byte₀ = f.byte₀; rest = f.rest ++ u; is = ap (λ (x : List ℕ). x ++ u) f.is; tells = f.tells }

pub first-is : {P : ℕ → Bool} {t u : List ℕ} → t ≡ u → First P u → First P t
first-is e f = record { byte₀ = f.byte₀; rest = f.rest; is = e ∙ f.is; tells = f.tells }

pub first_as : {P Q : ℕ → Bool} {t : List ℕ} → ((c : ℕ) → P c ≡ true → Q c ≡ true) → First P t → First Q t
first_as g f = record { byte₀ = f.byte₀; rest = f.rest; is = f.is; tells = g f.byte₀ f.tells }

-- a byte of the kind is none that is not
pub other : (P : ℕ → Bool) (c x : ℕ) → P c ≡ true → P x ≡ false → eqb c x ≡ false
other P c x h e = ne_eqb c x (λ q. never (sym h ∙ ap P q ∙ e))

or_left : (a b : Bool) → a ≡ true → a || b ≡ true
or_left true b h = refl
or_left false b h = never (sym h)

or_right : (a b : Bool) → b ≡ true → a || b ≡ true
or_right true b h = refl
or_right false b h = h

-- ---- the bytes that start a value

-- a quote mark, an opening bracket, a digit, a sign, or the start of an identifier
unfoldable pub leads : ℕ → Bool
leads c = numeric c || is_start c || (eqb c (byte "\"") || eqb c (byte "'") || eqb c (byte "{") || eqb c (byte "[") || eqb c (byte "("))

pub numeric-leads : (c : ℕ) → numeric c ≡ true → leads c ≡ true
unfolding leads
numeric-leads c h = rw h

pub start-leads : (c : ℕ) → is_start c ≡ true → leads c ≡ true
unfolding leads
start-leads c h = or_left (numeric c || is_start c) _ (or_right (numeric c) (is_start c) h)

-- a quote mark or the start of an identifier
unfoldable pub starts_symbol : ℕ → Bool
starts_symbol c = eqb c (byte "'") || is_start c

pub symbol-leads : (c : ℕ) → starts_symbol c ≡ true → leads c ≡ true
unfolding starts_symbol
symbol-leads c h = go (eqb c (byte "'")) refl h
  where
    quote-leads : leads (byte "'") ≡ true
    quote-leads = unfold leads numeric is_digit is_start in refl

    go : (b : Bool) → eqb c (byte "'") ≡ b → b || is_start c ≡ true → leads c ≡ true
    go true e k = ap leads (eqb-true c (byte "'") e) ∙ quote-leads
    go false e k = start-leads c k

low-leads : (c : ℕ) → c ≤ 32 → leads c ≡ false
unfolding leads numeric is_digit is_start
low-leads c h =
    simp (
      lt-leb 48 c (omega arith),
      ne_eqb c 45 (λ q. omega arith),
      ne_eqb c 43 (λ q. omega arith),
      ne_eqb c 36 (λ q. omega arith),
      ne_eqb c 95 (λ q. omega arith),
      lt-leb 65 c (omega arith),
      lt-leb 97 c (omega arith),
      ne_eqb c 34 (λ q. omega arith),
      ne_eqb c 39 (λ q. omega arith),
      ne_eqb c 123 (λ q. omega arith),
      ne_eqb c 91 (λ q. omega arith),
      ne_eqb c 40 (λ q. omega arith),
    )

blank-low : (c : ℕ) → blank c ≡ true → c ≤ 32
unfolding blank
blank-low c h = go (eqb c 32) refl (leb 9 c) (leb c 13) refl h
  where
    go : (a : Bool) → eqb c 32 ≡ a → (b d : Bool) → leb c 13 ≡ d → a || b && d ≡ true → c ≤ 32
    go true e b d f k = let q = eqb-true c 32 e in omega arith
    go false e b true f k = let q = leb-true c 13 f in omega arith
    go false e true false f k = never (sym k)
    go false e false false f k = never (sym k)

pub leads-full : (c : ℕ) → leads c ≡ true → blank c ≡ false
leads-full c h = go (blank c) refl
  where
    go : (b : Bool) → blank c ≡ b → blank c ≡ false
    go true e = never (sym h ∙ low-leads c (blank-low c e))
    go false e = e

-- ---- where a value starts, no blank is skipped and nothing ends

pub no_blank : (t : List ℕ) → First leads t → skip t ≡ t
unfolding skip
no_blank t f = rw (f.is, leads-full f.byte₀ f.tells)

pub no_end : (k : Frame) (t : List ℕ) → First leads t → closes k t ≡ none
unfolding closes strip leads numeric is_digit is_start
no_end Top t f = rw f.is
no_end ListF t f = rw (f.is, other leads f.byte₀ 93 f.tells refl)
no_end Sexp t f = rw (f.is, other leads f.byte₀ 41 f.tells refl)
no_end Struct t f = rw (f.is, other leads f.byte₀ 125 f.tells refl)

-- ---- which token is tried

no_opener : (c : ℕ) (t : List ℕ) → opener c ≡ none → opens (c ∷ t) ≡ none
unfolding opens
no_opener c t h = rw h (go (eqb c (byte "{") && starts (byte "{") t))
  where
    go : (b : Bool) → ◌≡◌ {A = Option Frame} (if b none none) none
    go true = refl
    go false = refl

-- no bracket opens where a byte of a kind stands of which brackets are none
no_opens : (P : ℕ → Bool) → P (byte "[") ≡ false → P (byte "(") ≡ false → P (byte "{") ≡ false → (t : List ℕ) → First P t → opens t ≡ none
unfolding opener
no_opens P a b d t f =
    ap opens f.is ∙ no_opener f.byte₀ f.rest (rw (other P f.byte₀ 91 f.tells a, other P f.byte₀ 40 f.tells b, other P f.byte₀ 123 f.tells d))

pub number-opens : (t : List ℕ) → First numeric t → opens t ≡ none
unfolding numeric is_digit
number-opens t f = no_opens numeric refl refl refl t f

pub word-opens : (t : List ℕ) → First is_start t → opens t ≡ none
unfolding is_start
word-opens t f = no_opens is_start refl refl refl t f

number_here : (is_raw : ℕ → Bool) (m : Bool) (c : ℕ) (u : List ℕ) → numeric c ≡ true → scalar is_raw m (c ∷ u) ≡ numbers (c ∷ u)
unfolding scalar
number_here is_raw m c u h =
    let a : eqb c 34 ≡ false = other numeric c 34 h (unfold numeric is_digit in refl) in
    let b : eqb c 39 ≡ false = other numeric c 39 h (unfold numeric is_digit in refl) in
    let d : eqb c 123 ≡ false = other numeric c 123 h (unfold numeric is_digit in refl) in
    rw (a, b, d, h)

pub scalar-number : (is_raw : ℕ → Bool) (m : Bool) (t : List ℕ) → First numeric t → scalar is_raw m t ≡ numbers t
scalar-number is_raw m t f = ap (scalar is_raw m) f.is ∙ number_here is_raw m f.byte₀ f.rest f.tells ∙ ap numbers (sym f.is)

digit_low : (c : ℕ) → 48 ≤ c → c ≤ 57 → is_start c ≡ false
unfolding is_start
digit_low c l h = simp (ne_eqb c 36 (λ q. omega arith), ne_eqb c 95 (λ q. omega arith), lt-leb 65 c (omega arith), lt-leb 97 c (omega arith))

-- a number starts as no word does
pub numeric-start : (c : ℕ) → numeric c ≡ true → is_start c ≡ false
unfolding numeric is_digit
numeric-start c h = go (leb 48 c) refl (leb c 57) refl (eqb c 45) refl (eqb c 43) refl h
  where
    go : (a : Bool) → leb 48 c ≡ a → (b : Bool) → leb c 57 ≡ b → (d : Bool) → eqb c 45 ≡ d → (e : Bool) → eqb c 43 ≡ e → a && b || d || e ≡ true → is_start c ≡ false
    go true p true q d r e s k = digit_low c (leb-true 48 c p) (leb-true c 57 q)
    go true p false q true r e s k = ap is_start (eqb-true c 45 r) ∙ unfold is_start in refl
    go true p false q false r true s k = ap is_start (eqb-true c 43 s) ∙ unfold is_start in refl
    go true p false q false r false s k = never (sym k)
    go false p b q true r e s k = ap is_start (eqb-true c 45 r) ∙ unfold is_start in refl
    go false p b q false r true s k = ap is_start (eqb-true c 43 s) ∙ unfold is_start in refl
    go false p b q false r false s k = never (sym k)

start-numeric : (c : ℕ) → is_start c ≡ true → numeric c ≡ false
start-numeric c h = go (numeric c) refl
  where
    go : (b : Bool) → numeric c ≡ b → numeric c ≡ false
    go true e = never (sym h ∙ numeric-start c e)
    go false e = e

word_here : (is_raw : ℕ → Bool) (m : Bool) (c : ℕ) (u : List ℕ) → is_start c ≡ true → scalar is_raw m (c ∷ u) ≡ words m (c ∷ u)
unfolding scalar is_start
word_here is_raw m c u h = rw (other is_start c 34 h refl, other is_start c 39 h refl, other is_start c 123 h refl, start-numeric c h)

pub scalar-word : (is_raw : ℕ → Bool) (m : Bool) (t : List ℕ) → First is_start t → scalar is_raw m t ≡ words m t
scalar-word is_raw m t f = ap (scalar is_raw m) f.is ∙ word_here is_raw m f.byte₀ f.rest f.tells ∙ ap (words m) (sym f.is)

-- a text that starts is not empty
pub first_long : {P : ℕ → Bool} (t : List ℕ) → First P t → 1 ≤ length t
first_long [] f = absurd (let z : ◌≡◌ {A = List ℕ} [] (f.byte₀ ∷ f.rest) = f.is in let y : ◌≡◌ {A = ℕ} 0 1 = cc in omega arith)
first_long (c ∷ t) f = omega arith
