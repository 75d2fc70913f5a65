-- Base64's characters and their numbers, and the 24 bits of four. Assumes nothing.
use Prim.Native.Nat.{ℕ, suc, ◌+◌, ◌*◌, ◌/◌, ◌%◌, ◌<◌}
use mathlib.Core.Path.{◌≡◌, refl, sym, ap, ◌∙◌}
use mathlib.Core.Bool.{Bool, true, false}
use mathlib.Core.List.{List, [], ◌∷◌}
use mathlib.Core.Option.{Option, none, some}
use native.Mathlib.Omega.{arith}
use lib.Dec.{eqb}
use lib.ListN.{length, get_or}
use borrow.Author.Tests.{eqb-true}
use Rattle.output.specs.Logic.{if, then, byte}
use Rattle.text_rules.specs.Base64.{alphabet, base64_character, bits24, characters24, place_from, base64_value, bits_of, bytes24}
use Rattle.text_rules.proofs.Table.{same}

pub clash : {A : Type 0} {o : Option A} {a : A} → o ≡ none → o ≡ some a → ⊥
clash h e = let z : ◌≡◌ {A = ℕ} 0 1 = cc in omega arith

-- both of two steps read something
pub then_some : {A B : Type 0} (o : Option A) (g : A → Option B) (b : B) → then o g ≡ some b → (a : A) × (o ≡ some a) × (g a ≡ some b)
then_some none g b e = absurd (clash refl e)
then_some (some a) g b e = (a, refl, e)

pub then_none : {A B : Type 0} (o : Option A) → then {B = B} o (λ _. none) ≡ none
then_none none = refl
then_none (some a) = refl

-- ---- one character

place_there : (n c i : ℕ) (s : List ℕ) → place_from n c s ≡ some i → (k : ℕ) × (i ≡ n + k) × (k < length s) × (get_or s k 0 ≡ c)
unfolding place_from
place_there n c i [] e = absurd (clash refl e)
place_there n c i (a ∷ s) e = go (eqb c a) refl e (place_there (suc n) c i s)
  where
    There : ℕ → List ℕ → Type 0
    There m t = (k : ℕ) × (i ≡ m + k) × (k < length t) × (get_or t k 0 ≡ c)

    go : (b : Bool) → eqb c a ≡ b → if b (some n) (place_from (suc n) c s) ≡ some i → (place_from (suc n) c s ≡ some i → There (suc n) s) → There n (a ∷ s)
    go true h e more = let z : n ≡ i = cc in (0, omega arith, omega arith, sym (eqb-true c a h))
    go false h e more = let m = more e in (suc m.0, omega (arith, m.1), omega (arith, m.2), m.3)

pub value_char : (c v : ℕ) → base64_value c ≡ some v → (v < 64) × (base64_character v ≡ c)
unfolding base64_value base64_character
value_char c v e =
    let m = place_there 0 c v alphabet e in
    let l : length alphabet ≡ 64 = unfold alphabet in refl in
    let z : v ≡ m.0 = omega (arith, m.1) in
    (omega (arith, m.2), ap (λ (k : ℕ). get_or alphabet k 0) z ∙ m.3)

pub char_value : (v : ℕ) → v < 64 → base64_value (base64_character v) ≡ some v
unfolding base64_value base64_character alphabet place_from
char_value = same (λ v. base64_value (base64_character v)) some 64 refl

pub char_brace : (v : ℕ) → v < 64 → eqb (base64_character v) (byte "}") ≡ false
unfolding base64_character alphabet
char_brace = same (λ v. eqb (base64_character v) (byte "}")) (λ v. false) 64 refl

pub char_quote : (v : ℕ) → v < 64 → eqb (base64_character v) (byte "\"") ≡ false
unfolding base64_character alphabet
char_quote = same (λ v. eqb (base64_character v) (byte "\"")) (λ v. false) 64 refl

no_brace : base64_value (byte "}") ≡ none
unfolding base64_value alphabet place_from
no_brace = refl

no_pad : base64_value (byte "=") ≡ none
unfolding base64_value alphabet place_from
no_pad = refl

-- a character is not one that has no number
value-other : (c v m : ℕ) → base64_value m ≡ none → base64_value c ≡ some v → eqb c m ≡ false
value-other c v m h e = go (eqb c m) refl
  where
    go : (b : Bool) → eqb c m ≡ b → b ≡ false
    go true g = absurd (clash (ap base64_value (eqb-true c m g) ∙ h) e)
    go false g = refl

pub value_brace : (c v : ℕ) → base64_value c ≡ some v → eqb c (byte "}") ≡ false
value_brace c v e = value-other c v (byte "}") no_brace e

pub value-pad : (c v : ℕ) → base64_value c ≡ some v → eqb c (byte "=") ≡ false
value-pad c v e = value-other c v (byte "=") no_pad e

pub brace_value : (c : ℕ) → eqb c (byte "}") ≡ true → base64_value c ≡ none
brace_value c e = ap base64_value (eqb-true c (byte "}") e) ∙ no_brace

-- ---- four characters

pub record Four (a b c d n : ℕ) : Type 0 where
  pub i : ℕ
  pub j : ℕ
  pub k : ℕ
  pub l : ℕ
  pub first : base64_value a ≡ some i
  pub second : base64_value b ≡ some j
  pub third : base64_value c ≡ some k
  pub fourth : base64_value d ≡ some l
  pub is : n ≡ ((i * 64 + j) * 64 + k) * 64 + l

pub bits_four : (a b c d n : ℕ) → bits_of a b c d ≡ some n → Four a b c d n
unfolding bits_of
bits_four a b c d n e =
    let p = then_some (base64_value a) _ n e in
    let q = then_some (base64_value b) _ n p.2 in
    let r = then_some (base64_value c) _ n q.2 in
    let s = then_some (base64_value d) _ n r.2 in
    let t = s.2 in
    record { i = p.0; j = q.0; k = r.0; l = s.0; first = p.1; second = q.1; third = r.1; fourth = s.1; is = cc }

pub four_bits : (a b c d i j k l : ℕ) → base64_value a ≡ some i → base64_value b ≡ some j → base64_value c ≡ some k → base64_value d ≡ some l → bits_of a b c d ≡ some (((i * 64 + j) * 64 + k) * 64 + l)
unfolding bits_of
four_bits a b c d i j k l p q r s = rw (p, q, r, s)

module _ (a b c d : ℕ) where
  pub none_first : base64_value a ≡ none → bits_of a b c d ≡ none
  unfolding bits_of
  none_first e = rw e

  pub none-second : base64_value b ≡ none → bits_of a b c d ≡ none
  unfolding bits_of
  none-second e = rw e (then_none (base64_value a))

  pub none-third : base64_value c ≡ none → bits_of a b c d ≡ none
  unfolding bits_of
  none-third e = rw e (go (base64_value a) (base64_value b))
    where
      go : (o p : Option ℕ) → then {B = ℕ} o (λ _. then {B = ℕ} p (λ _. none)) ≡ none
      go none p = refl
      go (some i) p = then_none p

  pub none_fourth : base64_value d ≡ none → bits_of a b c d ≡ none
  unfolding bits_of
  none_fourth e = rw e (go (base64_value a) (base64_value b) (base64_value c))
    where
      go : (o p q : Option ℕ) → then {B = ℕ} o (λ _. then {B = ℕ} p (λ _. then {B = ℕ} q (λ _. none))) ≡ none
      go none p q = refl
      go (some i) none q = refl
      go (some i) (some j) q = then_none q

  module _ (n : ℕ) (e : bits_of a b c d ≡ some n) where
    pub bits_lt : n < 16777216
    bits_lt =
        let f = bits_four a b c d n e in
        omega (arith, f.is, (value_char a f.i f.first).0, (value_char b f.j f.second).0, (value_char c f.k f.third).0, (value_char d f.l f.fourth).0)

    pub bits_chars : characters24 n ≡ a ∷ b ∷ c ∷ d ∷ []
    unfolding characters24
    bits_chars =
        let f = bits_four a b c d n e in
        let p = value_char a f.i f.first in
        let q = value_char b f.j f.second in
        let r = value_char c f.k f.third in
        let s = value_char d f.l f.fourth in
        let w : n / 262144 ≡ f.i = omega (arith, f.is) in
        let x : n / 4096 % 64 ≡ f.j = omega (arith, f.is) in
        let y : n / 64 % 64 ≡ f.k = omega (arith, f.is) in
        let z : n % 64 ≡ f.l = omega (arith, f.is) in
        rw (w, x, y, z, p.1, q.1, r.1, s.1)

pub chars_bits : (n i j k l : ℕ) → n ≡ ((i * 64 + j) * 64 + k) * 64 + l → i < 64 → j < 64 → k < 64 → l < 64 → bits_of (base64_character i) (base64_character j) (base64_character k) (base64_character l) ≡ some n
chars_bits n i j k l e hi hj hk hl =
    four_bits (base64_character i) (base64_character j) (base64_character k) (base64_character l) i j k l (char_value i hi) (char_value j hj) (char_value k hk) (char_value l hl) ∙ ap some (sym e)

-- three bytes are their 24 bits' three bytes
pub bytes_bits : (n : ℕ) → bits24 (n / 65536) (n / 256 % 256) (n % 256) ≡ n
bytes_bits n = omega arith

pub bits-bytes : (a b c : ℕ) → a < 256 → b < 256 → c < 256 → bytes24 (bits24 a b c) ≡ a ∷ b ∷ c ∷ []
unfolding bytes24
bits-bytes a b c ha hb hc =
    let n = bits24 a b c in
    let x : n / 65536 ≡ a = omega arith in
    let y : n / 256 % 256 ≡ b = omega arith in
    let z : n % 256 ≡ c = omega arith in
    rw (x, y, z)
