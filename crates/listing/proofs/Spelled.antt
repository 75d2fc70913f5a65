-- Laws on spellings: the two digits of a byte, the byte at a place, and all of them from there. Assumes nothing.
use Prim.Native.Nat.{ℕ, zero, suc, ◌+◌, ◌-◌, ◌*◌, ◌<◌, ◌≤◌}
use mathlib.Core.Path.{◌≡◌, refl, ap, sym, ◌∙◌}
use mathlib.Core.List.{List, [], ◌∷◌, ◌++◌, append_assoc}
use mathlib.Core.Option.{Option, none, some}
use native.Mathlib.Omega.{arith}
use lib.ListN.{length, get_or, drop, length-append, length-drop, drop_of_length-le}
use lib.Seq.{drop-drop}
use borrow.Author.Tests.{eq-eqb, ne_eqb, le-leb, lt-leb, lt-ltb, le-ltb}
use Rattle.std.specs.Char.{digit_value}
use Rattle.std.specs.Prelude.{ltb}
use Rattle.std.proofs.Common.{inl, inr}
use Rattle.std.proofs.lemmas.Bool.{cases_lt}
use Rattle.output.specs.Logic.{if, then, byte}
use Rattle.text_rules.specs.Escapes.{hex_value, hex}
use Rattle.text_rules.proofs.Places.{byte_at}
use Rattle.listing.specs.declared.decode.Form.{Form}
use Rattle.listing.specs.declared.decode.Form.TheVariants.{Hex, Text}
use Rattle.std.specs.Prelude as P
use Rattle.listing.specs.Spelling.{one_byte, bytes_of, Decodes}
use Rattle.listing.specs.DecodeSteps.{PairAt, OneAt}

-- ---- a digit, by its value in std's words

digit_is : (c : ℕ) → hex_value c ≡ (if (ltb (digit_value c) 16) (some (digit_value c)) none)
unfolding hex_value
digit_is c = elim (cases_lt c 48) [
  | inl h ↦ simp (lt-leb 48 c (omega arith), lt-leb 97 c (omega arith), lt-leb 65 c (omega arith), lt-ltb c 48 (omega arith))
  | inr h0 ↦ elim (cases_lt c 58) [
    | inl h ↦ simp (le-leb 48 c (omega arith), le-leb c 57 (omega arith), le-ltb c 48 (omega arith), lt-ltb c 58 (omega arith), lt-ltb (c - 48) 16 (omega arith))
    | inr h1 ↦ elim (cases_lt c 65) [
      | inl h ↦ simp (le-leb 48 c (omega arith), lt-leb c 57 (omega arith), lt-leb 97 c (omega arith), lt-leb 65 c (omega arith), le-ltb c 48 (omega arith), le-ltb c 58 (omega arith), lt-ltb c 65 (omega arith))
      | inr h2 ↦ elim (cases_lt c 71) [
        | inl h ↦ let e : 10 + (c - 65) ≡ c - 55 = omega arith in simp (le-leb 48 c (omega arith), lt-leb c 57 (omega arith), lt-leb 97 c (omega arith), le-leb 65 c (omega arith), le-leb c 70 (omega arith), le-ltb c 48 (omega arith), le-ltb c 58 (omega arith), le-ltb c 65 (omega arith), lt-ltb c 91 (omega arith), lt-ltb (c - 55) 16 (omega arith), e)
        | inr h3 ↦ elim (cases_lt c 91) [
          | inl h ↦ simp (le-leb 48 c (omega arith), lt-leb c 57 (omega arith), lt-leb 97 c (omega arith), le-leb 65 c (omega arith), lt-leb c 70 (omega arith), le-ltb c 48 (omega arith), le-ltb c 58 (omega arith), le-ltb c 65 (omega arith), lt-ltb c 91 (omega arith), le-ltb (c - 55) 16 (omega arith))
          | inr h4 ↦ elim (cases_lt c 97) [
            | inl h ↦ simp (le-leb 48 c (omega arith), lt-leb c 57 (omega arith), lt-leb 97 c (omega arith), le-leb 65 c (omega arith), lt-leb c 70 (omega arith), le-ltb c 48 (omega arith), le-ltb c 58 (omega arith), le-ltb c 65 (omega arith), le-ltb c 91 (omega arith), lt-ltb c 97 (omega arith))
            | inr h5 ↦ elim (cases_lt c 103) [
              | inl h ↦ let e : 10 + (c - 97) ≡ c - 87 = omega arith in simp (le-leb 48 c (omega arith), lt-leb c 57 (omega arith), le-leb 97 c (omega arith), le-leb c 102 (omega arith), le-ltb c 48 (omega arith), le-ltb c 58 (omega arith), le-ltb c 65 (omega arith), le-ltb c 91 (omega arith), le-ltb c 97 (omega arith), lt-ltb c 123 (omega arith), lt-ltb (c - 87) 16 (omega arith), e)
              | inr h6 ↦ elim (cases_lt c 123) [
                | inl h ↦ simp (le-leb 48 c (omega arith), lt-leb c 57 (omega arith), le-leb 97 c (omega arith), lt-leb c 102 (omega arith), le-leb 65 c (omega arith), lt-leb c 70 (omega arith), le-ltb c 48 (omega arith), le-ltb c 58 (omega arith), le-ltb c 65 (omega arith), le-ltb c 91 (omega arith), le-ltb c 97 (omega arith), lt-ltb c 123 (omega arith), le-ltb (c - 87) 16 (omega arith))
                | inr h7 ↦ simp (le-leb 48 c (omega arith), lt-leb c 57 (omega arith), le-leb 97 c (omega arith), lt-leb c 102 (omega arith), le-leb 65 c (omega arith), lt-leb c 70 (omega arith), le-ltb c 48 (omega arith), le-ltb c 58 (omega arith), le-ltb c 65 (omega arith), le-ltb c 91 (omega arith), le-ltb c 97 (omega arith), le-ltb c 123 (omega arith))
              ]
            ]
          ]
        ]
      ]
    ]
  ]
]

pub a_digit : (c : ℕ) → digit_value c < 16 → hex_value c ≡ some (digit_value c)
a_digit c h = digit_is c ∙ rw (lt-ltb _ _ h)

pub no_digit : (c : ℕ) → (digit_value c < 16 → ⊥) → hex_value c ≡ none
no_digit c h = digit_is c ∙ rw (le-ltb (digit_value c) 16 (omega arith))

-- ---- two digits

short : (l : List ℕ) → length l < 2 → hex 2 0 l ≡ none
unfolding hex
short [] h = refl
short (a ∷ []) h = go (hex_value a)
  where
    go : (o : Option ℕ) → then o (λ d. hex 1 (0 * 16 + d) []) ≡ none
    go none = refl
    go (some d) = refl
short (a ∷ b ∷ l) h = absurd (omega arith)

module _ (s : List ℕ) (at : ℕ) where
  pub pair_short : length s - at < 2 → hex 2 0 (drop at s) ≡ none
  pair_short h = short (drop at s) (rw (length-drop at s) h)

  pub pair_first : at < length s → hex_value (get_or s at 0) ≡ none → hex 2 0 (drop at s) ≡ none
  unfolding hex
  pair_first h e = rw (byte_at s at h, e)

  pub pair_second : at + 1 < length s → (h : ℕ) → hex_value (get_or s at 0) ≡ some h → hex_value (get_or s (at + 1) 0) ≡ none → hex 2 0 (drop at s) ≡ none
  unfolding hex
  pair_second l h e g = rw (byte_at s at (omega arith), e, byte_at s (at + 1) l, g)

  pub pair_both : at + 1 < length s → (h l : ℕ) → hex_value (get_or s at 0) ≡ some h → hex_value (get_or s (at + 1) 0) ≡ some l → hex 2 0 (drop at s) ≡ some (h * 16 + l, drop (at + 2) s)
  unfolding hex
  pair_both i h l e g =
      let z : 0 * 16 + h ≡ h = omega arith in
      let k : at + 1 + 1 ≡ at + 2 = omega arith in
      rw (byte_at s at (omega arith), e, byte_at s (at + 1) i, g, z, k)

-- ---- the byte at a place

module _ (s : List ℕ) (at : ℕ) (h : at < length s) where
  pub one_hex : (r : P.Option (ℕ × ℕ)) → PairAt s at r → OneAt Hex s at r
  unfolding one_byte
  one_hex P.None p = record { told = rw p.told }
  one_hex (P.Some (b, next)) p =
      let t = p.told in
      let n = t.1 in
      let k : 2 ≡ next - at = omega arith in
      record { told = (rw t.0 (ap (λ (w : ℕ). some (b, w)) k), omega arith, t.2) }

  pub one_marked : get_or s at 0 ≡ byte "%" → (r : P.Option (ℕ × ℕ)) → PairAt s (at + 1) r → OneAt Text s at r
  unfolding one_byte
  one_marked e P.None p = record { told = rw (byte_at s at h, eq-eqb _ _ e, p.told) }
  one_marked e (P.Some (b, next)) p =
      let t = p.told in
      let n = t.1 in
      let k : 3 ≡ next - at = omega arith in
      record { told = (rw (byte_at s at h, eq-eqb _ _ e, t.0) (ap (λ (w : ℕ). some (b, w)) k), omega arith, t.2) }

  pub one_itself : (get_or s at 0 ≡ byte "%" → ⊥) → OneAt Text s at (P.Some (get_or s at 0, at + 1))
  unfolding one_byte
  one_itself e =
      let k : 1 ≡ at + 1 - at = omega arith in
      record { told = (rw (byte_at s at h, ne_eqb _ _ e) (ap (λ (w : ℕ). some (get_or s at 0, w)) k), omega arith, omega arith) }

-- ---- all bytes

-- the bytes d, and behind them those that are spelled
abbrev pub behind : List ℕ → Option (List ℕ) → Option (List ℕ)
behind d o = then o (λ t. some (d ++ t))

pub behind-none : (o : Option (List ℕ)) → o ≡ behind [] o
behind-none none = refl
behind-none (some t) = refl

pub behind_more : (d : List ℕ) (b : ℕ) (o : Option (List ℕ)) → behind d (then o (λ t. some (b ∷ t))) ≡ behind (d ++ (b ∷ [])) o
behind_more d b none = refl
behind_more d b (some t) = ap some (sym (append_assoc d (b ∷ []) t))

skip : (f : Form) (n : ℕ) (l : List ℕ) → n ≤ length l → bytes_of f n l ≡ bytes_of f 0 (drop n l)
unfolding bytes_of
skip f zero l h = refl
skip f (suc n) [] h = absurd (omega arith)
skip f (suc n) (x ∷ l) h = skip f n l (omega arith)

module _ (f : Form) (s : List ℕ) (at : ℕ) where
  pub bytes-end : length s ≤ at → bytes_of f 0 (drop at s) ≡ some []
  unfolding bytes_of
  bytes-end h = rw (drop_of_length-le s {i = at} h)

  pub bytes-none : at < length s → one_byte f (drop at s) ≡ none → bytes_of f 0 (drop at s) ≡ none
  unfolding bytes_of
  bytes-none h e = let g = rw (byte_at s at h) at e in rw (byte_at s at h, g)

  pub bytes_one : (b next : ℕ) → at < next → next ≤ length s → one_byte f (drop at s) ≡ some (b, next - at) → bytes_of f 0 (drop at s) ≡ then (bytes_of f 0 (drop next s)) (λ t. some (b ∷ t))
  unfolding bytes_of
  bytes_one b next h i e =
      let l : at < length s = omega arith in
      let g = rw (byte_at s at l) at e in
      let n = length-drop (at + 1) s in
      let k : at + 1 + (next - at - 1) ≡ next = omega arith in
      rw (byte_at s at l, g, skip f (next - at - 1) (drop (at + 1) s) (omega arith), drop-drop (next - at - 1) (at + 1) s, k)

-- ---- what is answered

pub nothing : (a b : List ℕ) → Decodes none a b P.None
nothing a b = record { answer = refl; bytes = λ s e l. let z : ◌≡◌ {A = ℕ} 0 1 = cc in absurd (omega arith) }

pub too_many : (d : List ℕ) (c : ℕ) (o : Option (List ℕ)) (a b : List ℕ) → length a ≤ length d → Decodes (behind d (then o (λ t. some (c ∷ t)))) a b P.None
too_many d c none a b h = nothing a b
too_many d c (some t) a b h =
    let n = length-append d (c ∷ t) in
    record {
      answer = rw (lt-leb (length (d ++ c ∷ t)) (length a) (omega arith));
      bytes = λ s e l. let k : d ++ c ∷ t ≡ s = cc in let m = ap length k in absurd (omega arith);
    }

pub whole : (d a b : List ℕ) → length d ≤ length a → b ≡ d ++ drop (length d) a → Decodes (some d) a b (P.Some (length d))
whole d a b h e = record {
  answer = rw (le-leb (length d) (length a) h);
  bytes = λ s g l. let k : d ≡ s = cc in rw (← k) e;
}
