-- How base64 ends: with `}}`, or with a group in which `=` stands and `}}`. Assumes nothing.
use Prim.Native.Nat.{ℕ, suc, ◌+◌, ◌≤◌, ◌<◌}
use mathlib.Core.Path.{◌≡◌, refl, sym, ap, ◌∙◌}
use mathlib.Core.Bool.{Bool, true, false}
use mathlib.Core.List.{List, [], ◌∷◌}
use mathlib.Core.Option.{Option, none, some}
use native.Mathlib.Omega.{arith}
use lib.Dec.{eqb}
use lib.ListN.{length, drop, get_or}
use borrow.Author.Tests.{eqb-true, ne_eqb}
use Rattle.output.specs.Logic.{if, then, byte, ascii}
use Rattle.text_rules.specs.Texts.{empty, strip}
use Rattle.text_rules.specs.Base64.{bits_of, first_bytes, padded, base64_bytes}
use Rattle.tokens.specs.Blob.{until_brace, blob_rest}
use Rattle.tokens.specs.BlobSteps.{group_at, FirstBytes}
use Rattle.tokens.specs.Steps.{Copies}
use Rattle.tokens.specs.declared.quoted.Step.{Step}
use Rattle.std.specs.Prelude.{Some, None}
use Rattle.std.specs.Prelude as std
use Rattle.tokens.proofs.Keeping.{kept_all}
use Rattle.tokens.proofs.BlobChars.{clash, then_none, brace_value, none_first, none-second, none-third}
use Rattle.tokens.proofs.BlobGroups.{four_at}

-- the text before `}`, if that is at its start or not
until_here : (a : ℕ) (t : List ℕ) → eqb a (byte "}") ≡ true → until_brace (a ∷ t) ≡ []
unfolding until_brace
until_here a t e = rw e

until_next : (a : ℕ) (t : List ℕ) → eqb a (byte "}") ≡ false → until_brace (a ∷ t) ≡ a ∷ until_brace t
unfolding until_brace
until_next a t e = rw e

-- what was read, and `}}` behind it
abbrev closed : Option (List ℕ) → List ℕ → Option (List ℕ × List ℕ)
closed o t = then o (λ s. then (strip (ascii "}}") t) (λ r. some (s, r)))

-- ---- `}}` at the start

pub rest-closed : (t r : List ℕ) → strip (ascii "}}") t ≡ some r → blob_rest t ≡ some ([], r)
rest-closed [] r e = absurd (unfold strip in clash refl e)
rest-closed (a ∷ t) r e = go (eqb a (byte "}")) refl
  where
    go : (b : Bool) → eqb a (byte "}") ≡ b → blob_rest (a ∷ t) ≡ some ([], r)
    go true h = unfold blob_rest base64_bytes in rw (until_here a t h, e)
    go false h = let n : strip (ascii "}}") (a ∷ t) ≡ none = unfold strip in rw h in absurd (clash n e)

-- ---- no group is whole before `}`

short_base64 : (u : List ℕ) → 0 < length u → length u < 4 → base64_bytes u ≡ none
unfolding base64_bytes
short_base64 [] h l = absurd (omega arith)
short_base64 (a ∷ []) h l = refl
short_base64 (a ∷ b ∷ []) h l = refl
short_base64 (a ∷ b ∷ c ∷ []) h l = refl
short_base64 (a ∷ b ∷ c ∷ d ∷ u) h l = absurd (omega arith)

rest_short : (t : List ℕ) → strip (ascii "}}") t ≡ none → length (until_brace t) < 4 → blob_rest t ≡ none
unfolding blob_rest
rest_short t e l = go (until_brace t) l
  where
    go : (u : List ℕ) → length u < 4 → closed (base64_bytes u) (drop (length u) t) ≡ none
    go [] l = rw e (then_none (base64_bytes []))
    go (a ∷ u) l = rw (short_base64 (a ∷ u) (omega arith) l)

until_length : (t : List ℕ) → length (until_brace t) ≤ length t
until_length [] = unfold until_brace in omega arith
until_length (a ∷ t) = go (eqb a (byte "}")) refl (until_length t)
  where
    go : (b : Bool) → eqb a (byte "}") ≡ b → length (until_brace t) ≤ length t → length (until_brace (a ∷ t)) ≤ suc (length t)
    go true e h = rw (until_here a t e) (omega arith)
    go false e h = rw (until_next a t e) (omega arith)

pub rest_end : (t : List ℕ) → strip (ascii "}}") t ≡ none → length t < 4 → blob_rest t ≡ none
rest_end t e l = rest_short t e (omega (arith, until_length t))

-- `}` is among the first bytes
near_here : (a : ℕ) (t : List ℕ) → eqb a (byte "}") ≡ true → length (until_brace (a ∷ t)) < 1
near_here a t e = rw (until_here a t e) (omega arith)

near_next : (n a : ℕ) (t : List ℕ) → length (until_brace t) < n → length (until_brace (a ∷ t)) < suc n
near_next n a t h = go (eqb a (byte "}")) refl
  where
    go : (b : Bool) → eqb a (byte "}") ≡ b → length (until_brace (a ∷ t)) < suc n
    go true e = rw (until_here a t e) (omega arith)
    go false e = rw (until_next a t e) (omega arith)

-- ---- four bytes that are no whole group

rest-other : (a b c d : ℕ) (t : List ℕ) → strip (ascii "}}") (a ∷ b ∷ c ∷ d ∷ t) ≡ none → eqb d (byte "=") ≡ false → bits_of a b c d ≡ none → blob_rest (a ∷ b ∷ c ∷ d ∷ t) ≡ none
rest-other a b c d t h m e = go (eqb a (byte "}")) (eqb b (byte "}")) (eqb c (byte "}")) (eqb d (byte "}")) refl refl refl refl
  where
    near : (n : ℕ) → n ≤ 4 → length (until_brace (a ∷ b ∷ c ∷ d ∷ t)) < n → blob_rest (a ∷ b ∷ c ∷ d ∷ t) ≡ none
    near n k l = rest_short (a ∷ b ∷ c ∷ d ∷ t) h (omega arith)

    go : (p q r s : Bool) → eqb a (byte "}") ≡ p → eqb b (byte "}") ≡ q → eqb c (byte "}") ≡ r → eqb d (byte "}") ≡ s → blob_rest (a ∷ b ∷ c ∷ d ∷ t) ≡ none
    go true q r s ea eb ec ed = near 1 (omega arith) (near_here a _ ea)
    go false true r s ea eb ec ed = near 2 (omega arith) (near_next 1 a _ (near_here b _ eb))
    go false false true s ea eb ec ed = near 3 (omega arith) (near_next 2 a _ (near_next 1 b _ (near_here c _ ec)))
    go false false false true ea eb ec ed = near 4 (omega arith) (near_next 3 a _ (near_next 2 b _ (near_next 1 c _ (near_here d _ ed))))
    go false false false false ea eb ec ed = unfold blob_rest until_brace base64_bytes in rw (ea, eb, ec, ed, m, e)

-- `=` is the fourth
padded-none : (a b c : ℕ) → ((d : ℕ) → bits_of a b c d ≡ none) → ((d : ℕ) → bits_of a b (byte "A") d ≡ none) → padded a b c ≡ none
unfolding padded
padded-none a b c e g = rw (e (byte "A"), g (byte "A")) (go (eqb c (byte "=")))
  where
    go : (p : Bool) → if {A = Option (List ℕ)} p none none ≡ none
    go true = refl
    go false = refl

padded-third : (a b c : ℕ) → eqb c (byte "}") ≡ true → padded a b c ≡ none
padded-third a b c e = unfold padded in rw (eqb-true c (byte "}") e, none-third a b (byte "}") (byte "A") (brace_value (byte "}") refl))

ended : (o : Option (List ℕ)) (t : List ℕ) → closed (if (empty (until_brace t)) o none) (drop (length (until_brace t)) t) ≡ closed o t
ended o [] = unfold until_brace in refl
ended o (e ∷ t) = go (eqb e (byte "}")) refl
  where
    go : (p : Bool) → eqb e (byte "}") ≡ p → closed (if (empty (until_brace (e ∷ t))) o none) (drop (length (until_brace (e ∷ t))) (e ∷ t)) ≡ closed o (e ∷ t)
    go true h = rw (until_here e t h)
    go false h = let n : strip (ascii "}}") (e ∷ t) ≡ none = unfold strip in rw h in rw (until_next e t h, n) (sym (then_none o))

rest-padded : (a b c : ℕ) (t : List ℕ) → strip (ascii "}}") (a ∷ b ∷ c ∷ byte "=" ∷ t) ≡ none → blob_rest (a ∷ b ∷ c ∷ byte "=" ∷ t) ≡ closed (padded a b c) t
rest-padded a b c t h = go (eqb a (byte "}")) (eqb b (byte "}")) (eqb c (byte "}")) refl refl refl
  where
    near : (n : ℕ) → n ≤ 4 → length (until_brace (a ∷ b ∷ c ∷ byte "=" ∷ t)) < n → padded a b c ≡ none → blob_rest (a ∷ b ∷ c ∷ byte "=" ∷ t) ≡ closed (padded a b c) t
    near n k l e = rest_short (a ∷ b ∷ c ∷ byte "=" ∷ t) h (omega arith) ∙ rw e

    go : (p q r : Bool) → eqb a (byte "}") ≡ p → eqb b (byte "}") ≡ q → eqb c (byte "}") ≡ r → blob_rest (a ∷ b ∷ c ∷ byte "=" ∷ t) ≡ closed (padded a b c) t
    go true q r ea eb ec = near 1 (omega arith) (near_here a _ ea) (padded-none a b c (λ d. none_first a b c d (brace_value a ea)) (λ d. none_first a b (byte "A") d (brace_value a ea)))
    go false true r ea eb ec = near 2 (omega arith) (near_next 1 a _ (near_here b _ eb)) (padded-none a b c (λ d. none-second a b c d (brace_value b eb)) (λ d. none-second a b (byte "A") d (brace_value b eb)))
    go false false true ea eb ec = near 3 (omega arith) (near_next 2 a _ (near_next 1 b _ (near_here c _ ec))) (padded-third a b c ec)
    go false false false ea eb ec = unfold blob_rest until_brace base64_bytes in rw (ea, eb, ec) (ended (padded a b c) t)

-- ---- its bytes

padded_one : (a b : ℕ) (n : Option ℕ) → n ≡ bits_of a b (byte "A") (byte "A") → padded a b (byte "=") ≡ then n (first_bytes 1)
unfolding padded
padded_one a b n e = rw e

padded_two : (a b c : ℕ) (n : Option ℕ) → eqb c (byte "=") ≡ false → n ≡ bits_of a b c (byte "A") → padded a b c ≡ then n (first_bytes 2)
unfolding padded
padded_two a b c n h e = rw (h, e)

-- ---- at a place

module _ (text : List ℕ) (at : ℕ) (long : at + 4 ≤ length text) (unclosed : strip (ascii "}}") (drop at text) ≡ none) where
  abbrev a : ℕ
  a = get_or text at 0

  abbrev b : ℕ
  b = get_or text (at + 1) 0

  abbrev c : ℕ
  c = get_or text (at + 2) 0

  abbrev d : ℕ
  d = get_or text (at + 3) 0

  pub last-other : group_at (drop at text) ≡ none → (d ≡ byte "=" → ⊥) → blob_rest (drop at text) ≡ none
  unfolding group_at
  last-other g n =
      let f = four_at text at long in
      ap blob_rest f ∙ rest-other a b c d (drop (at + 4) text) (ap (strip (ascii "}}")) (sym f) ∙ unclosed) (ne_eqb d (byte "=") n) (ap group_at (sym f) ∙ g)

  module _ (pad : d ≡ byte "=") where
    four : drop at text ≡ a ∷ b ∷ c ∷ byte "=" ∷ drop (at + 4) text
    four = four_at text at long ∙ ap (λ (k : ℕ). a ∷ b ∷ c ∷ k ∷ drop (at + 4) text) pad

    ends : blob_rest (drop at text) ≡ closed (padded a b c) (drop (at + 4) text)
    ends = ap blob_rest four ∙ rest-padded a b c (drop (at + 4) text) (ap (strip (ascii "}}")) (sym four) ∙ unclosed)

    pub last_unclosed : strip (ascii "}}") (drop (at + 4) text) ≡ none → blob_rest (drop at text) ≡ none
    last_unclosed e = ends ∙ rw e (then_none (padded a b c))

    module _ (n : Option ℕ) (e : strip (ascii "}}") (drop (at + 4) text) ≡ some (drop (at + 4 + 2) text)) where
      behind : (w : ℕ) → padded a b c ≡ then n (first_bytes w) → blob_rest (drop at text) ≡ then (then n (first_bytes w)) (λ s. some (s, drop (at + 6) text))
      behind w h = let z : at + 4 + 2 ≡ at + 6 = omega arith in ends ∙ rw (h, e, z)

      pub last_one : c ≡ byte "=" → n ≡ bits_of a b (byte "A") (byte "A") → blob_rest (drop at text) ≡ then (then n (first_bytes 1)) (λ s. some (s, drop (at + 6) text))
      last_one g h = behind 1 (ap (padded a b) g ∙ padded_one a b n h)

      pub last_two : (c ≡ byte "=" → ⊥) → n ≡ bits_of a b c (byte "A") → blob_rest (drop at text) ≡ then (then n (first_bytes 2)) (λ s. some (s, drop (at + 6) text))
      last_two g h = behind 2 (padded_two a b c n (ne_eqb c (byte "=") g) h)

-- they were written, and the text goes on behind `}}`
pub last_copies : {text : List ℕ} {at i : ℕ} {b b' : List ℕ} {p n w : ℕ} {o : Option (List ℕ × List ℕ)} (r : std.Option Step) → suc at ≤ i → i ≤ length text → o ≡ then (first_bytes w n) (λ s. some (s, drop i text)) → FirstBytes b b' p n w i r → Copies text (suc at) b b' p o r
last_copies {text} (Some s) l h e f =
    let t = f.told in
    record { told = (t.0, e ∙ rw (t.1, t.2), omega (arith, t.2), omega (arith, t.2), t.3) }
last_copies None l h e f = let t = f.told in record { told = (e ∙ rw t.0, rw t.1 kept_all) }
