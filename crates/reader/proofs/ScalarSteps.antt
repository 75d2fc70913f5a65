-- The steps of reading scalars, as laws of what the contracts say. Assumes nothing.
use Prim.Native.Nat.{ℕ, suc, ◌+◌, ◌-◌, ◌≤◌, ◌<◌, min}
use mathlib.Core.Path.{◌≡◌, refl, sym, ap, subst, ◌∙◌}
use mathlib.Core.List.{List, ◌∷◌}
use mathlib.Core.Bool.{Bool, true, false}
use mathlib.Core.Option.{Option, none, some}
use native.Mathlib.Omega.{arith}
use lib.Ieee.{Float}
use lib.ListN.{length, drop, get_or, drop_of_length-le}
use lib.Seq.{drop-drop}
use borrow.Author.Tests.{eq-eqb, ne_eqb}
use Rattle.output.specs.Logic.{byte}
use Rattle.output.specs.Wrote.{Wrote, limit, le_bytes}
use Rattle.text_rules.specs.Reading.{Reads}
use Rattle.text_rules.specs.Texts.{starts, same}
use Rattle.text_rules.specs.Words.{word, behind_word, kind_of}
use Rattle.text_rules.specs.WordSteps.{WordAt}
use Rattle.text_rules.specs.declared.words.Kind.{Kind}
use Rattle.text_rules.specs.declared.words.Kind.TheVariants.{Null, True, False, Nan, Marker, Number, Text, Refused}
use Rattle.text_rules.specs.declared.words.Word.{Word}
use Rattle.text_rules.proofs.Places.{byte_at, end-at, next}
use Rattle.text_rules.proofs.DigitLaws.{never}
use Rattle.tokens.specs.Quoted.{quoted, string, clob}
use Rattle.tokens.specs.Blob.{blob}
use Rattle.tokens.specs.Steps.{Copies}
use Rattle.tokens.specs.Token.{symbol, null_behind}
use Rattle.tokens.specs.declared.quoted.Step.{Step}
use Rattle.std.specs.Prelude.{Some, None}
use Rattle.std.specs.Prelude as std
use Rattle.tokens.proofs.TokensLaws.{word_ahead}
use Rattle.numbers.specs.Numeral.{Numeral, numeral}
use Rattle.numbers.specs.TimestampRead.{timestamp}
use Rattle.numbers.specs.declared.timestamp.Timestamp.{Timestamp}
use Rattle.floats.specs.Float.{float}
use Rattle.floats.proofs.FloatApart.{timestamp-float, numeral-float}
use Rattle.tape.specs.Tree.{Scalar, Node, sized, encode_sym, encode_scalar, encode}
use Rattle.reader.specs.Grammar.{taken, by_kind, words, numeral_node, numbers, numeric, braces, scalar}
use Rattle.reader.specs.Steps.{Laid, Read, string_node, clob_node, blob_node, null_node, float_node, untimed_number}
use Rattle.reader.proofs.Laying.{laid, laid-sized}

-- ---- what was read, as a node

pub taken_none : {A : Type 0} {o : Option (A × List ℕ)} (f : A → Node) → o ≡ none → taken f o ≡ none
taken_none f e = rw e

pub read_some : {A : Type 0} {text : List ℕ} {lo e p q : ℕ} {o : Option (A × List ℕ)} {b b' : List ℕ} (f : A → Node) (x : A) → Reads text lo o (some (x, e)) → Wrote b b' p q (encode (f x)) → Read encode text lo b b' p (taken f o) (Some record { at = e; pos = q })
read_some f x r w = (f x, rw r.is, r.place.0, r.place.1, laid w)

-- text that was written before its length
copied : {text : List ℕ} {lo s p a e z : ℕ} {o : Option (List ℕ × List ℕ)} {b b1 b2 : List ℕ} (k : ℕ) (f : List ℕ → Node) → ((x : List ℕ) → encode (f x) ≡ k ∷ sized x)
    → s ≡ min (p + 5) limit → Copies text lo b b1 s o (Some record { at = a; pos = e }) → Wrote b1 b2 p z (k ∷ le_bytes 4 (e - s)) → Read encode text lo b b2 p (taken f o) (Some record { at = a; pos = e })
copied {p = p} {e = e} {b = b} {b2 = b2} k f same m c w =
    let g = c.told in
    (f g.0, rw g.1, g.2, g.3, subst (Laid b b2 p e) (sym (same g.0)) (laid-sized k m (laid g.4) w))

pub copied_clob : {text : List ℕ} {lo s p a e z : ℕ} {o : Option (List ℕ × List ℕ)} {b b1 b2 : List ℕ} → s ≡ min (p + 5) limit → Copies text lo b b1 s o (Some record { at = a; pos = e }) → Wrote b1 b2 p z (9 ∷ le_bytes 4 (e - s)) → Read encode text lo b b2 p (taken clob_node o) (Some record { at = a; pos = e })
unfolding encode encode_scalar
copied_clob m c w = copied 9 clob_node (λ x. refl) m c w

pub copied_blob : {text : List ℕ} {lo s p a e z : ℕ} {o : Option (List ℕ × List ℕ)} {b b1 b2 : List ℕ} → s ≡ min (p + 5) limit → Copies text lo b b1 s o (Some record { at = a; pos = e }) → Wrote b1 b2 p z (15 ∷ le_bytes 4 (e - s)) → Read encode text lo b b2 p (taken blob_node o) (Some record { at = a; pos = e })
unfolding encode encode_scalar
copied_blob m c w = copied 15 blob_node (λ x. refl) m c w

-- ---- what starts with `{{`

module _ (text : List ℕ) (at : ℕ) where
  behind-braces : drop 2 (drop at text) ≡ drop (at + 2) text
  behind-braces = drop-drop 2 at text

  pub braces-clob : at + 2 < length text → get_or text (at + 2) 0 ≡ byte "\"" → braces (drop at text) ≡ taken clob_node (clob (drop at text))
  unfolding braces starts
  braces-clob j h = rw (behind-braces, byte_at text (at + 2) j, eq-eqb _ _ h)

  pub braces-other : at + 2 < length text → (get_or text (at + 2) 0 ≡ byte "\"" → ⊥) → braces (drop at text) ≡ taken blob_node (blob (drop at text))
  unfolding braces starts
  braces-other j n = rw (behind-braces, byte_at text (at + 2) j, ne_eqb _ _ n)

  -- nothing stands behind them
  pub braces-end : length text ≤ at + 2 → braces (drop at text) ≡ taken blob_node (blob (drop at text))
  unfolding braces starts
  braces-end j = rw (behind-braces, drop_of_length-le text {i = at + 2} j)

-- ---- strings

-- By any raw rule.
module _ (is_raw : ℕ → Bool) where
  marked : (t : List ℕ) → starts (byte "\"") t ≡ true → string is_raw t ≡ quoted is_raw (byte "\"") (drop 1 t)
  unfolding string
  marked t h = rw h

  module _ (text : List ℕ) (at : ℕ) (i : at < length text) (h : get_or text at 0 ≡ byte "\"") where
    string-is : string is_raw (drop at text) ≡ quoted is_raw (byte "\"") (drop (at + 1) text)
    string-is = marked (drop at text) (ap (starts (byte "\"")) (byte_at text at i) ∙ unfold starts in eq-eqb _ _ h) ∙ ap (quoted is_raw (byte "\"")) (next text at)

    pub string-none : quoted is_raw (byte "\"") (drop (at + 1) text) ≡ none → taken string_node (string is_raw (drop at text)) ≡ none
    string-none e = taken_none string_node (string-is ∙ e)

    pub copied_string : {s p a e z : ℕ} {b b1 b2 : List ℕ} → s ≡ min (p + 5) limit → Copies text (suc (at + 1)) b b1 s (quoted is_raw (byte "\"") (drop (at + 1) text)) (Some record { at = a; pos = e }) → Wrote b1 b2 p z (8 ∷ le_bytes 4 (e - s))
        → Read encode text (suc at) b b2 p (taken string_node (string is_raw (drop at text))) (Some record { at = a; pos = e })
    unfolding encode encode_scalar
    copied_string m c w =
        let r = copied 8 string_node (λ x. refl) m c w in
        (r.0, ap (taken string_node) string-is ∙ r.1, omega (arith, r.2), r.3, r.4)

-- ---- bare words

words-is : (m : Bool) (t : List ℕ) (k : Kind) → kind_of (word t) ≡ k → words m t ≡ by_kind m k t
unfolding words
words-is m t k e = rw e

abbrev refused : Kind → Bool
refused Null = false
refused True = false
refused False = false
refused Nan = false
refused Marker = false
refused (Number n) = false
refused Text = false
refused Refused = true

module _ {text : List ℕ} {at : ℕ} {w : Word} (a : WordAt text at w) (m : Bool) where
  read_ahead : (k : Kind) → w.kind ≡ k → refused k ≡ false → at < w.end
  read_ahead k e z = word_ahead a (λ r. never (sym (ap refused (sym e ∙ r)) ∙ z))

  pub word_none : (k : Kind) → w.kind ≡ k → by_kind m k (drop at text) ≡ none → words m (drop at text) ≡ none
  word_none k e h = words-is m (drop at text) k (sym a.kind ∙ e) ∙ h

  pub word_here : {p q : ℕ} {b b' : List ℕ} (k : Kind) (n : Node) → w.kind ≡ k → refused k ≡ false → by_kind m k (drop at text) ≡ some (n, behind_word (drop at text)) → Wrote b b' p q (encode n)
      → Read encode text (suc at) b b' p (words m (drop at text)) (Some record { at = w.end; pos = q })
  word_here k n e z h v =
      (n, words-is m (drop at text) k (sym a.kind ∙ e) ∙ h ∙ ap (λ (l : List ℕ). some (n, l)) (sym a.rest), read_ahead k e z, a.inside, laid v)

  pub word-null : (p : ℕ) (b b' : List ℕ) (r : std.Option Step) → w.kind ≡ Null → Read encode text w.end b b' p (taken null_node (null_behind (drop w.end text))) r → Read encode text (suc at) b b' p (words m (drop at text)) r
  word-null p b b' r e h = go r h
    where
      is : words m (drop at text) ≡ taken null_node (null_behind (drop w.end text))
      is = words-is m (drop at text) Null (sym a.kind ∙ e) ∙ ap (λ (t : List ℕ). taken null_node (null_behind t)) (sym a.rest)

      go : (s : std.Option Step) → Read encode text w.end b b' p (taken null_node (null_behind (drop w.end text))) s → Read encode text (suc at) b b' p (words m (drop at text)) s
      go (Some s) g = (g.0, is ∙ g.1, omega (arith, read_ahead Null e refl, g.2), g.3, g.4)
      go None g = (is ∙ g.0, g.1)

-- ---- numbers

abbrev pub timestamp_node : Timestamp → Node
timestamp_node x = Node.scalar (Scalar.timestamp x)

pub untimed_float : (t u : List ℕ) {x : Float} → float t ≡ some (x, u) → untimed_number t ≡ some (float_node x, u)
unfolding untimed_number
untimed_float t u e = rw e

pub untimed_other : (t : List ℕ) → float t ≡ none → untimed_number t ≡ taken numeral_node (numeral t)
unfolding untimed_number
untimed_other t e = rw e

-- an int or a decimal without `e` behind it is no float's beginning
pub untimed_numeral : {text : List ℕ} {at e p q : ℕ} {b b' : List ℕ} (v : Numeral) → Reads text (suc at) (numeral (drop at text)) (some (v, e)) → starts (byte "e") (drop e text) ≡ false → Wrote b b' p q (encode (numeral_node v))
    → Read encode text (suc at) b b' p (untimed_number (drop at text)) (Some record { at = e; pos = q })
untimed_numeral {text} {at} {e} v r h w =
    let t = drop at text in
    (numeral_node v, untimed_other t (numeral-float t v (drop e text) r.is h) ∙ rw r.is, r.place.0, r.place.1, laid w)

-- a timestamp is no float
pub number-timed : (t u : List ℕ) (x : Timestamp) → timestamp t ≡ some (x, u) → numbers t ≡ some (timestamp_node x, u)
unfolding numbers
number-timed t u x e = rw (timestamp-float t x u e, e)

pub number_untimed : (t : List ℕ) → timestamp t ≡ none → numbers t ≡ untimed_number t
unfolding numbers untimed_number
number_untimed t e = rw e

-- ---- a scalar, by its first byte

-- By any raw rule.
module _ (is_raw : ℕ → Bool) where
  pub scalar-end : (m : Bool) (text : List ℕ) (at : ℕ) → at ≡ length text → scalar is_raw m (drop at text) ≡ none
  unfolding scalar
  scalar-end m text at h = rw (end-at text at h)

  module _ (m : Bool) (text : List ℕ) (at : ℕ) (i : at < length text) where
    pub scalar-string : get_or text at 0 ≡ byte "\"" → scalar is_raw m (drop at text) ≡ taken string_node (string is_raw (drop at text))
    unfolding scalar
    scalar-string h = rw (byte_at text at i, eq-eqb _ _ h)

    module _ (s : get_or text at 0 ≡ byte "\"" → ⊥) where
      scalar-symbol : get_or text at 0 ≡ byte "'" → scalar is_raw m (drop at text) ≡ taken (λ x. Node.scalar (Scalar.symbol x)) (symbol is_raw (drop at text))
      unfolding scalar
      scalar-symbol h = rw (byte_at text at i, ne_eqb _ _ s, eq-eqb _ _ h)

      pub scalar-quoted : (p : ℕ) (b b' : List ℕ) (r : std.Option Step) → get_or text at 0 ≡ byte "'" → Read encode_sym text (suc at) b b' p (symbol is_raw (drop at text)) r → Read encode text (suc at) b b' p (scalar is_raw m (drop at text)) r
      unfolding encode encode_scalar
      scalar-quoted p b b' (Some s) h g = (Node.scalar (Scalar.symbol g.0), scalar-symbol h ∙ rw g.1, g.2, g.3, g.4)
      scalar-quoted p b b' None h g = (scalar-symbol h ∙ rw g.0, g.1)

      module _ (q : get_or text at 0 ≡ byte "'" → ⊥) where
        pub scalar-braces : get_or text at 0 ≡ byte "{" → scalar is_raw m (drop at text) ≡ braces (drop at text)
        unfolding scalar
        scalar-braces h = rw (byte_at text at i, ne_eqb _ _ s, ne_eqb _ _ q, eq-eqb _ _ h)

        module _ (z : get_or text at 0 ≡ byte "{" → ⊥) where
          pub scalar-number : numeric (get_or text at 0) ≡ true → scalar is_raw m (drop at text) ≡ numbers (drop at text)
          unfolding scalar
          scalar-number h = rw (byte_at text at i, ne_eqb _ _ s, ne_eqb _ _ q, ne_eqb _ _ z, h)

          pub scalar-word : numeric (get_or text at 0) ≡ false → scalar is_raw m (drop at text) ≡ words m (drop at text)
          unfolding scalar
          scalar-word h = rw (byte_at text at i, ne_eqb _ _ s, ne_eqb _ _ q, ne_eqb _ _ z, h)
