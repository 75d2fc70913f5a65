-- A scalar that is written is read back, whatever stands behind it that ends a token. Assumes nothing.
use Prim.Native.Nat.{ℕ, zero, suc, ◌≤◌, ◌<◌, ◌^◌}
use mathlib.Core.Path.{◌≡◌, refl, sym, ap, ◌∙◌}
use mathlib.Core.List.{List, [], ◌∷◌, ◌++◌, append-nil}
use mathlib.Core.Bool.{Bool, true, false}
use mathlib.Core.Option.{Option, none, some}
use native.Mathlib.Omega.{arith}
use lib.Dec.{eqb, T}
use borrow.Author.Tests.{ne_eqb}
use lib.IntN.{ℤ}
use lib.Ieee.{Float, nan, inf, fin, binary64, fits}
use lib.ListN.{length, drop, length-append}
use mir.Syntax.{w32, w64}
use mir.Val.{SFits}
use Rattle.output.specs.Logic.{if, then, byte, ascii}
use Rattle.text_rules.specs.Digits.{is_digit, run, behind_digits}
use Rattle.text_rules.specs.Texts.{starts, strip, same, ended}
use Rattle.text_rules.specs.Words.{is_start, is_part, word, behind_word, kind_of, is_identifier, is_keyword, resembles_symbol_id, resembles_version_marker, version, all_digits}
use Rattle.text_rules.specs.WordSteps.{is_bare}
use Rattle.text_rules.specs.Utf8.{valid}
use Rattle.text_rules.specs.Text.{Sym, marked, symbol_text, symbol_id_text, string_text, clob_text, blob_text, type_name, null_text, bool_text}
use Rattle.text_rules.specs.declared.words.Kind.{Kind}
use Rattle.text_rules.specs.declared.words.Kind.TheVariants.{Null, True, False, Nan, Marker, Refused}
use Rattle.tokens.specs.Quoted.{raw_rule, string, clob}
use Rattle.tokens.specs.Blob.{blob}
use Rattle.tokens.specs.Token.{word_symbol, bare_symbol, symbol, null_behind, null as nullToken}
use Rattle.numbers.specs.Decimal.{int_text, sign, decimal_text}
use Rattle.numbers.specs.declared.timestamp.Timestamp.{Timestamp}
use Rattle.numbers.specs.Timestamp.{timestamp_text, well_formed}
use Rattle.numbers.specs.Numeral.{Numeral, numeral}
use Rattle.numbers.specs.TimestampRead.{timestamp as timestampToken}
use Rattle.tape.specs.Tree.{Scalar, Node}
use Rattle.tape.specs.Tree.{null, bool, int, float, decimal, timestamp}
use Rattle.tape.specs.Fine.{FineBytes, FineFloat, FineScalar}
use Rattle.reader.specs.Grammar.{opener, opens, by_kind, words, numeral_node, numbers, numeric, braces, scalar}
use Rattle.writer.specs.Text.{sym_text, scalar_text}
use Rattle.text_rules.proofs.DigitLaws.{never}
use Rattle.text_rules.proofs.WordsLaws.{kind-nothing}
use Rattle.text_rules.proofs.WordsBack.{stops, word_back, behind_back, identifier_parts}
use Rattle.text_rules.proofs.SymbolsText.{bare_is, symbol_bare, symbol_always, symbol_either}
use Rattle.tokens.proofs.SymbolBack.{bare_kind, id_kind, symbol_back, symbol_id_back, bare_word, id_word}
use Rattle.tokens.proofs.NullBack.{null_back, null-kind}
use Rattle.tokens.proofs.WordsOther.{nan-kind}
use Rattle.tokens.proofs.QuotedBack.{string_back}
use Rattle.tokens.proofs.ClobBack.{clob_back}
use Rattle.tokens.proofs.BlobBack.{blob_back, blob_unquoted}
use Rattle.numbers.proofs.DecimalBack.{decimal_back, int_back}
use Rattle.numbers.proofs.TimestampBack.{timestamp_back}
use Rattle.floats.specs.Whole.{most_whole, whole_text, whole_number}
use Rattle.floats.specs.Value.{is_negative}
use Rattle.floats.proofs.WholeBack.{whole_back}
use Rattle.floats.proofs.WholeOnce.{none-some, if_some}
use Rattle.floats.specs.Float.{float_text, float as floatToken}
use Rattle.floats.proofs.ValueLaws.{is-whole}
use Rattle.floats.proofs.FloatLaws.{whole-text}
use Rattle.floats.proofs.FloatBack.{float_back}
use Rattle.floats.proofs.FloatApart.{timestamp-float, numeral-float}
use Rattle.claims.proofs.FirstBytes.{First, first_more, first-is, first_long, first_as, other, leads, numeric-leads, numeric-start, start-leads, number-opens, word-opens, scalar-number, scalar-word}
use Rattle.claims.proofs.NumbersApart.{Plain, number-first, ended_no_e, int_plain, decimal_plain, timestamp-number}

-- ---- words

-- a word by itself: it is one, of this kind
record Word (w : List ℕ) (k : Kind) : Type 0 where
  all : behind_word w ≡ []
  is : kind_of w ≡ k
  first : First is_start w

true-is : Word (ascii "true") True
unfolding behind_word is_part is_start kind_of same strip
true-is = record { all = refl; is = refl; first = record { byte₀ = byte "t"; rest = ascii "rue"; is = refl; tells = refl } }

false-is : Word (ascii "false") False
unfolding behind_word is_part is_start kind_of same strip
false-is = record { all = refl; is = refl; first = record { byte₀ = byte "f"; rest = ascii "alse"; is = refl; tells = refl } }

nan_is : Word (ascii "nan") Nan
unfolding behind_word is_part is_start
nan_is = record { all = refl; is = nan-kind; first = record { byte₀ = byte "n"; rest = ascii "an"; is = refl; tells = refl } }

marker_is : Word (ascii "$ion_1_0") Marker
unfolding behind_word is_part is_start is_digit kind_of same strip is_keyword resembles_version_marker version run behind_digits starts all_digits
marker_is = record { all = refl; is = refl; first = record { byte₀ = byte "$"; rest = ascii "ion_1_0"; is = refl; tells = refl } }

-- the marker
pub marker_first : First is_start (ascii "$ion_1_0")
marker_first = marker_is.first

-- By either raw rule.
module _ (old : Bool) where
  -- ---- what `symbol` makes of a text that starts as no symbol does

  refused-kind : (c : ℕ) (w : List ℕ) → is_start c ≡ false → kind_of (c ∷ w) ≡ Refused
  unfolding kind_of same strip resembles_version_marker resembles_symbol_id starts is_identifier
  refused-kind c w h =
      rw (
        start-not c 110 h (unfold is_start in refl),
        start-not c 116 h (unfold is_start in refl),
        start-not c 102 h (unfold is_start in refl),
        start-not c 36 h (unfold is_start in refl),
        h,
      )
    where
      start-not : (c x : ℕ) → is_start c ≡ false → is_start x ≡ true → eqb c x ≡ false
      start-not c x h e = ne_eqb c x (λ q. never (sym e ∙ sym (ap is_start q) ∙ h))

  pub no_symbol : (c : ℕ) (t : List ℕ) → is_start c ≡ false → eqb c (byte "'") ≡ false → symbol (raw_rule old) (c ∷ t) ≡ none
  unfolding symbol starts bare_symbol
  no_symbol c t h e = rw (e, refused)
    where
      go : (b : Bool) → kind_of (if b (c ∷ word t) []) ≡ Refused
      go true = refused-kind c (word t) h
      go false = kind-nothing

      refused : kind_of (word (c ∷ t)) ≡ Refused
      refused = unfold word in go (is_part c)

  -- a word that is no symbol
  word-symbol : (c : ℕ) (u : List ℕ) (k : Kind) → is_start c ≡ true → kind_of (word (c ∷ u)) ≡ k → word_symbol k (word (c ∷ u)) ≡ none → symbol (raw_rule old) (c ∷ u) ≡ none
  unfolding symbol starts bare_symbol
  word-symbol c u k i g j = rw (other is_start c 39 i (unfold is_start in refl), g, j)

  keyword_symbol : (t : List ℕ) (k : Kind) → First is_start t → kind_of (word t) ≡ k → ((w : List ℕ) → word_symbol k w ≡ none) → symbol (raw_rule old) t ≡ none
  keyword_symbol t k f e h = ap (symbol (raw_rule old)) f.is ∙ word-symbol f.byte₀ f.rest k f.tells (ap (λ (x : List ℕ). kind_of (word x)) (sym f.is) ∙ e) (h (word (f.byte₀ ∷ f.rest)))

  pub number-symbol : (t : List ℕ) → First numeric t → symbol (raw_rule old) t ≡ none
  number-symbol t f = ap (symbol (raw_rule old)) f.is ∙ no_symbol f.byte₀ f.rest (numeric-start f.byte₀ f.tells) (other numeric f.byte₀ 39 f.tells (unfold numeric is_digit in refl))

  -- behind it stands what ends it: it is a value, and no symbol
  module _ (w r : List ℕ) (k : Kind) (i : Word w k) (e : ended r ≡ true) where
    word-kind : kind_of (word (w ++ r)) ≡ k
    word-kind = ap kind_of (word_back w r i.all (stops r e)) ∙ i.is

    word_value : (m : Bool) (n : Node) → by_kind m k (w ++ r) ≡ some (n, behind_word (w ++ r)) → words m (w ++ r) ≡ some (n, r)
    unfolding words
    word_value m n h = rw (word-kind, h, behind_back w r i.all (stops r e))

    word_none : ((v : List ℕ) → word_symbol k v ≡ none) → symbol (raw_rule old) (w ++ r) ≡ none
    word_none h = keyword_symbol (w ++ r) k (first_more r i.first) word-kind h

  null-first : (t : ℕ) → First is_start (null_text t)
  unfolding null_text is_start
  null-first zero = record { byte₀ = byte "n"; rest = ascii "ull"; is = refl; tells = refl }
  null-first (suc t) = record { byte₀ = byte "n"; rest = ascii "ull." ++ type_name (suc t); is = rw (ne_eqb (suc t) 0 (λ q. omega arith)); tells = refl }

  null-words : (m : Bool) (t : ℕ) (r : List ℕ) → t ≤ 12 → ended r ≡ true → words m (null_text t ++ r) ≡ some (Node.scalar (null t), r)
  unfolding words
  null-words m t r h e =
      let k = null-kind t r e in
      rw (ap kind_of k.0 ∙ k.1, read)
    where
      word-is : same (ascii "null") (word (null_text t ++ r)) ≡ true
      word-is = rw (null-kind t r e).0 (unfold same strip in refl)

      read : null_behind (behind_word (null_text t ++ r)) ≡ some (t, r)
      read = let k : if (same (ascii "null") (word (null_text t ++ r))) (null_behind (behind_word (null_text t ++ r))) none ≡ some (t, r) = unfold nullToken in null_back t r h e in rw word-is at k

  null-symbol : (t : ℕ) (r : List ℕ) → ended r ≡ true → symbol (raw_rule old) (null_text t ++ r) ≡ none
  null-symbol t r e = let k = null-kind t r e in keyword_symbol (null_text t ++ r) Null (first_more r (null-first t)) (ap kind_of k.0 ∙ k.1) (λ w. refl)

  pub marker_symbol : (r : List ℕ) → ended r ≡ true → symbol (raw_rule old) (ascii "$ion_1_0" ++ r) ≡ none
  marker_symbol r e = word_none (ascii "$ion_1_0") r Marker marker_is e (λ w. refl)

  pub marker_back : (r : List ℕ) → ended r ≡ true → scalar (raw_rule old) true (ascii "$ion_1_0" ++ r) ≡ some (Node.marker, r)
  marker_back r e = scalar-word (raw_rule old) true (ascii "$ion_1_0" ++ r) (first_more r marker_first) ∙ word_value (ascii "$ion_1_0") r Marker marker_is e true Node.marker refl

  -- ---- symbols

  bare_first : (s : List ℕ) → is_bare s ≡ true → First is_start s
  bare_first [] h = never (sym (let b = bare_is [] h in unfold is_identifier in b.identifier))
  bare_first (c ∷ w) h = record { byte₀ = c; rest = w; is = refl; tells = (identifier_parts c w (bare_is (c ∷ w) h).identifier).0 }

  pub id_first : (n : ℕ) → First is_start (symbol_id_text n)
  unfolding symbol_id_text is_start
  id_first n = record { byte₀ = byte "$"; rest = _; is = refl; tells = refl }

  bare_words : (m : Bool) (s r : List ℕ) → is_bare s ≡ true → ended r ≡ true → words m (s ++ r) ≡ some (Node.scalar (Scalar.symbol (Sym.text s)), r)
  unfolding words
  bare_words m s r h e = let w = bare_word s r h e in rw (w.0, bare_kind s h, w.0, w.1)

  id_words : (m : Bool) (n : ℕ) (r : List ℕ) → n < 2 ^ 32 → ended r ≡ true → words m (symbol_id_text n ++ r) ≡ some (Node.scalar (Scalar.symbol (Sym.id n)), r)
  unfolding words
  id_words m n r h e = let w = id_word n r e in rw (w.0, id_kind n h, w.1)

  marked-scalar : (m : Bool) (s r : List ℕ) → symbol (raw_rule old) (marked (byte "'") s ++ r) ≡ some (Sym.text s, r) → scalar (raw_rule old) m (marked (byte "'") s ++ r) ≡ some (Node.scalar (Scalar.symbol (Sym.text s)), r)
  unfolding scalar
  marked-scalar m s r h = rw h

  -- what is read back of a scalar's text t, and what other rules make of it
  pub record Told (m : Bool) (s : Scalar) (t r : List ℕ) : Type 0 where
    pub reads : scalar (raw_rule old) m (t ++ r) ≡ some (Node.scalar s, r)
    pub no_bracket : opens (t ++ r) ≡ none
    pub begins : First leads (t ++ r)
    -- a symbol that is read there is the whole scalar
    pub as_symbol : Option Sym
    pub symbol-is : symbol (raw_rule old) (t ++ r) ≡ then as_symbol (λ x. some (x, r))

  word-told : (m : Bool) (s : Scalar) (t r : List ℕ) (x : Option Sym) → First is_start t → words m (t ++ r) ≡ some (Node.scalar s, r) → symbol (raw_rule old) (t ++ r) ≡ then x (λ y. some (y, r)) → Told m s t r
  word-told m s t r x f h y =
      let g = first_more r f in record {
        reads = scalar-word (raw_rule old) m (t ++ r) g ∙ h;
        no_bracket = word-opens (t ++ r) g;
        begins = first_as start-leads g;
        as_symbol = x;
        symbol-is = y;
      }

  number-told : (m : Bool) (s : Scalar) (t r : List ℕ) → First numeric (t ++ r) → numbers (t ++ r) ≡ some (Node.scalar s, r) → Told m s t r
  number-told m s t r f h = record {
    reads = scalar-number (raw_rule old) m (t ++ r) f ∙ h;
    no_bracket = number-opens (t ++ r) f;
    begins = first_as numeric-leads f;
    as_symbol = none;
    symbol-is = number-symbol (t ++ r) f;
  }

  -- a whole word that is no symbol
  keyword_told : (m : Bool) (s : Scalar) (w r : List ℕ) (k : Kind) → Word w k → ended r ≡ true → by_kind m k (w ++ r) ≡ some (Node.scalar s, behind_word (w ++ r)) → ((v : List ℕ) → word_symbol k v ≡ none) → Told m s w r
  keyword_told m s w r k i e h g = word-told m s w r none i.first (word_value w r k i e m (Node.scalar s) h) (word_none w r k i e g)

  symbol-told : (quoted m : Bool) (s r : List ℕ) → valid s ≡ true → ended r ≡ true → Told m (Scalar.symbol (Sym.text s)) (symbol_text quoted s) r
  symbol-told quoted m s r h e = symbol_either (λ t. Told m (Scalar.symbol (Sym.text s)) t r) quoted s bare marks
    where
      bare : is_bare s ≡ true → Told m (Scalar.symbol (Sym.text s)) s r
      bare i = word-told m (Scalar.symbol (Sym.text s)) s r (some (Sym.text s)) (bare_first s i) (bare_words m s r i e) (rw (symbol_bare s i) at (symbol_back false old s r h e))

      marks : Told m (Scalar.symbol (Sym.text s)) (marked (byte "'") s) r
      marks =
          let b : symbol (raw_rule old) (marked (byte "'") s ++ r) ≡ some (Sym.text s, r) = rw (symbol_always s) at (symbol_back true old s r h e) in record {
            reads = marked-scalar m s r b;
            no_bracket = unfold opens opener in refl;
            begins = record { byte₀ = byte "'"; rest = _; is = refl; tells = unfold leads numeric is_digit is_start in refl };
            as_symbol = some (Sym.text s);
            symbol-is = b;
          }

  -- ---- strings, clobs and blobs

  string-scalar : (m : Bool) (s r : List ℕ) → string (raw_rule old) (string_text s ++ r) ≡ some (s, r) → scalar (raw_rule old) m (string_text s ++ r) ≡ some (Node.scalar (Scalar.string s), r)
  unfolding string_text scalar
  string-scalar m s r h = rw h

  string-told : (m : Bool) (s r : List ℕ) → valid s ≡ true → Told m (Scalar.string s) (string_text s) r
  unfolding string_text
  string-told m s r h = record {
    reads = string-scalar m s r (string_back old s r h);
    no_bracket = unfold opens opener in refl;
    begins = record { byte₀ = byte "\""; rest = _; is = refl; tells = unfold leads numeric is_digit is_start in refl };
    as_symbol = none;
    symbol-is = no_symbol (byte "\"") _ (unfold is_start in refl) refl;
  }

  clob-scalar : (m : Bool) (s r : List ℕ) → clob (clob_text s ++ r) ≡ some (s, r) → scalar (raw_rule old) m (clob_text s ++ r) ≡ some (Node.scalar (Scalar.clob s), r)
  unfolding clob_text scalar braces starts
  clob-scalar m s r h = rw h

  clob-told : (m : Bool) (s r : List ℕ) → FineBytes s → Told m (Scalar.clob s) (clob_text s) r
  unfolding clob_text
  clob-told m s r h = record {
    reads = clob-scalar m s r (clob_back s r h.bytes);
    no_bracket = unfold opens starts in refl;
    begins = record { byte₀ = byte "{"; rest = _; is = refl; tells = unfold leads numeric is_digit is_start in refl };
    as_symbol = none;
    symbol-is = no_symbol (byte "{") _ (unfold is_start in refl) refl;
  }

  -- behind `{{` no quote mark stands
  blob-scalar : (m : Bool) (s r : List ℕ) → starts (byte "\"") (drop 2 (blob_text s ++ r)) ≡ false → blob (blob_text s ++ r) ≡ some (s, r) → scalar (raw_rule old) m (blob_text s ++ r) ≡ some (Node.scalar (Scalar.blob s), r)
  unfolding blob_text scalar braces
  blob-scalar m s r q h = rw (q, h)

  blob-told : (m : Bool) (s r : List ℕ) → FineBytes s → Told m (Scalar.blob s) (blob_text s) r
  unfolding blob_text
  blob-told m s r h = record {
    reads = blob-scalar m s r (blob_unquoted s r h.bytes) (blob_back s r h.bytes);
    no_bracket = unfold opens starts in refl;
    begins = record { byte₀ = byte "{"; rest = _; is = refl; tells = unfold leads numeric is_digit is_start in refl };
    as_symbol = none;
    symbol-is = no_symbol (byte "{") _ (unfold is_start in refl) refl;
  }

  -- ---- numbers

  -- an int or a decimal that was read up to a token's end is no float
  plain-number : (t r : List ℕ) (v : Numeral) → Plain t → numeral t ≡ some (v, r) → ended r ≡ true → numbers t ≡ some (numeral_node v, r)
  unfolding numbers
  plain-number t r v p h e = rw (numeral-float t v r h (ended_no_e r e), p.no_timestamp, h)

  int_told : (m : Bool) (n : ℤ) (r : List ℕ) → SFits w64 n → ended r ≡ true → Told m (int n) (int_text n) r
  int_told m n r h e =
      let p = int_plain n r e in
      number-told m (int n) (int_text n) r (number-first p.number) (plain-number (int_text n ++ r) r (Numeral.int n) p (int_back n r h e) e)

  decimal_told : (m neg : Bool) (k : ℕ) (x : ℤ) (r : List ℕ) → k < 2 ^ 64 → SFits w32 x → ended r ≡ true → Told m (decimal neg k x) (decimal_text neg k x) r
  decimal_told m neg k x r h f e =
      let p = decimal_plain neg k x r in
      number-told m (decimal neg k x) (decimal_text neg k x) r (number-first p.number) (plain-number (decimal_text neg k x ++ r) r (Numeral.decimal neg k x) p (decimal_back neg k x r h f e) e)

  timestamp-number_back : (x : Timestamp) (t r : List ℕ) → floatToken t ≡ none → timestampToken t ≡ some (x, r) → numbers t ≡ some (Node.scalar (timestamp x), r)
  unfolding numbers
  timestamp-number_back x t r h e = rw (h, e)

  timestamp-told : (m : Bool) (x : Timestamp) (r : List ℕ) → well_formed x ≡ true → ended r ≡ true → Told m (timestamp x) (timestamp_text x) r
  timestamp-told m x r h e =
      let b = timestamp_back x r h e in
      number-told m (timestamp x) (timestamp_text x) r (number-first (timestamp-number x r)) (timestamp-number_back x (timestamp_text x ++ r) r (timestamp-float (timestamp_text x ++ r) x r b) b)

  float-number : (x : Float) (t r : List ℕ) → floatToken t ≡ some (x, r) → numbers t ≡ some (Node.scalar (float x), r)
  unfolding numbers
  float-number x t r h = rw h

  -- a float but nan
  record Spelled (x : Float) : Type 0 where
    fits_here : T (fits binary64 x)
    starts_so : First numeric (float_text x)

  spelled-told : (m : Bool) (x : Float) (r : List ℕ) → Spelled x → ended r ≡ true → Told m (float x) (float_text x) r
  spelled-told m x r p e =
      number-told m (float x) (float_text x) r (first_more r p.starts_so) (float-number x (float_text x ++ r) r (float_back x r p.fits_here (λ q. full (sym p.starts_so.is ∙ q)) e))
    where
      full : p.starts_so.byte₀ ∷ p.starts_so.rest ≡ [] → ⊥
      full q = let z : ◌≡◌ {A = ℕ} 0 1 = cc in omega arith

  infinity_spelled : (s : Bool) → Spelled (inf s)
  unfolding float_text numeric is_digit fits
  infinity_spelled true = record { fits_here = tt; starts_so = record { byte₀ = byte "-"; rest = ascii "inf"; is = refl; tells = refl } }
  infinity_spelled false = record { fits_here = tt; starts_so = record { byte₀ = byte "+"; rest = ascii "inf"; is = refl; tells = refl } }

  -- a whole number starts with a digit
  digit-first : (t : List ℕ) (n : ℕ) (r : List ℕ) → whole_number t ≡ some (n, r) → First numeric t
  unfolding whole_number numeric
  digit-first [] n r e = none-some e
  digit-first (c ∷ t) n r e = record { byte₀ = c; rest = t; is = refl; tells = rw (if_some (is_digit c) _ _ e).0 }

  whole-first : (s : Bool) (n : ℕ) → n ≤ most_whole → First numeric (sign s ++ whole_text n)
  unfolding sign numeric is_digit
  whole-first true n h = record { byte₀ = byte "-"; rest = whole_text n; is = refl; tells = refl }
  whole-first false n h = rw append-nil at (digit-first (whole_text n ++ []) n [] (whole_back n [] h (unfold ended in refl)))

  whole-spelled : (s : Bool) (k : ℕ) (d : ℤ) → FineFloat (fin s k d) → Spelled (fin s k d)
  whole-spelled s k d h =
      let w = is-whole (fin s k d) h.0 h.1 in
      let neg = is_negative (fin s k d) in
      record { fits_here = h.0; starts_so = first-is (ap float_text w.3 ∙ whole-text neg w.0 w.1) (whole-first neg w.0 w.1) }

  nan-told : (m : Bool) (r : List ℕ) → ended r ≡ true → Told m (float nan) (float_text nan) r
  unfolding float_text
  nan-told m r e = keyword_told m (float nan) (ascii "nan") r Nan nan_is e refl (λ w. refl)

  float-told : (m : Bool) (x : Float) (r : List ℕ) → FineFloat x → ended r ≡ true → Told m (float x) (float_text x) r
  float-told m nan r h e = nan-told m r e
  float-told m (inf s) r h e = spelled-told m (inf s) r (infinity_spelled s) e
  float-told m (fin s k d) r h e = spelled-told m (fin s k d) r (whole-spelled s k d h) e

-- ---- every scalar, under either setting of the writer

pub scalar-told : (quoted old m : Bool) (s : Scalar) (r : List ℕ) → FineScalar s → ended r ≡ true → Told old m s (scalar_text quoted s) r
unfolding scalar_text sym_text bool_text
scalar-told quoted old m (null t) r h e = word-told old m (null t) (null_text t) r none (null-first old t) (null-words old m t r h e) (null-symbol old t r e)
scalar-told quoted old m (bool true) r h e = keyword_told old m (bool true) (ascii "true") r True true-is e refl (λ w. refl)
scalar-told quoted old m (bool false) r h e = keyword_told old m (bool false) (ascii "false") r False false-is e refl (λ w. refl)
scalar-told quoted old m (int n) r h e = int_told old m n r h e
scalar-told quoted old m (float x) r h e = float-told old m x r h e
scalar-told quoted old m (decimal neg k x) r h e = decimal_told old m neg k x r h.0 h.1 e
scalar-told quoted old m (timestamp x) r h e = timestamp-told old m x r h e
scalar-told quoted old m (Scalar.symbol (Sym.text s)) r h e = symbol-told old quoted m s r h.utf8 e
scalar-told quoted old m (Scalar.symbol (Sym.id n)) r h e = word-told old m (Scalar.symbol (Sym.id n)) (symbol_id_text n) r (some (Sym.id n)) (id_first old n) (id_words old m n r h e) (symbol_id_back (raw_rule old) n r h e)
scalar-told quoted old m (Scalar.string s) r h e = string-told old m s r h.utf8
scalar-told quoted old m (Scalar.clob s) r h e = clob-told old m s r h
scalar-told quoted old m (Scalar.blob s) r h e = blob-told old m s r h

-- a written scalar has a byte at least
pub scalar_long : (quoted : Bool) (s : Scalar) → FineScalar s → 1 ≤ length (scalar_text quoted s)
scalar_long quoted s h = let b = first_long (scalar_text quoted s ++ []) (scalar-told quoted true true s [] h (unfold ended in refl)).begins in omega (arith, length-append (scalar_text quoted s) [])
