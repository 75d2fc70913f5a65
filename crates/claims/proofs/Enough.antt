-- The number on which the grammar recurses is enough: for a text of n bytes every number above 2n gives the same. A value needs 2n, since it
-- passes a bracket before it leads into a sequence, and a sequence 2n + 1, since it leads into a value at the same place. Assumes nothing.
use Prim.Native.Nat.{ℕ, zero, suc, ◌*◌, ◌≤◌, ◌<◌}
use mathlib.Core.Path.{◌≡◌, refl, sym, ap, ◌∙◌}
use mathlib.Core.Bool.{Bool, true, false, ◌||◌}
use mathlib.Core.List.{List, [], ◌∷◌}
use mathlib.Core.Option.{Option, none, some}
use native.Mathlib.Omega.{arith}
use lib.Dec.{eqb}
use lib.ListN.{length, drop, length-drop}
use Rattle.output.specs.Logic.{if, then, on, byte, ascii}
use Rattle.text_rules.specs.Texts.{blank, starts, strip}
use Rattle.text_rules.specs.Words.{word, behind_word, kind_of}
use Rattle.text_rules.specs.Text.{Sym}
use Rattle.text_rules.specs.declared.words.Kind.{Kind}
use Rattle.text_rules.specs.declared.words.Kind.TheVariants.{Null, True, False, Nan, Marker, Number, Text, Refused}
use Rattle.tokens.specs.Quoted.{string, clob}
use Rattle.tokens.specs.Blob.{blob}
use Rattle.tokens.specs.Token.{symbol, null_behind}
use Rattle.floats.specs.Float.{float}
use Rattle.tokens.proofs.Shorter.{Left, unread, fewer, left_more, left-all, left_if, left_then, left_after, left_on, left_or, strip_long, word_some, string-left, clob-left, blob-left, symbol-left, null-left}
use Rattle.numbers.specs.Numeral.{numeral}
use Rattle.numbers.specs.TimestampRead.{timestamp}
use Rattle.tape.specs.Tree.{Head, Node, Nodes}
use Rattle.tape.specs.declared.Frame.{Frame}
use Rattle.tape.specs.declared.Frame.TheVariants.{Top, List as ListF, Sexp, Struct}
use Rattle.reader.specs.Grammar.{taken, skip, opens, closes, comma, gap, note, notes, field, name, head, free, by_kind, words, numeral_node, numbers, numeric, braces, scalar, within, headed, body, value, sequence, meaning}
use Rattle.reader.proofs.Shorter.{timestamp-left, numeral-left, float-left}
use Rattle.reader.proofs.Reading.{opens-some, body_nest, body_deep, body_scalar, body_nothing, value_headless, value-head, sequence_end, further, further-none, further-some, sequence_child}

-- ---- how much of a text is left behind a rule: a value takes a byte at least

left-taken : {A B : Type 0} {n : ℕ} (f : A → B) (o : Option (A × List ℕ)) → Left n o → Left n (taken f o)
left-taken f o h = left_then o _ h (λ v l. fewer l)

-- two ways on that agree on what is left
then_same : {A B : Type 0} {n : ℕ} (o : Option (A × List ℕ)) (g h : A × List ℕ → Option B) → Left n o → ((v : A × List ℕ) → length v.1 < n → g v ≡ h v) → then o g ≡ then o h
then_same none g h l e = refl
then_same (some v) g h (fewer l) e = e v l

-- ---- between tokens

skip-left : (t : List ℕ) → length (skip t) ≤ length t
unfolding skip
skip-left [] = omega arith
skip-left (c ∷ t) = go (blank c) (skip-left t)
  where
    go : (b : Bool) → length (skip t) ≤ length t → length (if b (skip t) (c ∷ t)) ≤ suc (length t)
    go true h = omega arith
    go false h = omega arith

closes-left : (k : Frame) (t u : List ℕ) → closes k t ≡ some u → length u ≤ length t
unfolding closes
closes-left Top [] u e = let z : [] ≡ u = cc in omega (arith, ap length z)
closes-left Top (c ∷ t) u e = absurd (let z : ◌≡◌ {A = ℕ} 0 1 = cc in omega arith)
closes-left ListF t u e = omega (arith, strip_long (ascii "]") t u e)
closes-left Sexp t u e = omega (arith, strip_long (ascii ")") t u e)
closes-left Struct t u e = omega (arith, strip_long (ascii "}") t u e)

-- a choice of two texts, or none
picked : (b : Bool) (t : List ℕ) (o : Option (List ℕ)) (n : ℕ) (u : List ℕ) → length t ≤ n → (o ≡ some u → length u ≤ n) → if b (some t) o ≡ some u → length u ≤ n
picked true t o n u l h e = let z : t ≡ u = cc in omega (arith, ap length z)
picked false t o n u l h e = h e

none-some : {A : Type 0} {a : A} {B : Type 0} → none ≡ some a → B
none-some e = absurd (let z : ◌≡◌ {A = ℕ} 0 1 = cc in omega arith)

comma-left : (e : ℕ) (t u : List ℕ) → comma e t ≡ some u → length u ≤ length t
unfolding comma
comma-left e t u h = picked (starts (byte ",") t) (drop 1 t) _ (length t) u (omega (arith, length-drop 1 t)) (λ g. picked (starts e t) t none (length t) u (omega arith) none-some g) h

gap-left : (k : Frame) (t u : List ℕ) → gap k t ≡ some u → length u ≤ length t
unfolding gap
gap-left Top [] u e = let z : [] ≡ u = cc in omega (arith, ap length z)
gap-left Top (c ∷ t) u e = picked (blank c) (c ∷ t) none (suc (length t)) u (omega arith) none-some e
gap-left ListF t u e = omega (arith, comma-left (byte "]") (skip t) u e, skip-left t)
gap-left Sexp [] u e = none-some e
gap-left Sexp (c ∷ t) u e = picked (blank c || eqb c (byte ")")) (c ∷ t) none (suc (length t)) u (omega arith) none-some e
gap-left Struct t u e = omega (arith, comma-left (byte "}") (skip t) u e, skip-left t)

-- By any raw rule.
module _ (is_raw : ℕ → Bool) where
  -- ---- heads

  note-left : (t : List ℕ) → Left (length t) (note is_raw t)
  unfolding note
  note-left t = left_then (symbol is_raw t) _ (symbol-left is_raw t) (λ s l. left_after (strip (ascii "::") s.1) _ (λ r e. fewer (omega (arith, strip_long (ascii "::") s.1 r e))))

  notes-left : (n : ℕ) (t : List ℕ) → Left (suc (length t)) (notes is_raw n t)
  unfolding notes
  notes-left zero t = left_on (note is_raw t) _ _ (λ s _. unread) (λ _. left-all [] t)
  notes-left (suc n) t = go (note is_raw t) (note-left t) (λ u. notes-left n u)
    where
      go : (o : Option (Sym × List ℕ)) → Left (length t) o → ((u : List ℕ) → Left (suc (length u)) (notes is_raw n u)) → Left (suc (length t)) (on o (λ s. then (notes is_raw n s.1) (λ ss. some (s.0 ∷ ss.0, ss.1))) (some ([], t)))
      go none h again = left-all [] t
      go (some s) (fewer h) again = left_then (notes is_raw n s.1) _ (again s.1) (λ ss l. fewer (omega arith))

  field-left : (t : List ℕ) → Left (length t) (field is_raw t)
  unfolding field
  field-left t =
      left_then (symbol is_raw t) _ (symbol-left is_raw t) (λ s l.
      left_after (strip (ascii ":") (skip s.1)) _ (λ r e. fewer (omega (arith, strip_long (ascii ":") (skip s.1) r e, skip-left s.1, skip-left r))))

  name-left : (k : Frame) (t : List ℕ) → Left (suc (length t)) (name is_raw k t)
  unfolding name
  name-left Top t = left-all none t
  name-left ListF t = left-all none t
  name-left Sexp t = left-all none t
  name-left Struct t = left-taken some (field is_raw t) (left_more (omega arith) (field-left t))

  head-left : (k : Frame) (t : List ℕ) → Left (suc (length t)) (head is_raw k t)
  unfolding head
  head-left k t = left_then (name is_raw k t) _ (name-left k t) (λ m l. left_then (notes is_raw 16 m.1) _ (notes-left 16 m.1) (λ ss h. fewer (omega arith)))

  -- ---- values

  words_left : (m : Bool) (t : List ℕ) → Left (length t) (words m t)
  unfolding words
  words_left m t = go (kind_of (word t)) refl
    where
      go : (k : Kind) → kind_of (word t) ≡ k → Left (length t) (by_kind m k t)
      go Null e = left-taken _ (null_behind (behind_word t)) (left_more (word_some t (λ r. let z : ◌≡◌ {A = ℕ} 0 1 = cc in omega arith)) (null-left (behind_word t)))
      go True e = fewer (word_some t (λ r. let z : ◌≡◌ {A = ℕ} 0 1 = cc in omega arith))
      go False e = fewer (word_some t (λ r. let z : ◌≡◌ {A = ℕ} 0 1 = cc in omega arith))
      go Nan e = fewer (word_some t (λ r. let z : ◌≡◌ {A = ℕ} 0 1 = cc in omega arith))
      go Marker e = left_if m (λ _. fewer (word_some t (λ r. let z : ◌≡◌ {A = ℕ} 0 1 = cc in omega arith))) (λ _. unread)
      go (Number n) e = fewer (word_some t (λ r. let z : ◌≡◌ {A = ℕ} 0 1 = cc in omega arith))
      go Text e = fewer (word_some t (λ r. let z : ◌≡◌ {A = ℕ} 0 1 = cc in omega arith))
      go Refused e = unread

  numbers-left : (t : List ℕ) → Left (length t) (numbers t)
  unfolding numbers
  numbers-left t =
      left_or (taken _ (float t)) _ (left-taken _ (float t) (float-left t))
      (left_or (taken _ (timestamp t)) _ (left-taken _ (timestamp t) (timestamp-left t)) (left-taken numeral_node (numeral t) (numeral-left t)))

  braces-left : (t : List ℕ) → Left (length t) (braces t)
  unfolding braces
  braces-left t = left_if (starts (byte "\"") (drop 2 t)) (λ _. left-taken _ (clob t) (clob-left t)) (λ _. left-taken _ (blob t) (blob-left t))

  scalar-left : (m : Bool) (t : List ℕ) → Left (length t) (scalar is_raw m t)
  unfolding scalar
  scalar-left m [] = unread
  scalar-left m (c ∷ t) =
      left_if (eqb c (byte "\"")) (λ _. left-taken _ (string is_raw (c ∷ t)) (string-left is_raw (c ∷ t))) (λ _.
      left_if (eqb c (byte "'")) (λ _. left-taken _ (symbol is_raw (c ∷ t)) (symbol-left is_raw (c ∷ t))) (λ _.
      left_if (eqb c (byte "{")) (λ _. braces-left (c ∷ t)) (λ _.
      left_if (numeric c) (λ _. numbers-left (c ∷ t)) (λ _. words_left m (c ∷ t)))))

  -- a container, by what is left inside it
  nest_left : (f : ℕ) (m : Bool) (l : ℕ) (t : List ℕ) → ((k : Frame) (j : ℕ) (u : List ℕ) → Left (suc (length u)) (sequence is_raw f k j u)) → Left (length t) (body is_raw (suc f) m l t)
  unfolding body
  nest_left f m l t again = left_on (opens t) _ _ (λ k e. inside l k (opens-some t k e)) (λ _. scalar-left m t)
    where
      inside : (l : ℕ) (k : Frame) → length (drop 1 t) < length t → Left (length t) (within l (λ j. taken (Node.nest k) (sequence is_raw f k j (drop 1 t))))
      inside zero k h = unread
      inside (suc j) k h = left-taken _ (sequence is_raw f k j (drop 1 t)) (left_more h (again k j (drop 1 t)))

  -- a value with its head, by what is left behind its body
  value-by : (f : ℕ) (k : Frame) (l : ℕ) (t : List ℕ) → ((m : Bool) (u : List ℕ) → Left (length u) (body is_raw f m l u)) → Left (length t) (headed is_raw (λ m u. body is_raw f m l u) k t)
  value-by f k l t again =
      left_then (head is_raw k t) _ (head-left k t) (λ h i. left_then (body is_raw f (free k h.0.1) l h.1) _ (again (free k h.0.1) h.1) (λ n j. fewer (omega arith)))

  -- a sequence, by what is left behind a value and behind the rest
  run-left : (f : ℕ) (k : Frame) (l : ℕ) (t : List ℕ) → ((m : Bool) (u : List ℕ) → Left (length u) (body is_raw f m l u)) → ((u : List ℕ) → Left (suc (length u)) (sequence is_raw f k l u)) → Left (suc (length t)) (sequence is_raw (suc f) k l t)
  unfolding body
  run-left f k l t each again =
      let s = skip-left t in
      left_on (closes k (skip t)) _ _ (λ r e. fewer (omega (arith, closes-left k (skip t) r e))) (λ _.
      left_then (headed is_raw (λ m u. body is_raw f m l u) k (skip t)) _ (value-by f k l (skip t) each) (λ n i.
      left_after (gap k n.1) _ (λ u e.
      left_then (sequence is_raw f k l u) _ (again u) (λ ns j. fewer (omega (arith, gap-left k n.1 u e))))))

  mutual
    unfolding body

    body_left : (f : ℕ) (m : Bool) (l : ℕ) (t : List ℕ) → Left (length t) (body is_raw f m l t)
    body_left zero m l t = unread
    body_left (suc f) m l t = nest_left f m l t (λ k j u. sequence_left f k j u)

    sequence_left : (f : ℕ) (k : Frame) (l : ℕ) (t : List ℕ) → Left (suc (length t)) (sequence is_raw f k l t)
    sequence_left zero k l t = unread
    sequence_left (suc f) k l t = run-left f k l t (λ m u. body_left f m l u) (λ u. sequence_left f k l u)

  value-left : (f : ℕ) (k : Frame) (l : ℕ) (t : List ℕ) → Left (length t) (value is_raw f k l t)
  unfolding value
  value-left f k l t = value-by f k l t (λ m u. body_left f m l u)

  -- ---- two numbers that are enough give the same

  -- two numbers of which one is 0 are enough for the empty text alone
  body_empty : (f g : ℕ) (m : Bool) (l : ℕ) (t : List ℕ) → 2 * length t ≤ 0 → body is_raw f m l t ≡ body is_raw g m l t
  unfolding opens scalar
  body_empty f g m l [] h = body_nothing is_raw f m l [] refl refl ∙ sym (body_nothing is_raw g m l [] refl refl)
  body_empty f g m l (c ∷ t) h = absurd (omega arith)

  -- a value, by the sequence inside it
  nest_same : (f g : ℕ) (m : Bool) (l : ℕ) (t : List ℕ) → ((k : Frame) (j : ℕ) (u : List ℕ) → 2 * length u < f → 2 * length u < g → sequence is_raw f k j u ≡ sequence is_raw g k j u) → 2 * length t ≤ suc f → 2 * length t ≤ suc g
      → body is_raw (suc f) m l t ≡ body is_raw (suc g) m l t
  nest_same f g m l t again h i = go (opens t) refl l
    where
      go : (o : Option Frame) → opens t ≡ o → (l : ℕ) → body is_raw (suc f) m l t ≡ body is_raw (suc g) m l t
      go none e l = body_scalar is_raw f m l t e ∙ sym (body_scalar is_raw g m l t e)
      go (some k) e zero = body_deep is_raw (suc f) m t k e ∙ sym (body_deep is_raw (suc g) m t k e)
      go (some k) e (suc j) =
          let s = opens-some t k e in
          body_nest is_raw f m j t k (sequence is_raw g k j (drop 1 t)) e (again k j (drop 1 t) (omega arith) (omega arith)) ∙ sym (body_nest is_raw g m j t k (sequence is_raw g k j (drop 1 t)) e refl)

  -- a sequence, by its first child and what follows it
  module _ (f g : ℕ) (k : Frame) (l : ℕ) (t : List ℕ) (h : 2 * length t ≤ f) (i : 2 * length t ≤ g) (value_same : (m : Bool) (u : List ℕ) → 2 * length u ≤ f → 2 * length u ≤ g → body is_raw f m l u ≡ body is_raw g m l u) (again : (u : List ℕ) → 2 * length u < f → 2 * length u < g → sequence is_raw f k l u ≡ sequence is_raw g k l u) where
    headed-same : (u : List ℕ) → length u ≤ length t → value is_raw f k l u ≡ value is_raw g k l u
    headed-same u n = go (head is_raw k u) refl (head-left k u)
      where
        go : (o : Option (Head × List ℕ)) → head is_raw k u ≡ o → Left (suc (length u)) o → value is_raw f k l u ≡ value is_raw g k l u
        go none e j = value_headless is_raw f k l u e ∙ sym (value_headless is_raw g k l u e)
        go (some x) e (fewer j) =
            value-head is_raw f k l u x.1 x.0 _ e (value_same (free k x.0.1) x.1 (omega arith) (omega arith)) ∙ sym (value-head is_raw g k l u x.1 x.0 _ e refl)

    further_same : (v : (Head × Node) × List ℕ) → length v.1 < length t → further is_raw f l k v ≡ further is_raw g l k v
    further_same v j = go (gap k v.1) refl
      where
        go : (o : Option (List ℕ)) → gap k v.1 ≡ o → further is_raw f l k v ≡ further is_raw g l k v
        go none e = further-none is_raw f l k v.0 v.1 e ∙ sym (further-none is_raw g l k v.0 v.1 e)
        go (some u) e =
            let n = gap-left k v.1 u e in
            further-some is_raw f l k v.0 v.1 u _ e (again u (omega arith) (omega arith)) ∙ sym (further-some is_raw g l k v.0 v.1 u _ e refl)

    child_same : sequence is_raw (suc f) k l t ≡ sequence is_raw (suc g) k l t
    child_same = go (closes k (skip t)) refl
      where
        go : (o : Option (List ℕ)) → closes k (skip t) ≡ o → sequence is_raw (suc f) k l t ≡ sequence is_raw (suc g) k l t
        go (some r) e = sequence_end is_raw f l k t r e ∙ sym (sequence_end is_raw g l k t r e)
        go none e =
            let s = skip-left t in
            sequence_child is_raw f l k t (value is_raw g k l (skip t)) e (headed-same (skip t) s)
            ∙ then_same (value is_raw g k l (skip t)) (further is_raw f l k) (further is_raw g l k) (value-left g k l (skip t)) (λ v j. further_same v (omega arith))
            ∙ sym (sequence_child is_raw g l k t (value is_raw g k l (skip t)) e refl)

  mutual
    body_same : (f g : ℕ) (m : Bool) (l : ℕ) (t : List ℕ) → 2 * length t ≤ f → 2 * length t ≤ g → body is_raw f m l t ≡ body is_raw g m l t
    body_same zero g m l t h i = body_empty zero g m l t h
    body_same (suc f) zero m l t h i = body_empty (suc f) zero m l t i
    body_same (suc f) (suc g) m l t h i = nest_same f g m l t (λ k j u a b. sequence_same f g k j u a b) h i

    sequence_same : (f g : ℕ) (k : Frame) (l : ℕ) (t : List ℕ) → 2 * length t < f → 2 * length t < g → sequence is_raw f k l t ≡ sequence is_raw g k l t
    sequence_same zero g k l t h i = absurd (omega arith)
    sequence_same (suc f) zero k l t h i = absurd (omega arith)
    sequence_same (suc f) (suc g) k l t h i = child_same f g k l t (omega arith) (omega arith) (λ m u a b. body_same f g m l u a b) (λ u a b. sequence_same f g k l u a b)

  pub sequence_enough : (f : ℕ) (k : Frame) (left : ℕ) (t : List ℕ) → suc (2 * length t) ≤ f → sequence is_raw f k left t ≡ sequence is_raw (suc (2 * length t)) k left t
  sequence_enough f k left t h = sequence_same f (suc (2 * length t)) k left t h (omega arith)

  pub body_enough : (f : ℕ) (m : Bool) (left : ℕ) (t : List ℕ) → 2 * length t ≤ f → body is_raw f m left t ≡ body is_raw (2 * length t) m left t
  body_enough f m left t h = body_same f (2 * length t) m left t h (omega arith)

  -- what a text means does not depend on the number
  pub meaning_enough : (f : ℕ) (t : List ℕ) → suc (2 * length t) ≤ f → meaning is_raw t ≡ then (sequence is_raw f Top 64 t) (λ r. some r.0)
  unfolding meaning
  meaning_enough f t h = ap (λ (o : Option (Nodes × List ℕ)). then o (λ r. some r.0)) (sym (sequence_enough f Top 64 t h))
