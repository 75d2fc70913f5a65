-- The grammar under a map of texts: what is read at a text by one raw rule is read at the mapped text by another, with the rest mapped, if every rule of
-- tokens keeps the map. Assumes nothing.
use Prim.Native.Nat.{ℕ, zero, suc, ◌*◌, ◌≤◌}
use mathlib.Core.Path.{◌≡◌, refl, ◌∙◌}
use mathlib.Core.Bool.{Bool, true, false}
use mathlib.Core.List.{List, [], ◌∷◌, ◌++◌}
use mathlib.Core.Option.{Option, none, some}
use native.Mathlib.Omega.{arith}
use lib.Dec.{eqb}
use lib.ListN.{length, drop}
use borrow.Author.Tests.{eqb-true}
use Rattle.output.specs.Logic.{if, then, on, byte, ascii}
use Rattle.text_rules.specs.Texts.{starts, strip}
use Rattle.text_rules.specs.Text.{Sym}
use Rattle.tokens.specs.Quoted.{Mark, symbol_mark, string_mark, quote, character, characters, quoted, string}
use Rattle.tokens.specs.Token.{bare_symbol, quoted_symbol, symbol}
use Rattle.tokens.proofs.BlobChars.{clash, then_some}
use Rattle.tape.specs.Tree.{Scalar, Node, Nodes}
use Rattle.tape.specs.declared.Frame.{Frame}
use Rattle.tape.specs.declared.Frame.TheVariants.{Top, List as ListF, Sexp, Struct}
use Rattle.reader.specs.Grammar.{taken, skip, opener, closes, gap, free, words, numbers, numeric, braces, opens, within, note, notes, field, name, head, scalar, headed, body, sequence, meaning}
use Rattle.converter.proofs.Bytes.{plain}
use Rattle.converter.proofs.Image.{mapped, mapped_rest, chosen}
use Rattle.converter.proofs.Carried.{Carried, lost, carried_image, carried_then, carried_taken, carried_on, carried_rest, carried_group}

-- ---- the laws

-- the first byte d of the mapped text is of the same kinds as the text's, c
pub record First (m : List ℕ → List ℕ) (c : ℕ) (t : List ℕ) : Type 0 where
  pub d : ℕ
  pub u : List ℕ
  pub is : m (c ∷ t) ≡ d ∷ u
  pub as_string : eqb d (byte "\"") ≡ eqb c (byte "\"")
  pub as_symbol : eqb d (byte "'") ≡ eqb c (byte "'")
  pub as_brace : eqb d (byte "{") ≡ eqb c (byte "{")
  pub as_number : numeric d ≡ numeric c

-- m keeps every rule, and quoted characters that are read by p go over into ones that are read by q
pub record Laws (p q : ℕ → Bool) (m : List ℕ → List ℕ) : Type 0 where
  pub longer : (t : List ℕ) → length t ≤ length (m t)
  pub first : (c : ℕ) (t : List ℕ) → First m c t
  pub blanks : (t : List ℕ) → skip (m t) ≡ m (skip t)
  pub end : (k : Frame) (t : List ℕ) → closes k (m t) ≡ mapped_rest m (closes k t)
  pub between : (k : Frame) (t : List ℕ) → gap k (m t) ≡ mapped_rest m (gap k t)
  pub opening : (t : List ℕ) → opens (m t) ≡ opens t
  pub opened : (t : List ℕ) (k : Frame) → opens t ≡ some k → drop 1 (m t) ≡ m (drop 1 t)
  pub fixed : (w : List ℕ) → plain w ≡ true → (t : List ℕ) → strip w (m t) ≡ mapped_rest m (strip w t)
  pub mark : {b : ℕ} → Mark b → (t : List ℕ) → quote b (m t) ≡ mapped_rest m (quote b t)
  pub one : (t : List ℕ) → Carried m (character p t) (character q (m t))
  pub bare : (t : List ℕ) → bare_symbol (m t) ≡ mapped m (bare_symbol t)
  pub braced : (t : List ℕ) → Carried m (braces t) (braces (m t))
  pub number : (t : List ℕ) → numbers (m t) ≡ mapped m (numbers t)
  pub bare_word : (b : Bool) (t : List ℕ) → words b (m t) ≡ mapped m (words b t)

-- ---- symbols and strings, by their marks

symbol-mark : (is_raw : ℕ → Bool) (t : List ℕ) → symbol is_raw t ≡ on (quote (byte "'") t) (quoted_symbol is_raw) (bare_symbol t)
unfolding symbol starts quote
symbol-mark is_raw [] = refl
symbol-mark is_raw (c ∷ t) = go (eqb c (byte "'"))
  where
    go : (b : Bool) → if b (quoted_symbol is_raw t) (bare_symbol (c ∷ t)) ≡ on (if b (some t) none) (quoted_symbol is_raw) (bare_symbol (c ∷ t))
    go true = refl
    go false = refl

string-mark : (is_raw : ℕ → Bool) (t : List ℕ) → string is_raw t ≡ then (quote (byte "\"") t) (quoted is_raw (byte "\""))
unfolding string starts quote
string-mark is_raw [] = refl
string-mark is_raw (c ∷ t) = go (eqb c (byte "\""))
  where
    go : (b : Bool) → if b (quoted is_raw (byte "\"") t) none ≡ then (if b (some t) none) (quoted is_raw (byte "\""))
    go true = refl
    go false = refl

module _ (p q : ℕ → Bool) (m : List ℕ → List ℕ) (laws : Laws p q m) where
  characters_carried : {b : ℕ} → Mark b → (f g : ℕ) → f ≤ g → (t : List ℕ) → Carried m (characters p f b t) (characters q g b (m t))
  unfolding characters
  characters_carried h zero g l t = lost
  characters_carried h (suc f) zero l t = absurd (omega arith)
  characters_carried {b} h (suc f) (suc g) l t =
      carried_on (quote b t) _ _ (laws.mark h t) (λ r. carried_image (some ([], r)) refl)
      (carried_then (character p t) _ _ (laws.one t) (λ v. carried_then (characters p f b v.1) _ _ (characters_carried h f g (omega arith) v.1) (λ vs. carried_image (some (v.0 ++ vs.0, vs.1)) refl)))

  quoted_carried : {b : ℕ} → Mark b → (t : List ℕ) → Carried m (quoted p b t) (quoted q b (m t))
  unfolding quoted
  quoted_carried h t = characters_carried h (suc (length t)) (suc (length (m t))) (omega (arith, laws.longer t)) t

  string_carried : (t : List ℕ) → Carried m (string p t) (string q (m t))
  string_carried t = rw (string-mark p t, string-mark q (m t)) (carried_rest (quote (byte "\"") t) _ _ (laws.mark string_mark t) (λ r. quoted_carried string_mark r))

  quoted-symbol_carried : (t : List ℕ) → Carried m (quoted_symbol p t) (quoted_symbol q (m t))
  unfolding quoted_symbol
  quoted-symbol_carried t = carried_then (quoted p (byte "'") t) _ _ (quoted_carried symbol_mark t) (λ r. carried_image (some (Sym.text r.0, r.1)) refl)

  symbol_carried : (t : List ℕ) → Carried m (symbol p t) (symbol q (m t))
  symbol_carried t = rw (symbol-mark p t, symbol-mark q (m t)) (carried_on (quote (byte "'") t) _ _ (laws.mark symbol_mark t) quoted-symbol_carried (carried_image (bare_symbol t) (laws.bare t)))

  -- ---- values that are no containers

  scalar_carried : (b : Bool) (t : List ℕ) → Carried m (scalar p b t) (scalar q b (m t))
  unfolding scalar
  scalar_carried b [] = lost
  scalar_carried b (c ∷ t) =
      rw other
      (chosen (Carried m) (eqb c (byte "\"")) (carried_taken (string p (c ∷ t)) _ (string_carried (c ∷ t)))
      (chosen (Carried m) (eqb c (byte "'")) (carried_taken (symbol p (c ∷ t)) _ (symbol_carried (c ∷ t)))
      (chosen (Carried m) (eqb c (byte "{")) (laws.braced (c ∷ t))
      (chosen (Carried m) (numeric c) (carried_image (numbers (c ∷ t)) (laws.number (c ∷ t))) (carried_image (words b (c ∷ t)) (laws.bare_word b (c ∷ t)))))))
    where
      other : scalar q b (m (c ∷ t)) ≡ if (eqb c (byte "\"")) (taken (λ s. Node.scalar (Scalar.string s)) (string q (m (c ∷ t)))) (if (eqb c (byte "'")) (taken (λ s. Node.scalar (Scalar.symbol s)) (symbol q (m (c ∷ t)))) (if (eqb c (byte "{")) (braces (m (c ∷ t))) (if (numeric c) (numbers (m (c ∷ t))) (words b (m (c ∷ t))))))
      other = let i = laws.first c t in rw (i.is, i.as_string, i.as_symbol, i.as_brace, i.as_number)

  -- ---- annotations

  -- a quoted symbol that is not read, though it may be read in the mapped text: then no value is read here
  record Stuck (t : List ℕ) : Type 0 where
    behind : List ℕ
    at_mark : quote (byte "'") t ≡ some behind
    unread : quoted_symbol p behind ≡ none

  stuck_symbol : {t : List ℕ} → Stuck t → symbol p t ≡ none
  stuck_symbol {t} s = symbol-mark p t ∙ rw s.at_mark s.unread

  stuck_note : {t : List ℕ} → Stuck t → note p t ≡ none
  unfolding note
  stuck_note s = rw (stuck_symbol s)

  stuck_body : (f : ℕ) (b : Bool) (left : ℕ) (t : List ℕ) → Stuck t → body p f b left t ≡ none
  unfolding body opens opener scalar quote
  stuck_body zero b left t s = refl
  stuck_body (suc f) b left [] s = absurd (clash refl s.at_mark)
  stuck_body (suc f) b left (c ∷ t) s = go (eqb c (byte "'")) refl s.at_mark
    where
      go : (x : Bool) → eqb c (byte "'") ≡ x → if x (some t) none ≡ some s.behind → body p (suc f) b left (c ∷ t) ≡ none
      go true e i = rw (stuck_symbol s, eqb-true c (byte "'") e)
      go false e i = absurd (clash refl i)

  data Noted (t : List ℕ) : Type 0 where
    alike : note q (m t) ≡ mapped m (note p t) → Noted t
    stuck : Stuck t → Noted t

  noted : (t : List ℕ) → Noted t
  noted t = go (quote (byte "'") t) refl
    where
      colons : (x : Sym) (o : Option (List ℕ)) → then (mapped_rest m o) (λ r. some (x, r)) ≡ mapped m (then o (λ r. some (x, r)))
      colons x none = refl
      colons x (some r) = refl

      -- the symbols are alike
      symbols : (o : Option (Sym × List ℕ)) → symbol p t ≡ o → symbol q (m t) ≡ mapped m o → Noted t
      symbols none e i = alike (unfold note in rw (e, i))
      symbols (some v) e i = alike (unfold note in rw (e, i, laws.fixed (ascii "::") refl v.1) (colons v.0 (strip (ascii "::") v.1)))

      quotes : (r : List ℕ) → quote (byte "'") t ≡ some r → (o : Option (Sym × List ℕ)) → quoted_symbol p r ≡ o → Noted t
      quotes r e none i = stuck (record { behind = r; at_mark = e; unread = i })
      quotes r e (some v) i = symbols (some v) (symbol-mark p t ∙ rw e i) (symbol-mark q (m t) ∙ rw (laws.mark symbol_mark t, e) ((quoted-symbol_carried r).is v i))

      go : (o : Option (List ℕ)) → quote (byte "'") t ≡ o → Noted t
      go none e = symbols (bare_symbol t) (symbol-mark p t ∙ rw e) (symbol-mark q (m t) ∙ rw (laws.mark symbol_mark t, e) (laws.bare t))
      go (some r) e = quotes r e (quoted_symbol p r) refl

  -- annotations, and what is read behind them, which is nothing where a symbol is stuck
  notes-turn : {B : Type 0} (t : List ℕ) (j j' : Sym × List ℕ → Option (List Sym × List ℕ)) (g g' : List Sym × List ℕ → Option (B × List ℕ))
      → ((u : List ℕ) → Carried m (g ([], u)) (g' ([], m u)))
      → ((u : List ℕ) → Stuck u → g ([], u) ≡ none)
      → ((s : Sym × List ℕ) → Carried m (then (j s) g) (then (j' (s.0, m s.1)) g'))
      → Carried m (then (on (note p t) j (some ([], t))) g) (then (on (note q (m t)) j' (some ([], m t))) g')
  notes-turn t j j' g g' h k i = go (noted t)
    where
      same : (o : Option (Sym × List ℕ)) → Carried m (then (on o j (some ([], t))) g) (then (on (mapped m o) j' (some ([], m t))) g')
      same none = h t
      same (some s) = i s

      go : Noted t → Carried m (then (on (note p t) j (some ([], t))) g) (then (on (note q (m t)) j' (some ([], m t))) g')
      go (alike e) = rw e (same (note p t))
      go (stuck s) = rw (stuck_note s, k t s) lost

  notes_carried : {B : Type 0} (n : ℕ) (t : List ℕ) (g g' : List Sym × List ℕ → Option (B × List ℕ))
      → ((v : List Sym × List ℕ) → Carried m (g v) (g' (v.0, m v.1)))
      → ((ss : List Sym) (u : List ℕ) → Stuck u → g (ss, u) ≡ none)
      → Carried m (then (notes p n t) g) (then (notes q n (m t)) g')
  unfolding notes
  notes_carried zero t g g' h k = notes-turn t _ _ g g' (λ u. h ([], u)) (k []) (λ s. lost)
  notes_carried (suc n) t g g' h k =
      notes-turn t _ _ g g' (λ u. h ([], u)) (k []) (λ s.
      carried_group (notes p n s.1) _ g (notes q n (m s.1)) _ g' (notes_carried n s.1 (λ ss. g (s.0 ∷ ss.0, ss.1)) (λ ss. g' (s.0 ∷ ss.0, ss.1)) (λ v. h (s.0 ∷ v.0, v.1)) (λ ss u. k (s.0 ∷ ss) u)))

  -- ---- heads

  field_carried : (t : List ℕ) → Carried m (field p t) (field q (m t))
  unfolding field
  field_carried t =
      carried_then (symbol p t) _ _ (symbol_carried t) (λ s.
      rw (laws.blanks s.1) (carried_rest (strip (ascii ":") (skip s.1)) _ _ (laws.fixed (ascii ":") refl (skip s.1)) (λ r. carried_image (some (s.0, skip r)) (rw (laws.blanks r)))))

  name_carried : (k : Frame) (t : List ℕ) → Carried m (name p k t) (name q k (m t))
  unfolding name
  name_carried Top t = carried_image (some (none, t)) refl
  name_carried ListF t = carried_image (some (none, t)) refl
  name_carried Sexp t = carried_image (some (none, t)) refl
  name_carried Struct t = carried_taken (field p t) some (field_carried t)

  headed_carried : (k : Frame) (t : List ℕ) (g g' : Bool → List ℕ → Option (Node × List ℕ))
      → ((b : Bool) (u : List ℕ) → Carried m (g b u) (g' b (m u)))
      → ((b : Bool) (u : List ℕ) → Stuck u → g b u ≡ none)
      → Carried m (headed p g k t) (headed q g' k (m t))
  unfolding head
  headed_carried k t g g' h none-at =
      carried_group (name p k t) _ _ (name q k (m t)) _ _ (carried_then (name p k t) _ _ (name_carried k t) (λ v.
      carried_group (notes p 16 v.1) _ _ (notes q 16 (m v.1)) _ _
      (notes_carried 16 v.1 _ _ (λ ss. carried_then (g (free k ss.0) ss.1) _ _ (h (free k ss.0) ss.1) (λ n. carried_image (some (((v.0, ss.0), n.0), n.1)) refl)) (λ ss u s. rw (none-at (free k ss) u s)))))

  -- ---- containers

  body_turn : (b : Bool) (left : ℕ) (t : List ℕ) (s s' : Frame → ℕ → List ℕ → Option (Nodes × List ℕ))
      → ((k : Frame) (l : ℕ) (u : List ℕ) → Carried m (s k l u) (s' k l (m u)))
      → Carried m (on (opens t) (λ k. within left (λ l. taken (Node.nest k) (s k l (drop 1 t)))) (scalar p b t)) (on (opens (m t)) (λ k. within left (λ l. taken (Node.nest k) (s' k l (drop 1 (m t))))) (scalar q b (m t)))
  body_turn b left t s s' h = rw (laws.opening t) (go (opens t) refl left)
    where
      go : (o : Option Frame) → opens t ≡ o → (left : ℕ) → Carried m (on o (λ k. within left (λ l. taken (Node.nest k) (s k l (drop 1 t)))) (scalar p b t)) (on o (λ k. within left (λ l. taken (Node.nest k) (s' k l (drop 1 (m t))))) (scalar q b (m t)))
      go none e left = scalar_carried b t
      go (some k) e zero = lost
      go (some k) e (suc l) = rw (laws.opened t k e) (carried_taken (s k l (drop 1 t)) (Node.nest k) (h k l (drop 1 t)))

  mutual
    unfolding body sequence

    body_carried : (f g : ℕ) → f ≤ g → (b : Bool) (left : ℕ) (t : List ℕ) → Carried m (body p f b left t) (body q g b left (m t))
    body_carried zero g h b left t = lost
    body_carried (suc f) zero h b left t = absurd (omega arith)
    body_carried (suc f) (suc g) h b left t = body_turn b left t (sequence p f) (sequence q g) (λ k l u. sequence_carried f g (omega arith) k l u)

    sequence_carried : (f g : ℕ) → f ≤ g → (k : Frame) (left : ℕ) (t : List ℕ) → Carried m (sequence p f k left t) (sequence q g k left (m t))
    sequence_carried zero g h k left t = lost
    sequence_carried (suc f) zero h k left t = absurd (omega arith)
    sequence_carried (suc f) (suc g) h k left t =
        rw (laws.blanks t)
        (carried_on (closes k (skip t)) _ _ (laws.end k (skip t)) (λ r. carried_image (some (Nodes.nil, r)) refl)
        (carried_then (headed p (λ b u. body p f b left u) k (skip t)) _ _ (headed_carried k (skip t) (λ b u. body p f b left u) (λ b u. body q g b left u) (λ b u. body_carried f g (omega arith) b left u) (λ b u s. stuck_body f b left u s)) (λ n.
        carried_rest (gap k n.1) _ _ (laws.between k n.1) (λ u.
        carried_then (sequence p f k left u) _ _ (sequence_carried f g (omega arith) k left u) (λ ns. carried_image (some (Nodes.more n.0.0 n.0.1 ns.0, ns.1)) refl)))))

  -- ---- texts

  pub meaning_carried : (t : List ℕ) (ns : Nodes) → meaning p t ≡ some ns → meaning q (m t) ≡ some ns
  unfolding meaning
  meaning_carried t ns e =
      let r = then_some (sequence p (suc (2 * length t)) Top 64 t) _ ns e in
      rw ((sequence_carried (suc (2 * length t)) (suc (2 * length (m t))) (omega (arith, laws.longer t)) Top 64 t).is r.0 r.1) r.2
