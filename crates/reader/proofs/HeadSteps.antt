-- The steps of reading symbols, annotations and names, as laws of what the contracts say. Assumes nothing.
use Prim.Native.Nat.{ℕ, zero, suc, ◌+◌, ◌-◌, ◌≤◌, ◌<◌, min}
use mathlib.Core.Path.{◌≡◌, refl, sym, ap, subst, ◌∙◌}
use mathlib.Core.List.{List, [], ◌∷◌, ◌++◌}
use mathlib.Core.Bool.{Bool, true, false}
use mathlib.Core.Option.{Option, none, some}
use native.Mathlib.Omega.{arith}
use lib.ListN.{length, drop, get_or}
use borrow.Author.Tests.{ne_eqb}
use Rattle.output.specs.Logic.{then, byte, ascii}
use Rattle.output.specs.Wrote.{Wrote, limit, le_bytes}
use Rattle.text_rules.specs.Text.{Sym}
use Rattle.text_rules.specs.Texts.{strip}
use Rattle.text_rules.specs.Words.{is_start, is_part, word, behind_word, kind_of}
use Rattle.text_rules.specs.WordSteps.{Spanned}
use Rattle.text_rules.specs.declared.words.Kind.TheVariants.{Refused}
use Rattle.text_rules.proofs.Places.{byte_at, end-at}
use Rattle.text_rules.proofs.DigitLaws.{never}
use Rattle.text_rules.proofs.WordsLaws.{kind-nothing, kind-plain, no_keyword, identifier_other}
use Rattle.tokens.specs.Token.{word_symbol, bare_symbol, symbol}
use Rattle.tokens.specs.Steps.{Kept}
use Rattle.tokens.specs.TokenSteps.{SymbolAt}
use Rattle.tokens.specs.declared.quoted.Step.{Step}
use Rattle.std.specs.Prelude.{Some, None}
use Rattle.std.specs.Prelude as std
use Rattle.tokens.specs.declared.values.SymbolRead.TheVariants as S
use Rattle.tape.specs.Tree.{encode_sym, encode_syms, encode_name, encode_notes, encode_head}
use Rattle.tape.specs.declared.Frame.{Frame}
use Rattle.tape.specs.declared.Frame.TheVariants.{Top, List as ListF, Sexp, Struct}
use Rattle.reader.specs.Grammar.{skip, note, notes, field, name, head, free}
use Rattle.reader.specs.Steps.{Laid, Read, Counted, MarksAt, note_count, free_by}
use Rattle.reader.specs.declared.heads.Run.{Run}
use Rattle.tokens.proofs.Keeping.{kept_before}
use Rattle.tokens.proofs.SymbolSteps.{bare_none, no_symbol, is_bare}
use Rattle.reader.proofs.Laying.{laid, laid_none, laid_then_kept, laid_then, laid-before, laid-sized}

-- a word whose first byte starts no identifier is none
not_start : (c d : ℕ) → is_start c ≡ false → is_start d ≡ true → c ≡ d → ⊥
not_start c d h e q = never (sym e ∙ sym (ap is_start q) ∙ h)

starters : (is_start (byte "$") ≡ true) × (is_start (byte "t") ≡ true) × (is_start (byte "f") ≡ true) × (is_start (byte "n") ≡ true)
unfolding is_start
starters = (refl, refl, refl, refl)

kind-other : (c : ℕ) (w : List ℕ) → is_start c ≡ false → kind_of (c ∷ w) ≡ Refused
kind-other c w h =
    let l : 0 < length (c ∷ w) = omega arith in
    kind-plain (c ∷ w) l (not_start c (byte "$") h starters.0) (no_keyword (c ∷ w) l (not_start c (byte "t") h starters.1) (not_start c (byte "f") h starters.2) (not_start c (byte "n") h starters.3)) false (identifier_other (c ∷ w) l h)

word-other : (c : ℕ) (t : List ℕ) → is_start c ≡ false → kind_of (word (c ∷ t)) ≡ Refused
word-other c t h = go (is_part c) refl
  where
    go : (b : Bool) → is_part c ≡ b → kind_of (word (c ∷ t)) ≡ Refused
    go true e = let q : word (c ∷ t) ≡ c ∷ word t = unfold word in rw e in ap kind_of q ∙ kind-other c (word t) h
    go false e = let q : word (c ∷ t) ≡ [] = unfold word in rw e in ap kind_of q ∙ kind-nothing

abbrev after : Option (Sym × List ℕ) → List ℕ
after none = []
after (some x) = x.1

-- By any raw rule.
module _ (is_raw : ℕ → Bool) where
  -- ---- a symbol's node

  module _ {text : List ℕ} {at p s : ℕ} {b b1 b2 : List ℕ} where
    pub symbol-text : {a e z : ℕ} → s ≡ min (p + 5) limit → SymbolAt text (suc at) b b1 s (symbol is_raw (drop at text)) (Some (S.Text a e)) → Wrote b1 b2 p z (6 ∷ le_bytes 4 (e - s)) → Read encode_sym text (suc at) b b2 p (symbol is_raw (drop at text)) (Some record { at = a; pos = e })
    unfolding encode_sym
    symbol-text m k w = let g = k.told in (Sym.text g.0, g.1, g.2, g.3, laid-sized 6 m (laid g.4) w)

    pub symbol-id : {a n q : ℕ} → SymbolAt text (suc at) b b1 s (symbol is_raw (drop at text)) (Some (S.Id n a)) → Wrote b1 b2 p q (7 ∷ le_bytes 4 n) → Read encode_sym text (suc at) b b2 p (symbol is_raw (drop at text)) (Some record { at = a; pos = q })
    unfolding encode_sym
    symbol-id {n = n} {q = q} k w =
        let g = k.told in
        (Sym.id n, g.0, g.1, g.2, laid (subst (λ (l : List ℕ). Wrote l b2 p q (7 ∷ le_bytes 4 n)) g.3 w))

  -- ---- whether an annotation may stand at a place

  pub note-none : (t : List ℕ) → symbol is_raw t ≡ none → note is_raw t ≡ none
  unfolding note
  note-none t h = rw h

  pub note-end : (text : List ℕ) (at : ℕ) → at ≡ length text → note is_raw (drop at text) ≡ none
  note-end text at h = ap (note is_raw) (end-at text at h) ∙ note-none [] (no_symbol is_raw)

  module _ (text : List ℕ) (at : ℕ) (i : at < length text) (n : get_or text at 0 ≡ byte "'" → ⊥) where
    pub note-other : is_start (get_or text at 0) ≡ false → note is_raw (drop at text) ≡ none
    note-other h = note-none (drop at text) (sym (is_bare is_raw text at i n) ∙ bare_none (drop at text) Refused (ap (λ (t : List ℕ). kind_of (word t)) (byte_at text at i) ∙ word-other (get_or text at 0) (drop (at + 1) text) h) refl)

    pub note_bare : {e : ℕ} → Spanned text at e → strip (ascii "::") (drop e text) ≡ none → note is_raw (drop at text) ≡ none
    note_bare {e} s h = go (word_symbol (kind_of (word d)) (word d)) refl
      where
        d : List ℕ
        d = drop at text

        is : (o : Option Sym) → word_symbol (kind_of (word d)) (word d) ≡ o → symbol is_raw d ≡ then o (λ x. some (x, behind_word d))
        is o q = sym (is_bare is_raw text at i n) ∙ unfold bare_symbol in rw q

        go : (o : Option Sym) → word_symbol (kind_of (word d)) (word d) ≡ o → note is_raw d ≡ none
        go none q = note-none d (is none q)
        go (some x) q = unfold note in rw (is (some x) q, ← s.rest, h)

  -- ---- a symbol and `::`

  pub note_alone : (t u : List ℕ) {s : Sym} → symbol is_raw t ≡ some (s, u) → strip (ascii "::") u ≡ none → note is_raw t ≡ none
  unfolding note
  note_alone t u h e = rw (h, e)

  note_here : (t u v : List ℕ) {s : Sym} → symbol is_raw t ≡ some (s, u) → strip (ascii "::") u ≡ some v → note is_raw t ≡ some (s, v)
  unfolding note
  note_here t u v h e = rw (h, e)

  -- looked for first, and then written
  pub note-again : (t u u' v : List ℕ) (s s' : Sym) → symbol is_raw t ≡ some (s, u) → symbol is_raw t ≡ some (s', u') → strip (ascii "::") u ≡ some v → note is_raw t ≡ some (s', v)
  note-again t u u' v s s' e e' h = note_here t u' v e' (ap (strip (ascii "::")) (ap after (sym e' ∙ e)) ∙ h)

  pub symbol_clash : (t u : List ℕ) (s : Sym) → symbol is_raw t ≡ some (s, u) → symbol is_raw t ≡ none → ⊥
  symbol_clash t u s e e' = let z : ◌≡◌ {A = ℕ} 0 1 = cc in omega arith

  -- ---- annotations

  notes-end : (n : ℕ) (t : List ℕ) → note is_raw t ≡ none → notes is_raw n t ≡ some ([], t)
  unfolding notes
  notes-end zero t h = rw h
  notes-end (suc n) t h = rw h

  notes_over : (t u : List ℕ) (s : Sym) → note is_raw t ≡ some (s, u) → notes is_raw 0 t ≡ none
  unfolding notes
  notes_over t u s h = rw h

  notes_more : (n : ℕ) (t u : List ℕ) (s : Sym) (o : Option (List Sym × List ℕ)) → note is_raw t ≡ some (s, u) → notes is_raw n u ≡ o → notes is_raw (suc n) t ≡ then o (λ ss. some (s ∷ ss.0, ss.1))
  unfolding notes
  notes_more n t u s o h e = rw (h, e)

  marks_kept : {text : List ℕ} {at n p m : ℕ} {b : List ℕ} → note is_raw (drop at text) ≡ none → at ≤ length text → p ≤ limit → MarksAt is_raw text at n b b p m (Some record { at = at; pos = p; count = m })
  unfolding encode_syms
  marks_kept {text} {at} {n} {p} {m} {b} h hi lp = record { told = ([], notes-end n (drop at text) h, omega arith, omega arith, hi, laid_none b p lp); few = omega arith }

  pub marks_end : {text : List ℕ} {at n p m : ℕ} {b b' : List ℕ} → b' ≡ b → note is_raw (drop at text) ≡ none → at ≤ length text → p ≤ limit → MarksAt is_raw text at n b b' p m (Some record { at = at; pos = p; count = m })
  marks_end {text} {at} {n} {p} {m} {b} {b'} e h hi lp = subst (λ (z : List ℕ). MarksAt is_raw text at n b z p m (Some record { at = at; pos = p; count = m })) (sym e) (marks_kept h hi lp)

  pub marks_over : {text : List ℕ} {at n p m : ℕ} {b b' u : List ℕ} {s : Sym} → n ≡ 0 → note is_raw (drop at text) ≡ some (s, u) → Kept p b b' → MarksAt is_raw text at n b b' p m None
  marks_over {text} {at} {n} {p} {m} {u = u} {s = s} z h lb = record { told = (ap (λ (j : ℕ). notes is_raw j (drop at text)) z ∙ notes_over (drop at text) u s h, lb); few = tt }

  pub marks_more : {text : List ℕ} {at n p q m : ℕ} {b b1 b' : List ℕ} (next n' : ℕ) (s : Sym) (r : std.Option Run) → n ≡ suc n' → note is_raw (drop at text) ≡ some (s, drop next text) → at < next → p ≤ limit → Laid b b1 p q (encode_sym s)
      → MarksAt is_raw text next n' b1 b' q (m + 1) r → MarksAt is_raw text at n b b' p m r
  unfolding encode_syms
  marks_more {text} {at} {n} {p} {q} {m} next n' s (Some r) z h lo lp w k = let g = k.told in record {
    told = (s ∷ g.0, ap (λ (j : ℕ). notes is_raw j (drop at text)) z ∙ notes_more n' (drop at text) (drop next text) s (some (g.0, drop r.at text)) h g.1, omega (arith, g.2), omega (arith, g.3), g.4, laid_then lp w g.5);
    few = omega (arith, k.few);
  }
  marks_more {text} {at} {n} {p} {q} {m} next n' s None z h lo lp w k = let g = k.told in record {
    told = (ap (λ (j : ℕ). notes is_raw j (drop at text)) z ∙ notes_more n' (drop at text) (drop next text) s none h g.0, laid_then_kept lp w g.1);
    few = tt;
  }

  -- the annotations, with their number before them
  notes_kept : (text : List ℕ) (at p : ℕ) (b : List ℕ) → note is_raw (drop at text) ≡ none → at ≤ length text → p ≤ limit → Counted encode_notes length text at b b p 0 (notes is_raw 16 (drop at text)) (Some record { at = at; pos = p; count = 0 })
  unfolding encode_notes
  notes_kept text at p b h hi lp = ([], notes-end 16 (drop at text) h, omega arith, omega arith, hi, laid_none b p lp)

  pub notes_no : (text : List ℕ) (at p : ℕ) (b b' : List ℕ) → b' ≡ b → note is_raw (drop at text) ≡ none → at ≤ length text → p ≤ limit → Counted encode_notes length text at b b' p 0 (notes is_raw 16 (drop at text)) (Some record { at = at; pos = p; count = 0 })
  notes_no text at p b b' e h hi lp = subst (λ (z : List ℕ). Counted encode_notes length text at b z p 0 (notes is_raw 16 (drop at text)) (Some record { at = at; pos = p; count = 0 })) (sym e) (notes_kept text at p b h hi lp)

  module _ (text : List ℕ) (at a p : ℕ) {q s : ℕ} {b b1 b2 : List ℕ} (x : Sym) (first : note is_raw (drop at text) ≡ some (x, drop a text)) (lo : at < a) (w : Laid b b1 s q (encode_sym x)) where
    pub notes-broken : p ≤ s → s ≤ limit → MarksAt is_raw text a 15 b1 b2 q 0 None → Counted encode_notes length text at b b2 p 0 (notes is_raw 16 (drop at text)) None
    notes-broken u l k = let g = k.told in (notes_more 15 (drop at text) (drop a text) x none first g.0, kept_before (omega arith) (laid_then_kept l w g.1))

    pub notes-some : {b3 : List ℕ} {z e c y : ℕ} → s ≡ min (p + 2) limit → MarksAt is_raw text a 15 b1 b2 q 0 (Some record { at = z; pos = e; count = c }) → Wrote b2 b3 p y (13 ∷ (c + 1) ∷ []) → Counted encode_notes length text at b b3 p 0 (notes is_raw 16 (drop at text)) (Some record { at = z; pos = e; count = c + 1 })
    unfolding encode_notes encode_syms
    notes-some {b3} {z} {e} {c} {y} m k v =
        let g = k.told in
        let n : c + 1 ≡ suc (length g.0) = omega (arith, g.2) in
        let l : Laid b b3 p e ((13 ∷ (c + 1) ∷ []) ++ (encode_sym x ++ encode_syms g.0)) = laid-before m (laid_then (omega arith) w g.5) v in
        (x ∷ g.0, notes_more 15 (drop at text) (drop a text) x (some (g.0, drop z text)) first g.1, omega (arith, g.2), omega (arith, g.3), g.4, subst (λ (i : ℕ). Laid b b3 p e (13 ∷ i ∷ (encode_sym x ++ encode_syms g.0))) n l)

  -- ---- a name

  pub field-none : (t : List ℕ) → symbol is_raw t ≡ none → field is_raw t ≡ none
  unfolding field
  field-none t h = rw h

  pub field_alone : (t u v : List ℕ) {s : Sym} → symbol is_raw t ≡ some (s, u) → v ≡ skip u → strip (ascii ":") v ≡ none → field is_raw t ≡ none
  unfolding field
  field_alone t u v h w e = rw (h, ← w, e)

  pub field_here : (t u v x y : List ℕ) {s : Sym} → symbol is_raw t ≡ some (s, u) → v ≡ skip u → strip (ascii ":") v ≡ some x → y ≡ skip x → field is_raw t ≡ some (s, y)
  unfolding field
  field_here t u v x y h w e z = rw (h, ← w, e, z)

  -- only a struct's values have names
  pub nameless : (k : Frame) (t : List ℕ) → (k ≡ Struct → ⊥) → name is_raw k t ≡ some (none, t)
  unfolding name
  nameless Top t n = refl
  nameless ListF t n = refl
  nameless Sexp t n = refl
  nameless Struct t n = absurd (n refl)

  pub name_no : (text : List ℕ) (at p : ℕ) (b : List ℕ) (k : Frame) → name is_raw k (drop at text) ≡ some (none, drop at text) → at ≤ length text → p ≤ limit → Read encode_name text at b b p (name is_raw k (drop at text)) (Some record { at = at; pos = p })
  unfolding encode_name
  name_no text at p b k h hi l = (none, h, omega arith, hi, laid_none b p l)

  pub name-field : (text : List ℕ) (at p : ℕ) (b b' : List ℕ) (r : std.Option Step) → Read encode_sym text (suc at) b b' p (field is_raw (drop at text)) r → Read encode_name text at b b' p (name is_raw Struct (drop at text)) r
  unfolding name encode_name
  name-field text at p b b' (Some s) h = (some h.0, rw h.1, omega (arith, h.2), h.3, h.4)
  name-field text at p b b' None h = (rw h.0, h.1)

  -- ---- a head

  pub head-none : (t : List ℕ) (k : Frame) → name is_raw k t ≡ none → head is_raw k t ≡ none
  unfolding head
  head-none t k h = rw h

  head_then : (t u : List ℕ) (k : Frame) (x : Option Sym) (o : Option (List Sym × List ℕ)) → name is_raw k t ≡ some (x, u) → notes is_raw 16 u ≡ o → head is_raw k t ≡ then o (λ ss. some ((x, ss.0), ss.1))
  unfolding head
  head_then t u k x o h e = rw (h, e)

  pub head-notes : (text : List ℕ) (at p q : ℕ) (b b1 b' : List ℕ) (a : ℕ) (k : Frame) (r : std.Option Run) → p ≤ limit → Read encode_name text at b b1 p (name is_raw k (drop at text)) (Some record { at = a; pos = q }) → Counted encode_notes length text a b1 b' q 0 (notes is_raw 16 (drop a text)) r
      → Counted encode_head note_count text at b b' p 0 (head is_raw k (drop at text)) r
  unfolding encode_head
  head-notes text at p q b b1 b' a k (Some r) lp m g =
      ((m.0, g.0), head_then (drop at text) (drop a text) k m.0 (some (g.0, drop r.at text)) m.1 g.1, g.2, omega (arith, m.2, g.3), g.4, laid_then lp m.4 g.5)
  head-notes text at p q b b1 b' a k None lp m g = (head_then (drop at text) (drop a text) k m.0 none m.1 g.0, laid_then_kept lp m.4 g.1)

-- where a marker may stand, by the number of annotations
pub free-count : (k : Frame) (ss : List Sym) → free k ss ≡ free_by k (length ss)
unfolding free
free-count Top [] = refl
free-count Top (s ∷ ss) = sym (ne_eqb (suc (length ss)) 0 (λ e. omega arith))
free-count ListF ss = refl
free-count Sexp ss = refl
free-count Struct ss = refl
