-- A text of the strict grammar is clean: no raw control character that is replaced stands in it. So it comes out unchanged (02, A6).
-- Assumes nothing.
use Prim.Native.Nat.{ℕ, zero, suc, ◌*◌}
use mathlib.Core.Path.{◌≡◌, refl, sym, subst, ◌∙◌}
use mathlib.Core.Bool.{Bool, true, false, ◌||◌, ◌&&◌}
use mathlib.Core.List.{List, [], ◌∷◌}
use mathlib.Core.Option.{Option, none, some}
use lib.Dec.{eqb}
use lib.ListN.{length, drop}
use Rattle.output.specs.Logic.{if, byte, ascii}
use Rattle.output.proofs.Bools.{never}
use Rattle.text_rules.specs.Texts.{starts, strip, blank}
use Rattle.tokens.specs.Quoted.{old_raw, strict_raw, string}
use Rattle.tokens.specs.Token.{symbol}
use Rattle.tape.specs.Tree.{Node, Nodes}
use Rattle.tape.specs.declared.Frame.{Frame}
use Rattle.tape.specs.declared.Frame.TheVariants.{Top, List as ListF, Sexp, Struct}
use Rattle.reader.specs.Grammar.{skip, opener, closes, comma, gap, free, numeric, opens, within, note, notes, field, name, head, scalar, headed, body, sequence, meaning}
use Rattle.converter.specs.Convert.{converted, clean}
use Rattle.converter.proofs.Bytes.{gone_same}
use Rattle.converter.proofs.Texts.{clean-same}
use Rattle.converter.proofs.Between.{blanks}
use Rattle.converter.proofs.Meaning.{clean_agrees}
use Rattle.converter.proofs.CleanRules.{TakesClean, unread, passed, CleanRead, CleanRest, clean-behind, clean_if, clean_on, clean_then, clean-taken, behind-clean, clean-value, clean-starts, strip-clean}
use Rattle.converter.proofs.CleanTokens.{string-clean, symbol-clean, braces-clean, words-clean}
use Rattle.converter.proofs.CleanNumbers.{numbers-clean}

-- ---- between tokens

skip-clean : (t : List ℕ) → clean (skip t) ≡ true → clean t ≡ true
unfolding skip
skip-clean = behind-clean blanks skip (λ c t. refl)

comma-clean : (b : ℕ) (t : List ℕ) → CleanRest t (comma b t)
unfolding comma
comma-clean b t = clean-starts (byte ",") refl t (passed (λ e. e)) (clean_if (starts b t) (passed (λ e. e)) unread)

gap-clean : (k : Frame) (t : List ℕ) → CleanRest t (gap k t)
unfolding gap
gap-clean Top [] = passed (λ e. e)
gap-clean Top (c ∷ t) = clean_if (blank c) (passed (λ e. e)) unread
gap-clean ListF t = clean-behind (skip-clean t) (comma-clean (byte "]") (skip t))
gap-clean Sexp [] = unread
gap-clean Sexp (c ∷ t) = clean_if (blank c || eqb c (byte ")")) (passed (λ e. e)) unread
gap-clean Struct t = clean-behind (skip-clean t) (comma-clean (byte "}") (skip t))

-- the text behind a frame's end: behind the whole text's there is none
abbrev behind_end : Frame → List ℕ → List ℕ
behind_end Top r = []
behind_end ListF r = r
behind_end Sexp r = r
behind_end Struct r = r

end_clean : (k : Frame) (r : List ℕ) → clean r ≡ true → clean (behind_end k r) ≡ true
end_clean Top r e = unfold clean in refl
end_clean ListF r e = e
end_clean Sexp r e = e
end_clean Struct r e = e

closes-clean : (k : Frame) (t : List ℕ) → TakesClean (behind_end k) t (closes k t)
unfolding closes
closes-clean Top [] = passed (λ e. e)
closes-clean Top (c ∷ t) = unread
closes-clean ListF t = strip-clean (ascii "]") refl t
closes-clean Sexp t = strip-clean (ascii ")") refl t
closes-clean Struct t = strip-clean (ascii "}") refl t

opens-clean : (t : List ℕ) → TakesClean (λ _. drop 1 t) t (opens t)
unfolding opens opener
opens-clean [] = unread
opens-clean (c ∷ t) = clean_if (eqb c (byte "{") && starts (byte "{") t) unread (clean-value opener (gone_same opener (λ c. none) refl) c t)

-- ---- heads

note-clean : (t : List ℕ) → CleanRead t (note strict_raw t)
unfolding note
note-clean t = clean_then (symbol strict_raw t) _ (symbol-clean t) (λ s. clean_then (strip (ascii "::") s.1) _ (strip-clean (ascii "::") refl s.1) (λ r. passed (λ e. e)))

notes-clean : (n : ℕ) (t : List ℕ) → CleanRead t (notes strict_raw n t)
unfolding notes
notes-clean zero t = clean_on (note strict_raw t) _ _ (note-clean t) (λ s. unread) (passed (λ e. e))
notes-clean (suc n) t = clean_on (note strict_raw t) _ _ (note-clean t) (λ s. clean-taken _ (notes strict_raw n s.1) (notes-clean n s.1)) (passed (λ e. e))

field-clean : (t : List ℕ) → CleanRead t (field strict_raw t)
unfolding field
field-clean t =
    clean_then (symbol strict_raw t) _ (symbol-clean t) (λ s.
    clean-behind (skip-clean s.1) (clean_then (strip (ascii ":") (skip s.1)) _ (strip-clean (ascii ":") refl (skip s.1)) (λ r. passed (skip-clean r))))

name-clean : (k : Frame) (t : List ℕ) → CleanRead t (name strict_raw k t)
unfolding name
name-clean Top t = passed (λ e. e)
name-clean ListF t = passed (λ e. e)
name-clean Sexp t = passed (λ e. e)
name-clean Struct t = clean-taken some (field strict_raw t) (field-clean t)

-- ---- values

scalar-clean : (m : Bool) (t : List ℕ) → CleanRead t (scalar strict_raw m t)
unfolding scalar
scalar-clean m [] = unread
scalar-clean m (c ∷ t) =
    clean_if (eqb c (byte "\"")) (clean-taken _ (string strict_raw (c ∷ t)) (string-clean (c ∷ t)))
    (clean_if (eqb c (byte "'")) (clean-taken _ (symbol strict_raw (c ∷ t)) (symbol-clean (c ∷ t)))
    (clean_if (eqb c (byte "{")) (braces-clean (c ∷ t))
    (clean_if (numeric c) (numbers-clean (c ∷ t)) (words-clean m (c ∷ t)))))

headed-clean : (g : Bool → List ℕ → Option (Node × List ℕ)) → ((m : Bool) (t : List ℕ) → CleanRead t (g m t)) → (k : Frame) (t : List ℕ) → CleanRead t (headed strict_raw g k t)
unfolding head
headed-clean g each k t =
    clean_then (head strict_raw k t) _ (clean_then (name strict_raw k t) _ (name-clean k t) (λ m. clean-taken _ (notes strict_raw 16 m.1) (notes-clean 16 m.1))) (λ h.
    clean-taken _ (g (free k h.0.1) h.1) (each (free k h.0.1) h.1))

within-clean : {A : Type 0} {rest : A → List ℕ} {t : List ℕ} (left : ℕ) (g : ℕ → Option A) → ((l : ℕ) → TakesClean rest t (g l)) → TakesClean rest t (within left g)
within-clean zero g h = unread
within-clean (suc l) g h = h l

mutual
  unfolding body sequence

  body_clean : (f : ℕ) (m : Bool) (left : ℕ) (t : List ℕ) → CleanRead t (body strict_raw f m left t)
  body_clean zero m left t = unread
  body_clean (suc f) m left t =
      clean_on (opens t) _ _ (opens-clean t) (λ k. within-clean left _ (λ l. clean_then (sequence strict_raw f k l (drop 1 t)) _ (sequence_clean f k l (drop 1 t)) (λ ns. passed (end_clean k ns.1)))) (scalar-clean m t)

  sequence_clean : (f : ℕ) (k : Frame) (left : ℕ) (t : List ℕ) → TakesClean (λ v. behind_end k v.1) t (sequence strict_raw f k left t)
  sequence_clean zero k left t = unread
  sequence_clean (suc f) k left t =
      clean-behind (skip-clean t)
      (clean_on (closes k (skip t)) _ _ (closes-clean k (skip t)) (λ r. passed (λ e. e))
      (clean_then (headed strict_raw (λ m u. body strict_raw f m left u) k (skip t)) _ (headed-clean (λ m u. body strict_raw f m left u) (λ m u. body_clean f m left u) k (skip t)) (λ n.
      clean_then (gap k n.1) _ (gap-clean k n.1) (λ u.
      clean_then (sequence strict_raw f k left u) _ (sequence_clean f k left u) (λ ns. passed (λ e. e))))))

-- ---- texts

-- what the strict grammar takes is clean
pub strict_clean : (t : List ℕ) (ns : Nodes) → meaning strict_raw t ≡ some ns → clean t ≡ true
unfolding meaning
strict_clean t ns e = whole (subst (TakesClean (λ _. []) t) e (clean_then (sequence strict_raw (suc (2 * length t)) Top 64 t) _ (sequence_clean (suc (2 * length t)) Top 64 t) (λ r. passed (λ e. e))))
  where
    whole : TakesClean (λ _. []) t (some ns) → clean t ≡ true
    whole (passed h) = h (unfold clean in refl)

-- so it comes out unchanged
pub strict_same : (t : List ℕ) (ns : Nodes) → meaning strict_raw t ≡ some ns → converted t ≡ t
strict_same t ns e = clean-same t (strict_clean t ns e)

-- the strict grammar is the old one without the texts that have such a character, wherever it stands
pub strict_exactly : (t : List ℕ) → meaning strict_raw t ≡ if (clean t) (meaning old_raw t) none
strict_exactly t = go (clean t) refl (meaning strict_raw t) refl
  where
    go : (b : Bool) → clean t ≡ b → (o : Option Nodes) → meaning strict_raw t ≡ o → meaning strict_raw t ≡ if b (meaning old_raw t) none
    go true c o e = sym (clean_agrees t c)
    go false c none e = e
    go false c (some ns) e = never (sym (strict_clean t ns e) ∙ c)
