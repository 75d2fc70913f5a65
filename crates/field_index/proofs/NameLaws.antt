-- The name at an offset; two texts byte by byte. Assumes nothing.
use mathlib.Core.Path.{◌≡◌, refl, sym, ap, ◌∙◌}
use mathlib.Core.List.{List, []}
use mathlib.Core.Option.{Option}
use Prim.Native.Nat.{ℕ, ◌+◌, ◌-◌, ◌≤◌, ◌<◌, min}
use native.Mathlib.Nat.{add-zero}
use native.Mathlib.Omega.{arith}
use lib.ListN.{length, get_or, take, drop, length-drop, drop_of_length-le}
use lib.Seq.{drop-drop, get_or-drop}
use Rattle.std.proofs.Common.{inl, inr}
use Rattle.std.proofs.lemmas.Bool.{cases_lt}
use Rattle.std.specs.Cmp.{nat_cmp_is}
use Rattle.std.specs.declared.cmp.Ordering.{Ordering}
use Rattle.std.specs.declared.cmp.Ordering.TheVariants.{Less, Equal, Greater}
use Rattle.std.specs.Ordering.{nat_cmp, ordering_then, is_ne}
use Rattle.std.specs.Cmp.Lexicographic.{slice_cmp}
use Rattle.text_rules.specs.Text.{Sym}
use Rattle.text_rules.proofs.Places.{byte_at}
use Rattle.tape.specs.Bytes.{le_number, part}
use Rattle.tape.specs.Tape.{reading, kind, length_of}
use Rattle.std.specs.Prelude.{Some, None, true, false}
use Rattle.tape.proofs.CodeReading.{length_over, length_some, sym-text, sym_id, sym_none, sym_short}
use Rattle.field_index.specs.Names.{name_at}

module _ (tape : List ℕ) (at : ℕ) where
  abbrev node : List ℕ
  node = drop at tape

  -- the number behind the kind byte
  abbrev pub number : ℕ
  number = le_number 4 (drop (at + 1) tape)

  kind-is : kind node ≡ get_or tape at 0
  kind-is = get_or-drop at tape 0 0 ∙ ap (λ (i : ℕ). get_or tape i 0) (add-zero at)

  number_is : length_of node ≡ number
  number_is = ap (le_number 4) (drop-drop 1 at tape)

  abbrev named : Option (Sym × ℕ) → Sym
  named o = reading o (Sym.text []) (λ s n. s)

  -- a head that does not fit the tape, and a node that is no symbol
  pub cut_short : length tape < at + 5 → name_at tape at ≡ Sym.text []
  unfolding name_at
  cut_short h = ap named (sym_short node (omega (arith, length-drop at tape)))

  pub other-kind : (get_or tape at 0 ≡ 6 → ⊥) → (get_or tape at 0 ≡ 7 → ⊥) → name_at tape at ≡ Sym.text []
  unfolding name_at
  other-kind h k = ap named (sym_none node (λ e. h (sym kind-is ∙ e)) (λ e. k (sym kind-is ∙ e)))

  pub a-number : at + 5 ≤ length tape → get_or tape at 0 ≡ 7 → name_at tape at ≡ Sym.id number
  unfolding name_at
  a-number h k = ap named (sym_id node (kind-is ∙ k) (omega (arith, length-drop at tape))) ∙ ap Sym.id number_is

  -- a text whose bytes do not fit the tape, and one whose bytes do
  pub too_long : length tape < at + 5 + number → get_or tape at 0 ≡ 6 → name_at tape at ≡ Sym.text []
  unfolding name_at
  too_long h k = ap named (sym-text node None (kind-is ∙ k) (sym (length_over node (omega (arith, length-drop at tape, number_is)))))

  pub a_text : at + 5 + number ≤ length tape → get_or tape at 0 ≡ 6 → name_at tape at ≡ Sym.text (part tape (at + 5) (at + 5 + number))
  unfolding name_at
  a_text h k =
      let size : length_of node ≡ at + 5 + number - (at + 5) = omega (arith, number_is) in
      ap named (sym-text node (Some (length_of node)) (kind-is ∙ k) (sym (length_some node (omega (arith, length-drop at tape, number_is)))))
      ∙ ap (λ (l : List ℕ). Sym.text (take (length_of node) l)) (drop-drop 5 at tape) ∙ ap (λ (n : ℕ). Sym.text (take n (drop (at + 5) tape))) size

-- ---- two texts, of which both go on at a place

module _ (s t : List ℕ) (i : ℕ) (h : i < length s) (k : i < length t) where
  both : slice_cmp nat_cmp (drop i s) (drop i t) ≡ ordering_then (nat_cmp (get_or s i 0) (get_or t i 0)) (slice_cmp nat_cmp (drop (i + 1) s) (drop (i + 1) t))
  both = rw (byte_at s i h, byte_at t i k)

  first : (o r : Ordering) → is_ne o ≡ true → ordering_then o r ≡ o
  first Less r e = refl
  first Equal r e = cc
  first Greater r e = refl

  second : (o r : Ordering) → is_ne o ≡ false → ordering_then o r ≡ r
  second Less r e = cc
  second Equal r e = refl
  second Greater r e = cc

  -- they differ there, or not
  pub apart_there : (o : Ordering) → o ≡ nat_cmp (get_or s i 0) (get_or t i 0) → is_ne o ≡ true → slice_cmp nat_cmp (drop i s) (drop i t) ≡ o
  apart_there o e d = both ∙ rw (← e) (first o _ d)

  pub alike_there : (o : Ordering) → o ≡ nat_cmp (get_or s i 0) (get_or t i 0) → is_ne o ≡ false → slice_cmp nat_cmp (drop i s) (drop i t) ≡ slice_cmp nat_cmp (drop (i + 1) s) (drop (i + 1) t)
  alike_there o e d = both ∙ rw (← e) (second o _ d)

-- one of them ends at a place, and they are equal so far
pub ended : (s t : List ℕ) (i : ℕ) → i ≡ min (length s) (length t) → slice_cmp nat_cmp (drop i s) (drop i t) ≡ nat_cmp (length s) (length t)
ended s t i e = elim (cases_lt (length s) (length t)) [
  | inl h ↦ rw (drop_of_length-le s {i = i} (omega arith), byte_at t i (omega arith)) (nat_cmp_is (length s) (length t) Less h)
  | inr h ↦ elim (cases_lt (length t) (length s)) [
    | inl k ↦ rw (drop_of_length-le t {i = i} (omega arith), byte_at s i (omega arith)) (nat_cmp_is (length s) (length t) Greater k)
    | inr k ↦ rw (drop_of_length-le s {i = i} (omega arith), drop_of_length-le t {i = i} (omega arith)) (nat_cmp_is (length s) (length t) Equal (omega arith))
  ]
]
