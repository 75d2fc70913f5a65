-- The text of names and of text nodes. Assumes nothing.
use Prim.Native.Nat.{ℕ, ◌+◌, ◌-◌, ◌≤◌}
use mathlib.Core.Path.{◌≡◌, sym, ap, ◌∙◌}
use mathlib.Core.List.{List}
use mathlib.Core.Bool.{Bool}
use mathlib.Core.Option.{Option, none, some}
use native.Mathlib.Omega.{arith}
use lib.ListN.{length, take, drop}
use lib.Seq.{take-take}
use Rattle.output.specs.Wrote.{le_bytes}
use Rattle.output.proofs.Words.{take-le}
use Rattle.text_rules.specs.Text.{Sym, symbol_text}
use Rattle.tape.specs.Bytes.{part}
use Rattle.tape.specs.Tree.{Head}
use Rattle.tape.specs.Tape.{reading, name_of, notes_of, head_of}
use Rattle.tape.specs.declared.Frame.{Frame}
use Rattle.tape.proofs.CodeFacts.{part_text}
use Rattle.writer.specs.Steps.{name_in, Plain}

-- ---- text nodes

-- the bytes of a text node, as the code cuts them out of the tape
pub text_at : (s : List ℕ) (at e n : ℕ) → at + (5 + n) ≤ e → take n (drop 5 (part s at e)) ≡ take (at + 5 + n - (at + 5)) (drop (at + 5) s)
text_at s at e n h =
    let g : n ≡ at + 5 + n - (at + 5) = omega arith in
    part_text s at e n (omega arith) ∙ ap (λ (i : ℕ). take i (drop (at + 5) s)) g

module _ (s : List ℕ) (from n x : ℕ) (h : le_bytes 8 x ≡ take 8 (drop from s)) where
  -- the first bytes of a word, as it is read
  pub word_bytes : n ≤ 8 → le_bytes n x ≡ take n (drop from s)
  word_bytes m = sym (take-le n 8 x m) ∙ ap (take n) h ∙ take-take n 8 (drop from s) m

  pub plain_word : (quoted : Bool) → n ≤ 8 → from + 8 ≤ length s → symbol_text quoted (le_bytes n x) ≡ le_bytes n x → Plain quoted s from n
  plain_word quoted m r b = record { most = m; room = r; bare = sym (ap (symbol_text quoted) (word_bytes m)) ∙ b ∙ word_bytes m }

  -- a symbol that stands bare, as the code writes it
  pub plain_text : (quoted : Bool) (at e : ℕ) → from ≡ at + 5 → at + (5 + n) ≤ e → Plain quoted s from n → symbol_text quoted (take n (drop 5 (part s at e))) ≡ le_bytes n x
  plain_text quoted at e f g p =
      let t : take n (drop 5 (part s at e)) ≡ take n (drop from s) = part_text s at e n (omega arith) ∙ ap (λ (i : ℕ). take n (drop i s)) (sym f) in
      ap (symbol_text quoted) t ∙ p.bare ∙ sym (word_bytes p.most)

-- ---- names

-- the name of a child is the name in its head
pub name-head : (k : Frame) (l : List ℕ) (h : Head) (m : ℕ) → head_of k l ≡ some (h, m) → name_in k l ≡ h.0
unfolding head_of
name-head k l h m e = go (name_of k l) e
  where
    behind : (a : Option Sym) (n : ℕ) (o : Option (List Sym × ℕ)) → reading {B = Option (Head × ℕ)} o none (λ ss i. some ((a, ss), n + i)) ≡ some (h, m) → a ≡ h.0
    behind a n none e = let z : ◌≡◌ {A = ℕ} 0 1 = cc in absurd (omega arith)
    behind a n (some (ss, i)) e = ap (λ (o : Option (Head × ℕ)). reading o a (λ g j. g.0)) e

    go : (o : Option (Option Sym × ℕ)) → reading {B = Option (Head × ℕ)} o none (λ a n. reading (notes_of (drop n l)) none (λ ss i. some ((a, ss), n + i))) ≡ some (h, m)
        → reading {B = Option Sym} o none (λ a n. a) ≡ h.0
    go none e = let z : ◌≡◌ {A = ℕ} 0 1 = cc in absurd (omega arith)
    go (some (a, n)) e = behind a n (notes_of (drop n l)) e
