-- The struct node at an offset of an accepted tape has its body behind its header; and a field's name is read at its entry. Assumes nothing.
use Prim.Native.Nat.{ℕ, zero, suc, ◌+◌, ◌-◌, ◌<◌, ◌≤◌}
use mathlib.Core.Path.{◌≡◌, sym, ap, subst, ◌∙◌}
use mathlib.Core.List.{List, []}
use mathlib.Core.Option.{Option, none, some}
use native.Mathlib.Omega.{arith}
use native.Mathlib.Decide.{ℕ_discrete, dec_le, dec_lt}
use lib.ListN.{length, take, drop, length-take}
use lib.Seq.{take-take, get_or-take}
use Rattle.output.specs.Logic.{on}
use Rattle.text_rules.specs.Text.{Sym}
use Rattle.tape.specs.Bytes.{part, le_number}
use Rattle.tape.specs.Tree.{Nodes}
use Rattle.tape.specs.Tape.{reading, kind, length_of, sym_of, Walked, walk}
use Rattle.tape.specs.CheckSteps.{frame_of}
use Rattle.tape.specs.Fine.{Bytes}
use Rattle.tape.specs.Verdict.{verdict}
use Rattle.tape.specs.declared.Frame.{Frame}
use Rattle.tape.specs.declared.Frame.TheVariants.{Top, Struct}
use Rattle.std.specs.Prelude.{Some, None}
use Rattle.tape.proofs.Numbers.{le_take}
use Rattle.tape.proofs.Parts.{drop-take, part_length}
use Rattle.tape.proofs.Walking.{walk_end, verdict-told}
use Rattle.tape.proofs.Verdicts.{nodes_walked, fine_walked}
use Rattle.tape.proofs.CodeReading.{length_some, length_over, sym-text, sym_id, sym_none, sym_short}
use Rattle.field_index.specs.Names.{name_at}
use Rattle.field_index.specs.Structs.{structs, stands_at, struct_at}
use Rattle.field_index.specs.IndexSteps.{children_in, Body}
use Rattle.field_index.proofs.StructLaws.{value, next, turning, passed, in_low, in_high, room, fine, here, in_body}

-- the children ns have their bytes from the offset's fifth on
pub record Held (t : List ℕ) (at : ℕ) (ns : Nodes) : Type 0 where
  pub stop : ℕ
  pub body : Body t (at + 5) stop
  pub is : children_in t (at + 5) stop ≡ ns

-- among the nodes from a place to a place
abbrev Seek : List ℕ → ℕ → Nodes → ℕ → ℕ → Frame → Type 0
Seek t at ns p e k = p ≤ e → e ≤ length t → (walk 65 k (part t p e)).1 ≡ 0 → stands_at at (structs p (walk 65 k (part t p e)).0) ≡ some ns → Held t at ns

-- the first child decides, or fewer bytes do
module _ (t : List ℕ) (b : Bytes t) (at : ℕ) (ns : Nodes) (p e : ℕ) (k : Frame) (i : e ≤ length t) (z : (walk 65 k (part t p e)).1 ≡ 0) (q : stands_at at (structs p (walk 65 k (part t p e)).0) ≡ some ns) where
  none-some : {X : Type 0} → stands_at at (structs p (walk 65 k (part t p e)).0) ≡ none → X
  none-some w = let y = sym q ∙ w in let x : ◌≡◌ {A = ℕ} 0 1 = cc in absurd (omega arith)

  over : e ≤ p → Held t at ns
  unfolding structs stands_at
  over h = none-some (ap (λ (w : Walked). stands_at at (structs p w.0)) (walk_end k 65 (part t p e) (λ y. omega arith) (let l = part_length t p e i in omega arith)))

  module _ (h : p < e) where
    abbrev v : ℕ
    v = value k t p e b h i z

    abbrev w : ℕ
    w = next k t p e b h i z

    onward : (p < w) × (w ≤ e)
    onward = ((turning k t p e b h i z).forth, (turning k t p e b h i z).behind)

    module _ (g : at < w) (low : 10 ≤ kind (part t v e)) (high : kind (part t v e) ≤ 12) where
      its_own : v ≡ at → kind (part t v e) ≡ 12 → Held t at ns
      unfolding frame_of
      its_own x y =
          let r = onward in
          let m = room k t p e b h i z low high in
          let f : frame_of (kind (part t v e)) ≡ Struct = ap frame_of y in
          record {
            stop = w;
            body = record { bytes = b; ordered = omega arith; inside = omega arith; fine = subst (λ (j : ℕ). (walk 65 Struct (part t (j + 5) w)).1 ≡ 0) x (subst (λ (j : Frame). (walk 65 j (part t (v + 5) w)).1 ≡ 0) f (fine k t p e b h i z low high)) };
            is = some_is (sym (here k t p e b h i z low high at g x y) ∙ q);
          }
        where
          some_is : {x y : Nodes} → some x ≡ some y → x ≡ y
          some_is {x} {y} e = ap (λ (o : Option Nodes). on o (λ n. n) x) e

    step : ((p' e' : ℕ) (k' : Frame) → e' - p' < e - p → Seek t at ns p' e' k') → Held t at ns
    step rec = by (dec_le w at) (dec_lt (kind (part t v e)) 10) (dec_lt 12 (kind (part t v e)))
      where
        by : Dec (w ≤ at) → Dec (kind (part t v e) < 10) → Dec (12 < kind (part t v e)) → Held t at ns
        by (yes g) c d = let r = onward in rec w e k (omega arith) r.1 i (turning k t p e b h i z).fine (sym (passed k t p e b h i z at g) ∙ q)
        by (no g) (yes c) d = none-some (in_low k t p e b h i z at (omega arith) c)
        by (no g) (no c) (yes d) = none-some (in_high k t p e b h i z at (omega arith) d)
        by (no g) (no c) (no d) = last (ℕ_discrete v at) (ℕ_discrete (kind (part t v e)) 12)
          where
            inner : (v ≡ at → kind (part t v e) ≡ 12 → ⊥) → Held t at ns
            inner n =
                let r = onward in
                let m = room k t p e b h i z (omega arith) (omega arith) in
                rec (v + 5) w (frame_of (kind (part t v e))) (omega arith) m (omega arith) (fine k t p e b h i z (omega arith) (omega arith)) (sym (in_body k t p e b h i z (omega arith) (omega arith) at (omega arith) n) ∙ q)

            last : Dec (v ≡ at) → Dec (kind (part t v e) ≡ 12) → Held t at ns
            last (yes x) (yes y) = its_own (omega arith) (omega arith) (omega arith) x y
            last (yes x) (no y) = inner (λ _ u. y u)
            last (no x) y = inner (λ u _. x u)

held_in : (n : ℕ) (t : List ℕ) → Bytes t → (at : ℕ) (ns : Nodes) (p e : ℕ) (k : Frame) → e - p ≤ n → Seek t at ns p e k
held_in zero t b at ns p e k f o i z q = over t b at ns p e k i z q (omega arith)
held_in (suc n) t b at ns p e k f o i z q = go (λ p' e' k' l. held_in n t b at ns p' e' k' l) (dec_lt p e)
  where
    go : ((p' e' : ℕ) (k' : Frame) → e' - p' ≤ n → Seek t at ns p' e' k') → Dec (p < e) → Held t at ns
    go rec (no h) = over t b at ns p e k i z q (omega arith)
    go rec (yes h) = step t b at ns p e k i z q h (λ p' e' k' l. rec p' e' k' (omega arith))

pub held : (t : List ℕ) (at : ℕ) (ns : Nodes) → Bytes t → verdict t ≡ 0 → struct_at t at ≡ some ns → Held t at ns
unfolding struct_at
held t at ns b v e =
    let a = (verdict-told t v).least in
    held_in (length t) t b at ns 0 (length t - 8) Top (omega arith) (omega arith) (omega arith) (fine_walked t v) (ap (λ (m : Nodes). stands_at at (structs 0 m)) (nodes_walked t) ∙ e)

-- ---- a name

-- a symbol that is whole within m bytes is the one that stands there
sym-taken : (m : ℕ) (l : List ℕ) (x : Sym) (n : ℕ) → sym_of (take m l) ≡ some (x, n) → sym_of l ≡ some (x, n)
sym-taken m l x n e = go (ℕ_discrete (kind (take m l)) 6) (ℕ_discrete (kind (take m l)) 7)
  where
    none-some : {X : Type 0} → sym_of (take m l) ≡ none → X
    none-some w = let y = sym w ∙ e in let z : ◌≡◌ {A = ℕ} 0 1 = cc in absurd (omega arith)

    long : 5 ≤ length (take m l)
    long = by (dec_le 5 (length (take m l)))
      where
        by : Dec (5 ≤ length (take m l)) → 5 ≤ length (take m l)
        by (yes h) = h
        by (no h) = none-some (sym_short (take m l) (omega arith))

    most : 5 ≤ m
    most = let k = long in let s = length-take m l in omega arith

    same_kind : kind l ≡ kind (take m l)
    same_kind = let k = most in sym (get_or-take m l 0 0 (omega arith))

    same_length : length_of (take m l) ≡ length_of l
    same_length = let k = most in ap (le_number 4) (drop-take 1 m l) ∙ le_take 4 (m - 1) (drop 1 l) (omega arith)

    go : Dec (kind (take m l) ≡ 6) → Dec (kind (take m l) ≡ 7) → sym_of l ≡ some (x, n)
    go (yes k) d = by (dec_le (5 + length_of (take m l)) (length (take m l)))
      where
        by : Dec (5 + length_of (take m l) ≤ length (take m l)) → sym_of l ≡ some (x, n)
        by (yes h) =
            let j = same_length in
            let s = length-take m l in
            let c : take (length_of (take m l)) (drop 5 (take m l)) ≡ take (length_of l) (drop 5 l) =
            ap (λ (a : ℕ). take a (drop 5 (take m l))) j ∙ ap (take (length_of l)) (drop-take 5 m l) ∙ take-take (length_of l) (m - 5) (drop 5 l) (omega arith) in
            sym-text l (Some (length_of l)) (same_kind ∙ k) (sym (length_some l (omega arith)))
            ∙ ap (λ (a : ℕ). some (Sym.text (take (length_of l) (drop 5 l)), 5 + a)) (sym j)
            ∙ ap (λ (a : List ℕ). some (Sym.text a, 5 + length_of (take m l))) (sym c)
            ∙ sym (sym-text (take m l) (Some (length_of (take m l))) k (sym (length_some (take m l) h))) ∙ e
        by (no h) = none-some (sym-text (take m l) None k (sym (length_over (take m l) (omega arith))))
    go (no a) (yes k) =
        let g = long in
        let s = length-take m l in
        sym_id l (same_kind ∙ k) (omega arith) ∙ ap (λ (c : ℕ). some (Sym.id c, 5)) (sym same_length) ∙ sym (sym_id (take m l) k g) ∙ e
    go (no a) (no c) = none-some (sym_none (take m l) a c)

pub name_read : (t : List ℕ) (p e : ℕ) (x : Sym) (n : ℕ) → sym_of (part t p e) ≡ some (x, n) → name_at t p ≡ x
unfolding name_at
name_read t p e x n q = ap (λ (o : Option (Sym × ℕ)). reading o (Sym.text []) (λ s n. s)) (sym-taken (e - p) (drop p t) x n q)
