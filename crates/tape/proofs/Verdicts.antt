-- A tape's own refusal: it is at most 4, and where there is none the nodes of the whole tape have no problem. Assumes nothing.
use Prim.Native.Nat.{ℕ, zero, suc, ◌+◌, ◌-◌, ◌≤◌}
use mathlib.Core.Path.{◌≡◌, ap, ◌∙◌}
use mathlib.Core.List.{List, [], ◌∷◌}
use mathlib.Core.Bool.{Bool, true, false}
use mathlib.Core.Option.{Option, none, some}
use native.Mathlib.Omega.{arith}
use lib.Dec.{eqb}
use lib.Ieee.{Float, nan, inf, fin}
use lib.ListN.{length, take, drop}
use Rattle.output.specs.Logic.{if}
use Rattle.text_rules.specs.Text.{Sym}
use Rattle.text_rules.specs.Utf8.{valid}
use Rattle.numbers.specs.Timestamp.{well_formed}
use Rattle.floats.specs.Value.{is_whole}
use Rattle.tape.specs.Bytes.{le_number, part, first}
use Rattle.tape.specs.Tree.{Scalar, Head, Node, null, bool, int, float, decimal, timestamp, symbol, string, clob, blob, scalar, nest, marker, size}
use Rattle.tape.specs.Tape.{Child, bad, single, tree, child_of, text_fault, sym_fault, syms_fault, name_fault, head_fault, float_fault, scalar_fault, fault, Walked, turn, level, walk, body_of, nodes_of}
use Rattle.tape.specs.Verdict.{misfit, count_fault, verdict}
use Rattle.tape.specs.declared.Frame.{Frame}
use Rattle.tape.specs.declared.Frame.TheVariants.{Top}
use Rattle.tape.proofs.Walking.{verdict-told}

-- ---- a tape's own refusal is at most 4

first_most : {m : ℕ} (a b : ℕ) → a ≤ m → b ≤ m → first a b ≤ m
first_most zero b h g = g
first_most (suc a) b h g = h

if_most : {m : ℕ} (b : Bool) (x y : ℕ) → x ≤ m → y ≤ m → if b x y ≤ m
if_most true x y h g = h
if_most false x y h g = g

text_most : (s : List ℕ) → text_fault s ≤ 4
unfolding text_fault
text_most s = if_most (valid s) 0 2 (omega arith) (omega arith)

sym_most : (s : Sym) → sym_fault s ≤ 4
sym_most (Sym.text s) = text_most s
sym_most (Sym.id n) = omega arith

syms_most : (ss : List Sym) → syms_fault ss ≤ 4
unfolding syms_fault
syms_most [] = omega arith
syms_most (s ∷ ss) = first_most (sym_fault s) (syms_fault ss) (sym_most s) (syms_most ss)

name_most : (a : Option Sym) → name_fault a ≤ 4
name_most none = omega arith
name_most (some s) = sym_most s

head_most : (h : Head) → head_fault h ≤ 4
unfolding head_fault
head_most h = first_most (name_fault h.0) (syms_fault h.1) (name_most h.0) (syms_most h.1)

float_most : (x : Float) → float_fault x ≤ 4
unfolding float_fault
float_most nan = omega arith
float_most (inf s) = omega arith
float_most (fin s m e) = if_most (is_whole (fin s m e)) 0 4 (omega arith) (omega arith)

scalar_most : (s : Scalar) → scalar_fault s ≤ 4
unfolding scalar_fault
scalar_most (null t) = omega arith
scalar_most (bool b) = omega arith
scalar_most (int n) = omega arith
scalar_most (float x) = float_most x
scalar_most (decimal neg m e) = omega arith
scalar_most (timestamp x) = if_most (well_formed x) 0 2 (omega arith) (omega arith)
scalar_most (symbol s) = sym_most s
scalar_most (string s) = text_most s
scalar_most (clob s) = omega arith
scalar_most (blob s) = omega arith

node_most : (n : Node) → fault n ≤ 4
node_most (scalar s) = scalar_most s
node_most (nest k ns) = omega arith
node_most marker = omega arith

abbrev Most : (Frame → List ℕ → Walked) → Type 0
Most inner = (k : Frame) (l : List ℕ) → (inner k l).1 ≤ 4

turn_most : (inner : Frame → List ℕ → Walked) → Most inner → (c : Child) (l : List ℕ) (rest : ℕ → Walked) → ((m : ℕ) → (rest m).1 ≤ 4) → (turn inner c l rest).1 ≤ 4
turn_most inner i bad l rest r = omega arith
turn_most inner i (single h n m) l rest r = first_most (first (head_fault h) (fault n)) (rest m).1 (first_most (head_fault h) (fault n) (head_most h) (node_most n)) (r m)
turn_most inner i (tree h k q m) l rest r =
    first_most (first (head_fault h) (inner k (take m (drop q l))).1) (rest (q + m)).1
    (first_most (head_fault h) (inner k (take m (drop q l))).1 (head_most h) (i k (take m (drop q l))))
    (r (q + m))

level_most : (inner : Frame → List ℕ → Walked) → Most inner → (k : Frame) (n : ℕ) (l : List ℕ) → (level inner k n l).1 ≤ 4
unfolding level
level_most inner i k zero [] = omega arith
level_most inner i k (suc n) [] = omega arith
level_most inner i k (suc n) (x ∷ l) = level_most inner i k n l
level_most inner i k zero (x ∷ l) = turn_most inner i (child_of k (x ∷ l)) (x ∷ l) (λ m. level inner k (m - 1) l) (λ m. level_most inner i k (m - 1) l)

walk_most : (d : ℕ) → Most (walk d)
unfolding walk
walk_most zero k l = omega arith
walk_most (suc d) k l = level_most (walk d) (walk_most d) k 0 l

count_most : (t : List ℕ) → count_fault t ≤ 4
unfolding count_fault
count_most t = if_most (eqb (le_number 4 (drop (length t - 4) t)) (size (body_of t).0)) 0 2 (omega arith) (omega arith)

pub verdict_most : (t : List ℕ) → verdict t ≤ 4
unfolding verdict body_of
verdict_most t =
    if_most (misfit t) 1 (first (body_of t).1 (count_fault t)) (omega arith)
    (first_most (body_of t).1 (count_fault t) (walk_most 65 Top (take (length t - 8) t)) (count_most t))

-- ---- the whole tape

-- the nodes of its bytes but the trailer are the tape's
walked : (t : List ℕ) → walk 65 Top (part t 0 (length t - 8)) ≡ body_of t
unfolding body_of
walked t = let n : length t - 8 - 0 ≡ length t - 8 = omega arith in ap (λ (i : ℕ). walk 65 Top (take i t)) n

pub nodes_walked : (t : List ℕ) → (walk 65 Top (part t 0 (length t - 8))).0 ≡ nodes_of t
unfolding nodes_of
nodes_walked t = ap (λ (w : Walked). w.0) (walked t)

-- and nothing is wrong with them
pub fine_walked : (t : List ℕ) → verdict t ≡ 0 → (walk 65 Top (part t 0 (length t - 8))).1 ≡ 0
fine_walked t v = ap (λ (w : Walked). w.1) (walked t) ∙ (verdict-told t v).nodes
