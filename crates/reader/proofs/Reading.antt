-- The grammar's steps for values and sequences. Assumes nothing.
use Prim.Native.Nat.{ℕ, zero, suc, ◌*◌, ◌<◌}
use mathlib.Core.Path.{◌≡◌, refl}
use mathlib.Core.List.{List, [], ◌∷◌}
use mathlib.Core.Bool.{Bool}
use mathlib.Core.Option.{Option, none, some}
use native.Mathlib.Omega.{arith}
use lib.ListN.{length, drop}
use Rattle.output.specs.Logic.{then}
use Rattle.tape.specs.Tree.{Head, Node, Nodes}
use Rattle.tape.specs.declared.Frame.{Frame}
use Rattle.tape.specs.declared.Frame.TheVariants.{Top}
use Rattle.reader.specs.Grammar.{opens, scalar, closes, gap, skip, head, free, body, value, sequence, meaning}

-- a text that opens a frame is not empty
pub opens-some : (t : List ℕ) (k : Frame) → opens t ≡ some k → length (drop 1 t) < length t
unfolding opens
opens-some [] k e = absurd (let z : ◌≡◌ {A = ℕ} 0 1 = cc in omega arith)
opens-some (c ∷ t) k e = omega arith

-- By any raw rule.
module _ (is_raw : ℕ → Bool) where
  pub body_nest : (f : ℕ) (m : Bool) (l : ℕ) (t : List ℕ) (k : Frame) (o : Option (Nodes × List ℕ)) → opens t ≡ some k → sequence is_raw f k l (drop 1 t) ≡ o
      → body is_raw (suc f) m (suc l) t ≡ then o (λ r. some (Node.nest k r.0, r.1))
  unfolding body
  body_nest f m l t k o h e = rw (h, e)

  pub body_deep : (f : ℕ) (m : Bool) (t : List ℕ) (k : Frame) → opens t ≡ some k → body is_raw f m 0 t ≡ none
  unfolding body
  body_deep zero m t k h = refl
  body_deep (suc f) m t k h = rw h

  pub body_scalar : (f : ℕ) (m : Bool) (l : ℕ) (t : List ℕ) → opens t ≡ none → body is_raw (suc f) m l t ≡ scalar is_raw m t
  unfolding body
  body_scalar f m l t h = rw h

  pub body_nothing : (f : ℕ) (m : Bool) (l : ℕ) (t : List ℕ) → opens t ≡ none → scalar is_raw m t ≡ none → body is_raw f m l t ≡ none
  unfolding body
  body_nothing zero m l t h e = refl
  body_nothing (suc f) m l t h e = rw (h, e)

  pub value_headless : (f : ℕ) (k : Frame) (l : ℕ) (t : List ℕ) → head is_raw k t ≡ none → value is_raw f k l t ≡ none
  unfolding value
  value_headless f k l t e = rw e

  pub value-head : (f : ℕ) (k : Frame) (l : ℕ) (t u : List ℕ) (h : Head) (o : Option (Node × List ℕ)) → head is_raw k t ≡ some (h, u) → body is_raw f (free k h.1) l u ≡ o
      → value is_raw f k l t ≡ then o (λ n. some ((h, n.0), n.1))
  unfolding value
  value-head f k l t u h o e g = rw (e, g)

  pub sequence_end : (f l : ℕ) (k : Frame) (t r : List ℕ) → closes k (skip t) ≡ some r → sequence is_raw (suc f) k l t ≡ some (Nodes.nil, r)
  unfolding body
  sequence_end f l k t r h = rw h

  -- what follows a child n
  abbrev pub further : ℕ → ℕ → Frame → (Head × Node) × List ℕ → Option (Nodes × List ℕ)
  further f l k n = then (gap k n.1) (λ u. then (sequence is_raw f k l u) (λ ns. some (Nodes.more n.0.0 n.0.1 ns.0, ns.1)))

  pub further-none : (f l : ℕ) (k : Frame) (n : Head × Node) (t : List ℕ) → gap k t ≡ none → further f l k (n, t) ≡ none
  further-none f l k n t e = rw e

  pub further-some : (f l : ℕ) (k : Frame) (n : Head × Node) (t u : List ℕ) (o : Option (Nodes × List ℕ)) → gap k t ≡ some u → sequence is_raw f k l u ≡ o
      → further f l k (n, t) ≡ then o (λ ns. some (Nodes.more n.0 n.1 ns.0, ns.1))
  further-some f l k n t u o e h = rw (e, h)

  pub sequence_child : (f l : ℕ) (k : Frame) (t : List ℕ) (o : Option ((Head × Node) × List ℕ)) → closes k (skip t) ≡ none → value is_raw f k l (skip t) ≡ o
      → sequence is_raw (suc f) k l t ≡ then o (further f l k)
  unfolding body value
  sequence_child f l k t o h e = rw (h, e)

  pub meaning-none : (t : List ℕ) → sequence is_raw (suc (2 * length t)) Top 64 t ≡ none → meaning is_raw t ≡ none
  unfolding meaning
  meaning-none t e = rw e

  pub meaning-some : (t u : List ℕ) (ns : Nodes) → sequence is_raw (suc (2 * length t)) Top 64 t ≡ some (ns, u) → meaning is_raw t ≡ some ns
  unfolding meaning
  meaning-some t u ns e = rw e
