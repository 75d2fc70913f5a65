-- What validation has gathered of the nodes that it has passed. Assumes nothing.
use Prim.Native.Nat.{ℕ, suc, ◌+◌}
use mathlib.Core.Path.{◌≡◌, refl, sym, ap, ◌∙◌}
use mathlib.Core.List.{List}
use mathlib.Core.Bool.{Bool, false, ◌||◌, or_assoc, or-false}
use native.Mathlib.Omega.{arith}
use Rattle.tape.specs.Bytes.{first}
use Rattle.tape.specs.Tree.{Head, Node, nil, size}
use Rattle.tape.specs.Tape.{head_fault, Walked, join, walk}
use Rattle.tape.specs.declared.Frame.{Frame}
use Rattle.tape.specs.Refusal.{annotated, noted, noteds, head_numbered, numbered, numbereds}
use Rattle.tape.specs.CheckSteps.{Checks}
use Rattle.tape.specs.Answer.{fault_number, fault_of}
use Rattle.tape.specs.declared.answer.Fault.{Fault}
use Rattle.tape.specs.declared.answer.Fault.TheVariants as F
use Rattle.std.specs.Prelude.{Result, Ok, Err}
use Rattle.tape.proofs.CodeFacts.{first_inner}

-- of the nodes w without a problem so far, v are left; those before them were count, one of them annotated or none, one an identifier but 0 or none
pub record Passed (w v : Walked) (count : ℕ) (noted' numbered' : Bool) : Type 0 where
  pub fault : w.1 ≡ v.1
  pub sizes : size w.0 ≡ count + size v.0
  pub notes : noteds w.0 ≡ noted' || noteds v.0
  pub numbers : numbereds w.0 ≡ numbered' || numbereds v.0

pub passed_none : (w : Walked) → Passed w w 0 false false
passed_none w = record { fault = refl; sizes = omega arith; notes = refl; numbers = refl }

-- a refusal, at the first node left
pub refuse : {w v : Walked} {c : ℕ} {a b : Bool} → Passed w v c a b → (f : Fault) → v.1 ≡ fault_number f → Checks w (Err f)
refuse i f e = record { fault = sym (i.fault ∙ e); counts = tt }

-- a refusal has a number
pub fault_some : (f : Fault) → fault_number f ≡ 0 → ⊥
fault_some F.Misfit e = omega arith
fault_some F.BadNode e = omega arith
fault_some F.TooDeep e = omega arith
fault_some F.FiniteFloat e = omega arith

-- what is not refused has none
pub none_wrong : {A : Type 0} (r : Result A Fault) → ((f : Fault) → r ≡ Err f → ⊥) → fault_of r ≡ 0
none_wrong (Ok x) h = refl
none_wrong (Err f) h = absurd (h f refl)

-- a problem in a node behind a head without one
pub join-fault : (h : Head) (n : Node) (p : ℕ) (u : Walked) → head_fault h ≡ 0 → (p ≡ 0 → ⊥) → (join h n p u).1 ≡ p
join-fault h n p u z nz = ap (λ (x : ℕ). first (first x p) u.1) z ∙ first_inner p u.1 nz

or_both : (a b c d : Bool) → a || b || c || d ≡ a || (b || c || d)
or_both a b c d = or_assoc (a || b) c d ∙ or_assoc a b (c || d) ∙ ap (λ (x : Bool). a || x) (sym (or_assoc b c d))

-- the nodes left start with a child: its head h, its node n, and p, the first problem in the node
module _ {w v : Walked} {c : ℕ} {a b : Bool} (i : Passed w v c a b) (h : Head) (n : Node) (p : ℕ) (u : Walked) (step : v ≡ join h n p u) where
  joined : v.1 ≡ first (first (head_fault h) p) u.1
  joined = ap (λ (x : Walked). x.1) step

  pub refuse_node : (f : Fault) → head_fault h ≡ 0 → fault_number f ≡ p → Checks w (Err f)
  refuse_node f z g = refuse i f (joined ∙ join-fault h n p u z (λ e. fault_some f (g ∙ e)) ∙ sym g)

  pub pass : (a' b' : Bool) → head_fault h ≡ 0 → p ≡ 0 → a' ≡ a || annotated h.1 || noted n → b' ≡ b || head_numbered h || numbered n → Passed w u (c + 1) a' b'
  unfolding size noteds numbereds
  pass a' b' y z x q =
      let t : size v.0 ≡ suc (size u.0) = ap (λ (x : Walked). size x.0) step in
      let s = i.sizes in
      record {
        fault = i.fault ∙ joined ∙ ap (λ (x : ℕ). first (first x p) u.1) y ∙ ap (λ (x : ℕ). first x u.1) z;
        sizes = omega arith;
        notes = i.notes ∙ ap (λ (x : Walked). a || noteds x.0) step ∙ sym (ap (λ (x : Bool). x || noteds u.0) x ∙ or_both a (annotated h.1) (noted n) (noteds u.0));
        numbers = i.numbers ∙ ap (λ (x : Walked). b || numbereds x.0) step ∙ sym (ap (λ (x : Bool). x || numbereds u.0) q ∙ or_both b (head_numbered h) (numbered n) (numbereds u.0));
      }

-- no nodes are left
pub passed-all : {w v : Walked} {c : ℕ} {a b : Bool} → Passed w v c a b → v ≡ (nil, 0) → Checks w (Ok (record { count = c; noted = a; numbered = b }))
unfolding size noteds numbereds
passed-all {v = v} {a = a} {b = b} i e =
    let t : size v.0 ≡ 0 = ap (λ (x : Walked). size x.0) e in
    let s = i.sizes in
    record {
      fault = sym (i.fault ∙ ap (λ (x : Walked). x.1) e);
      counts = record {
        count = omega arith;
        noted = sym (i.notes ∙ ap (λ (x : Walked). a || noteds x.0) e ∙ or-false a);
        numbered = sym (i.numbers ∙ ap (λ (x : Walked). b || numbereds x.0) e ∙ or-false b);
      };
    }

-- no body may be opened
pub refuse_deep : (k : Frame) (l : List ℕ) → Checks (walk 0 k l) (Err F.TooDeep)
unfolding walk
refuse_deep k l = record { fault = refl; counts = tt }
