-- Bytes that stand in both tapes: how far they reach, and that children within them are the same. Assumes nothing.
use Rattle.std.specs.Ordering.{nat_cmp}
use Rattle.std.specs.Cmp.Lexicographic.{slice_cmp}
use Prim.Native.Nat.{ℕ, zero, suc, ◌+◌, ◌-◌, ◌<◌, ◌≤◌}
use mathlib.Core.Path.{◌≡◌, refl, sym, ap, subst, ◌∙◌}
use mathlib.Core.List.{List, [], ◌∷◌, ◌++◌, append_assoc}
use mathlib.Core.Bool.{true}
use mathlib.Core.Option.{Option, none, some}
use native.Mathlib.Omega.{arith}
use lib.ListN.{length, get_or, take, drop, length-append, length-take, take-append-drop}
use lib.Seq.{take-add, take-take, take-append_seam, drop-append_seam, drop_at, take_at, drop-drop, drop-cons}
use Rattle.output.specs.Wrote.{le_bytes}
use Rattle.output.proofs.Laws.{length-le}
use Rattle.tape.specs.Bytes.{part}
use Rattle.tape.specs.Tree.{Head, Node, Nodes, scalar, nest, marker, nil, more, encode_head, encode, encodes}
use Rattle.tape.specs.Tape.{reading, head_of, leaf, value_of, Walked, walk}
use Rattle.tape.specs.Fine.{Bytes, FineHead, Fine, Fines}
use Rattle.tape.specs.Steps.{head_at, size_taken, node_is, size_is, node_at, size_at}
use Rattle.tape.specs.declared.Frame.{Frame}
use Rattle.tape.proofs.Numbers.{bytes_take, bytes_drop}
use Rattle.tape.proofs.Parts.{drop-take, part_length, part-drop}
use Rattle.tape.proofs.Walking.{walk_back}
use Rattle.tape.proofs.FineBack.{walk_fine}
use Rattle.tape.proofs.CodeReading.{value_marker}
use Rattle.tape.proofs.Accepted.{head_as, kind_as, value_as, nest_as, accepted}
use Rattle.tape.proofs.Turning.{Turn, turn_here, size-some}
use Rattle.std.specs.declared.cmp.Ordering.TheVariants.{Equal}
use Rattle.order.specs.Order.{headed, contents, nodes}
use Rattle.order.specs.Steps.{Body, Shared, Passed}
use Rattle.order.proofs.Combine.{reflexive, equal_is, both_equal}
use Rattle.order.proofs.NodeOrder.{nodes_total}

-- ---- equal bytes

module _ (s : List ℕ) (i e : ℕ) (t : List ℕ) (j f : ℕ) where
  pub shared_none : i ≤ e → j ≤ f → Shared s i e t j f 0
  shared_none h k = record { left = omega arith; right = omega arith; bytes = refl }

  -- m more
  pub shared_more : {n : ℕ} (m : ℕ) → Shared s i e t j f n → i + n + m ≤ e → j + n + m ≤ f → take m (drop (i + n) s) ≡ take m (drop (j + n) t) → Shared s i e t j f (n + m)
  shared_more {n} m h a b q = record {
    left = omega arith;
    right = omega arith;
    bytes = take-add n m (drop i s)
        ∙ ap (λ (x : List ℕ). x ++ take m (drop n (drop i s))) h.bytes
        ∙ ap (λ (x : List ℕ). take n (drop j t) ++ take m x) (drop-drop n i s)
        ∙ ap (λ (x : List ℕ). take n (drop j t) ++ x) q
        ∙ ap (λ (x : List ℕ). take n (drop j t) ++ take m x) (sym (drop-drop n j t))
        ∙ sym (take-add n m (drop j t));
  }

  -- a block of four words
  pub shared_block : {n : ℕ} → Shared s i e t j f n → i + n + 32 ≤ e → j + n + 32 ≤ f → take 8 (drop (i + n) s) ≡ take 8 (drop (j + n) t) → take 8 (drop (i + (n + 8)) s) ≡ take 8 (drop (j + (n + 8)) t)
      → take 8 (drop (i + (n + 16)) s) ≡ take 8 (drop (j + (n + 16)) t) → take 8 (drop (i + (n + 24)) s) ≡ take 8 (drop (j + (n + 24)) t) → Shared s i e t j f (n + 32)
  shared_block {n} h a b w₀ w₁ w₂ w₃ =
      let one : Shared s i e t j f (n + 8) = shared_more 8 h (omega arith) (omega arith) w₀ in
      let two : Shared s i e t j f (n + 16) = at_last 8 16 refl (shared_more 8 one (omega arith) (omega arith) w₁) in
      let three : Shared s i e t j f (n + 24) = at_last 16 24 refl (shared_more 8 two (omega arith) (omega arith) w₂) in
      at_last 24 32 refl (shared_more 8 three (omega arith) (omega arith) w₃)
    where
      at_last : (c d : ℕ) → c + 8 ≡ d → Shared s i e t j f (n + c + 8) → Shared s i e t j f (n + d)
      at_last c d q h = let p : n + c + 8 ≡ n + d = omega arith in subst (Shared s i e t j f) p h

  pub shared_byte : {n : ℕ} → Shared s i e t j f n → i + n < e → j + n < f → e ≤ length s → f ≤ length t → get_or s (i + n) 0 ≡ get_or t (j + n) 0 → Shared s i e t j f (n + 1)
  shared_byte {n} h a b c d q = shared_more 1 h (omega arith) (omega arith) (one s (i + n) (omega arith) ∙ ap (λ (x : ℕ). x ∷ []) q ∙ sym (one t (j + n) (omega arith)))
    where
      one : (l : List ℕ) (p : ℕ) → p < length l → take 1 (drop p l) ≡ get_or l p 0 ∷ []
      one l p k = ap (take 1) (drop-cons l p 0 k)

  pub shared_within : {n : ℕ} (e' f' : ℕ) → Shared s i e t j f n → i + n ≤ e' → j + n ≤ f' → Shared s i e' t j f' n
  shared_within e' f' h a b = record { left = a; right = b; bytes = h.bytes }

-- u bytes on
pub bytes_on : (s : List ℕ) (x : ℕ) (t : List ℕ) (y n u : ℕ) → take n (drop x s) ≡ take n (drop y t) → take (n - u) (drop (x + u) s) ≡ take (n - u) (drop (y + u) t)
bytes_on s x t y n u q =
    ap (take (n - u)) (sym (drop-drop u x s)) ∙ sym (drop-take u n (drop x s)) ∙ ap (drop u) q ∙ drop-take u n (drop y t) ∙ ap (take (n - u)) (drop-drop u y t)

pub shared_on : (s : List ℕ) (i e : ℕ) (t : List ℕ) (j f : ℕ) {n : ℕ} (r : ℕ) → Shared s i e t j f n → i ≤ r → r ≤ i + n → Shared s r e t (j + (r - i)) f (n - (r - i))
shared_on s i e t j f {n} r q h k =
    let a = q.left in
    let b = q.right in
    let p : i + (r - i) ≡ r = omega arith in
    record {
      left = omega arith;
      right = omega arith;
      bytes = ap (λ (x : ℕ). take (n - (r - i)) (drop x s)) (sym p) ∙ bytes_on s i t j n (r - i) q.bytes;
    }

-- from i and j on, which lie as far behind x and y, what is left of n
pub shared_from : (s : List ℕ) (i e : ℕ) (t : List ℕ) (j f x y n : ℕ) → take n (drop x s) ≡ take n (drop y t) → x ≤ i → y ≤ j → i - x ≡ j - y → i + (n - (i - x)) ≤ e → j + (n - (i - x)) ≤ f → Shared s i e t j f (n - (i - x))
shared_from s i e t j f x y n q h k o a b =
    let p : x + (i - x) ≡ i = omega arith in
    let r : y + (i - x) ≡ j = omega arith in
    record {
      left = a;
      right = b;
      bytes = ap (λ (z : ℕ). take (n - (i - x)) (drop z s)) (sym p) ∙ bytes_on s x t y n (i - x) q ∙ ap (λ (z : ℕ). take (n - (i - x)) (drop z t)) r;
    }

-- the two stretches by themselves
pub shared_parts : (s : List ℕ) (i e : ℕ) (t : List ℕ) (j f : ℕ) {n : ℕ} → Shared s i e t j f n → e ≤ length s → f ≤ length t → Shared (part s i e) 0 (length (part s i e)) (part t j f) 0 (length (part t j f)) n
shared_parts s i e t j f {n} q h k =
    let a = q.left in
    let b = q.right in
    let c = part_length s i e h in
    let d = part_length t j f k in
    record {
      left = omega arith;
      right = omega arith;
      bytes = take-take n (e - i) (drop i s) (omega arith) ∙ q.bytes ∙ sym (take-take n (f - j) (drop j t) (omega arith));
    }

-- the first c of them
bytes_of : (s : List ℕ) (x : ℕ) (t : List ℕ) (y n c : ℕ) → c ≤ n → take n (drop x s) ≡ take n (drop y t) → take c (drop x s) ≡ take c (drop y t)
bytes_of s x t y n c h q = sym (take-take c n (drop x s) h) ∙ ap (take c) q ∙ take-take c n (drop y t) h

-- texts that start with the same bytes compare as what is left of them
pub lists_shared : (n : ℕ) (s t : List ℕ) → n ≤ length s → n ≤ length t → take n s ≡ take n t → slice_cmp nat_cmp s t ≡ slice_cmp nat_cmp (drop n s) (drop n t)
lists_shared zero s t h k q = refl
lists_shared (suc n) [] t h k q = absurd (omega arith)
lists_shared (suc n) (x ∷ s) [] h k q = absurd (omega arith)
lists_shared (suc n) (x ∷ s) (y ∷ t) h k q =
    let a : x ≡ y = ap (λ (l : List ℕ). get_or l 0 0) q in
    rw (equal_is x y a) (lists_shared n s t (omega arith) (omega arith) (ap (drop 1) q))

-- ---- equal children

-- a value is read from its bytes, whatever follows
pub record Encoded (d : ℕ) (n : Node) (l : List ℕ) : Type 0 where
  pub node : node_at d l ≡ n
  pub size : size_at l ≡ length (encode n)

nest_inside : (g : Frame) (ns : Nodes) (r : List ℕ) → take (length (encodes ns)) (drop 5 (encode (nest g ns) ++ r)) ≡ encodes ns
unfolding encode
nest_inside g ns r =
    let e : List ℕ = encodes ns in
    ap (λ (x : List ℕ). take (length e) (drop 4 x)) (append_assoc (le_bytes 4 (length e)) e r) ∙ ap (take (length e)) (drop_at (le_bytes 4 (length e)) (e ++ r) 4 (length-le 4 (length e))) ∙ take-append_seam e r

nest_size : (g : Frame) (ns : Nodes) → 5 + length (encodes ns) ≡ length (encode (nest g ns))
unfolding encode
nest_size g ns = let a = length-append (le_bytes 4 (length (encodes ns))) (encodes ns) in let b = length-le 4 (length (encodes ns)) in omega arith

marker_is : (r : List ℕ) → value_of true (encode marker ++ r) ≡ leaf marker (length (encode marker))
unfolding encode
marker_is r = value_marker true (14 ∷ r) refl

node_as : (d : ℕ) (k : Frame) (n : Node) (h : Head) (r : List ℕ) → Fine d k h.1 n → Encoded d n (encode n ++ r)
unfolding Fine node_at size_at
node_as d k (scalar s) h r f = let v = value_as true s r f in record { node = ap (node_is d (encode (scalar s) ++ r)) v; size = ap size_is v }
node_as d k marker h r f = let v = marker_is r in record { node = ap (node_is d (encode marker ++ r)) v; size = ap size_is v }
node_as zero k (nest g ns) h r f = absurd f
node_as (suc d) k (nest g ns) h r f =
    let v = nest_as true g ns r f.0 f.1 in
    record {
      node = ap (node_is (suc d) (encode (nest g ns) ++ r)) v ∙ ap (λ (x : List ℕ). nest g (walk (suc d) g x).0) (nest_inside g ns r) ∙ ap (λ (w : Walked). nest g w.0) (accepted d g ns f.2);
      size = ap size_is v ∙ nest_size g ns;
    }

-- a child is read from its bytes
record FirstChild (d : ℕ) (k : Frame) (h : Head) (n : Node) (l : List ℕ) : Type 0 where
  head : head_at k l ≡ h
  taken : size_taken (head_of k l) ≡ length (encode_head h)
  value : Encoded d n (drop (length (encode_head h)) l)

child_as : (d : ℕ) (k : Frame) (h : Head) (n : Node) (r l : List ℕ) → FineHead k h → Fine d k h.1 n → l ≡ encode_head h ++ encode n ++ r → FirstChild d k h n l
child_as d k h n r l a f q =
    let p : l ≡ encode_head h ++ (encode n ++ r) = q ∙ append_assoc (encode_head h) (encode n) r in
    let o : head_of k l ≡ some (h, length (encode_head h)) = ap (head_of k) p ∙ head_as k h (encode n ++ r) a (kind_as n r) in
    record {
      head = ap (λ (o : Option (Head × ℕ)). reading o (none, []) (λ h n. h)) o;
      taken = ap (λ (o : Option (Head × ℕ)). size_taken o) o;
      value = subst (Encoded d n) (sym (ap (drop (length (encode_head h))) p ∙ drop-append_seam (encode_head h) (encode n ++ r))) (node_as d k n h r f);
    }

fines_here : (d : ℕ) (k : Frame) (l : List ℕ) → (d ≡ 0 → ⊥) → Bytes l → (walk d k l).1 ≡ 0 → Fines (d - 1) k (walk d k l).0
fines_here zero k l nz b z = absurd (nz refl)
fines_here (suc d) k l nz b z = let e : d ≡ suc d - 1 = omega arith in subst (λ (i : ℕ). Fines i k (walk (suc d) k l).0) e (walk_fine d k l b z)

first_fine : (d : ℕ) (k : Frame) (h : Head) (n : Node) (ns : Nodes) → Fines d k (more h n ns) → FineHead k h × Fine d k h.1 n
unfolding Fines
first_fine d k h n ns f = (f.0, f.1)

-- the same child before both
same_child : (h : Head) (n : Node) (x y : Nodes) → nodes (more h n x) (more h n y) ≡ nodes x y
unfolding nodes
same_child h n x y = rw (both_equal (headed h n h n (contents n n)) Equal (reflexive (nodes_total 0 Rattle.tape.specs.declared.Frame.TheVariants.Top) (more h n nil))).0 refl

module _ (d : ℕ) (k : Frame) (nz : d ≡ 0 → ⊥) where
  -- where the value of the child at a place stands, and where it ends
  abbrev pub value_at : List ℕ → ℕ → ℕ → ℕ
  value_at s i e = i + size_taken (head_of k (part s i e))

  abbrev pub end_at : List ℕ → ℕ → ℕ → ℕ
  end_at s i e = value_at s i e + size_at (part s (value_at s i e) e)

  turn_at : (s : List ℕ) (i e : ℕ) → Body d k s i e → i < e → Turn d k s i e (value_at s i e) (end_at s i e)
  turn_at s i e g h = turn_here d k s i e nz h g.room g.fine

  -- the value of the child at a place, with some bytes, ends within the body
  pub record ValueHere (s : List ℕ) (i e p : ℕ) : Type 0 where
    pub within : p ≤ e
    pub some : 0 < size_at (part s p e)
    pub forth : i < p + size_at (part s p e)
    pub behind : p + size_at (part s p e) ≤ e

  pub value_here : (s : List ℕ) (i e : ℕ) → Body d k s i e → i < e → (p : ℕ) → p ≡ value_at s i e → ValueHere s i e p
  value_here s i e g h p q =
      let u = turn_at s i e g h in
      rw q (record { within = u.within; some = size-some (d - 1) (part s (value_at s i e) e) u.value; forth = u.forth; behind = u.behind })

  module _ (s : List ℕ) (i e : ℕ) (b : Bytes s) (g : Body d k s i e) (lt : i < e) where
    abbrev H : Head
    H = head_at k (part s i e)

    abbrev N : Node
    N = node_at (d - 1) (part s (value_at s i e) e)

    abbrev c : ℕ
    c = end_at s i e - i

    child_fine : FineHead k H × Fine (d - 1) k H.1 N
    child_fine = first_fine (d - 1) k H N (walk d k (part s (end_at s i e) e)).0 (subst (Fines (d - 1) k) (turn_at s i e g lt).nodes (fines_here d k (part s i e) nz (bytes_take (e - i) (drop i s) (bytes_drop i s b)) g.fine))

    child_bytes : encode_head H ++ encode N ≡ take c (part s i e)
    child_bytes =
        let u = turn_at s i e g lt in
        let room = g.room in
        let w : List ℕ = encode_head H ++ encode N in
        let rest : List ℕ = encodes (walk d k (part s (end_at s i e) e)).0 in
        let split : encodes (walk d k (part s i e)).0 ≡ w ++ rest = unfold encodes in ap encodes u.nodes in
        let all : w ++ rest ≡ part s i e = sym split ∙ walk_back d k (part s i e) (bytes_take (e - i) (drop i s) (bytes_drop i s b)) g.fine in
        let back : rest ≡ part s (end_at s i e) e = walk_back d k (part s (end_at s i e) e) (bytes_take (e - end_at s i e) (drop (end_at s i e) s) (bytes_drop (end_at s i e) s b)) u.fine in
        let n₁ = length-append w rest in
        let n₂ = ap length all in
        let n₃ = ap length back in
        let n₄ = part_length s i e room in
        let n₅ = part_length s (end_at s i e) e room in
        let on = u.forth in
        let up = u.behind in
        let n : length w ≡ c = omega arith in
        sym (take_at w rest c n) ∙ ap (take c) all

    -- a child within bytes that another body starts with is that body's first
    module _ (t : List ℕ) (j f : ℕ) (b' : Bytes t) (h : Body d k t j f) {n : ℕ} (q : Shared s i e t j f n) (in-them : end_at s i e ≤ i + n) where
      there : j < f
      there = let a = q.right in let u = (turn_at s i e g lt).forth in omega arith

      same_bytes : take c (part s i e) ≡ take c (part t j f)
      same_bytes =
          let a = q.left in
          let z = q.right in
          let u = (turn_at s i e g lt).forth in
          take-take c (e - i) (drop i s) (omega arith) ∙ bytes_of s i t j n c (omega arith) q.bytes ∙ sym (take-take c (f - j) (drop j t) (omega arith))

      first : FirstChild (d - 1) k H N (part t j f)
      first =
          child_as (d - 1) k H N (drop c (part t j f)) (part t j f) child_fine.0 child_fine.1
          (sym (take-append-drop c (part t j f)) ∙ ap (λ (x : List ℕ). x ++ drop c (part t j f)) (sym same_bytes ∙ sym child_bytes))

      value-is : part t (value_at t j f) f ≡ drop (length (encode_head H)) (part t j f)
      value-is = sym (part-drop t j f (size_taken (head_of k (part t j f)))) ∙ ap (λ (x : ℕ). drop x (part t j f)) first.taken

      end_is : end_at t j f ≡ j + c
      end_is =
          let a = first.taken in
          let z : size_at (part t (value_at t j f) f) ≡ length (encode N) = ap size_at value-is ∙ first.value.size in
          let m = length-append (encode_head H) (encode N) in
          let o : length (encode_head H ++ encode N) ≡ c = ap length child_bytes ∙ length-of in
          omega arith
        where
          length-of : length (take c (part s i e)) ≡ c
          length-of = let a = part_length s i e g.room in let x = length-take c (part s i e) in let u = turn_at s i e g lt in let y = u.forth in let z = u.behind in omega arith

      nodes_are : (walk d k (part t j f)).0 ≡ more H N (walk d k (part t (j + c) f)).0
      nodes_are =
          (turn_at t j f h there).nodes
          ∙ ap (λ (x : Head). more x (node_at (d - 1) (part t (value_at t j f) f)) (walk d k (part t (end_at t j f) f)).0) first.head
          ∙ ap (λ (x : Node). more H x (walk d k (part t (end_at t j f) f)).0) (ap (node_at (d - 1)) value-is ∙ first.value.node)
          ∙ ap (λ (x : ℕ). more H N (walk d k (part t x f)).0) end_is

      pub other-left : Body d k t (j + c) f
      other-left =
          let u = turn_at t j f h there in
          let a = u.behind in
          let x = end_is in
          record { within = omega arith; room = h.room; fine = ap (λ (x : ℕ). (walk d k (part t x f)).1) (sym end_is) ∙ u.fine }

      pub child_same : nodes (walk d k (part s i e)).0 (walk d k (part t j f)).0 ≡ nodes (walk d k (part s (end_at s i e) e)).0 (walk d k (part t (j + c) f)).0
      child_same =
          ap (λ (x : Nodes). nodes x (walk d k (part t j f)).0) (turn_at s i e g lt).nodes
          ∙ ap (nodes (more H N (walk d k (part s (end_at s i e) e)).0)) nodes_are
          ∙ same_child H N (walk d k (part s (end_at s i e) e)).0 (walk d k (part t (j + c) f)).0

  -- ---- what is passed
  module _ (s : List ℕ) (i e n : ℕ) (b : Bytes s) where
    pub passed_none : Body d k s i e → Passed d k s i e n i
    passed_none g = record {
      least = omega arith;
      most = omega arith;
      left = g;
      other = λ t j f b h q. subst (λ (x : ℕ). Body d k t x f) (same j) h;
      same = λ t j f b h q. ap (λ (x : ℕ). nodes (walk d k (part s i e)).0 (walk d k (part t x f)).0) (same j);
    }
      where
        same : (j : ℕ) → j ≡ j + (i - i)
        same j = omega arith

    passed_more : {r : ℕ} → Passed d k s i e n r → r < e → end_at s r e ≤ i + n → Passed d k s i e n (end_at s r e)
    passed_more {r} p lt m =
        let a = p.least in
        let z = p.most in
        let u = turn_at s r e p.left lt in
        let o = u.forth in
        record {
          least = omega arith;
          most = m;
          left = record { within = u.behind; room = p.left.room; fine = u.fine };
          other = λ t j f b' h q. subst (λ (x : ℕ). Body d k t x f) (place j) (other-left s r e b p.left lt t (j + (r - i)) f b' (p.other t j f b' h q) (on t j f q) fits);
          same = λ t j f b' h q. p.same t j f b' h q ∙ child_same s r e b p.left lt t (j + (r - i)) f b' (p.other t j f b' h q) (on t j f q) fits ∙ ap (λ (x : ℕ). nodes (walk d k (part s (end_at s r e) e)).0 (walk d k (part t x f)).0) (place j);
        }
      where
        place : (j : ℕ) → j + (r - i) + (end_at s r e - r) ≡ j + (end_at s r e - i)
        place j = let a = p.least in let o = (turn_at s r e p.left lt).forth in omega arith

        fits : end_at s r e ≤ r + (n - (r - i))
        fits = let a = p.least in let z = p.most in omega arith

        on : (t : List ℕ) (j f : ℕ) → Shared s i e t j f n → Shared s r e t (j + (r - i)) f (n - (r - i))
        on t j f q = shared_on s i e t j f r q p.least p.most

    -- by where the code finds the value, and its size
    pub passed_on : {r p m : ℕ} → Passed d k s i e n r → r < e → p ≡ value_at s r e → m ≡ size_at (part s p e) → p + m ≤ i + n → Passed d k s i e n (p + m)
    passed_on {r} {p} {m} h lt q z f =
        let x : p + m ≡ end_at s r e = ap (λ (x : ℕ). p + x) z ∙ ap (λ (x : ℕ). x + size_at (part s x e)) q in
        subst (Passed d k s i e n) (sym x) (passed_more h lt (subst (λ (x : ℕ). x ≤ i + n) x f))
