-- Laws of `Laid`: nothing written, bytes behind bytes, and bytes that are put in before others. Assumes nothing.
use Prim.Native.Nat.{ℕ, suc, ◌+◌, ◌-◌, ◌≤◌, ◌<◌, min}
use mathlib.Core.Path.{◌≡◌, refl, sym, ap, ◌∙◌}
use mathlib.Core.List.{List, [], ◌∷◌, ◌++◌}
use native.Mathlib.Nat.{add-zero, add-suc, suc-add}
use native.Mathlib.Omega.{arith}
use lib.ListN.{length, take, drop, set, length-append, length-drop}
use lib.Seq.{sets, take-length}
use Rattle.output.specs.Wrote.{Wrote, limit, le_bytes}
use Rattle.output.proofs.Laws.{sets-append, sets-front, set-sets, length-le}
use Rattle.tokens.specs.Steps.{Kept}
use Rattle.tokens.proofs.Keeping.{kept_all, kept_then, kept_before, wrote_kept}
use Rattle.tape.specs.Tree.{sized}
use Rattle.reader.specs.Steps.{Laid}

-- a text that is written before another
sets-before : (s t l : List ℕ) (i : ℕ) → sets (sets l (i + length s) t) i s ≡ sets l i (s ++ t)
sets-before [] t l i = ap (λ (k : ℕ). sets l k t) (add-zero i)
sets-before (x ∷ s) t l i =
    ap (λ (k : List ℕ). sets k (suc i) s) (set-sets t l i (i + suc (length s)) x (omega arith) ∙ ap (λ (j : ℕ). sets (set l i x) j t) (add-suc i (length s) ∙ sym (suc-add i (length s))))
    ∙ sets-before s t (set l i x) (suc i)

pub laid : {a b : List ℕ} {p r : ℕ} {s : List ℕ} → Wrote a b p r s → Laid a b p r s
laid w = record { kept = wrote_kept w; count = w.count; bytes = λ l. w.bytes }

pub laid_none : (a : List ℕ) (p : ℕ) → p ≤ limit → Laid a a p p []
laid_none a p h = record { kept = kept_all; count = omega arith; bytes = λ l. refl }

pub laid_bound : {a b : List ℕ} {p r : ℕ} {s : List ℕ} → Laid a b p r s → r ≤ limit
laid_bound g = let e = g.count in omega arith

-- a text, and then the buffer is kept before the place behind it
pub laid_then_kept : {a b c : List ℕ} {p q : ℕ} {s : List ℕ} → p ≤ limit → Laid a b p q s → Kept q b c → Kept p a c
laid_then_kept l v k = let q' = v.count in kept_then v.kept (kept_before (omega arith) k)

-- one text after another
pub laid_then : {a b c : List ℕ} {p q r : ℕ} {s t : List ℕ} → p ≤ limit → Laid a b p q s → Laid b c q r t → Laid a c p r (s ++ t)
laid_then {a} {b} {c} {p} {q} {r} {s} {t} h v w =
    let q' = v.count in
    let r' = w.count in
    let n = length-append s t in
    record {
      kept = laid_then_kept h v w.kept;
      count = simp length-append (omega arith);
      bytes = λ l.
          let e : q ≡ p + length s = omega arith in
          w.bytes (omega arith)
          ∙ ap (λ (k : ℕ). sets b k t) e
          ∙ ap (λ (k : List ℕ). sets k (p + length s) t) (v.bytes (omega arith))
          ∙ sets-append a p s t;
    }

-- a text of the same length that is the same where the limit is not reached
laid_as : {a b : List ℕ} {p r : ℕ} (u v : List ℕ) → Laid a b p r u → length u ≡ length v → (p + length v < limit → u ≡ v) → Laid a b p r v
laid_as {a} {b} {p} {r} u v g n f =
    let r' = g.count in
    record { kept = g.kept; count = omega arith; bytes = λ l. g.bytes (omega arith) ∙ ap (sets a p) (f l) }

-- h, put in before t
pub laid-before : {a b c : List ℕ} {p s e z : ℕ} {h t : List ℕ} → s ≡ min (p + length h) limit → Laid a b s e t → Wrote b c p z h → Laid a c p e (h ++ t)
laid-before {a} {b} {c} {p} {s} {e} {z} {h} {t} m g w =
    let e' = g.count in
    let n = length-append h t in
    let i = g.kept.as_long in
    let j = w.room in
    record {
      kept = kept_then (kept_before (omega arith) g.kept) (wrote_kept w);
      count = simp length-append (omega arith);
      bytes = λ l.
          let k : s ≡ p + length h = omega arith in
          w.bytes
          ∙ ap (λ (x : List ℕ). sets x p h) (g.bytes (omega arith) ∙ ap (λ (j : ℕ). sets a j t) k)
          ∙ sets-before h t a p;
    }

-- the kind byte k and the length of t, put in before t
pub laid-sized : {a b c : List ℕ} {p s e z : ℕ} {t : List ℕ} (k : ℕ) → s ≡ min (p + 5) limit → Laid a b s e t → Wrote b c p z (k ∷ le_bytes 4 (e - s)) → Laid a c p e (k ∷ sized t)
unfolding sized
laid-sized {a} {b} {c} {p} {s} {e} {z} {t} k m g w =
    let e' = g.count in
    let n : length (le_bytes 4 (e - s)) ≡ 4 = length-le 4 (e - s) in
    let j : s ≡ min (p + length (k ∷ le_bytes 4 (e - s))) limit = omega arith in
    let u : length (le_bytes 4 (e - s) ++ t) ≡ 4 + length t = length-append (le_bytes 4 (e - s)) t ∙ ap (λ (i : ℕ). i + length t) n in
    let v : length (le_bytes 4 (length t) ++ t) ≡ 4 + length t = length-append (le_bytes 4 (length t)) t ∙ ap (λ (i : ℕ). i + length t) (length-le 4 (length t)) in
    laid_as (k ∷ (le_bytes 4 (e - s) ++ t)) (k ∷ (le_bytes 4 (length t) ++ t)) (laid-before j g w) (ap suc (u ∙ sym v))
    (λ l. ap (λ (i : ℕ). k ∷ (le_bytes 4 i ++ t)) (omega arith))

-- a tape: the nodes, the position behind them as their length, and their number m
pub laid-tape : {a b c d : List ℕ} {pos p q : ℕ} {s : List ℕ} (m : ℕ) → Laid a b 0 pos s → Wrote b c pos p (le_bytes 4 pos) → Wrote c d p q (le_bytes 4 m) → Laid a d 0 q (s ++ le_bytes 4 (length s) ++ le_bytes 4 m)
laid-tape {a} {b} {c} {d} {pos} {p} {q} {s} m g v w =
    let n = g.count in
    laid_as (s ++ le_bytes 4 pos ++ le_bytes 4 m) (s ++ le_bytes 4 (length s) ++ le_bytes 4 m) (laid_then (omega arith) (laid_then (omega arith) g (laid v)) (laid w)) (long pos ∙ sym (long (length s)))
    (λ l. ap (λ (i : ℕ). s ++ le_bytes 4 i ++ le_bytes 4 m) (omega (arith, long (length s))))
  where
    long : (i : ℕ) → length (s ++ le_bytes 4 i ++ le_bytes 4 m) ≡ length s + 8
    long i = simp length-append (omega (arith, length-le 4 i, length-le 4 m))

-- from the start of a buffer that has room
pub laid-start : {a b : List ℕ} {n : ℕ} {s : List ℕ} → Laid a b 0 n s → length s ≤ length a → length a < limit → b ≡ s ++ drop (length s) a
laid-start {a} {b} {n} {s} g h room =
    let k : length (s ++ drop (length s) a) ≡ length a = simp (length-append, length-drop) (omega arith) in
    g.bytes (omega arith) ∙ sets-front a s ∙ ap (λ (i : ℕ). take i (s ++ drop (length s) a)) (sym k) ∙ take-length (s ++ drop (length s) a)
