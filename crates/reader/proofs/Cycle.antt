-- The returns of `value` and `sequence`, and a turn of the loop of `sequence`, as laws of what their contracts say. Assumes nothing.
use Prim.Native.Nat.{ℕ, zero, suc, ◌+◌, ◌-◌, ◌*◌, ◌≤◌, ◌<◌, min}
use mathlib.Core.Path.{◌≡◌, refl, sym, ap, ◌∙◌}
use mathlib.Core.List.{List, ◌∷◌}
use mathlib.Core.Bool.{Bool}
use mathlib.Core.Option.{Option, none, some}
use native.Mathlib.Omega.{arith}
use native.Mathlib.Numerals.{sub-one}
use lib.ListN.{length, drop, length-drop}
use Rattle.output.specs.Logic.{then}
use Rattle.output.specs.Wrote.{Wrote, limit, le_bytes}
use Rattle.text_rules.proofs.Places.{next}
use Rattle.tokens.specs.Steps.{Kept}
use Rattle.tokens.proofs.Keeping.{kept_all, kept_before}
use Rattle.tokens.specs.declared.quoted.Step.{Step}
use Rattle.std.specs.Prelude.{Some, None}
use Rattle.std.specs.Prelude as std
use Rattle.tape.specs.Tree.{Head, Node, Nodes, size, tag, sized, encode_head, encode, encodes}
use Rattle.tape.specs.declared.Frame.{Frame}
use Rattle.reader.specs.Grammar.{opens, scalar, closes, gap, head, free, body, value, sequence}
use Rattle.reader.specs.Steps.{Skipped, Read, Counted, note_count, free_by, BodyAt, ValueAt, RunAt}
use Rattle.reader.specs.declared.heads.Run.{Run}
use Rattle.reader.proofs.Laying.{laid_none, laid_then_kept, laid_then, laid-sized}
use Rattle.reader.proofs.HeadSteps.{free-count}
use Rattle.reader.proofs.Reading.{opens-some, body_nest, body_deep, body_scalar, body_nothing, value_headless, value-head, further, further-none, further-some, sequence_end, sequence_child}

pub opens-inside : (text : List ℕ) (at : ℕ) (k : Frame) → at ≤ length text → opens (drop at text) ≡ some k → at < length text
opens-inside text at k h e = omega (arith, opens-some (drop at text) k e, length-drop at text)

-- By any raw rule.
module _ (is_raw : ℕ → Bool) where
  -- ---- a value behind its head

  -- The text that is left is not empty, so the number is not 0.
  body_told : (text : List ℕ) (at : ℕ) (m : Bool) (left : ℕ) (b b' : List ℕ) (p : ℕ) (r : std.Option Step) → at < length text
      → ((f : ℕ) → 2 * (length text - at) ≤ suc f → Read encode text (suc at) b b' p (body is_raw (suc f) m left (drop at text)) r)
      → (f : ℕ) → 2 * (length text - at) ≤ f → Read encode text (suc at) b b' p (body is_raw f m left (drop at text)) r
  body_told text at m left b b' p r h g zero l = absurd (omega arith)
  body_told text at m left b b' p r h g (suc f) l = g f l

  pub body_at-scalar : {text : List ℕ} {at : ℕ} {m : Bool} {left p : ℕ} {b b' : List ℕ} (r : std.Option Step) → at ≤ length text → opens (drop at text) ≡ none → Read encode text (suc at) b b' p (scalar is_raw m (drop at text)) r → BodyAt is_raw text at m left b b' p r
  body_at-scalar {text} {at} {m} {left} {p} {b} {b'} (Some s) hi o h = record {
    told = body_told text at m left b b' p (Some s) (omega (arith, h.2, h.3)) λ f l. (h.0, body_scalar is_raw f m left (drop at text) o ∙ h.1, h.2, h.3, h.4);
  }
  body_at-scalar {text} {at} {m} {left} {p} {b} {b'} None hi o h = record { told = λ f l. (body_nothing is_raw f m left (drop at text) o h.0, h.1) }

  -- the value of a container, by what is read inside it
  nested : (text : List ℕ) (at : ℕ) (m : Bool) (left f : ℕ) (k : Frame) (o : Option (Nodes × List ℕ)) → opens (drop at text) ≡ some k → (left ≡ 0 → ⊥) → sequence is_raw f k (left - 1) (drop (at + 1) text) ≡ o
      → body is_raw (suc f) m left (drop at text) ≡ then o (λ r. some (Node.nest k r.0, r.1))
  nested text at m zero f k o e n h = absurd (n refl)
  nested text at m (suc l) f k o e n h =
      body_nest is_raw f m l (drop at text) k o e (ap (λ (j : ℕ). sequence is_raw f k j (drop 1 (drop at text))) (sym (sub-one (suc l))) ∙ ap (sequence is_raw f k (suc l - 1)) (next text at) ∙ h)

  module _ {text : List ℕ} {at : ℕ} (inside : at ≤ length text) {m : Bool} {k : Frame} (open_here : opens (drop at text) ≡ some k) where
    pub body_at_deep : {left p : ℕ} {b : List ℕ} → left ≡ 0 → BodyAt is_raw text at m left b b p None
    body_at_deep {left} z = record { told = λ f l. (ap (λ (i : ℕ). body is_raw f m i (drop at text)) z ∙ body_deep is_raw f m (drop at text) k open_here, kept_all) }

    module _ {left : ℕ} (room : left ≡ 0 → ⊥) where
      pub body_at-broken : {p q : ℕ} {b b1 : List ℕ} → p ≤ q → RunAt is_raw text (at + 1) k (left - 1) b b1 q 0 None → BodyAt is_raw text at m left b b1 p None
      body_at-broken {p} {q} {b} {b1} u h = record {
        told = body_told text at m left b b1 p None (opens-inside text at k inside open_here) λ f l.
            let i = opens-inside text at k inside open_here in
            let g = h.told f (omega arith) in
            (nested text at m left f k none open_here room g.0, kept_before (omega arith) g.1);
      }

      pub body_at_nest : {p q z a e c : ℕ} {b b1 b2 : List ℕ} → q ≡ min (p + 5) limit → RunAt is_raw text (at + 1) k (left - 1) b b1 q 0 (Some record { at = a; pos = e; count = c }) → Wrote b1 b2 p z (tag k ∷ le_bytes 4 (e - q)) → BodyAt is_raw text at m left b b2 p (Some record { at = a; pos = e })
      unfolding encode sized
      body_at_nest {p} {q} {z} {a} {e} {c} {b} {b1} {b2} u h w = record {
        told = body_told text at m left b b2 p (Some record { at = a; pos = e }) (opens-inside text at k inside open_here) λ f l.
            let i = opens-inside text at k inside open_here in
            let g = h.told f (omega arith) in
            (Node.nest k g.0, nested text at m left f k (some (g.0, drop a text)) open_here room g.1, omega (arith, g.3), g.4, laid-sized (tag k) u g.5 w);
      }

  -- ---- a value with its head

  pub value-at_headless : {text : List ℕ} {at left p : ℕ} {k : Frame} {b b' : List ℕ} → head is_raw k (drop at text) ≡ none → Kept p b b' → ValueAt is_raw text at k left b b' p None
  value-at_headless {text} {at} {left} {p} {k} h e = record { told = λ f l. (value_headless is_raw f k left (drop at text) h, e) }

  -- a head, and then what is behind it
  pub value-at-head : {text : List ℕ} {at a c left p q : ℕ} {m : Bool} {k : Frame} {b b1 b' : List ℕ} (r : std.Option Step) → p ≤ limit → Counted encode_head note_count text at b b1 p 0 (head is_raw k (drop at text)) (Some record { at = a; pos = q; count = c }) → m ≡ free_by k c → BodyAt is_raw text a m left b1 b' q r → ValueAt is_raw text at k left b b' p r
  value-at-head {text} {at} {a} {c} {left} {p} {q} {m} {k} {b} {b1} {b'} r lp h w g = go r g
    where
      is : free k h.0.1 ≡ m
      is = let z : note_count h.0 ≡ c = omega (arith, h.2) in free-count k h.0.1 ∙ ap (free_by k) z ∙ sym w

      behind : (f : ℕ) (o : Option (Node × List ℕ)) → body is_raw f m left (drop a text) ≡ o → body is_raw f (free k h.0.1) left (drop a text) ≡ o
      behind f o e = ap (λ (x : Bool). body is_raw f x left (drop a text)) is ∙ e

      go : (r : std.Option Step) → BodyAt is_raw text a m left b1 b' q r → ValueAt is_raw text at k left b b' p r
      go (Some s) g = record {
        told = λ f l.
            let n = g.told f (omega (arith, h.3)) in
            ((h.0, n.0), value-head is_raw f k left (drop at text) (drop a text) h.0 (some (n.0, drop s.at text)) h.1 (behind f (some (n.0, drop s.at text)) n.1), omega (arith, h.3, n.2), n.3, laid_then lp h.5 n.4);
      }
      go None g = record {
        told = λ f l.
            let n = g.told f (omega (arith, h.3)) in
            (value-head is_raw f k left (drop at text) (drop a text) h.0 none h.1 (behind f none n.0), laid_then_kept lp h.5 n.1);
      }

  -- ---- a sequence

  run-told : (text : List ℕ) (at : ℕ) (k : Frame) (left : ℕ) (b b' : List ℕ) (p m : ℕ) (r : std.Option Run)
      → ((f : ℕ) → 2 * (length text - at) ≤ f → Counted encodes size text at b b' p m (sequence is_raw (suc f) k left (drop at text)) r)
      → (f : ℕ) → suc (2 * (length text - at)) ≤ f → Counted encodes size text at b b' p m (sequence is_raw f k left (drop at text)) r
  run-told text at k left b b' p m r g zero l = absurd (omega arith)
  run-told text at k left b b' p m r g (suc f) l = g f (omega arith)

  -- a sequence, by its first child
  child : (text : List ℕ) (at first : ℕ) (k : Frame) → Skipped text at first → closes k (drop first text) ≡ none → (f left : ℕ) (o : Option ((Head × Node) × List ℕ)) → value is_raw f k left (drop first text) ≡ o
      → sequence is_raw (suc f) k left (drop at text) ≡ then o (further is_raw f left k)
  child text at first k s e f left o h = sequence_child is_raw f left k (drop at text) o (ap (closes k) (sym s.is) ∙ e) (ap (value is_raw f k left) (sym s.is) ∙ h)

  -- A turn of the loop at `at`: blanks up to `first`.
  module _ {text : List ℕ} {at first : ℕ} (s : Skipped text at first) {k : Frame} where
    pub run_end : {left p m : ℕ} {b : List ℕ} {a : ℕ} → p ≤ limit → closes k (drop first text) ≡ some (drop a text) → first ≤ a → a ≤ length text → RunAt is_raw text at k left b b p m (Some record { at = a; pos = p; count = m })
    unfolding size encode
    run_end {left} {p} {m} {b} {a} lp e lo hi = record { told = run-told text at k left b b p m (Some record { at = a; pos = p; count = m }) λ f l. (Nodes.nil, sequence_end is_raw f left k (drop at text) (drop a text) (ap (closes k) (sym s.is) ∙ e), omega arith, omega arith, hi, laid_none b p lp) }

    module _ (open-still : closes k (drop first text) ≡ none) where
      pub run_no_child : {left p m : ℕ} {b b' : List ℕ} → ValueAt is_raw text first k left b b' p None → RunAt is_raw text at k left b b' p m None
      run_no_child {left} {p} {m} {b} {b'} v = record { told = run-told text at k left b b' p m None λ f l. let g = v.told f (omega arith) in (child text at first k s open-still f left none g.0, g.1) }

      pub run_no_gap : {left p m behind next : ℕ} {b b' : List ℕ} → ValueAt is_raw text first k left b b' p (Some record { at = behind; pos = next }) → gap k (drop behind text) ≡ none → RunAt is_raw text at k left b b' p m None
      run_no_gap {left} {p} {m} {behind} {next} {b} {b'} v e = record {
        told = run-told text at k left b b' p m None λ f l.
            let g = v.told f (omega arith) in
            (child text at first k s open-still f left (some (g.0, drop behind text)) g.1 ∙ further-none is_raw f left k g.0 (drop behind text) e, g.4.kept);
      }

      -- a child, and then the rest of the sequence
      pub run_more : {left p m behind next on : ℕ} {b b2 b' : List ℕ} (r : std.Option Run) → p ≤ limit → ValueAt is_raw text first k left b b2 p (Some record { at = behind; pos = next }) → gap k (drop behind text) ≡ some (drop on text) → behind ≤ on → on ≤ length text
          → RunAt is_raw text on k left b2 b' next (m + 1) r → RunAt is_raw text at k left b b' p m r
      unfolding size encode
      run_more {left} {p} {m} {behind} {next} {on} {b} {b2} {b'} (Some whole) lp v gp lo hi h = record {
        told = run-told text at k left b b' p m (Some whole) λ f l.
            let g = v.told f (omega arith) in
            let r = h.told f (omega arith) in (
              Nodes.more g.0.0 g.0.1 r.0,
              child text at first k s open-still f left (some (g.0, drop behind text)) g.1 ∙ further-some is_raw f left k g.0 (drop behind text) (drop on text) (some (r.0, drop whole.at text)) gp r.1,
              omega arith,
              omega arith,
              r.4,
              laid_then lp g.4 r.5,
            );
      }
      run_more {left} {p} {m} {behind} {next} {on} {b} {b2} {b'} None lp v gp lo hi h = record {
        told = run-told text at k left b b' p m None λ f l.
            let g = v.told f (omega arith) in
            let r = h.told f (omega arith) in
            (child text at first k s open-still f left (some (g.0, drop behind text)) g.1 ∙ further-some is_raw f left k g.0 (drop behind text) (drop on text) none gp r.0, laid_then_kept lp g.4 r.1);
      }
