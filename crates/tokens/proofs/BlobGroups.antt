-- Base64 read group by group, through `}}`. Assumes nothing.
use Prim.Native.Nat.{ℕ, suc, ◌+◌, ◌/◌, ◌%◌, ◌≤◌, ◌<◌, min}
use mathlib.Core.Path.{◌≡◌, refl, sym, ap, ◌∙◌}
use mathlib.Core.Bool.{true}
use mathlib.Core.List.{List, [], ◌∷◌, ◌++◌, append_assoc}
use mathlib.Core.Option.{Option, none, some}
use native.Mathlib.Omega.{arith}
use lib.ListN.{length, take, drop, get_or, take-append-drop, length-drop}
use lib.Seq.{drop-drop}
use Rattle.output.specs.Logic.{then, ascii}
use Rattle.output.specs.Wrote.{Wrote, le_bytes, limit}
use Rattle.output.proofs.Laws.{wrote_empty, wrote_then, take-4}
use Rattle.lanes.specs.Lanes.{Lane, every, unmarked_by}
use Rattle.lanes.specs.Sextets.{octets, value_lane, no_base64}
use Rattle.text_rules.specs.Texts.{strip}
use Rattle.text_rules.specs.Base64.{bits_of, bytes24, base64_bytes}
use Rattle.tokens.specs.Blob.{until_brace, blob_rest, blob}
use Rattle.tokens.specs.BlobSteps.{group_at, Groups, Decoded}
use Rattle.tokens.specs.Steps.{Copies}
use Rattle.tokens.specs.declared.quoted.Step.{Step}
use Rattle.std.specs.Prelude.{Some, None}
use Rattle.std.specs.Prelude as std
use Rattle.tokens.proofs.Keeping.{wrote_then_kept}
use Rattle.tokens.proofs.BlobChars.{bits_four, value_brace, value-pad}
use Rattle.tokens.proofs.BlobLanes.{word-groups}

-- bytes before what was read
abbrev pub before : List ℕ → List ℕ × List ℕ → Option (List ℕ × List ℕ)
before x v = some (x ++ v.0, v.1)

swapped : (x : List ℕ) (o p : Option (List ℕ)) → then (then o (λ s. some (x ++ s))) (λ s. then p (λ r. some (s, r))) ≡ then (then o (λ s. then p (λ r. some (s, r)))) (before x)
swapped x none p = refl
swapped x (some s) none = refl
swapped x (some s) (some r) = refl

-- a whole group
pub group_step : (a b c d n : ℕ) (t : List ℕ) → bits_of a b c d ≡ some n → blob_rest (a ∷ b ∷ c ∷ d ∷ t) ≡ then (blob_rest t) (before (bytes24 n))
unfolding blob_rest until_brace base64_bytes
group_step a b c d n t e =
    let f = bits_four a b c d n e in
    rw (value_brace a f.i f.first, value_brace b f.j f.second, value_brace c f.k f.third, value_brace d f.l f.fourth, value-pad d f.l f.fourth, e)
    (swapped (bytes24 n) (base64_bytes (until_brace t)) (strip (ascii "}}") (drop (length (until_brace t)) t)))

-- ---- groups between two places

before-none : (o : Option (List ℕ × List ℕ)) → o ≡ then o (before [])
before-none none = refl
before-none (some v) = refl

before-both : (x y : List ℕ) (o : Option (List ℕ × List ℕ)) → then (then o (before y)) (before x) ≡ then o (before (x ++ y))
before-both x y none = refl
before-both x y (some v) = ap (λ (l : List ℕ). some (l, v.1)) (sym (append_assoc x y v.0))

groups_none : (text : List ℕ) (at : ℕ) → at ≤ length text → Groups text at at []
groups_none text at h = record { ahead = omega arith; inside = h; is = before-none (blob_rest (drop at text)) }

groups_then : {text : List ℕ} {at i r : ℕ} {x y : List ℕ} → Groups text at i x → Groups text i r y → Groups text at r (x ++ y)
groups_then {text} {at} {i} {r} {x} {y} g h = record {
  ahead = omega (arith, g.ahead, h.ahead);
  inside = h.inside;
  is = g.is ∙ ap (λ (o : Option (List ℕ × List ℕ)). then o (before x)) h.is ∙ before-both x y (blob_rest (drop r text));
}

-- ---- four characters at a place, and eight

pub four_at : (text : List ℕ) (i : ℕ) → i + 4 ≤ length text → drop i text ≡ get_or text i 0 ∷ get_or text (i + 1) 0 ∷ get_or text (i + 2) 0 ∷ get_or text (i + 3) 0 ∷ drop (i + 4) text
four_at text i h =
    let f : List ℕ → List ℕ = λ l. get_or text i 0 ∷ get_or text (i + 1) 0 ∷ get_or text (i + 2) 0 ∷ get_or text (i + 3) 0 ∷ l in
    sym (take-append-drop 4 (drop i text)) ∙ ap (λ (l : List ℕ). l ++ drop 4 (drop i text)) (take-4 text i h) ∙ ap f (drop-drop 4 i text)

pub groups_four : (text : List ℕ) (i n : ℕ) → i + 4 ≤ length text → bits_of (get_or text i 0) (get_or text (i + 1) 0) (get_or text (i + 2) 0) (get_or text (i + 3) 0) ≡ some n → Groups text i (i + 4) (bytes24 n)
groups_four text i n h e = record {
  ahead = omega arith;
  inside = h;
  is = ap blob_rest (four_at text i h) ∙ group_step (get_or text i 0) (get_or text (i + 1) 0) (get_or text (i + 2) 0) (get_or text (i + 3) 0) n (drop (i + 4) text) e;
}

pub groups-word : (text : List ℕ) (i x v y : ℕ) → i + 8 ≤ length text → le_bytes 8 x ≡ take 8 (drop i text) → every (unmarked_by no_base64) (le_bytes 8 x) ≡ true → Lane value_lane x v → le_bytes 6 y ≡ octets (le_bytes 8 v) → Groups text i (i + 8) (le_bytes 6 y)
unfolding le_bytes group_at
groups-word text i x v y h w e l o =
    let g = word-groups x v y e l o in
    let t = drop (i + 8) text in
    let z = x / 256 / 256 / 256 / 256 in
    let s : drop i text ≡ le_bytes 8 x ++ t = sym (ap (λ (k : List ℕ). k ++ t) w ∙ ap (λ (k : List ℕ). take 8 (drop i text) ++ k) (sym (drop-drop 8 i text)) ∙ take-append-drop 8 (drop i text)) in
    record {
      ahead = omega arith;
      inside = h;
      is =
          ap blob_rest s
          ∙ group_step (x % 256) (x / 256 % 256) (x / 256 / 256 % 256) (x / 256 / 256 / 256 % 256) g.0 (le_bytes 4 z ++ t) g.2
          ∙ ap (λ (k : Option (List ℕ × List ℕ)). then k (before (bytes24 g.0))) (group_step (z % 256) (z / 256 % 256) (z / 256 / 256 % 256) (z / 256 / 256 / 256 % 256) g.1 t g.3)
          ∙ before-both (bytes24 g.0) (bytes24 g.1) (blob_rest t)
          ∙ ap (λ (k : List ℕ). then (blob_rest t) (before k)) (sym g.4);
    }

-- ---- what was read so far

pub decoded_none : (text : List ℕ) (at : ℕ) (b : List ℕ) (p r : ℕ) → at ≤ length text → r ≡ min p limit → length b < limit → Decoded text at b b p record { at = at; pos = r }
decoded_none text at b p r h e room = record { bytes = []; groups = groups_none text at h; wrote = wrote_empty b p r e room }

pub decoded_more : {text : List ℕ} {at : ℕ} {b b' b'' : List ℕ} {p i q k s : ℕ} {y : List ℕ} → Decoded text at b b' p record { at = i; pos = q } → Groups text i k y → Wrote b' b'' q s y → Decoded text at b b'' p record { at = k; pos = s }
decoded_more d g w = record { bytes = _; groups = groups_then d.groups g; wrote = wrote_then d.wrote w }

-- where no group stands
pub no_group : (text : List ℕ) (i : ℕ) → i + 4 ≤ length text → bits_of (get_or text i 0) (get_or text (i + 1) 0) (get_or text (i + 2) 0) (get_or text (i + 3) 0) ≡ none → group_at (drop i text) ≡ none
unfolding group_at
no_group text i h e = ap group_at (four_at text i h) ∙ e

short_group : (t : List ℕ) → length t < 4 → group_at t ≡ none
unfolding group_at
short_group [] h = refl
short_group (a ∷ []) h = refl
short_group (a ∷ b ∷ []) h = refl
short_group (a ∷ b ∷ c ∷ []) h = refl
short_group (a ∷ b ∷ c ∷ d ∷ t) h = absurd (omega arith)

pub end_group : (text : List ℕ) (i : ℕ) → length text < i + 4 → group_at (drop i text) ≡ none
end_group text i h = short_group (drop i text) (omega (arith, length-drop i text))

pub whole-three : {a b : List ℕ} {p q : ℕ} (n : ℕ) → Wrote a b p q (take 3 (bytes24 n)) → Wrote a b p q (bytes24 n)
unfolding bytes24
whole-three n w = w

-- ---- a blob: what opens it, its groups, and what ends them

pub copies_behind : {text : List ℕ} {at : ℕ} {b b' b'' : List ℕ} {p : ℕ} {q : Step} (r : std.Option Step) → Decoded text at b b' p q → Copies text (suc q.at) b' b'' q.pos (blob_rest (drop q.at text)) r → Copies text (suc at) b b'' p (blob_rest (drop at text)) r
copies_behind (Some s) d f =
    let t = f.told in
    record { told = (d.bytes ++ t.0, d.groups.is ∙ rw t.1, omega (arith, t.2, d.groups.ahead), t.3, wrote_then d.wrote t.4) }
copies_behind None d f = let t = f.told in record { told = (d.groups.is ∙ rw t.0, wrote_then_kept d.wrote t.1) }

pub blob_unopened : (t : List ℕ) → strip (ascii "{{") t ≡ none → blob t ≡ none
unfolding blob
blob_unopened t e = rw e

pub blob_opened : {text : List ℕ} {at : ℕ} {b b' : List ℕ} {p : ℕ} (r : std.Option Step) → strip (ascii "{{") (drop at text) ≡ some (drop (at + 2) text) → Copies text (suc (at + 2)) b b' p (blob_rest (drop (at + 2) text)) r → Copies text (suc at) b b' p (blob (drop at text)) r
blob_opened {text} {at} (Some s) e f =
    let t = f.told in
    let o : blob (drop at text) ≡ blob_rest (drop (at + 2) text) = unfold blob in rw e in
    record { told = (t.0, o ∙ t.1, omega (arith, t.2), t.3, t.4) }
blob_opened {text} {at} None e f =
    let t = f.told in
    let o : blob (drop at text) ≡ blob_rest (drop (at + 2) text) = unfold blob in rw e in
    record { told = (o ∙ t.0, t.1) }
