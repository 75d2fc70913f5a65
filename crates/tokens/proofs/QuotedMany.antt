-- Reading one piece after the other up to a mark: what `characters` and `clob_bytes` have in common, and its steps as laws of what the
-- contracts say. Assumes nothing.
use Prim.Native.Nat.{ℕ, zero, suc, ◌+◌, ◌-◌, ◌≤◌, ◌<◌}
use mathlib.Core.Path.{◌≡◌, refl, sym, ap, subst, fun_ext, ◌∙◌}
use mathlib.Core.Bool.{Bool, true, false, not, ◌&&◌}
use mathlib.Core.List.{List, [], ◌∷◌, ◌++◌}
use mathlib.Core.Option.{Option, none, some}
use native.Mathlib.Nat.{add-zero, zero-add, suc-add}
use native.Mathlib.Omega.{arith}
use lib.Dec.{eqb, leb, ltb}
use borrow.Author.Tests.{ltb-true, eq-eqb, ne_eqb, not-true}
use lib.ListN.{length, take, drop, get_or, length-drop, drop_of_length-le}
use lib.Seq.{drop-cons}
use Rattle.output.specs.Logic.{then, on, byte}
use Rattle.output.specs.Wrote.{Wrote, limit}
use Rattle.output.proofs.Laws.{wrote_none, wrote_then}
use Rattle.text_rules.specs.Texts.{starts}
use Rattle.text_rules.specs.Utf8.{char_at}
use Rattle.tokens.specs.Quoted.{strict_raw, raw_rule, raw, quote, character, characters, quoted, raw_byte, clob_byte, clob_bytes}
use Rattle.tokens.specs.Steps.{Kept, Copied, Copies, is_plain, is_plain_byte, RunTo}
use Rattle.tokens.specs.declared.quoted.Step.{Step}
use Rattle.std.specs.Prelude.{Some, None}
use Rattle.std.specs.Prelude as std
use Rattle.text_rules.proofs.EscapesLaws.{byte_at}
use Rattle.text_rules.proofs.Utf8Chars.{ascii}
use Rattle.tokens.proofs.Keeping.{kept_all, wrote_then_kept}
use Rattle.tokens.proofs.QuotedSteps.{rule_both}

-- what is read of a text: the bytes that it means, and the text behind it
abbrev pub Read : Type 0
Read = Option (List ℕ × List ℕ)

abbrev pub prefix : List ℕ → List ℕ × List ℕ → Read
prefix x vs = some (x ++ vs.0, vs.1)

unfoldable pub many : (List ℕ → Read) → ℕ → ℕ → List ℕ → Read
many step zero q t = none
many step (suc f) q t = on (quote q t) (λ r. some ([], r)) (then (step t) (λ v. then (many step f q v.1) (prefix v.0)))

pub characters-many : (is_raw : ℕ → Bool) (f q : ℕ) (t : List ℕ) → characters is_raw f q t ≡ many (character is_raw) f q t
unfolding characters many
characters-many is_raw zero q t = refl
characters-many is_raw (suc f) q t = ap (λ (g : List ℕ → Read). on (quote q t) (λ r. some ([], r)) (then (character is_raw t) (λ v. then (g v.1) (prefix v.0)))) (fun_ext (λ u. characters-many is_raw f q u))

pub clob-many : (f : ℕ) (t : List ℕ) → clob_bytes f t ≡ many clob_byte f (byte "\"") t
unfolding clob_bytes many
clob-many zero t = refl
clob-many (suc f) t = ap (λ (g : List ℕ → Read). on (quote (byte "\"") t) (λ r. some ([], r)) (then (clob_byte t) (λ v. then (g v.1) (prefix v.0)))) (fun_ext (λ u. clob-many f u))

-- ---- the steps

module _ (step : List ℕ → Read) (q : ℕ) where
  pub many-end : (f : ℕ) (t r : List ℕ) → quote q t ≡ some r → many step (suc f) q t ≡ some ([], r)
  unfolding many
  many-end f t r h = rw h

  pub many_wrong : (f : ℕ) (t : List ℕ) → quote q t ≡ none → step t ≡ none → many step (suc f) q t ≡ none
  unfolding many
  many_wrong f t h e = rw (h, e)

  pub many_more : (f : ℕ) (v t u : List ℕ) (o : Read) → quote q t ≡ none → step t ≡ some (v, u) → many step f q u ≡ o → many step (suc f) q t ≡ then o (prefix v)
  unfolding many
  many_more f v t u o h e g = rw (h, e, g)

prefix-none : (o : Read) → o ≡ then o (prefix [])
prefix-none none = refl
prefix-none (some v) = refl

prefix-prefix : (c : ℕ) (x : List ℕ) (o : Read) → then (then o (prefix x)) (prefix (c ∷ [])) ≡ then o (prefix (c ∷ x))
prefix-prefix c x none = refl
prefix-prefix c x (some v) = refl

-- a byte of the kind p is a piece as it stands, and not the mark
pub record Plain (p : ℕ → Bool) (step : List ℕ → Read) (q : ℕ) : Type 0 where
  pub other : (c : ℕ) → p c ≡ true → eqb c q ≡ false
  pub piece : (c : ℕ) (t : List ℕ) → p c ≡ true → step (c ∷ t) ≡ some (c ∷ [], t)

-- a run of plain bytes is passed at once
pub many-run : {p : ℕ → Bool} {step : List ℕ → Read} {q : ℕ} → Plain p step q → (text : List ℕ) (n i f : ℕ) → i + n ≤ length text
    → ((k : ℕ) → i ≤ k → k < i + n → p (get_or text k 0) ≡ true)
    → many step (n + f) q (drop i text) ≡ then (many step f q (drop (i + n) text)) (prefix (take n (drop i text)))
unfolding quote
many-run {p} {step} {q} g text zero i f h each = rw (zero-add f, add-zero i) (prefix-none _)
many-run {p} {step} {q} g text (suc n) i f h each =
    let c = get_or text i 0 in
    let u = drop (suc i) text in
    let e : drop i text ≡ c ∷ u = drop-cons text i 0 (omega arith) in
    let pc : p c ≡ true = each i (omega arith) (omega arith) in
    let ih = many-run g text n (suc i) f (omega arith) (λ k l m. each k (omega arith) (omega arith)) in
    let j : suc i + n ≡ i + suc n = omega arith in
    let o = many step f q (drop (i + suc n) text) in
    rw (e, suc-add n f)
    (many_more step q (n + f) (c ∷ []) (c ∷ u) u _ (rw (g.other c pc)) (g.piece c u pc) (rw j at ih) ∙ prefix-prefix c (take n u) o)

-- ---- what a loop of such pieces says of its result

pub record ManyAt (step : List ℕ → Read) (q : ℕ) (text : List ℕ) (at : ℕ) (b b' : List ℕ) (p : ℕ) (r : std.Option Step) : Type 0 where
  pub told : (f : ℕ) → suc (length text - at) ≤ f → Copied text (suc at) b b' p (many step f q (drop at text)) r

many-told : (step : List ℕ → Read) (q : ℕ) (text : List ℕ) (at : ℕ) (b b' : List ℕ) (p : ℕ) (r : std.Option Step)
    → ((f : ℕ) → length text - at ≤ f → Copied text (suc at) b b' p (many step (suc f) q (drop at text)) r)
    → (f : ℕ) → suc (length text - at) ≤ f → Copied text (suc at) b b' p (many step f q (drop at text)) r
many-told step q text at b b' p r g zero l = absurd (omega arith)
many-told step q text at b b' p r g (suc f) l = g f (omega arith)

module _ {step : List ℕ → Read} {q : ℕ} {text : List ℕ} where
  -- the mark
  pub at_mark : {at p : ℕ} {b : List ℕ} → p ≤ limit → length b < limit → at < length text → get_or text at 0 ≡ q → ManyAt step q text at b b p (Some record { at = at + 1; pos = p })
  unfolding quote
  at_mark {at} {p} {b} lp lb h e = record {
    told = many-told step q text at b b p (Some record { at = at + 1; pos = p }) λ f l. ([], many-end step q f (drop at text) (drop (at + 1) text) (rw (byte_at text at h, eq-eqb (get_or text at 0) q e)), omega arith, omega arith, wrote_none b p lp lb);
  }

  -- a piece that is wrong
  pub at_wrong : {at p : ℕ} {b b' : List ℕ} → at < length text → (get_or text at 0 ≡ q → ⊥) → step (drop at text) ≡ none → Kept p b b' → ManyAt step q text at b b' p None
  unfolding quote
  at_wrong {at} {p} {b} {b'} h e w l = record {
    told = many-told step q text at b b' p None λ f _. (many_wrong step q f (drop at text) (rw (byte_at text at h, ne_eqb (get_or text at 0) q e)) w, l);
  }

  -- the end of the text
  pub at-end : {at p : ℕ} {b : List ℕ} → step [] ≡ none → length text ≤ at → ManyAt step q text at b b p None
  unfolding quote
  at-end {at} {p} {b} w h =
      let e : drop at text ≡ [] = drop_of_length-le text {i = at} h in
      record { told = many-told step q text at b b p None λ f l. (many_wrong step q f (drop at text) (rw e) (rw e w), kept_all) }

  -- a piece, and then the others
  pub at_piece : {at next p z : ℕ} {b b1 b' : List ℕ} (r : std.Option Step) → at < length text → (get_or text at 0 ≡ q → ⊥)
      → Copies text (suc at) b b1 p (step (drop at text)) (Some record { at = next; pos = z }) → ManyAt step q text next b1 b' z r → ManyAt step q text at b b' p r
  unfolding quote
  at_piece {at} {next} {p} {z} {b} {b1} {b'} (Some s) h n k g = record {
    told = many-told step q text at b b' p (Some s) λ f l.
        let t = k.told in
        let lo : suc at ≤ next = t.2 in
        let y = g.told f (omega arith) in
        let lo2 = y.2 in
        (t.0 ++ y.0, many_more step q f t.0 (drop at text) (drop next text) _ (rw (byte_at text at h, ne_eqb (get_or text at 0) q n)) t.1 y.1, omega arith, y.3, wrote_then t.4 y.4);
  }
  at_piece {at} {next} {p} {z} {b} {b1} {b'} None h n k g = record {
    told = many-told step q text at b b' p None λ f l.
        let t = k.told in
        let lo : suc at ≤ next = t.2 in
        let y = g.told f (omega arith) in
        (many_more step q f t.0 (drop at text) (drop next text) none (rw (byte_at text at h, ne_eqb (get_or text at 0) q n)) t.1 y.0, wrote_then_kept t.4 y.1);
  }

  -- a run of plain bytes, and then the others
  pub at-run : {kind : ℕ → Bool} {at e p z : ℕ} {b b1 b' : List ℕ} (r : std.Option Step) → Plain kind step q → RunTo kind text at e
      → Wrote b b1 p z (take (e - at) (drop at text)) → ManyAt step q text e b1 b' z r → ManyAt step q text at b b' p r
  at-run {kind} {at} {e} {p} {z} {b} {b1} {b'} r pl run w g =
      let lo : at ≤ e = run.ahead in
      let hi : e ≤ length text = run.inside in
      let n = e - at in
      let j : at + n ≡ e = omega arith in
      record {
        told = λ f l.
            let m : f ≡ n + (f - n) = omega arith in
            let eq = many-run pl text n at (f - n) (omega arith) (λ k a u. run.each k a (omega arith)) in
            passed (f - n) r (ap (λ (k : ℕ). many step k q (drop at text)) m ∙ rw j at eq) (g.told (f - n) (omega arith));
      }
    where
      passed : (f : ℕ) (r : std.Option Step) {o : Read} → o ≡ then (many step f q (drop e text)) (prefix (take (e - at) (drop at text))) → Copied text (suc e) b1 b' z (many step f q (drop e text)) r → Copied text (suc at) b b' p o r
      passed f (Some s) h y =
          let lo : at ≤ e = run.ahead in
          let lo2 = y.2 in
          (take (e - at) (drop at text) ++ y.0, h ∙ ap (λ (o : Read). then o (prefix (take (e - at) (drop at text)))) y.1, omega arith, y.3, wrote_then w y.4)
      passed f None h y = (h ∙ ap (λ (o : Read). then o (prefix (take (e - at) (drop at text)))) y.0, wrote_then_kept w y.1)

-- ---- with the fuel of the definitions

pub quoted-at : (is_raw : ℕ → Bool) {q : ℕ} {text : List ℕ} {at : ℕ} {b b' : List ℕ} {p : ℕ} (r : std.Option Step) → ManyAt (character is_raw) q text at b b' p r → Copies text (suc at) b b' p (quoted is_raw q (drop at text)) r
unfolding quoted
quoted-at is_raw {q} {text} {at} {b} {b'} {p} r g = record {
  told = subst (λ (o : Read). Copied text (suc at) b b' p o r) (sym (characters-many is_raw (suc (length (drop at text))) q (drop at text))) (g.told (suc (length (drop at text))) (omega (arith, length-drop at text)));
}

pub clob-bytes-at : {text : List ℕ} {at : ℕ} {b b' : List ℕ} {p : ℕ} (r : std.Option Step) → ManyAt clob_byte (byte "\"") text at b b' p r → Copies text (suc at) b b' p (clob_bytes (suc (length (drop at text))) (drop at text)) r
clob-bytes-at {text} {at} {b} {b'} {p} r g = record {
  told = subst (λ (o : Read). Copied text (suc at) b b' p o r) (sym (clob-many (suc (length (drop at text))) (drop at text))) (g.told (suc (length (drop at text))) (omega (arith, length-drop at text)));
}

-- ---- plain bytes of quoted text and of clobs

all4 : (a b c d : Bool) → (a && b && c && d) ≡ true → (a ≡ true) × (b ≡ true) × (c ≡ true) × (d ≡ true)
all4 true true true true e = (refl, refl, refl, refl)
all4 true true true false e = absurd (let n : ◌≡◌ {A = ℕ} 0 1 = cc in omega arith)
all4 true true false d e = absurd (let n : ◌≡◌ {A = ℕ} 0 1 = cc in omega arith)
all4 true false c d e = absurd (let n : ◌≡◌ {A = ℕ} 0 1 = cc in omega arith)
all4 false b c d e = absurd (let n : ◌≡◌ {A = ℕ} 0 1 = cc in omega arith)

pub plain_text : (old : Bool) (q : ℕ) → Plain (is_plain q) (character (raw_rule old)) q
unfolding is_plain character raw starts
plain_text old q = record {
  other = λ c e. not-true (eqb c q) (all4 (strict_raw c) (ltb c 0x80) (not (eqb c (byte "\\"))) (not (eqb c q)) e).3;
  piece = λ c t e.
      let a = all4 (strict_raw c) (ltb c 0x80) (not (eqb c (byte "\\"))) (not (eqb c q)) e in
      let one : char_at (c ∷ t) 0 ≡ 1 = ascii c _ _ _ (ltb-true c 128 a.1) in
      rw (not-true (eqb c (byte "\\")) a.2, rule_both old c a.0, one);
}

pub plain-byte : Plain is_plain_byte clob_byte (byte "\"")
unfolding is_plain_byte clob_byte raw_byte starts
plain-byte = record {
  other = λ c e. not-true (eqb c (byte "\"")) (all4 (leb 0x20 c) (leb c 0x7E) (not (eqb c (byte "\\"))) (not (eqb c (byte "\""))) e).3;
  piece = λ c t e.
      let a = all4 (leb 0x20 c) (leb c 0x7E) (not (eqb c (byte "\\"))) (not (eqb c (byte "\""))) e in
      rw (not-true (eqb c (byte "\\")) a.2, a.0, a.1);
}
