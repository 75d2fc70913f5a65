-- One character of quoted text, by 01's raw rule and by Ion's: under the conversion, and as it stands. Assumes nothing.
use Prim.Native.Nat.{ℕ, ◌≤◌, ◌<◌}
use mathlib.Core.Path.{◌≡◌, refl, sym, ap, ◌∙◌}
use mathlib.Core.Bool.{Bool, true, false, not, ◌&&◌}
use mathlib.Core.List.{List, [], ◌∷◌, ◌++◌}
use mathlib.Core.Option.{none, some}
use native.Mathlib.Decide.{dec_le}
use native.Mathlib.Omega.{arith}
use lib.Dec.{eqb, leb}
use lib.ListN.{take, drop, get_or}
use borrow.Author.Tests.{leb-true, ne_eqb}
use Rattle.output.specs.Logic.{if, byte}
use Rattle.output.proofs.Bools.{never, both}
use Rattle.text_rules.specs.Texts.{starts}
use Rattle.text_rules.specs.Utf8.{lead_of, is_cont, is_scalar, ok2, ok3, ok4, char_of, char_at, utf8}
use Rattle.text_rules.specs.Escapes.{hex_digit, hex_escape, hex_value, hex}
use Rattle.text_rules.proofs.Table.{same}
use Rattle.text_rules.proofs.Utf8View.{Char, one, two, three, four, char-at, view}
use Rattle.tokens.specs.Quoted.{scalar_escape, escape, old_raw, strict_raw, raw, character}
use Rattle.tokens.proofs.BlobChars.{clash}
use Rattle.converter.specs.Convert.{replaced, converted, clean}
use Rattle.converter.proofs.Bytes.{gone_same, high_kept}
use Rattle.converter.proofs.Texts.{converted_kept, converted_gone, converted-append, clean-same}
use Rattle.converter.proofs.Image.{chosen, mapped-same}
use Rattle.converter.proofs.Carried.{Carried, lost, carried_image}
use Rattle.converter.proofs.Escapes.{escape_carried}

-- where the first holds, and not without the second
second : (a b : Bool) → a && not b ≡ false → a ≡ true → b ≡ true
second true true h o = refl
second true false h o = never h
second false b h o = never (sym o)

-- ---- a replaced character: what stands for it is read as it

old_reads : (t : List ℕ) (c : ℕ) → replaced c ≡ true → character old_raw (c ∷ t) ≡ some (c ∷ [], t)
unfolding character starts raw old_raw char_of lead_of
old_reads t = gone_same (λ c. character old_raw (c ∷ t)) (λ c. some (c ∷ [], t)) refl

strict_reads : (t : List ℕ) (c : ℕ) → replaced c ≡ true → character strict_raw (hex_escape c ++ t) ≡ some (c ∷ [], t)
unfolding character starts escape scalar_escape hex hex_value hex_digit is_scalar utf8
strict_reads t = gone_same (λ c. character strict_raw (hex_escape c ++ t)) (λ c. some (c ∷ [], t)) refl

-- ---- a character that stays

cont_kept : (c : ℕ) → is_cont c ≡ true → replaced c ≡ false
unfolding is_cont
cont_kept c e = let l = leb-true 0x80 c (both (leb 0x80 c) _ e).0 in high_kept c (omega arith)

-- all of its bytes stay if the first does
char_clean : {x : List ℕ} → Char x → replaced (get_or x 0 0) ≡ false → clean x ≡ true
unfolding clean ok2 ok3 ok4
char_clean (one a e) h = rw h
char_clean (two a b e o) h = let k = both (is_cont b) _ o in rw (h, cont_kept b k.0)
char_clean (three a b c e o) h =
    let k = both (is_cont b) _ o in
    let l = both (is_cont c) _ k.1 in
    rw (h, cont_kept b k.0, cont_kept c l.0)
char_clean (four a b c d e o) h =
    let k = both (is_cont b) _ o in
    let l = both (is_cont c) _ k.1 in
    let n = both (is_cont d) _ l.1 in
    rw (h, cont_kept b k.0, cont_kept c l.0, cont_kept d n.0)

-- the first byte of a character and a text is the character's
char_first : {x : List ℕ} → Char x → (r : List ℕ) → get_or (x ++ r) 0 0 ≡ get_or x 0 0
char_first (one a e) r = refl
char_first (two a b e o) r = refl
char_first (three a b c e o) r = refl
char_first (four a b c d e o) r = refl

-- whatever follows it
raw_char : (is_raw : ℕ → Bool) {x : List ℕ} (r : List ℕ) → Char x → is_raw (get_or x 0 0) ≡ true → raw is_raw (x ++ r) ≡ some (x, r)
unfolding raw
raw_char is_raw r (one a e) h = rw (h, char-at (one a e) r)
raw_char is_raw r (two a b e o) h = rw (h, char-at (two a b e o) r)
raw_char is_raw r (three a b c e o) h = rw (h, char-at (three a b c e o) r)
raw_char is_raw r (four a b c d e o) h = rw (h, char-at (four a b c d e o) r)

raw-some : (is_raw : ℕ → Bool) (c : ℕ) (t : List ℕ) (v : List ℕ × List ℕ) → raw is_raw (c ∷ t) ≡ some v → (is_raw c ≡ true) × (1 ≤ char_at (c ∷ t) 0)
unfolding raw
raw-some is_raw c t v e = go (is_raw c && leb 1 (char_at (c ∷ t) 0)) refl e
  where
    go : (b : Bool) → is_raw c && leb 1 (char_at (c ∷ t) 0) ≡ b → if b (some (take (char_at (c ∷ t) 0) (c ∷ t), drop (char_at (c ∷ t) 0) (c ∷ t))) none ≡ some v → (is_raw c ≡ true) × (1 ≤ char_at (c ∷ t) 0)
    go true h e = let k = both (is_raw c) _ h in (k.0, leb-true 1 (char_at (c ∷ t) 0) k.1)
    go false h e = absurd (clash refl e)

-- from one raw rule to another, where the map keeps the character's bytes
raw_carried : (p q : ℕ → Bool) (m : List ℕ → List ℕ) (c : ℕ) (t t' : List ℕ) → (p c ≡ true → q c ≡ true) → ((x r : List ℕ) → Char x → get_or x 0 0 ≡ c → c ∷ t ≡ x ++ r → c ∷ t' ≡ x ++ m r) → Carried m (raw p (c ∷ t)) (raw q (c ∷ t'))
raw_carried p q m c t t' h k = record { is = go }
  where
    go : (v : List ℕ × List ℕ) → raw p (c ∷ t) ≡ some v → raw q (c ∷ t') ≡ some (v.0, m v.1)
    go v e =
        let l = raw-some p c t v e in
        let w = view c t l.1 in
        let x = w.char in
        let r = w.rest in
        let first : get_or x 0 0 ≡ c = sym (char_first w.good r) ∙ ap (λ (s : List ℕ). get_or s 0 0) (sym w.is) in
        let here : some (x, r) ≡ some v = sym (ap (raw p) w.is ∙ raw_char p r w.good (ap p first ∙ l.0)) ∙ e in
        let there : raw q (c ∷ t') ≡ some (x, m r) = ap (raw q) (k x r w.good first w.is) ∙ raw_char q (m r) w.good (ap q first ∙ h l.0) in
        (carried_image {m = m} (some (x, r)) there).is v here

-- ---- the conversion

kept_strict : (c : ℕ) → replaced c ≡ false → old_raw c ≡ true → strict_raw c ≡ true
unfolding replaced
kept_strict c h o = second (old_raw c) (strict_raw c) h o

-- a character whose first byte stays does
char_kept : (c : ℕ) (t : List ℕ) → replaced c ≡ false → (x r : List ℕ) → Char x → get_or x 0 0 ≡ c → c ∷ t ≡ x ++ r → c ∷ converted t ≡ x ++ converted r
char_kept c t k x r g first e = sym (converted_kept c t k) ∙ ap converted e ∙ converted-append x r ∙ ap (λ (s : List ℕ). s ++ converted r) (clean-same x (char_clean g (ap replaced first ∙ k)))

pub character-converted : (t : List ℕ) → Carried converted (character old_raw t) (character strict_raw (converted t))
character-converted [] = unfold character starts raw in lost
character-converted (c ∷ t) = go (replaced c) refl
  where
    go : (b : Bool) → replaced c ≡ b → Carried converted (character old_raw (c ∷ t)) (character strict_raw (converted (c ∷ t)))
    go true k = rw (old_reads t c k, converted_gone c t k) (carried_image (some (c ∷ [], t)) (strict_reads (converted t) c k))
    go false k = rw (converted_kept c t k) (unfold character starts in chosen (Carried converted) (eqb c (byte "\\")) (escape_carried t) (raw_carried old_raw strict_raw converted c t (converted t) (kept_strict c k) (char_kept c t k)))

-- ---- the text as it stands

strict_low : (c : ℕ) → c < 0x20 → strict_raw c && not (old_raw c) ≡ false
unfolding strict_raw old_raw
strict_low = same (λ c. strict_raw c && not (old_raw c)) (λ c. false) 0x20 refl

strict_raw_lem : (c : ℕ) → strict_raw c ≡ true → old_raw c ≡ true
strict_raw_lem c h = go (dec_le c 0x1F)
  where
    go : Dec (c ≤ 0x1F) → old_raw c ≡ true
    go (yes l) = second (strict_raw c) (old_raw c) (strict_low c (omega arith)) h
    go (no l) = unfold old_raw in rw (ne_eqb c 10 (λ e. omega arith), ne_eqb c 13 (λ e. omega arith))

pub character-same : (t : List ℕ) → Carried (λ u. u) (character strict_raw t) (character old_raw t)
character-same [] = unfold character starts raw in lost
character-same (c ∷ t) = unfold character starts in chosen (Carried (λ u. u)) (eqb c (byte "\\")) (carried_image (escape t) (sym (mapped-same (escape t)))) (raw_carried strict_raw old_raw (λ u. u) c t t (strict_raw_lem c) (λ x r g first e. e))
