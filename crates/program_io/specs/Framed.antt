-- The parts of an input that a program is given several things in. Assumes nothing: these are definitions.
use Rattle.std.specs.Prelude.{ℕ, suc, ◌+◌, ◌-◌, ◌≡◌, List, [], ◌∷◌, length, drop, leb, eqb, Option, Some, None}
use Rattle.output.specs.Logic.{if}
use Rattle.tape.specs.Bytes.{le_number}

-- how many bytes the frame that l starts with has: h bytes of head, the last four of which tell how many bytes stand behind it
abbrev pub frame_size : ℕ → List ℕ → ℕ
frame_size h l = h + le_number 4 (drop (h - 4) l)

-- where the frame at a place ends, if all of it is there
unfoldable pub framed : List ℕ → ℕ → ℕ → Option ℕ
framed s at h = if (leb (frame_size h (drop at s)) (length (drop at s))) (Some (at + frame_size h (drop at s))) None

-- frames alone, with heads of h bytes, stand before a place
pub data FramesTo (h : ℕ) (s : List ℕ) : ℕ → Type 0 where
  at_start : FramesTo h s 0
  one_more : (at end : ℕ) → FramesTo h s at → framed s at h ≡ Some end → FramesTo h s end

-- how many bytes stand before the first x
unfoldable pub distance : ℕ → List ℕ → ℕ
distance x [] = 0
distance x (b ∷ s) = if (eqb b x) 0 (suc (distance x s))
