-- Heapsort, a turn at a time: what the code does to the list of the entries, over any order b.
-- The list is a tree: the children of place i are 2 i + 1 and 2 i + 2. Places lo to hi - 1 are a heap, no child after its parent in the order, but for the entry at `at`, which goes down; places from hi on are sorted and final.
-- Assumes nothing.
use Rattle.std.specs.Prelude.{Bool, true, false, List, ℕ, zero, suc, ◌+◌, ◌-◌, ◌*◌, ◌/◌, ltb, length, get_or, set}
use Rattle.std.proofs.Math.Option.{Option, none, some}
use Rattle.output.specs.Logic.{if}
use Rattle.field_index.specs.declared.Entry.{Entry}
use Rattle.field_index.specs.declared.heapsort.Heap.{Heap}
use Rattle.field_index.specs.declared.heapsort.Turn.{Turn}
use Rattle.field_index.specs.Names.{no_entry}

-- the entry at a place that has a child is to go down
abbrev pub node_of : ℕ → ℕ → ℕ → Heap
node_of lo hi at = record { lo = lo; hi = hi; at = at; left = 2 * at + 1; right = if (ltb (2 * at + 2) hi) (2 * at + 2) (2 * at + 1); out = false }

-- the entry at 0, which none comes after in the order, is to be put last
abbrev pub out_of : ℕ → Heap
out_of hi = record { lo = 0; hi = hi; at = 0; left = hi - 1; right = hi - 1; out = true }

-- the entry that went down stays: the place before lo is next, or the heap is whole
abbrev pub settled_of : ℕ → ℕ → Heap
settled_of lo hi = if (ltb 0 lo) (node_of (lo - 1) hi (lo - 1)) (out_of hi)

-- it goes on down, unless it has no child
abbrev pub sift_of : ℕ → ℕ → ℕ → Heap
sift_of lo hi at = if (ltb at (hi / 2)) (node_of lo hi at) (settled_of lo hi)

-- x, and y, the later of its children, which stands at `to`
abbrev pub step_of : (Entry → Entry → Bool) → Heap → ℕ → Entry → Entry → Turn
step_of b h to x y = if (b x y) (record { next = sift_of h.lo h.hi to; to = to; first = y; second = x }) (record { next = settled_of h.lo h.hi; to = to; first = x; second = y })

-- one turn, on the entries at `at`, `left` and `right`: at most two comparisons
abbrev pub turn_of : (Entry → Entry → Bool) → Heap → Entry → Entry → Entry → Turn
turn_of b h x y z = if h.out (record { next = sift_of 0 (h.hi - 1) 0; to = h.left; first = y; second = x }) (if (b y z) (step_of b h h.right x z) (step_of b h h.left x y))

-- the turn at a list, and the list after it
abbrev pub turn_at : (Entry → Entry → Bool) → List Entry → Heap → Turn
turn_at b v h = turn_of b h (get_or v h.at no_entry) (get_or v h.left no_entry) (get_or v h.right no_entry)

abbrev pub after : (Entry → Entry → Bool) → List Entry → Heap → List Entry
after b v h = set (set v h.at (turn_at b v h).first) (turn_at b v h).to (turn_at b v h).second

-- the list where nothing is left to sort, after k turns at most; none where there is still a turn to make
unfoldable pub turns : ℕ → (Entry → Entry → Bool) → List Entry → Heap → Option (List Entry)
turns zero b v h = if (ltb 1 h.hi) none (some v)
turns (suc k) b v h = if (ltb 1 h.hi) (turns k b (after b v h) (turn_at b v h).next) (some v)

-- the last parent is the first to go down
abbrev pub start_of : ℕ → Heap
start_of n = settled_of (n / 2) n

unfoldable pub heapsorted : ℕ → (Entry → Entry → Bool) → List Entry → Option (List Entry)
heapsorted k b v = turns k b v (start_of (length v))
