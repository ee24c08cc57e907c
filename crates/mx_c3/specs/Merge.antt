-- The merge of lists of spaces: the first head that is in no tail comes first and is removed everywhere, and so on.
use Rattle.std.specs.Prelude.{◌≡◌, ℕ, zero, suc, ◌+◌, ◌==◌, Bool, false, ◌||◌, List, [], ◌∷◌, length, Option, Some, None, Result, Ok, Err, if◌then◌else◌}
use Rattle.std.specs.List.{list_any}
use Rattle.mx_c3.specs.declared.space.SpaceId.{SpaceId}
use Rattle.mx_c3.specs.declared.refusal.C3Refusal.{C3Refusal}
use Rattle.mx_c3.specs.declared.refusal.C3Refusal.TheVariants.{NoOrder, NoMemory}

abbrev pub same : SpaceId → SpaceId → Bool
same x y = x.0 == y.0

-- whether x is among the spaces
abbrev pub stands : List SpaceId → SpaceId → Bool
stands xs x = list_any (λ y. same y x) xs

-- the tail of a list: all but its head
abbrev pub tail : List SpaceId → List SpaceId
tail [] = []
tail (x ∷ xs) = xs

-- the head of a list, if it has one
abbrev pub head : List SpaceId → Option SpaceId
head [] = None
head (x ∷ xs) = Some x

-- whether x stands in a tail
abbrev pub in_tail : List (List SpaceId) → SpaceId → Bool
in_tail [] x = false
in_tail (xs ∷ lists) x = stands (tail xs) x || in_tail lists x

-- the heads, in order of the lists
abbrev pub heads : List (List SpaceId) → List SpaceId
heads [] = []
heads ([] ∷ lists) = heads lists
heads ((x ∷ xs) ∷ lists) = x ∷ heads lists

-- the first of these that stands in no tail
abbrev pub first_free : List (List SpaceId) → List SpaceId → Option SpaceId
first_free lists [] = None
first_free lists (x ∷ xs) = if in_tail lists x then first_free lists xs else Some x

-- the head to take
abbrev pub next : List (List SpaceId) → Option SpaceId
next lists = first_free lists (heads lists)

abbrev pub without : SpaceId → List SpaceId → List SpaceId
without x [] = []
without x (y ∷ ys) = if same y x then without x ys else y ∷ without x ys

-- the lists with x removed everywhere
abbrev pub without_all : SpaceId → List (List SpaceId) → List (List SpaceId)
without_all x [] = []
without_all x (xs ∷ lists) = without x xs ∷ without_all x lists

-- the spaces, each at its first place alone
abbrev pub each_once : List SpaceId → List SpaceId
each_once [] = []
each_once (x ∷ xs) = x ∷ without x (each_once xs)

-- with x before the order
abbrev pub put : SpaceId → Result (List SpaceId) (List SpaceId) → Result (List SpaceId) (List SpaceId)
put x (Ok order) = Ok (x ∷ order)
put x (Err blocked) = Err blocked

-- where no head can be taken: nothing is left, or these heads are
abbrev pub stop : List SpaceId → Result (List SpaceId) (List SpaceId)
stop [] = Ok []
stop (x ∷ xs) = Err (each_once (x ∷ xs))

abbrev pub merging : ℕ → List (List SpaceId) → Result (List SpaceId) (List SpaceId)
merging zero lists = stop (heads lists)
merging (suc k) lists = elim (next lists) [ Some x ↦ put x (merging k (without_all x lists)) | None ↦ stop (heads lists) ]

-- how many items the lists have
abbrev pub size : List (List SpaceId) → ℕ
size [] = 0
size (xs ∷ lists) = length xs + size lists

-- the merge of the lists, or the heads that block it; each step removes an item
unfoldable pub merge : List (List SpaceId) → Result (List SpaceId) (List SpaceId)
merge lists = merging (size lists) lists

-- the order takes the next head each time, until nothing is left
abbrev pub IsMerge : List (List SpaceId) → List SpaceId → Type 0
IsMerge lists [] = heads lists ≡ []
IsMerge lists (x ∷ order) = (next lists ≡ Some x) × IsMerge (without_all x lists) order

-- with these before the order
abbrev pub put_all : List SpaceId → Result (List SpaceId) (List SpaceId) → Result (List SpaceId) (List SpaceId)
put_all [] merged = merged
put_all (x ∷ xs) merged = put x (put_all xs merged)

-- a call's answer is this one; only want of memory is free
abbrev pub Answers : Result (List SpaceId) C3Refusal → Result (List SpaceId) (List SpaceId) → Type 0
Answers (Ok order) merged = merged ≡ Ok order
Answers (Err (NoOrder blocked)) merged = merged ≡ Err blocked
Answers (Err NoMemory) merged = Unit {0}
