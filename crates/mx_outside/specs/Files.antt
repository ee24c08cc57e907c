-- Files by their names, and what reads and writes do to them, where they are told.
use Rattle.std.specs.Prelude.{◌≡◌, ◌≢◌, ◌<◌, ◌≤◌, ℕ, List, Option, None, Some, option_map, length, ⊤, map, position, String, string_bytes, Vec}
use Rattle.std.specs.Str.{bytes_eq}
use Rattle.std.specs.declared.alloc.Global.{Global}
use Rattle.std.specs.Cmp.Lexicographic.{slice_cmp}
use Rattle.std.specs.FinMap as finite
use Rattle.std.specs.Ordering.{nat_cmp}
use Rattle.mx_outside.specs.declared.files.Found.{Found}
use Rattle.mx_outside.specs.declared.files.Found.TheVariants.{Bytes, Missing, TooBig}

-- the bytes that each name holds
abbrev pub FileMap : Type 0
FileMap = finite.FinMap (slice_cmp nat_cmp) (List ℕ)

-- the greatest number of bytes of a file that is read whole, and of one that is written
abbrev pub most_bytes : ℕ
most_bytes = 67108864

-- what is found of these bytes, or of none, by a read that takes so many at most
abbrev pub IsFound : Option (List ℕ) → ℕ → Found → Type 0
IsFound (Some bytes) limit (Bytes given) = (given.items ≡ bytes) × (length bytes ≤ limit)
IsFound (Some bytes) limit TooBig = limit < length bytes
IsFound None limit Missing = ⊤
IsFound _ _ _ = ⊥

-- what a read of a name finds, where the files are told
abbrev pub Finds : Option FileMap → List ℕ → ℕ → Found → Type 0
Finds (Some files) name limit found = IsFound (finite.get files name) limit found
Finds None name limit found = ⊤

-- a read gave no more bytes than this
abbrev pub IsWithin : ℕ → Found → Type 0
IsWithin limit (Bytes given) = length given.items ≤ limit
IsWithin limit _ = ⊤

-- the files with these bytes under this name
abbrev pub with_bytes : Option FileMap → List ℕ → List ℕ → Option FileMap
with_bytes files name bytes = option_map (λ told. finite.insert told name bytes) files

-- no name but this one holds other bytes
abbrev pub ChangesOnly : List ℕ → Option FileMap → Option FileMap → Type 0
ChangesOnly name (Some old) (Some new) = (other : List ℕ) → other ≢ name → finite.get new other ≡ finite.get old other
ChangesOnly name None None = ⊤
ChangesOnly name _ _ = ⊥

-- ---- files in a list, of which the first of a name counts

abbrev pub entries_of : List (String Global × Vec ℕ Global) → List (List ℕ × List ℕ)
entries_of files = map (λ file. (string_bytes file.0, file.1.items)) files

abbrev pub files_of : List (String Global × Vec ℕ Global) → FileMap
files_of files = finite.from_entries (entries_of files)

abbrev pub place_of : List (String Global × Vec ℕ Global) → List ℕ → Option ℕ
place_of files name = position (λ file. bytes_eq (string_bytes file.0) name) files

abbrev pub bytes_of : List (String Global × Vec ℕ Global) → List ℕ → Option (List ℕ)
bytes_of files name = finite.get (files_of files) name
