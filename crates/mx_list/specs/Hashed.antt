-- The hash that a key is kept with.
use Rattle.std.specs.Prelude.{ℕ}
use Rattle.std.specs.List.{fold}
use Rattle.std.specs.Hash.{HashWrites}
use Rattle.std.specs.Hash.FoldHasher.{initial, write, finish}

-- what is left after these writes
unfoldable pub hash_of : HashWrites → ℕ
hash_of writes = finish (fold write initial writes)
