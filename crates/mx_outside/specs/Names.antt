-- Names of files.
use Rattle.std.specs.Prelude.{◌≡◌, ◌≤◌, ◌<◌, ℕ, Bool, true, not, ◌&&◌, ◌||◌, ◌==◌, nat_lt, List, length, codes}
use Rattle.std.specs.List.{join_with_byte, list_all, slice_split}
use Rattle.std.specs.Char.{is_ascii_alphanumeric}
use Rattle.std.specs.Str.{bytes_eq}

-- a letter, a digit, `_`, `-` or `.`
abbrev pub is_part_byte : ℕ → Bool
is_part_byte b = is_ascii_alphanumeric b || b == 95 || b == 45 || b == 46

-- the folder itself, or the one above it
abbrev pub is_folder : List ℕ → Bool
is_folder part = bytes_eq part (codes ".") || bytes_eq part (codes "..")

-- one or more of those bytes, which say neither of these folders
abbrev pub is_part : List ℕ → Bool
is_part part = nat_lt 0 (length part) && list_all is_part_byte part && not (is_folder part)

-- one or more parts joined by `/`, in 255 bytes at most
pub record IsFileName (name : List ℕ) : Type 0 where
  pub parts : List (List ℕ)
  pub some : 0 < length parts
  pub each : list_all is_part parts ≡ true
  pub joined : name ≡ join_with_byte 47 parts
  pub short : length name ≤ 255

-- all that stands between slashes is a part
abbrev pub are_parts : List ℕ → Bool
are_parts name = list_all is_part (slice_split (λ b. b == 47) name)
