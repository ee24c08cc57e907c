-- What a field of a table says as a number: digits as the language's own numbers have them, behind a minus sign or none.
use Rattle.std.specs.Prelude.{ℕ, ℤ, pos, neg_ℤ, ◌+◌, ◌*◌, ◌-◌, ◌^◌, Bool, ◌&&◌, ◌==◌, nat_le, nat_lt, List, [], ◌∷◌, length, take, drop, Option, Some, None, option_map, option_and_then, if◌then◌else◌}
use Rattle.std.specs.List.{prefix_len, list_all}
use Rattle.std.specs.Char.{is_ascii_digit}
use Rattle.mx_lex.specs.Spans.{digits_from, is_whole}
use Rattle.mx_value.specs.declared.value.Value.{Value}
use Rattle.mx_value.specs.declared.value.Value.TheVariants as made
use Rattle.mx_tables.specs.declared.number.Size.{Size}
use Rattle.mx_tables.specs.declared.number.Size.TheVariants.{Whole, Decimal}

-- what digits spell, where that is at most a limit
abbrev pub at_most : ℕ → List ℕ → Option ℕ
at_most limit digits = if nat_le (digits_from 0 digits) limit then Some (digits_from 0 digits) else None

-- the size of a whole number, at most one more than the greatest, for behind a minus sign
abbrev pub whole_size : List ℕ → Option Size
whole_size digits = if is_whole digits then option_map (λ n. Whole n) (at_most (2 ^ 63) digits) else None

-- how many 10^-9 a number of these digits and decimals is
abbrev pub raw_of : List ℕ → List ℕ → ℕ
raw_of digits decimals = digits_from 0 digits * 10 ^ 9 + digits_from 0 decimals * 10 ^ (9 - length decimals)

-- 1 to 9 digits
abbrev pub are_decimals : List ℕ → Bool
are_decimals decimals = nat_le 1 (length decimals) && (nat_le (length decimals) 9 && list_all is_ascii_digit decimals)

-- the size of a number with decimals, at most ten billions
abbrev pub decimal_size : List ℕ → List ℕ → Option Size
decimal_size digits decimals =
    if is_whole digits && (are_decimals decimals && nat_le (raw_of digits decimals) (10 ^ 19)) then Some (Decimal (raw_of digits decimals)) else None

abbrev pub size_behind : List ℕ → List ℕ → Option Size
size_behind digits [] = whole_size digits
size_behind digits (b ∷ bs) = if b == 46 then decimal_size digits bs else None

-- the size of a number: digits, and behind them nothing or a point and decimals
unfoldable pub size_of : List ℕ → Option Size
size_of text =
    let count = prefix_len is_ascii_digit text in
    if nat_lt 0 count then size_behind (take count text) (drop count text) else None

-- a number of this size, where its type has it
unfoldable pub positive : Size → Option Value
positive (Whole n) = if nat_lt n (2 ^ 63) then Some (made.Int (pos n)) else None
positive (Decimal n) = if nat_le n (10 ^ 19) then Some (made.Fix (pos n)) else None

-- and with a minus sign
unfoldable pub negative : Size → Option Value
negative (Whole n) = if nat_le n (2 ^ 63) then Some (made.Int (neg_ℤ (pos n))) else None
negative (Decimal n) = if nat_le n (10 ^ 19) then Some (made.Fix (neg_ℤ (pos n))) else None

-- the number that a field says
unfoldable pub number_of : List ℕ → Option Value
number_of [] = None
number_of (b ∷ bs) = if b == 45 then option_and_then negative (size_of bs) else option_and_then positive (size_of (b ∷ bs))

-- the whole number that it says
abbrev pub int_of : Option Value → Option ℤ
int_of (Some (made.Int n)) = Some n
int_of _ = None
