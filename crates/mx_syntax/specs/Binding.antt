-- Arguments, bound to parameters.
use Rattle.std.specs.Prelude.{ℕ, Bool, List, ◌++◌, ◌||◌, map, drop, length, nat_lt, is_none}
use Rattle.std.specs.List.{list_any, filter_map}
use Rattle.mx_value.specs.declared.value.Value.{Value}
use Rattle.mx_value.specs.Normal.{normal_of}
use Rattle.mx_syntax.specs.declared.stmt.Param.{Param}

abbrev pub defaults : List Param → List Value
defaults params = filter_map (λ (param : Param). param.default) params

-- one of these has no default
abbrev pub lack_default : List Param → Bool
lack_default params = list_any (λ (param : Param). is_none param.default) params

-- for so many arguments: there are more than parameters, or one of the parameters without an argument has no default
abbrev pub is_wrong_count : List Param → ℕ → Bool
is_wrong_count params count = nat_lt (length params) count || lack_default (drop count params)

-- the arguments, then the defaults of the parameters without an argument, each in normal form
abbrev pub bound : List Param → List Value → List Value
bound params args = map normal_of (args ++ defaults (drop (length args) params))
