use Rattle.std.proofs.Common.{◌≡◌, ℕ, List, take, sym, ap, ◌∙◌, subst}
use Rattle.std.specs.List.{prefix_len, AllPass}
use Rattle.std.specs.Char.{is_ascii_digit}
use Rattle.mx_lex.proofs.Digits.{front_passes}
use Rattle.mx_tables.proofs.number.size_of.Goals as goal

-- what was split off are the digits at the front
digits_split : (rest digits : List ℕ) (n : ℕ) → digits ≡ take n rest → n ≡ prefix_len is_ascii_digit rest → AllPass is_ascii_digit digits
digits_split rest digits n front len = subst (AllPass is_ascii_digit) (sym (front ∙ ap (λ k. take k rest) len)) (front_passes is_ascii_digit rest)

pub size_behind-requires : goal.size_behind-requires
size_behind-requires c = digits_split c.args.text.now _ _ c.split_at.ensures.front c.digits_len-count.ensures.value
