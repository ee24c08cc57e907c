use Rattle.std.proofs.Common.{◌≡◌, rules, arith, true, false, sym, ◌∙◌, ap, [], ◌∷◌, ◌++◌}
use Rattle.std.proofs.lemmas.Grind.{common_steps}
use Rattle.std.proofs.lemmas.Result.{err_from_is_err_and}
use Rattle.mx_grammar.specs.declared.word.Symbol.TheVariants as symbol
use Rattle.mx_grammar.specs.Words.{is}
use Rattle.mx_grammar.specs.AddressParsers.{name_of}
use Rattle.mx_grammar.specs.Reading.{accept, sees, behind}
use Rattle.mx_words.proofs.HeadRules.{dot_shorter}
use Rattle.mx_grammar.proofs.Exact.{read}
use Rattle.mx_words.proofs.Separating.{one_more, no_more, all_found, one_shorter}
use Rattle.mx_words.proofs.head.further.Goals as goal

pub returns-in_err-name : goal.returns-in_err-name
returns-in_err-name c =
    let p = err_from_is_err_and c.from_residual.result c.from_residual.ensures.1 in
    let open_ : sees (is symbol.Dot) c.loop-found.tokens ≡ true = first_of (search rules, grind (arith, common_steps)) in
    let there : c.eat.new.self ≡ behind c.loop-found.tokens = first_of (search rules, grind (arith, common_steps)) in
    rw (p.1, p.2) (λ n. sym c.loop-found.invariant ∙ no_more symbol.Dot (accept name_of) dot_shorter c.loop-found.found c.loop-found.tokens c.in_err-name.field-0.0 open_ (ap (accept name_of) (sym there) ∙ c.in_err-name.ensures n))

pub loop-found-smaller : goal.loop-found-smaller
loop-found-smaller c =
    let open_ : sees (is symbol.Dot) c.loop-found.tokens ≡ true = first_of (search rules, grind (arith, common_steps)) in
    let there : c.eat.new.self ≡ behind c.loop-found.tokens = first_of (search rules, grind (arith, common_steps)) in
    one_shorter symbol.Dot (accept name_of) dot_shorter c.loop-found.tokens c.name.new.self c.in_ok-name.field-0 open_ (ap (accept name_of) (sym there) ∙ c.in_ok-name.ensures)

pub loop-found-preserved : goal.loop-found-preserved
loop-found-preserved c =
    let open_ : sees (is symbol.Dot) c.loop-found.tokens ≡ true = first_of (search rules, grind (arith, common_steps)) in
    let there : c.eat.new.self ≡ behind c.loop-found.tokens = first_of (search rules, grind (arith, common_steps)) in
    let pushed : c.push.new.self ≡ c.loop-found.found ++ c.in_ok-name.field-0 ∷ [] = first_of (search rules, grind (arith, common_steps)) in
    rw pushed (sym (one_more symbol.Dot (accept name_of) dot_shorter c.loop-found.found c.in_ok-name.field-0 c.loop-found.tokens c.name.new.self open_ (ap (accept name_of) (sym there) ∙ c.in_ok-name.ensures)) ∙ c.loop-found.invariant)

pub returns : goal.returns
returns c =
    let shut : sees (is symbol.Dot) c.loop-found.tokens ≡ false = first_of (search rules, grind (arith, common_steps)) in
    let here : c.eat.new.self ≡ c.loop-found.tokens = first_of (search rules, grind (arith, common_steps)) in
    sym c.loop-found.invariant ∙ all_found symbol.Dot (accept name_of) dot_shorter c.loop-found.found c.loop-found.tokens shut ∙ ap (λ ts. read (c.loop-found.found, ts)) (sym here)
