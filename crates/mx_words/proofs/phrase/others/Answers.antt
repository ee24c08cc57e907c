use Rattle.std.proofs.Common.{◌≡◌, rules, arith, true, false, sym, ◌∙◌, ap, [], ◌∷◌, ◌++◌}
use Rattle.std.proofs.lemmas.Grind.{common_steps}
use Rattle.std.proofs.lemmas.Result.{err_from_is_err_and}
use Rattle.mx_grammar.specs.declared.word.Symbol.TheVariants as symbol
use Rattle.mx_grammar.specs.Words.{is}
use Rattle.mx_grammar.specs.Reading.{sees, behind}
use Rattle.mx_words.specs.PhraseParsers.{path}
use Rattle.mx_words.proofs.PhraseRules.{another_shorter}
use Rattle.mx_grammar.proofs.Exact.{read}
use Rattle.mx_words.proofs.Separating.{one_more, no_more, all_found, one_shorter}
use Rattle.mx_words.proofs.phrase.others.Goals as goal

pub returns-in_err-path : goal.returns-in_err-path
returns-in_err-path c =
    let p = err_from_is_err_and c.from_residual.result c.from_residual.ensures.1 in
    let open_ : sees (is symbol.Comma) c.found.tokens ≡ true = first_of (search rules, grind (arith, common_steps)) in
    let there : c.eat.new.self ≡ behind c.found.tokens = first_of (search rules, grind (arith, common_steps)) in
    rw (p.1, p.2) (λ n. sym c.found.invariant ∙ no_more symbol.Comma path another_shorter c.found.found c.found.tokens c.in_err-path.field-0.0 open_ (ap path (sym there) ∙ c.in_err-path.ensures n))

pub found-smaller : goal.found-smaller
found-smaller c =
    let open_ : sees (is symbol.Comma) c.found.tokens ≡ true = first_of (search rules, grind (arith, common_steps)) in
    let there : c.eat.new.self ≡ behind c.found.tokens = first_of (search rules, grind (arith, common_steps)) in
    one_shorter symbol.Comma path another_shorter c.found.tokens c.path.new.tokens c.in_ok-path.field-0 open_ (ap path (sym there) ∙ c.in_ok-path.ensures)

pub found-preserved : goal.found-preserved
found-preserved c =
    let open_ : sees (is symbol.Comma) c.found.tokens ≡ true = first_of (search rules, grind (arith, common_steps)) in
    let there : c.eat.new.self ≡ behind c.found.tokens = first_of (search rules, grind (arith, common_steps)) in
    let pushed : c.push.new.self ≡ c.found.found ++ c.in_ok-path.field-0 ∷ [] = first_of (search rules, grind (arith, common_steps)) in
    rw pushed (sym (one_more symbol.Comma path another_shorter c.found.found c.in_ok-path.field-0 c.found.tokens c.path.new.tokens open_ (ap path (sym there) ∙ c.in_ok-path.ensures)) ∙ c.found.invariant)

pub returns : goal.returns
returns c =
    let shut : sees (is symbol.Comma) c.found.tokens ≡ false = first_of (search rules, grind (arith, common_steps)) in
    let here : c.eat.new.self ≡ c.found.tokens = first_of (search rules, grind (arith, common_steps)) in
    sym c.found.invariant ∙ all_found symbol.Comma path another_shorter c.found.found c.found.tokens shut ∙ ap (λ ts. read (c.found.found, ts)) (sym here)
