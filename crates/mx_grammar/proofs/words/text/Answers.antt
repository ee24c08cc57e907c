use Rattle.std.proofs.Common.{sym, ◌∙◌, ap, subst, false, take, length, ◌-◌, ◌≡◌}
use Rattle.std.specs.List.{AllPass}
use Rattle.mx_lex.specs.Bytes.{is_printable}
use Rattle.mx_grammar.specs.Words.{unescaped, inner_of}
use Rattle.mx_grammar.proofs.Printable.{unescaped_printable, text_printable}
use Rattle.mx_grammar.proofs.words.text.Goals as goal

pub label-requires : goal.label-requires
label-requires c =
    let inner : c.split_at-2.result.0.now ≡ inner_of c.args.quoted.now = c.split_at-2.ensures.front ∙ ap (take (length c.args.quoted.now - 2)) c.split_at.ensures.back in
    let bytes : c.as_slice.result.now ≡ unescaped false (inner_of c.args.quoted.now) = c.as_slice.ensures ∙ c.in_ok-bytes.ensures ∙ ap (unescaped false) inner in
    subst (AllPass is_printable) (sym bytes) (unescaped_printable false (inner_of c.args.quoted.now) (text_printable c.args.quoted.now c.requires))
