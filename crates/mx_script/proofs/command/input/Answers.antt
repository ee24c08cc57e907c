use Rattle.std.proofs.Common.{◌≡◌, ◌∙◌, rules, ℕ, List, Err, ap, take, subst}
use Rattle.mx_value.specs.declared.node.Node.TheVariants.{Cell, Item}
use Rattle.mx_grammar.specs.declared.refusal.ParseRefusal.TheVariants.{NoMemory}
use Rattle.mx_grammar.specs.Spelling.{Answers}
use Rattle.mx_grammar.specs.Literals.{node_text, literal_text}
use Rattle.mx_words.specs.Texts.{before_spaces}
use Rattle.mx_words.specs.Parts.{Decides}
use Rattle.mx_words.proofs.PartAnswers.{failed}
use Rattle.mx_script.specs.Commands.{input_node, input_of, has_literal}
use Rattle.mx_script.proofs.Parted.{input_is, with_literal, without_literal, of_item}
use Rattle.mx_script.proofs.command.input.Goals as goal

pub returns-in-Err : goal.returns-in-Err
returns-in-Err c = λ ne.
    let m = c.no_formula.ensures (λ e. ne (ap failed e)) in
    let node : c.strip_end.result.now ≡ input_node c.args.source.now = c.strip_end.ensures ∙ ap (λ (n : ℕ). before_spaces (take n c.args.source.now)) c.node_length-count.ensures.count in
    record {
      part = Err c.in-Err.refusal;
      first = subst (λ (s : List ℕ). Answers node_text s (Err c.in-Err.refusal)) node (c.in-Err.ensures.found (λ e. m.0 (let same : c.in-Err.refusal ≡ NoMemory = cc in same)));
      rest = ap failed m.1;
    }

pub returns-then-count-source : goal.returns-then-count-source
returns-then-count-source c = λ ne.
    input_is c.args.start c.args.source.now c.set_input.result c.strip_end.result.now c.in-Ok.node (Cell c.in-Cell.space c.in-Cell.name c.in-Cell.args) (c.strip_end.ensures ∙ ap (λ (n : ℕ). before_spaces (take n c.args.source.now)) c.node_length-count.ensures.count) c.in-Cell.is (c.in-Ok.ensures.found (λ e. absurd cc))
    (with_literal c.args.start c.args.source.now c.set_input.result c.in-Cell.space c.in-Cell.name c.in-Cell.args (search rules) (subst (λ (l : List ℕ). Decides (Answers literal_text l) (input_of c.in-Cell.space c.in-Cell.name c.in-Cell.args) c.set_input.result) c.literal_of.ensures (c.set_input.ensures ne)))

pub returns-in-Cell : goal.returns-in-Cell
returns-in-Cell c = λ ne.
    input_is c.args.start c.args.source.now (Err c.no_input.result) c.strip_end.result.now c.in-Ok.node (Cell c.in-Cell.space c.in-Cell.name c.in-Cell.args) (c.strip_end.ensures ∙ ap (λ (n : ℕ). before_spaces (take n c.args.source.now)) c.node_length-count.ensures.count) c.in-Cell.is (c.in-Ok.ensures.found (λ e. absurd cc))
    (without_literal c.args.start c.args.source.now (Err c.no_input.result) c.in-Cell.space c.in-Cell.name c.in-Cell.args (search rules) (ap failed (c.no_input.ensures (λ e. ne (ap failed e)))))

pub returns : goal.returns
returns c = λ ne.
    input_is c.args.start c.args.source.now (Err c.no_input-in-Item.result) c.strip_end.result.now c.in-Ok.node (Item c.in-Item.field-0 c.in-Item.field-1) (c.strip_end.ensures ∙ ap (λ (n : ℕ). before_spaces (take n c.args.source.now)) c.node_length-count.ensures.count) c.in-Item.is (c.in-Ok.ensures.found (λ e. absurd cc))
    (of_item c.args.start c.args.source.now (Err c.no_input-in-Item.result) (has_literal c.args.source.now) c.in-Item.field-0 c.in-Item.field-1 (ap failed (c.no_input-in-Item.ensures (λ e. ne (ap failed e)))))
