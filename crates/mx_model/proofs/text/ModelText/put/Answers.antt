use Rattle.std.proofs.Common.{◌≡◌, ◌∙◌, List, ap, refl, sym, subst, length, arith}
use Rattle.std.proofs.lemmas.Result.{IfOk-weaker}
use Rattle.mx_model.specs.Records.{ModelRecord}
use Rattle.mx_model.specs.Change.{at_space}
use Rattle.mx_model.specs.Indexed.{Kinds, TellAll, ArePlaced, IsIndexed}
use Rattle.mx_model.proofs.KindLemmas.{tables_many}
use Rattle.mx_model.proofs.SpaceLemmas.{put_built, put_changed}
use Rattle.mx_model.proofs.text.ModelText.put.Goals as goal

pub tables_with-requires : goal.tables_with-requires
tables_with-requires c =
    let tables = c.self.inside.kinds in
    let text = c.args.self.now in
    let P : ModelRecord → Type 0 = λ t. TellAll t t.spaces tables in
    let many : length tables ≡ length text.spaces = tables_many text text.spaces tables (subst P c.self.view_is c.self.invariant.placed.kinds) in
    let within = c.requires.within in
    omega arith

pub with_spaces_in_place-requires : goal.with_spaces_in_place-requires
with_spaces_in_place-requires c =
    let inside = c.self.inside in
    let text = c.args.self.now in
    let made : ModelRecord = record text { spaces = c.in_ok-spaces.spaces } in
    let P : ModelRecord → Type 0 = λ t. IsIndexed inside.paths inside.lists inside.kinds t in
    let Q : List Kinds → Type 0 = λ ts. ArePlaced ts made in
    let index = subst P c.self.view_is c.self.invariant in
    let same : inside.spaces ≡ text.spaces = ap (λ (t : ModelRecord). t.spaces) c.self.view_is in
    let built = put_built inside.paths inside.paths inside.lists inside.lists inside.kinds inside.kinds text made inside.spaces c.args.s.0 c.args.space c.args.space c.args.kinds index refl refl refl same refl c.requires.within c.requires.stays c.requires.tells c.in_ok-spaces.ensures in
    record {
      placed = subst Q (sym c.in_ok-kinds.ensures) built.placed;
      paths = sym built.paths ∙ index.paths;
      bases = sym built.bases ∙ index.bases;
    }

pub returns : goal.returns
returns c path change id is_made =
    let inside = c.self.inside in
    let text = c.args.self.now in
    let made : ModelRecord = record text { spaces = c.in_ok-spaces.spaces } in
    let P : ModelRecord → Type 0 = λ t. IsIndexed inside.paths inside.lists inside.kinds t in
    let index = subst P c.self.view_is c.self.invariant in
    let same : inside.spaces ≡ text.spaces = ap (λ (t : ModelRecord). t.spaces) c.self.view_is in
    let changed = put_changed text made path change c.args.s c.args.space c.args.space inside.spaces index.placed.once id c.requires.within is_made same refl c.in_ok-spaces.ensures refl refl refl in
    IfOk-weaker c.with_spaces_in_place.result (λ t. t ≡ made) (λ t. t ≡ at_space text path change) (λ t is. is ∙ changed) c.with_spaces_in_place.ensures
