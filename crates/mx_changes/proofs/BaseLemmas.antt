-- A space with other bases in the place of one.
use Rattle.std.proofs.Common.{◌≡◌, ◌<◌, List, [], length, set, get_or, Some, refl, sym, ◌∙◌, ap, subst, arith}
use Rattle.std.proofs.lemmas.Option.{slice_get-get_or, slice_get_within}
use Rattle.std.proofs.lemmas.List.{set-get_or}
use Rattle.mx_c3.specs.declared.space.SpaceId.{SpaceId}
use Rattle.mx_c3.specs.Lists.{Distinct}
use Rattle.mx_model.specs.Records.{Path, SpaceRecord, ModelRecord}
use Rattle.mx_model.specs.Layers.{paths_of, id_of, space_of}
use Rattle.mx_model.specs.Change.{at_space}
use Rattle.mx_model.specs.Indexed.{Kinds, ArePlaced}
use Rattle.mx_model.proofs.KindLemmas.{tables_many, tells_at}
use Rattle.mx_model.proofs.SpaceLemmas.{with_put, put_placed, at_path}

-- a space with other bases can stand in the place of one
pub bases_placed : (text text' : ModelRecord) (tables tables' : List Kinds) (spaces : List SpaceRecord) (s : SpaceId) (first new : SpaceRecord) (bases : List Path) → ArePlaced tables text → tables' ≡ tables → spaces ≡ text.spaces → space_of text s ≡ Some first → new ≡ record first { bases = bases } → text' ≡ record text { spaces = set spaces s.0 new } → ArePlaced tables' text'
bases_placed text text' tables tables' spaces s first new bases x t same at is e =
    let many = tables_many text text.spaces tables x.kinds in
    let within = slice_get_within text.spaces s.0 first at in
    let below : s.0 < length tables = omega arith in
    let table = get_or tables s.0 [] in
    let tells = tells_at text text.spaces tables s.0 first table x.kinds at (slice_get-get_or tables s.0 [] below) in
    let put = put_placed tables text s.0 first (record first { bases = bases }) table x at refl tells in
    let P : List Kinds → Type 0 = λ ts. ArePlaced ts (with_put text s.0 (record first { bases = bases })) in
    let Q : ModelRecord → Type 0 = λ z. ArePlaced tables' z in
    let built = e ∙ ap (λ (z : List SpaceRecord). record text { spaces = set z s.0 new }) same ∙ ap (with_put text s.0) is in
    subst Q (sym built) (subst P (set-get_or tables s.0 [] ∙ sym t) put)

pub bases_changed : (text : ModelRecord) (path : Path) (spaces : List SpaceRecord) (s : SpaceId) (first new : SpaceRecord) (bases : List Path) → Distinct (paths_of text) → id_of text path ≡ Some s → spaces ≡ text.spaces → space_of text s ≡ Some first → new ≡ record first { bases = bases } → record text { spaces = set spaces s.0 new } ≡ at_space text path (λ (z : SpaceRecord). record z { bases = bases })
bases_changed text path spaces s first new bases d id same at is =
    ap (λ (z : List SpaceRecord). record text { spaces = set z s.0 new }) same ∙ ap (with_put text s.0) is ∙ sym (at_path text path (λ (z : SpaceRecord). record z { bases = bases }) s first d id at)
