use Rattle.std.proofs.Common.{◌≡◌, ◌∙◌, ◌++◌, ◌∷◌, [], map as map_list, ap, sym, subst}
use Rattle.std.proofs.Math.ListN.{take}
use Rattle.std.proofs.lemmas.List.{take_more}
use Rattle.mx_vertices.specs.Kept.{looked}
use Rattle.mx_vertices.specs.Held.{sources_of, AreThere}
use Rattle.mx_vertices.proofs.Sources.{keys_more, there_more}
use Rattle.mx_vertices.proofs.holding.key_vertices.Goals as goal

pub loop-key-preserved : goal.loop-key-preserved
loop-key-preserved c =
    let e = c.in_ok-id.ensures in
    let i = c.loop-key.invariant in
    let list : c.push.new.self.items ≡ c.loop-key.sources.items ++ c.in_ok-id.id ∷ [] = c.in_ok-push.ensures.items in
    record {
      whole = e.whole;
      watched = e.watched;
      same = e.same ∙ i.same;
      stays = λ q n. e.stays q (λ f. n (sym (i.stays q n) ∙ f)) ∙ i.stays q n;
      sources =
          ap (sources_of c.key_vertex.new.slots.items) list
          ∙ keys_more c.loop-key.slots.items c.key_vertex.new.slots.items c.loop-key.sources.items c.in_ok-id.id (take c.loop-key.key-index c.args.wanted.now) _ e.stays i.there i.sources e.key
          ∙ ap (map_list looked) (sym (take_more c.args.wanted.now c.loop-key.key-index c.key-item.result c.loop-key-test.true ∙ ap (λ x. take c.loop-key.key-index c.args.wanted.now ++ x ∷ []) (sym c.key-item.is)));
      there =
          subst (AreThere c.key_vertex.new.slots.items) (sym list)
          (there_more c.loop-key.slots.items c.key_vertex.new.slots.items c.loop-key.sources.items c.in_ok-id.id _ e.stays i.there e.key);
    }
