use Rattle.std.proofs.Common.{◌≡◌, ◌∙◌, [], ◌∷◌, ◌++◌, List, map, length, ap, sym, subst, arith}
use Rattle.std.proofs.lemmas.List.{length-map}
use Rattle.std.specs.List.{filter_map}
use Rattle.mx_model.specs.Records.{Name}
use Rattle.mx_paths.specs.declared.child.Child.{Child}
use Rattle.mx_paths.specs.Siblings.{firsts, first_named, without_first, IsLeast}
use Rattle.mx_paths.specs.Walking.{IsExpanding}
use Rattle.mx_paths.proofs.Steps.{written_all, child_new, child_spaces, child_some, child_layers, child_added, child_met, longer_more}
use Rattle.mx_paths.proofs.Walked.{all_expanded}
use Rattle.mx_paths.proofs.walk.Walk.add_children.Goals as goal

least_of : (families given : List (List Child)) (name : Name) → given ≡ families → IsLeast (firsts given) name → IsLeast (firsts families) name
least_of families given name e l = subst (λ (fs : List (List Child)). IsLeast (firsts fs) name) e l

pub child_path-requires : goal.child_path-requires
child_path-requires c =
    let text = c.args.self.now.text.now in
    let path = c.args.path.now in
    let families = c.loop-name.families.items in
    let name = c.in-Some.name.now in
    let least = least_of families c.deref.result.now name c.deref.ensures.value c.in-Some.ensures in
    let open_still = c.loop-name.invariant.open_still in
    let spaces = c.deref-in-Some.ensures.value ∙ c.in_ok-take_first.ensures.spaces ∙ ap (filter_map (first_named name)) c.deref_mut.ensures.value in
    (child_spaces text c.requires.ready.named c.loop-name.paths open_still.done path families open_still.at name least c.deref-in-Some.result.now spaces).1

pub add-requires-clause-new : goal.add-requires-clause-new
add-requires-clause-new c =
    let text = c.args.self.now.text.now in
    let path = c.args.path.now in
    let families = c.loop-name.families.items in
    let name = c.in-Some.name.now in
    let least = least_of families c.deref.result.now name c.deref.ensures.value c.in-Some.ensures in
    let child : c.in_ok-child.child ≡ path ++ name ∷ [] = c.in_ok-child.ensures in
    let open_still = c.loop-name.invariant.open_still in
    child_new text c.requires.ready.named c.loop-name.paths open_still.done path families open_still.at name least c.in_ok-child.child child

pub add-requires-clause-spaces : goal.add-requires-clause-spaces
add-requires-clause-spaces c =
    let text = c.args.self.now.text.now in
    let path = c.args.path.now in
    let families = c.loop-name.families.items in
    let name = c.in-Some.name.now in
    let least = least_of families c.deref.result.now name c.deref.ensures.value c.in-Some.ensures in
    let child : c.in_ok-child.child ≡ path ++ name ∷ [] = c.in_ok-child.ensures in
    let open_still = c.loop-name.invariant.open_still in
    let spaces = c.deref-in-Some-2.ensures.value ∙ c.in_ok-take_first.ensures.spaces ∙ ap (filter_map (first_named name)) c.deref_mut.ensures.value in
    child_spaces text c.requires.ready.named c.loop-name.paths open_still.done path families open_still.at name least c.deref-in-Some-2.result.now spaces

pub add-requires-clause-some : goal.add-requires-clause-some
add-requires-clause-some c =
    let text = c.args.self.now.text.now in
    let path = c.args.path.now in
    let families = c.loop-name.families.items in
    let name = c.in-Some.name.now in
    let least = least_of families c.deref.result.now name c.deref.ensures.value c.in-Some.ensures in
    let child : c.in_ok-child.child ≡ path ++ name ∷ [] = c.in_ok-child.ensures in
    let open_still = c.loop-name.invariant.open_still in
    let spaces = c.deref-in-Some-2.ensures.value ∙ c.in_ok-take_first.ensures.spaces ∙ ap (filter_map (first_named name)) c.deref_mut.ensures.value in
    child_some text c.requires.ready.named c.loop-name.paths open_still.done path families open_still.at name least c.deref-in-Some-2.result.now spaces

pub add-requires-clause-layered : goal.add-requires-clause-layered
add-requires-clause-layered c =
    let text = c.args.self.now.text.now in
    let path = c.args.path.now in
    let families = c.loop-name.families.items in
    let name = c.in-Some.name.now in
    let least = least_of families c.deref.result.now name c.deref.ensures.value c.in-Some.ensures in
    let child : c.in_ok-child.child ≡ path ++ name ∷ [] = c.in_ok-child.ensures in
    let open_still = c.loop-name.invariant.open_still in
    let spaces = c.deref-in-Some-2.ensures.value ∙ c.in_ok-take_first.ensures.spaces ∙ ap (filter_map (first_named name)) c.deref_mut.ensures.value in
    child_layers text c.requires.ready.named c.loop-name.paths open_still.done path families open_still.at name least c.in_ok-child.child c.deref-in-Some-2.result.now child spaces

pub returns-in-Err : goal.returns-in-Err
returns-in-Err c = λ done at.
    let text = c.args.self.now.text.now in
    let path = c.args.path.now in
    let families = c.loop-name.families.items in
    let name = c.in-Some.name.now in
    let least = least_of families c.deref.result.now name c.deref.ensures.value c.in-Some.ensures in
    let child : c.in_ok-child.child ≡ path ++ name ∷ [] = c.in_ok-child.ensures in
    child_met text c.requires.ready.named c.loop-name.paths done path families (c.loop-name.invariant.on done at) name least c.in_ok-child.child c.add.new.paths c.in-Err.refusal child c.in-Err.ensures

pub loop-name-preserved : goal.loop-name-preserved
loop-name-preserved c =
    let text = c.args.self.now.text.now in
    let path = c.args.path.now in
    let families = c.loop-name.families.items in
    let name = c.in-Some.name.now in
    let least = least_of families c.deref.result.now name c.deref.ensures.value c.in-Some.ensures in
    let child : c.in_ok-child.child ≡ path ++ name ∷ [] = c.in_ok-child.ensures in
    let open_still = c.loop-name.invariant.open_still in
    let taken : c.take_first.new.families ≡ map (without_first name) families = c.in_ok-take_first.ensures.rest ∙ ap (map (without_first name)) c.deref_mut.ensures.value in
    let same : length c.take_first.new.families ≡ length families = ap length taken ∙ length-map families (without_first name) in
    let left = written_all c.take_first.new.families families c.loop-name.families.len (omega arith) ∙ taken in
    let P : List (List Child) → Type 0 = λ fs. IsExpanding text c.add.new.paths open_still.done path fs in
    record {
      open_still = record {
        done = open_still.done;
        at = subst P (sym left) (child_added text c.requires.ready.named c.loop-name.paths open_still.done path families open_still.at name least c.in_ok-child.child c.add.new.paths child c.in-Ok.ensures);
      };
      on = λ done at.
          let Q : List (List Child) → Type 0 = λ fs. IsExpanding text c.add.new.paths done path fs in
          subst Q (sym left) (child_added text c.requires.ready.named c.loop-name.paths done path families (c.loop-name.invariant.on done at) name least c.in_ok-child.child c.add.new.paths child c.in-Ok.ensures);
      longer = longer_more text c.in_ok-child.child c.args.paths.now c.loop-name.paths c.add.new.paths c.loop-name.invariant.longer c.in-Ok.ensures;
    }

pub returns : goal.returns
returns c = λ done at.
    let none = ap firsts (sym c.deref.ensures.value) ∙ c.in_default.ensures in
    (all_expanded c.args.self.now.text.now c.loop-name.paths done c.args.path.now c.loop-name.families.items c.requires.ready.named (c.loop-name.invariant.on done at) none, c.loop-name.invariant.longer)
