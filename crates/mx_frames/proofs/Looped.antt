-- The frames from the one of a node on.
use Rattle.std.proofs.Common.{◌≡◌, ◌∙◌, ℕ, ◌+◌, ◌-◌, ◌<◌, Bool, true, false, List, ◌∷◌, ◌++◌, take, drop, get_or, length, inl, inr, sym, ap, subst}
use Rattle.std.proofs.lemmas.List.{drop_more, take_rest, take-append-drop, map-append}
use Rattle.mx_value.specs.declared.node.Node.{Node}
use Rattle.mx_value.specs.Equality.{node_eq}
use Rattle.mx_value.proofs.NodeSames.{node_decides}
use Rattle.mx_runs.specs.Lists.{Has}
use Rattle.mx_frames.specs.Flights.{frame_nodes}
use Rattle.mx_frames.specs.Rings.{IsFrom}
use Rattle.mx_frames.specs.declared.runs.Frame.{Frame}

module _ (ws : List Frame) (at : ℕ) (w : Frame) (n m : Node) (t : Bool) (inside : at < length ws) (is : m ≡ (get_or ws at w).current.node) (told : t ≡ node_eq m n) where
  -- this one and those behind it
  split : frame_nodes (drop at ws) ≡ m ∷ frame_nodes (drop (at + 1) ws)
  split = ap frame_nodes (drop_more ws at w inside) ∙ ap (λ (x : Node). x ∷ frame_nodes (drop (at + 1) ws)) (sym is)

  pub from_at : t ≡ true → IsFrom (frame_nodes ws) n (frame_nodes (take (length ws - at) (drop at ws)))
  from_at passes =
      let here : frame_nodes (drop at ws) ≡ n ∷ frame_nodes (drop (at + 1) ws) = split ∙ ap (λ (x : Node). x ∷ frame_nodes (drop (at + 1) ws)) ((node_decides m n).0 (sym told ∙ passes)) in
      record {
        lead = frame_nodes (take at ws);
        rest = frame_nodes (drop (at + 1) ws);
        whole = ap frame_nodes (sym (take-append-drop at ws)) ∙ map-append (λ (x : Frame). x.current.node) (take at ws) (drop at ws) ∙ ap (λ (ns : List Node). frame_nodes (take at ws) ++ ns) here;
        is = ap frame_nodes (take_rest ws at) ∙ here;
      }

  pub past_at : t ≡ false → Has (frame_nodes (drop at ws)) n → Has (frame_nodes (drop (at + 1) ws)) n
  past_at fails h = elim (subst (λ (ns : List Node). Has ns n) split h) [
    | inl e ↦ (let i : true ≡ false = sym ((node_decides m n).1 e) ∙ sym told ∙ fails in absurd (cc))
    | inr i ↦ i
  ]
