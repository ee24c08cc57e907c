-- Frames that stand for suspended runs.
use Rattle.std.proofs.Common.{◌≡◌, ◌+◌, List, [], ◌∷◌, ◌++◌, inl, inr, length, map, reverse, refl, sym, ◌∙◌, ap, arith}
use Rattle.std.proofs.lemmas.List.{reverse-append, map-append}
use Rattle.mx_value.specs.declared.node.Node.{Node}
use Rattle.mx_vertices.specs.Kept.{Kept}
use Rattle.mx_runs.specs.Lists.{Has}
use Rattle.mx_suspended.specs.Flights.{Suspended, nodes_waiting}
use Rattle.mx_code_law.specs.States.{State}
use Rattle.mx_memo.specs.Memos.{AreHeld}
use Rattle.mx_binding.specs.Records.{recorded_in}
use Rattle.mx_binding.specs.declared.records.Records.{Records}
use Rattle.mx_binding.proofs.Recording.{all_grown}
use Rattle.mx_frames.specs.Flights.{Stand, frame_nodes, first_of}
use Rattle.mx_frames.specs.declared.runs.Frame.{Frame}

pub rev_push : {X : Type 0} (xs : List X) (x : X) → reverse (xs ++ x ∷ []) ≡ x ∷ reverse xs
rev_push xs x = reverse-append xs (x ∷ [])

pub rev_front : {X : Type 0} (x : X) (xs : List X) → reverse (x ∷ xs) ≡ reverse xs ++ x ∷ []
rev_front x xs = reverse-append (x ∷ []) xs

-- what is recorded stays as more is held
pub recorded_grown : (held more : List Kept) (n : Node) (r : Records) → AreHeld held r.asks → recorded_in (held ++ more) r ≡ recorded_in held r
recorded_grown held more n r asks = ap (λ (ns : List Node). record { keys = r.seen.keys; asks = ns; reads = r.seen.reads }) (all_grown held more r.asks asks)

-- so do the runs that frames stand for
pub stand_grown : (held more : List Kept) (b : List State) (ws : List Frame) (fs bottom : List Suspended) → ((w : Frame) → Has ws w → AreHeld held w.current.records.asks) → Stand held b ws fs bottom → Stand (held ++ more) b ws fs bottom
stand_grown held more b [] fs bottom fit s = s
stand_grown held more b (w ∷ ws) [] bottom fit s = s
stand_grown held more b (w ∷ ws) (f ∷ fs) bottom fit s = (
  s.0,
  s.1,
  s.2,
  record {
    node = s.3.node;
    so_far = s.3.so_far ∙ sym (recorded_grown held more w.current.node w.current.records (fit w (inl refl)));
    resumes = s.3.resumes;
    own = s.3.own;
  },
  stand_grown held more s.1 ws fs bottom (λ x h. fit x (inr h)) s.4,
)

-- the nodes that wait are those of the frames and of the bottom
pub stand_nodes : (held : List Kept) (b : List State) (ws : List Frame) (fs bottom : List Suspended) → Stand held b ws fs bottom → nodes_waiting fs ≡ frame_nodes ws ++ nodes_waiting bottom
stand_nodes held b [] fs bottom s = ap nodes_waiting s
stand_nodes held b (w ∷ ws) [] bottom s = absurd s
stand_nodes held b (w ∷ ws) (f ∷ fs) bottom s =
    ap (λ (n : Node). n ∷ nodes_waiting fs) s.3.node ∙ ap (λ (ns : List Node). w.current.node ∷ ns) (stand_nodes held s.1 ws fs bottom s.4)

pub stand_long : (held : List Kept) (b : List State) (ws : List Frame) (fs bottom : List Suspended) → Stand held b ws fs bottom → length fs ≡ length ws + length bottom
stand_long held b [] fs bottom s = omega (arith, ap length s)
stand_long held b (w ∷ ws) [] bottom s = absurd s
stand_long held b (w ∷ ws) (f ∷ fs) bottom s = let i = stand_long held s.1 ws fs bottom s.4 in omega (arith, i)

pub map_reverse : {X Y : Type 0} (f : X → Y) (xs : List X) → map f (reverse xs) ≡ reverse (map f xs)
map_reverse f [] = refl
map_reverse f (x ∷ xs) =
    ap (map f) (reverse-append (x ∷ []) xs) ∙ map-append f (reverse xs) (x ∷ [])
    ∙ ap (λ ys. ys ++ f x ∷ []) (map_reverse f xs) ∙ sym (reverse-append (f x ∷ []) (map f xs))

-- the first of frames with one more behind them
pub first_pushed : (ws : List Frame) (w : Frame) (n : Node) → first_of (ws ++ w ∷ []) n ≡ first_of ws w.current.node
first_pushed [] w n = refl
first_pushed (v ∷ ws) w n = refl
