use Rattle.std.proofs.Common.{◌≡◌, ◌∙◌, refl, ap, subst, arith}
use Rattle.mx_memo.specs.Memos.{Memory}
use Rattle.mx_model.specs.Keys.{key_result}
use Rattle.mx_state.specs.Model.{model_of}
use Rattle.mx_state.proofs.Bound.{inputs_end}
use Rattle.mx_frames.specs.Flights.{first_of}
use Rattle.mx_meaning.specs.Nodes.{body}
use Rattle.mx_stack.specs.Flight.{idle}
use Rattle.mx_node_runs.specs.Halts.{HaltsAt}
use Rattle.mx_binding.specs.Records.{HasOwnKey}
use Rattle.mx_read_set.specs.Seen.{Seen, nothing_seen}
use Rattle.mx_frames.proofs.Flown.{begun_broken, begun_flies}
use Rattle.mx_frames.proofs.Sound.{begun_sound, own_first}
use Rattle.mx_frames.proofs.begin.begin.Given as given
use Rattle.mx_frames.proofs.begin.begin.Goals as goal

pub returns-in_default-start-clause-begins : goal.returns-in_default-start-clause-begins
returns-in_default-start-clause-begins g c = λ q a.
    begun_broken (model_of c.args.world.now) (inputs_end (key_result c.args.world.now)) q c.args.memo.now c.args.runs.now.stack c.args.runs.now.frames.items c.args.node c.args.steps.now a
    c.begin.new.self (first_of c.args.runs.now.frames.items c.args.node) c.tick.new.self (ap (λ (x : Memory). x.held) c.in-Ok.ensures.begun) (let t = c.tick.ensures in omega (arith, t))

halts_at : (g : given.Over) (c : goal.In-Ok-start g) → c.args.runs.now.stack.top ≡ idle → HaltsAt (model_of c.args.world.now) c.args.node (body c.args.node) nothing_seen c.start.new.seen c.in-Ok-start.halt c.start.new.stack.top
halts_at g c i = subst (λ (s : Seen). HaltsAt (model_of c.args.world.now) c.args.node (body c.args.node) s c.start.new.seen c.in-Ok-start.halt c.start.new.stack.top) c.new-records.ensures.seen (c.in-Ok-start.ensures i).0

own_at : (g : given.Over) (c : goal.In-Ok-start g) → c.args.runs.now.stack.top ≡ idle → HasOwnKey c.args.node c.start.new.seen.keys
own_at g c i = own_first (key_result c.args.world.now) c.args.node c.start.new.seen c.in-Ok-start.halt c.start.new.stack.top (halts_at g c i)

pub returns-clause-begins : goal.returns-clause-begins
returns-clause-begins g c = λ q a. (
  begun_flies (model_of c.args.world.now) (inputs_end (key_result c.args.world.now)) q c.args.memo.now c.args.runs.now.stack c.args.runs.now.frames.items c.args.node c.args.steps.now a
      c.begin.new.self c.start.new.stack _ c.start.new.seen c.tick.new.self (ap (λ (x : Memory). x.held) c.in-Ok.ensures.begun)
      (c.in-Ok-start.ensures a.idle).1 (let t = c.tick.ensures in omega (arith, t)) refl refl c.new-records.ensures.asks (halts_at g c a.idle) (own_at g c a.idle),
  refl,
)

pub returns-clause-sound : goal.returns-clause-sound
returns-clause-sound g c =
    begun_sound c.args.memo.now c.begin.new.self c.args.runs.now.frames.items c.args.node _ c.in-Ok.ensures.begun c.requires.sound c.requires.new c.requires.apart refl c.new-records.ensures.asks
