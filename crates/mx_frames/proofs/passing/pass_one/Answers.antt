use Rattle.std.proofs.Common.{◌≡◌, true, false, List, refl, sym, ◌∙◌, subst}
use Rattle.mx_graph.specs.declared.ids.NodeId.{NodeId}
use Rattle.mx_value.specs.declared.node.Node.{Node}
use Rattle.mx_edit.specs.declared.reply.Reply.{Reply}
use Rattle.mx_memo.specs.Memos.{AreHeld}
use Rattle.mx_runs.specs.Runs.{Run}
use Rattle.mx_state.specs.Model.{model_of}
use Rattle.mx_node_runs.specs.declared.halt.Halt.{Halt}
use Rattle.mx_node_runs.specs.declared.halt.Halt.TheVariants as halt
use Rattle.mx_node_runs.specs.Halts.{HaltsAs, HaltsAt, Resumes}
use Rattle.mx_frames.specs.declared.asking.Met.{Met}
use Rattle.mx_frames.specs.declared.current.Running.{Running}
use Rattle.mx_frames.specs.declared.passing.Asked.{Asked}
use Rattle.mx_frames.specs.declared.passing.Paused.{Paused}
use Rattle.mx_frames.specs.declared.passing.Paused.TheVariants as paused
use Rattle.mx_frames.specs.declared.passing.Stretch.{Stretch}
use Rattle.mx_frames.specs.Known.{HasBegun, IsUnknown}
use Rattle.mx_frames.specs.Asking.{IsAnswered, Meets}
use Rattle.mx_frames.specs.Passing.{IsTold}
use Rattle.mx_frames.proofs.Passes.{stays_paused, asks_paused, answered_on}
use Rattle.mx_frames.proofs.passing.pass_one.Goals as goal

pub returns-in-Ends-clause-passes : goal.returns-in-Ends-clause-passes
returns-in-Ends-clause-passes c = λ run h.
    let at : Stretch = record { current = c.args.current.now; paused = paused.Ends c.in-Ends.ending } in (
      stays_paused (model_of c.args.world.now) c.args.memo.now run c.args.current.now.records at c.args.stack.now.top refl
          (subst (λ (x : Halt). HaltsAs c.args.current.now.node run x c.args.stack.now.top) c.in-Ends.is h),
      refl,
    )

pub returns-in-Reply-clause-asks : goal.returns-in-Reply-clause-asks
returns-in-Reply-clause-asks c = subst (λ (ids : List NodeId). AreHeld c.args.memo.now.held ids) (sym c.in_ok-halt-in-Reply.ensures.asks) c.in_ok-reply.ensures.asks

pub returns-in-Reply-clause-passes : goal.returns-in-Reply-clause-passes
returns-in-Reply-clause-passes c = λ run h.
    let node : c.ask.new.current.node ≡ c.args.current.now.node = c.in_ok-reply.ensures.node in
    let asks : HaltsAs c.args.current.now.node run (halt.Asks c.in-Asks.node c.in-Asks.waiting) c.args.stack.now.top =
    subst (λ (x : Halt). HaltsAs c.args.current.now.node run x c.args.stack.now.top) c.in-Asks.is h in
    let met : IsAnswered (model_of c.args.world.now) c.args.memo.now c.in-Asks.node c.in-Reply.reply c.args.current.now.records c.ask.new.current.records =
    subst (λ (x : Met). Meets (model_of c.args.world.now) c.args.memo.now c.in-Asks.node c.args.current.now.records c.ask.new.current.records x) c.in-Reply.is c.in_ok-reply.ensures.met in
    let goes : (go : Reply → Run) → Resumes c.args.current.now.node c.in-Asks.waiting c.args.stack.now.top go → HaltsAt (model_of c.args.world.now) c.args.current.now.node (go c.in-Reply.reply) c.ask.new.current.records.seen c.resume.new.current.records.seen c.in_ok-halt-in-Reply.halt c.resume.new.stack.top × (c.resume.new.stack.below ≡ c.args.stack.now.below) = λ go r.
    subst (λ (x : Node). HaltsAt (model_of c.args.world.now) x (go c.in-Reply.reply) c.ask.new.current.records.seen c.resume.new.current.records.seen c.in_ok-halt-in-Reply.halt c.resume.new.stack.top × (c.resume.new.stack.below ≡ c.args.stack.now.below)) node
    (subst (λ (x : Reply). HaltsAt (model_of c.args.world.now) c.ask.new.current.node (go x) c.ask.new.current.records.seen c.resume.new.current.records.seen c.in_ok-halt-in-Reply.halt c.resume.new.stack.top × (c.resume.new.stack.below ≡ c.args.stack.now.below)) c.get.ensures
    (c.in_ok-halt-in-Reply.ensures.goes go (subst (λ (x : Node). Resumes x c.in-Asks.waiting c.args.stack.now.top go) (sym node) r))) in
    let at : Running = record { current = c.resume.new.current; halt = c.in_ok-halt-in-Reply.halt } in (
      answered_on (model_of c.args.world.now) c.args.memo.now run c.args.current.now.records c.args.current.now.node c.in-Asks.node c.in-Asks.waiting c.in-Reply.reply c.ask.new.current.records at c.args.stack.now.top c.resume.new.stack.top asks met
          (λ go r. (goes go r).0) c.in_ok-halt-in-Reply.ensures.asks (c.in_ok-halt-in-Reply.ensures.node ∙ node),
      (goes asks.0 asks.2).1,
    )

pub returns-in-Begun-clause-told : goal.returns-in-Begun-clause-told
returns-in-Begun-clause-told c =
    let met : HasBegun (model_of c.args.world.now) c.args.memo.now c.in-Asks.node × (c.ask.new.current.records ≡ c.args.current.now.records) =
    subst (λ (x : Met). Meets (model_of c.args.world.now) c.args.memo.now c.in-Asks.node c.args.current.now.records c.ask.new.current.records x) c.in-Begun.is c.in_ok-reply.ensures.met in
    subst (λ (x : Paused). IsTold (model_of c.args.world.now) c.args.memo.now x) (sym c.waits.ensures) met.0

pub returns-in-Begun-clause-passes : goal.returns-in-Begun-clause-passes
returns-in-Begun-clause-passes c = λ run h.
    let met : HasBegun (model_of c.args.world.now) c.args.memo.now c.in-Asks.node × (c.ask.new.current.records ≡ c.args.current.now.records) =
    subst (λ (x : Met). Meets (model_of c.args.world.now) c.args.memo.now c.in-Asks.node c.args.current.now.records c.ask.new.current.records x) c.in-Begun.is c.in_ok-reply.ensures.met in
    let asks : HaltsAs c.args.current.now.node run (halt.Asks c.in-Asks.node c.in-Asks.waiting) c.args.stack.now.top =
    subst (λ (x : Halt). HaltsAs c.args.current.now.node run x c.args.stack.now.top) c.in-Asks.is h in
    let asked : Asked = record { node = c.in-Asks.node; waiting = c.in-Asks.waiting; is_begun = true } in
    let at : Stretch = record { current = c.ask.new.current; paused = c.waits.result } in
    (asks_paused (model_of c.args.world.now) c.args.memo.now run c.args.current.now.records c.args.current.now.node asked at c.args.stack.now.top asks met.0 c.in_ok-reply.ensures.node c.waits.ensures met.1, refl)

pub returns-in-New-clause-told : goal.returns-in-New-clause-told
returns-in-New-clause-told c =
    let met : IsUnknown (model_of c.args.world.now) c.args.memo.now c.in-Asks.node × (c.ask.new.current.records ≡ c.args.current.now.records) =
    subst (λ (x : Met). Meets (model_of c.args.world.now) c.args.memo.now c.in-Asks.node c.args.current.now.records c.ask.new.current.records x) c.in-New.is c.in_ok-reply.ensures.met in
    subst (λ (x : Paused). IsTold (model_of c.args.world.now) c.args.memo.now x) (sym c.waits-in-New.ensures) met.0

pub returns-in-New-clause-passes : goal.returns-in-New-clause-passes
returns-in-New-clause-passes c = λ run h.
    let met : IsUnknown (model_of c.args.world.now) c.args.memo.now c.in-Asks.node × (c.ask.new.current.records ≡ c.args.current.now.records) =
    subst (λ (x : Met). Meets (model_of c.args.world.now) c.args.memo.now c.in-Asks.node c.args.current.now.records c.ask.new.current.records x) c.in-New.is c.in_ok-reply.ensures.met in
    let asks : HaltsAs c.args.current.now.node run (halt.Asks c.in-Asks.node c.in-Asks.waiting) c.args.stack.now.top =
    subst (λ (x : Halt). HaltsAs c.args.current.now.node run x c.args.stack.now.top) c.in-Asks.is h in
    let asked : Asked = record { node = c.in-Asks.node; waiting = c.in-Asks.waiting; is_begun = false } in
    let at : Stretch = record { current = c.ask.new.current; paused = c.waits-in-New.result } in
    (asks_paused (model_of c.args.world.now) c.args.memo.now run c.args.current.now.records c.args.current.now.node asked at c.args.stack.now.top asks met.0 c.in_ok-reply.ensures.node c.waits-in-New.ensures met.1, refl)
